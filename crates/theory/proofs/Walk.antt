-- Walks: which vertices edges lead to, with no value. Whether there is a walk is decided. Assumes nothing.
--
--   Walk es s t    == edges of es lead from s to t
--   walk? es s t   == there is such a walk, or there is none
--   Parts e es s t == a walk from s to t along es alone, or two of them that the edge e links
use Rattle.property.proofs.Basics.{◌≡◌, refl, ap, ◌⊎◌, inl, inr, ⊎_elim, List, [], ◌∷◌, Memᴰ, Memᴰ-head, Memᴰ-tail, Memᴰ-cases_cons, Memᴰ-not_nil, ℕ, ℕ_discrete}
use Rattle.property.specs.Property.{Property}
use Rattle.graph.specs.Edge.{Edge}
use Rattle.graph.specs.Route.{Route, here, step}

pub data Walk (es : List Edge) (s : ℕ) : ℕ → Type 0 where
  stay : Walk es s s
  go : {e : Edge} → Walk es s e.tail → Memᴰ e es → Walk es s e.head

pub walk_map : {es fs : List Edge} {s t : ℕ} → ((e : Edge) → Memᴰ e es → Memᴰ e fs) → Walk es s t → Walk fs s t
walk_map f stay = stay
walk_map f (go {e = e} w m) = go (walk_map f w) (f e m)

pub walk_join : {es : List Edge} {r s t : ℕ} → Walk es r s → Walk es s t → Walk es r t
walk_join v stay = v
walk_join v (go w m) = go (walk_join v w) m

-- ---- a walk needs the first edge of a list at most once

module _ (e : Edge) (es : List Edge) where
  abbrev pub Parts : ℕ → ℕ → Type 0
  Parts s t = Walk es s t ⊎ (Walk es s e.tail × Walk es e.head t)

  more : {s : ℕ} (x : Edge) → Parts s x.tail → (x ≡ e) ⊎ Memᴰ x es → Parts s x.head
  more x (inl w) (inl p) = inr (rw (ap (λ y. y.tail) p) at w, rw p stay)
  more x (inr c) (inl p) = inr (c.0, rw p stay)
  more x (inl w) (inr m) = inl (go w m)
  more x (inr c) (inr m) = inr (c.0, go c.1 m)

  -- up to its last step along e, a walk may be cut down to one that first comes to e's tail; what follows that step is along es alone
  pub parts : {s t : ℕ} → Walk (e ∷ es) s t → Parts s t
  parts stay = inl stay
  parts (go {e = x} w m) = more x (parts w) (Memᴰ-cases_cons m)

-- ---- whether there is a walk

walk_nil : {s t : ℕ} → Walk [] s t → s ≡ t
walk_nil stay = refl
walk_nil (go w m) = absurd (Memᴰ-not_nil m)

-- By recursion on the edges. With none, a walk stays where it is. With a first edge e, there is a walk if there is one along the
-- others, or if they lead to the tail of e and on from its head; and `parts` says that there is no further way.
pub walk? : (es : List Edge) (s t : ℕ) → Dec (Walk es s t)
walk? [] s t = elim (ℕ_discrete s t) [ yes p ↦ yes (rw p stay) | no d ↦ no (λ w. d (walk_nil w)) ]
walk? (e ∷ es) s t = elim (walk? es s t) [
  | yes w ↦ yes (up w)
  | no a ↦ elim (walk? es s e.tail) [
    | no b ↦ no (λ w. ⊎_elim a (λ q. b q.0) (parts e es w))
    | yes v ↦ elim (walk? es e.head t) [
      | yes w ↦ yes (walk_join (go (up v) (Memᴰ-head refl)) (up w))
      | no c ↦ no (λ w. ⊎_elim a (λ q. c q.1) (parts e es w))
    ]
  ]
]
  where
    up : {a b : ℕ} → Walk es a b → Walk (e ∷ es) a b
    up w = walk_map (λ x m. Memᴰ-tail m) w

-- ---- walks and routes

-- a route goes on along an edge that has the ends of another
pub step_for : {P : Property} {es : List Edge} {s t h v : ℕ} {f : Edge} → t ≡ f.tail → h ≡ f.head → Memᴰ f es → Route P es s t v → Route P es s h (P.along v f.weight)
step_for p q m r = rw q (step (rw p at r) m)

pub walk_of : {P : Property} {es : List Edge} {s t u : ℕ} → Route P es s t u → Walk es s t
walk_of here = stay
walk_of (step r m) = go (walk_of r) m

pub route_of : (P : Property) {es : List Edge} {s t : ℕ} → Walk es s t → (u : ℕ) × Route P es s t u
route_of P stay = (P.start, here)
route_of P (go w m) = let q = route_of P w in (_, step q.1 m)
