-- Where words are best, tight edges reach every vertex that has a route; and words that no removed tight edge upholds stay attained.
-- Assumes nothing.
--
--   Finest L rank Q q? l == an edge of l that has Q, and whose rank none of those betters
--   tights               == the tight edges
--   Crossing u           == an edge from a vertex that tight edges reach to one that they do not, no worse than u at its end
--   Stray e              == the head of e has a walk, but none of tight edges
--   Upheld t             == a route to t along the new edges is no worse than the word of t
--   Stands P fs e        == fs has an edge of the ends of e that is no worse, from whatever value
use Rattle.property.proofs.Basics.{◌≡◌, refl, sym, ap, ◌∙◌, ◌⊎◌, inl, inr, ⊎_elim, ◌≢◌, Bool, true, false, List, [], ◌∷◌, Memᴰ, Memᴰ-head, Memᴰ-tail, Memᴰ-cases_cons, Memᴰ-not_nil, ℕ, ℕ_discrete, eqb-true, eq-eqb}
use mathlib.Core.Logic.Dec
use Rattle.property.specs.Property.{Property}
use Rattle.property.specs.Laws.{Laws}
use Rattle.property.proofs.Tests.{by_test}
use Rattle.graph.specs.Edge.{Edge, keep}
use Rattle.graph.specs.Route.{Route, here, step, Best}
use Rattle.graph.proofs.Edges.{keep_in, in_keep}
use Rattle.graph.proofs.Order.{Within}
use Rattle.run.specs.Run.{word, relaxable, tight}
use Rattle.theory.proofs.Walk.{Walk, stay, go, walk?, walk_map, step_for, walk_of, route_of}
use Rattle.theory.proofs.Settle.{Settled, Backed}
use Rattle.theory.proofs.Value.{value_fits, value_after}

-- ---- edges that have one no worse in their place

abbrev pub Stands : Property → List Edge → Edge → Type 0
Stands P fs e = (f : Edge) × Memᴰ f fs × (e.tail ≡ f.tail) × (e.head ≡ f.head)
    × ((v : ℕ) → P.better (P.along v e.weight) (P.along v f.weight) ≡ false)

-- settled words are settled for an edge that has one no worse among theirs
pub settled_stands : {P : Property} → Laws P → (es : List Edge) (ws : List ℕ) → Settled P es ws → (e : Edge) → Stands P es e → relaxable P ws e ≡ false
settled_stands {P} L es ws settled e (f, m, p, q, h) =
    rw (relaxable, p, q) (L.transitive _ _ _ (settled f m) (h (word P ws f.tail)))

-- ---- the best of those that have a property

module _ {P : Property} (L : Laws P) (rank : Edge → ℕ) (Q : Edge → Type 0) (q? : (e : Edge) → Dec (Q e)) where
  abbrev Finest : List Edge → Type 0
  Finest l = (e : Edge) × Memᴰ e l × Q e × ((x : Edge) → Memᴰ x l → Q x → P.better (rank x) (rank e) ≡ false)

  finest : (l : List Edge) → ((e : Edge) → Memᴰ e l → Q e → ⊥) ⊎ Finest l
  finest [] = inl (λ e m q. Memᴰ-not_nil m)
  finest (o ∷ l) = elim (q? o) [
    | yes qo ↦ inr (⊎_elim
        (λ f. (o, Memᴰ-head refl, qo, λ x k qx. ⊎_elim (λ p. rw p (L.irreflexive _)) (λ j. absurd (f x j qx)) (Memᴰ-cases_cons k)))
        (λ (e, m, q, f). by_test (P.better (rank o) (rank e))
        (λ h. (o, Memᴰ-head refl, qo, λ x k qx. ⊎_elim (λ p. rw p (L.irreflexive _)) (λ j. L.transitive _ _ _ (L.asymmetric _ _ h) (f x j qx)) (Memᴰ-cases_cons k)))
        (λ h. (e, Memᴰ-tail m, q, λ x k qx. ⊎_elim (λ p. rw p h) (λ j. f x j qx) (Memᴰ-cases_cons k))))
        (finest l))
    | no d ↦ ⊎_elim
        (λ f. inl (λ x k qx. ⊎_elim (λ p. d (rw p at qx)) (λ j. f x j qx) (Memᴰ-cases_cons k)))
        (λ (e, m, q, f). inr (e, Memᴰ-tail m, q, λ x k qx. ⊎_elim (λ p. absurd (d (rw p at qx))) (λ j. f x j qx) (Memᴰ-cases_cons k)))
        (finest l)
  ]

module _ {P : Property} (L : Laws P) (es : List Edge) (s n : ℕ) (inside : Within n es) (ws : List ℕ) (best : (t : ℕ) → Best P es s t (word P ws t)) where
  open P use {start, none, along, better}

  abbrev tights : List Edge
  tights = keep (tight P ws) es

  -- ---- the tight-route lemma

  -- where there is a walk, the word is the value of a route
  walk_value : {t : ℕ} → Walk es s t → Route P es s t (word P ws t)
  walk_value {t} w = ⊎_elim (λ r. r) (λ c. let (u, r) = route_of P w in absurd (c.0 u r)) (best t).attained

  widen : {t : ℕ} → Walk tights s t → Walk es s t
  widen w = walk_map (λ e m. (keep_in (tight P ws) es e m).0) w

  abbrev Crossing : ℕ → Type 0
  Crossing u = (e : Edge) × Memᴰ e es × Walk tights s e.tail × (Walk tights s e.head → ⊥) × (better u (along (word P ws e.tail) e.weight) ≡ false)

  -- a route to a vertex that tight edges do not reach leaves those that they reach, for a last time
  crossing : {t u : ℕ} → Route P es s t u → (Walk tights s t → ⊥) → Crossing u
  crossing here d = absurd (d stay)
  crossing (step {e = e} {v = v} r m) d = elim (walk? tights s e.tail) [
    | yes w ↦ (e, m, w, d, L.along_monotone _ _ e.weight ((best e.tail).unbettered v r))
    | no k ↦
        let (x, mx, wx, nx, h) = crossing r k in
        (x, mx, wx, nx, L.transitive _ _ _ h (L.along_no_better v e.weight (value_fits L es s n inside r)))
  ]

  abbrev Stray : Edge → Type 0
  Stray e = Walk es s e.head × (Walk tights s e.head → ⊥)

  stray? : (e : Edge) → Dec (Stray e)
  stray? e = Dec.and (walk? es s e.head) (Dec.not (walk? tights s e.head))

  no_finest : Finest L (λ e. word P ws e.head) Stray stray? es → ⊥
  no_finest (v, mv, (wv, nv), first) =
      let (x, mx, wx, nx, h) = crossing (walk_value wv) nv in
      let t = L.antisymmetric (along (word P ws x.tail) x.weight) (word P ws x.head)
      ((best x.head).unbettered _ (step (walk_value (widen wx)) mx)) (L.transitive _ _ _ h (first x mx (go (widen wx) mx, nx))) in
      nx (go wx (in_keep (tight P ws) mx (eq-eqb _ _ t)))

  -- A vertex that has a walk has a walk of tight edges. Otherwise take, of the vertices that have walks but none of tight edges, one whose
  -- word is best. Its best route crosses on an edge x → y from the vertices that tight edges reach to those that they do not. Going
  -- along never betters, so the word of x gone along that edge is no worse than the word that was chosen; and that is no worse than the
  -- word of y, by the choice. No route betters the word of y either. So the two are equal, the edge is tight, and tight edges reach y.
  -- Nothing here asks that an edge makes a value worse: so it holds for SSWP, SSNP and SSR too, where whole rings have one word.
  pub tight_walk : {t : ℕ} → Walk es s t → Walk tights s t
  tight_walk stay = stay
  tight_walk (go {e = e} w m) = elim (walk? tights s e.head) [
    | yes k ↦ k
    | no d ↦ absurd (⊎_elim (λ f. f e m (go w m, d)) no_finest (finest L (λ e. word P ws e.head) Stray stray? es))
  ]

  pub source_word : word P ws s ≡ start
  source_word = L.antisymmetric (word P ws s) start
      (⊎_elim (λ r. value_after L es s n inside r) (λ c. absurd (c.0 start here)) (best s).attained) ((best s).unbettered start here)

  -- ---- other edges: words that stay attained

  -- fs is the list of edges after a batch, and `out` any set of vertices that is closed: it has the head of each tight edge that does not stand in
  -- fs or whose tail it has, unless that head is the source or has no route
  module _ (fs : List Edge) (out : ℕ → Bool)
      (closed : (e : Edge) → Memᴰ e es → tight P ws e ≡ true → e.head ≢ s → word P ws e.head ≢ none → out e.head ≡ false
      → Stands P fs e × (out e.tail ≡ false)) where
    abbrev Upheld : ℕ → Type 0
    Upheld t = (u : ℕ) × Route P fs s t u × (better (word P ws t) u ≡ false)

    upheld_on : (e : Edge) → Stands P fs e → along (word P ws e.tail) e.weight ≡ word P ws e.head → Upheld e.tail → Upheld e.head
    upheld_on e (f, m, p, q, h) z (u, r, j) = (
      along u f.weight,
      step_for p q m r,
      rw (← z) (L.transitive _ _ _ (h u) (L.along_monotone _ _ _ j)),
    )

    upheld : {t : ℕ} → Walk tights s t → word P ws t ≢ none → out t ≡ false → Upheld t
    upheld stay d q = (start, here, rw source_word (L.irreflexive start))
    upheld (go {e = e} w m) d q = elim (ℕ_discrete e.head s) [
      | yes p ↦ rw p (start, here, rw source_word (L.irreflexive start))
      | no k ↦
          let (mo, t) = keep_in (tight P ws) es e m in
          let (st, q') = closed e mo t k d q in
          let z : along (word P ws e.tail) e.weight ≡ word P ws e.head = eqb-true _ _ t in
          upheld_on e st z (upheld w (λ c. d (sym z ∙ ap (λ x. along x e.weight) c ∙ L.along_none _ (inside.weights e mo))) q')
    ]

    -- A word outside the set is none, or the value of a route. Then tight edges reach its vertex. Back along them to the source, each head is
    -- outside the set, so its edge stands and its tail is outside too. So the edges in their places are a route of the new edges, of a
    -- value that is no worse.
    pub still_sound : (t : ℕ) → out t ≡ false → Backed P fs s t (word P ws t)
    still_sound t q = elim (ℕ_discrete (word P ws t) none) [
      | yes p ↦ inr p
      | no d ↦
          ⊎_elim (λ r. let (u, z, h) = upheld (tight_walk (walk_of r)) d q in inl (u, z, h, value_fits L es s n inside r)) (λ c. inr c.1) (best t).attained
    ]
