-- Following the first edges that lead on gives, of the routes with the fewest edges, the lowest, along the lightest of twins. Assumes nothing.
--
--   Foremost f es e    == of the edges of es that pass the test f, e stands first
--   Headed ks t u k rs == the list rs, which leads from u to t in k + 1 edges of ks, taken apart after its first edge
--   heads ps           == the heads of the edges ps
--   Lowest k u qs      == qs leads from u to t in k edges, no such list of k edges is lower, and no twin of one of its edges is lighter
use Rattle.property.proofs.Basics.{◌≡◌, refl, sym, ap, ◌∙◌, subst, ◌⊎◌, inl, inr, ⊎_elim, Bool, true, false, true≢false, some, List, [], ◌∷◌, map, Memᴰ, Memᴰ-head, Memᴰ-tail, Memᴰ-cases_cons, Memᴰ-not_nil, ℕ, zero, suc, ◌≤◌, ◌<◌, ℕ_discrete, arith, length, eqb, eqb-true, eq-eqb, ne_eqb, le-ltb}
use Rattle.property.specs.Property.{M, bfs}
use Rattle.property.proofs.Tests.{by_test}
use Rattle.graph.specs.Edge.{Edge, precedes}
use Rattle.graph.specs.Table.{is_edge}
use Rattle.graph.specs.Route.{Best}
use Rattle.graph.specs.Leads.{Leads, stop, on, lower}
use Rattle.graph.proofs.Tests.{both, and_true}
use Rattle.graph.proofs.Order.{table_ordered, Sound}
use Rattle.graph.proofs.Keeps.{ahead_mem}
use Rattle.run.specs.Run.{word}
use Rattle.theory.proofs.Leads.{Least, leads_none}
use Rattle.theory.proofs.Kept.{hops_least, hops_attained, hop_down}
use Rattle.answers.specs.Routing.{first_of, leads_on, followed}
use Rattle.answers.proofs.Parallel.{Light, light_on, precedes_head, precedes_weight}

-- ---- the first that passes a test

abbrev Foremost : (Edge → Bool) → List Edge → Edge → Type 0
Foremost f es e = Memᴰ e es × (f e ≡ true) × ((x : Edge) → Memᴰ x es → f x ≡ true → (x ≡ e) ⊎ (precedes e x ≡ true))

first_of_foremost : (f : Edge → Bool) (n : ℕ) (es : List Edge) → Sound n es → (x : Edge) → Memᴰ x es → f x ≡ true
    → (e : Edge) × (first_of f es ≡ some e) × Foremost f es e
unfolding first_of
first_of_foremost f n [] h x m q = absurd (Memᴰ-not_nil m)
first_of_foremost f n (o ∷ es) h x m q = by_test (f o)
    (λ z. (
      o,
      rw z,
      (Memᴰ-head refl, z, λ y k g. ⊎_elim inl (λ j. inr (ahead_mem table_ordered (is_edge n) o es h.1 h.2 y j)) (Memᴰ-cases_cons k)),
    ))
    (λ z.
    let other : (y : Edge) → Memᴰ y (o ∷ es) → f y ≡ true → Memᴰ y es = λ y k g.
    ⊎_elim (λ p. absurd (true≢false (sym g ∙ ap f p ∙ z))) (λ j. j) (Memᴰ-cases_cons k) in
    let (e, y, (me, fe, low)) = first_of_foremost f n es h.2 x (other x m q) q in
    (e, rw z y, (Memᴰ-tail me, fe, λ u j g. low u (other u j g) g)))

-- ---- the first edge of a route

abbrev Headed : List Edge → ℕ → ℕ → ℕ → List Edge → Type 0
Headed ks t u k rs = (e : Edge) × (ps : List Edge) × (rs ≡ e ∷ ps) × (e.tail ≡ u) × Memᴰ e ks × Leads ks e.head ps t × (length ps ≡ k)

headed : {ks : List Edge} {t u k : ℕ} {rs : List Edge} → Leads ks u rs t → length rs ≡ suc k → Headed ks t u k rs
headed stop z = absurd (omega arith)
headed (on {e = e} {ps = ps} m l) z = (e, ps, refl, refl, m, l, omega arith)

-- ---- lower lists

lower_nil : (us : List ℕ) → lower us [] ≡ false
unfolding lower
lower_nil [] = refl
lower_nil (u ∷ us) = refl

lower_cons : (u v : ℕ) (us vs : List ℕ) → v ≤ u → (u ≡ v → lower us vs ≡ false) → lower (u ∷ us) (v ∷ vs) ≡ false
unfolding lower
lower_cons u v us vs h k = rw (le-ltb u v h) (elim (ℕ_discrete u v) [ yes p ↦ rw (eq-eqb u v p) (k p) | no d ↦ rw (ne_eqb u v d) ])

-- ---- the route that is followed

module _ (n : ℕ) (ks : List Edge) (sound : Sound n ks) (t : ℕ) (hs : List ℕ) (best : (u : ℕ) → Best bfs ks u t (word bfs hs u)) where
  abbrev heads : List Edge → List ℕ
  heads ps = map (λ e. e.head) ps

  abbrev Lowest : ℕ → ℕ → List Edge → Type 0
  Lowest k u qs = Leads ks u qs t × (length qs ≡ k) × ((rs : List Edge) → Leads ks u rs t → length rs ≡ k → lower (heads rs) (heads qs) ≡ false) × Light ks qs

  followed_on : (k u : ℕ) (e : Edge) → first_of (leads_on hs k u) ks ≡ some e → followed ks hs (suc k) u ≡ e ∷ followed ks hs k e.head
  unfolding followed
  followed_on k u e z = rw (z, followed)

  -- the first edge of a route with the fewest edges passes the test
  goes : (k u : ℕ) (e : Edge) (ps : List Edge) → k < M → word bfs hs u ≡ suc k → e.tail ≡ u → Memᴰ e ks → Leads ks e.head ps t → length ps ≡ k
      → leads_on hs k u e ≡ true
  goes k u e ps h q p m l z =
      and_true (eq-eqb e.tail u p) (eq-eqb (word bfs hs e.head) k (hop_down ks t hs best k h m l z (ap (word bfs hs) p ∙ q)))

  -- of the edges that pass the test the first has the lowest head, since all have one tail
  lowest_head : (k u : ℕ) (e x : Edge) → leads_on hs k u e ≡ true → leads_on hs k u x ≡ true → (x ≡ e) ⊎ (precedes e x ≡ true) → e.head ≤ x.head
  lowest_head k u e x a b (inl p) = let z = ap (λ y. y.head) p in omega arith
  lowest_head k u e x a b (inr c) =
      let p = eqb-true e.tail u (both _ (eqb (word bfs hs e.head) k) a).0 in
      let q = eqb-true x.tail u (both _ (eqb (word bfs hs x.head) k) b).0 in
      precedes_head e x c (p ∙ sym q)

  -- and of its twins, which pass the test with it, it has the lowest weight
  lowest_weight : (k u : ℕ) (e x : Edge) → ((leads_on hs k u x ≡ true) → (x ≡ e) ⊎ (precedes e x ≡ true)) → leads_on hs k u e ≡ true → e.tail ≡ x.tail
      → e.head ≡ x.head → e.weight ≤ x.weight
  lowest_weight k u e x first a p q =
      ⊎_elim (λ z. let y = ap (λ o. o.weight) z in omega arith) (λ c. let y = precedes_weight e x c p q in omega arith) (first (rw (← p, ← q) a))

  -- By induction on the edges still to go. With none, the route ends here. With k + 1, some route of k + 1 edges leads on; its first edge
  -- comes to a vertex with k to go, so there is a first edge e of the table that does. Any other such route starts with an edge that does
  -- so too, so its head is no lower than e's; and where the two heads are one, the rest is no lower by induction. A twin of e would do as well and
  -- comes after it, so it is no lighter.
  followed_lowest : (k u : ℕ) → k < M → word bfs hs u ≡ k → Lowest k u (followed ks hs k u)
  unfolding followed
  followed_lowest zero u h q =
      let (rs, l, z) = hops_attained ks t hs best u (omega arith) in
      (rw (← (leads_none l (omega arith)).1) stop, refl, (λ qs k y. lower_nil (heads qs)), λ e m. absurd (Memᴰ-not_nil m))
  followed_lowest (suc k) u h q =
      let (rs, l, z) = hops_attained ks t hs best u (omega arith) in
      let (o, os, y, po, mo, lo, zo) = headed l (z ∙ q) in
      let (e, f, (me, fe, low)) = first_of_foremost (leads_on hs k u) n ks sound o mo (goes k u o os (omega arith) q po mo lo zo) in
      let c = both (eqb e.tail u) (eqb (word bfs hs e.head) k) fe in
      let (ls, lz, ll, lw) = followed_lowest k e.head (omega arith) (eqb-true (word bfs hs e.head) k c.1) in
      subst (Lowest (suc k) u) (sym (followed_on k u e f)) (
        subst (λ x. Leads ks x (e ∷ followed ks hs k e.head) t) (eqb-true e.tail u c.0) (on me ls),
        ap suc lz,
        (λ xs lx zx. let (x, ps, w, px, mx, rx, nx) = headed lx zx in
            rw w
            (lower_cons x.head e.head (heads ps) (heads (followed ks hs k e.head))
            (lowest_head k u e x fe (goes k u x ps (omega arith) q px mx rx nx) (low x mx (goes k u x ps (omega arith) q px mx rx nx)))
            (λ p. ll ps (rw p at rx) nx))),
        light_on (λ x mx. lowest_weight k u e x (low x mx) fe) lw,
      )

  pub followed_least : (s : ℕ) → word bfs hs s < M
      → Least ks s t (followed ks hs (word bfs hs s) s) × Light ks (followed ks hs (word bfs hs s) s) × (length (followed ks hs (word bfs hs s) s) ≡ word bfs hs s)
  followed_least s h =
      let (ls, lz, ll, lw) = followed_lowest (word bfs hs s) s h refl in (
        (
          ls,
          λ qs l. (
            (let z = hops_least ks t hs best l in omega arith),
            λ z. lower_cons s s (heads qs) (heads (followed ks hs (word bfs hs s) s)) (omega arith) (λ _. ll qs l (z ∙ lz)),
          ),
        ),
        lw,
        lz,
      )
