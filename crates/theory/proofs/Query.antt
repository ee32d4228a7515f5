-- Queries: from landmark rows that are best, the triangle bounds are values of routes, and settled but for the source's edges; so the
-- words of a query are best once nothing waits. Assumes nothing.
--
--   by P l t         == the word to t by way of landmark l: the word to l joined with the word on from it
--   Bounded P ls t v == v is the no-route word, or the word to t by way of one of the landmarks
use Rattle.property.proofs.Basics.{◌≡◌, refl, sym, ◌∙◌, ◌⊎◌, inl, inr, ⊎_elim, ◌≢◌, true, false, cond, true≢false, List, [], ◌∷◌, Memᴰ, Memᴰ-head, Memᴰ-tail, Memᴰ-cases_cons, Memᴰ-not_nil, ℕ, ◌≤◌, ◌<◌, ℕ_discrete, dec_lt, arith, replicate, length-set, length-replicate, get_or-eq_default, eqb, eq-eqb, ne_eqb}
use Rattle.property.specs.Property.{Property}
use Rattle.property.specs.Laws.{Laws, Joins}
use Rattle.property.proofs.Tests.{by_test}
use Rattle.graph.specs.Edge.{Edge}
use Rattle.graph.specs.Route.{Route, here, step, Best}
use Rattle.graph.proofs.Lists.{length_table, table_at, at_set}
use Rattle.graph.proofs.Order.{Within}
use Rattle.run.specs.Run.{State, word, relaxable}
use Rattle.run.specs.Start.{Landmark, bound, asked}
use Rattle.theory.proofs.Settle.{Sound, Inv, route_backed}
use Rattle.theory.proofs.Value.{value_fits, value_after, best_fits, none_quiet, best_settled}

-- ---- the bound: of all landmarks the best

abbrev pub by : Property → Landmark → ℕ → ℕ
by P l t = P.join l.into (word P l.row t)

-- by way of no landmark there is a better word ..
pub bound_under : {P : Property} → Laws P → (ls : List Landmark) (t : ℕ) (l : Landmark) → Memᴰ l ls → P.better (by P l t) (bound P ls t) ≡ false
unfolding bound
bound_under L [] t l m = absurd (Memᴰ-not_nil m)
bound_under {P} L (o ∷ ls) t l m = by_test (P.better (by P o t) (bound P ls t))
    (λ h. rw h (⊎_elim (λ q. rw q (L.irreflexive _)) (λ k. L.transitive _ _ _ (L.asymmetric _ _ h) (bound_under L ls t l k)) (Memᴰ-cases_cons m)))
    (λ h. rw h (⊎_elim (λ q. rw q h) (bound_under L ls t l) (Memᴰ-cases_cons m)))

abbrev pub Bounded : Property → List Landmark → ℕ → ℕ → Type 0
Bounded P ls t v = (v ≡ P.none) ⊎ ((l : Landmark) × Memᴰ l ls × (v ≡ by P l t))

-- .. and by way of one it is attained, unless it is none
pub bound_is : (P : Property) (ls : List Landmark) (t : ℕ) → Bounded P ls t (bound P ls t)
unfolding bound
bound_is P [] t = inl refl
bound_is P (o ∷ ls) t = by_test (P.better (by P o t) (bound P ls t)) (λ h. rw h (inr (o, Memᴰ-head refl, refl)))
    (λ h. rw h (⊎_elim inl (λ (l, m, q). inr (l, Memᴰ-tail m, q)) (bound_is P ls t)))

module _ {P : Property} (L : Laws P) (J : Joins P) (es : List Edge) (s n : ℕ) (inside : Within n es) where
  open P use {start, none, along, better, join}

  -- ---- joined routes

  -- A route to p and a route on from p are one route, whose value is the two joined: joining with the value at the source changes
  -- nothing, and joining with a value that goes along an edge is joining first and going along it then.
  pub joined : {p t a b : ℕ} → Route P es s p a → Route P es p t b → Route P es s t (join a b)
  joined {a = a} r here = rw (J.join_start a (value_fits L es s n inside r) (value_after L es s n inside r)) r
  joined {a = a} r (step {e = e} {v = v} q m) = rw (J.join_along a v e.weight) (step (joined r q) m)

  module _ (source : s < n) (ls : List Landmark)
      (ways : (l : Landmark) → Memᴰ l ls → Best P es s l.vertex l.into)
      (rows : (l : Landmark) → Memᴰ l ls → (t : ℕ) → Best P es l.vertex t (word P l.row t)) where
    abbrev ready : State
    ready = asked P ls n s

    -- the word by way of a landmark is the value of a route through it, or none where one half has no route
    pub via : (l : Landmark) → Memᴰ l ls → (t : ℕ) → Route P es s t (by P l t) ⊎ (by P l t ≡ none)
    via l m t = ⊎_elim
        (λ r. ⊎_elim (λ q. inl (joined r q)) (λ c. inr (rw (c.1, by) (J.none_join _ (value_fits L es s n inside r)))) (rows l m t).attained)
        (λ c. inr (rw (c.1, by) (J.join_none _ (best_fits L es l.vertex n inside (rows l m t))))) (ways l m).attained

    -- ---- the start of a query

    asked_at : (t : ℕ) → t < n → word P ready.words t ≡ cond (eqb t s) start (bound P ls t)
    unfolding asked
    asked_at t h = table_at (λ k. cond (eqb k s) start (bound P ls k)) n t none h

    pub asked_source : (t : ℕ) → t < n → t ≡ s → word P ready.words t ≡ start
    asked_source t h q = asked_at t h ∙ rw (eq-eqb t s q)

    pub asked_other : (t : ℕ) → t < n → t ≢ s → word P ready.words t ≡ bound P ls t
    asked_other t h d = asked_at t h ∙ rw (ne_eqb t s d)

    asked_beyond : (t : ℕ) → n ≤ t → word P ready.words t ≡ none
    unfolding asked
    asked_beyond t h = get_or-eq_default ready.words none (rw (length_table (λ k. cond (eqb k s) start (bound P ls k)) 0 n) h)

    asked_sound : Sound P es s ready.words
    asked_sound t = elim (dec_lt t n) [
      | no d ↦ inr (asked_beyond t (omega arith))
      | yes h ↦ elim (ℕ_discrete t s) [
        | yes q ↦ rw (asked_source t h q, q) (route_backed L here L.start_fits)
        | no d ↦ rw (asked_other t h d) (⊎_elim inr (λ (l, m, b). rw b (⊎_elim (λ r. route_backed L r (value_fits L es s n inside r)) inr (via l m t))) (bound_is P ls t))
      ]
    ]

    -- Of the edges that do not leave the source none could better a start word. Its tail's bound is none, and then nothing leads on; or
    -- it comes by way of a landmark, whose own row is settled: so the tail's word there gone along the edge is no better than the
    -- head's, and joined with the way to the landmark no better than the head's bound. The source's word no route betters.
    asked_quiet : (e : Edge) → Memᴰ e es → e.tail ≢ s → relaxable P ready.words e ≡ false
    asked_quiet e m d =
        let k : word P ready.words e.tail ≡ bound P ls e.tail = asked_other _ (inside.tails e m) d in
        let quiet = none_quiet L es s n inside ready.words asked_sound e m in
        ⊎_elim
        (λ (u, r, h, f). elim (ℕ_discrete e.head s) [
          | yes q ↦ rw (relaxable, asked_source _ (inside.heads e m) q) (L.transitive _ _ _ (value_after L es s n inside (step r m)) (L.along_monotone _ _ _ h))
          | no c ↦ ⊎_elim (λ b. quiet (k ∙ b)) (λ (l, ml, b).
              rw (relaxable, asked_other _ (inside.heads e m) c, k, b, ← (J.join_along l.into (word P l.row e.tail) e.weight))
              (L.transitive _ _ _ (bound_under L ls e.head l ml)
              (J.join_monotone l.into _ _ (best_settled L es l.vertex n inside l.row (rows l ml) e m)))) (bound_is P ls e.tail)
        ])
        quiet (asked_sound e.tail)

    -- the start words keep the invariant: they are sound, and only edges of the source, which waits, could better any
    pub asked_good : Inv P es s n ready
    unfolding asked
    asked_good = record {
      words_n = length_table _ 0 n;
      waiting_n = length-set (replicate n false) _ _ ∙ length-replicate n false;
      source = rw (asked_source s source refl) (L.irreflexive start);
      sound = asked_sound;
      pending = λ e m c. ⊎_elim (λ q. inl q.1) (λ q. absurd (true≢false (sym c ∙ asked_quiet e m q.0)))
          (at_set (replicate n false) s true e.tail false (rw length-replicate source));
    }
