-- Tables that keep the rules, and the edges of one that precede an edge; and the words of a change stored. Assumes nothing.
--
--   Ruled n    == a table in its three lists that keeps the rules of n vertices
--   all s      == its edges
--   at s i     == its edge at index i
--   Past s e j == its first j edges precede e
use Rattle.property.proofs.Basics.{◌≡◌, sym, ap, ◌∙◌, true, false, true≢false, List, Memᴰ, ℕ, ◌+◌, ◌*◌, ◌<◌, ℕ_discrete, dec_lt, arith, length, get_or, set, length-set, get_or-set_same, get_or-set_other}
use Rattle.property.proofs.Tests.{is_false}
use Rattle.graph.specs.Refusal.{accept}
use Rattle.graph.specs.Edge.{Edge, edge, same, among, precedes, edges}
use Rattle.graph.specs.Table.{is_edge, rules}
use Rattle.graph.specs.Code.{Room, edge_at}
use Rattle.graph.proofs.Edges.{same_own, among_mem}
use Rattle.graph.proofs.Sorted.{sorted_before}
use Rattle.graph.proofs.Order.{EdgeFacts, table_ordered, rules_accept, sound_fit}
use Rattle.graph.proofs.Lists.{mem_index}
use Rattle.graph.proofs.Records.{edges_length, edges_at, edges_mem}
use Rattle.compare.specs.Code.{Passed, put}

pub record Ruled (n : ℕ) : Type 0 where
  pub count : ℕ
  pub ts : List ℕ
  pub hs : List ℕ
  pub ws : List ℕ
  pub room : Room count ts hs ws
  pub sound : rules n (edges ts hs ws count) ≡ accept

module _ {n : ℕ} (s : Ruled n) where
  abbrev pub all : List Edge
  all = edges s.ts s.hs s.ws s.count

  abbrev pub at : ℕ → Edge
  at i = edge_at s.ts s.hs s.ws i

  abbrev pub Past : Edge → ℕ → Type 0
  Past e j = Passed s.ts s.hs s.ws s.count e j

  pub at_facts : (i : ℕ) → i < s.count → EdgeFacts n (at i)
  at_facts i l = sound_fit n all (rules_accept n all s.sound) (at i) (edges_mem _ _ _ _ s.room i l)

  -- each element stands at some index
  pub all_index : (e : Edge) → Memᴰ e all → (k : ℕ) × (k < s.count) × (at k ≡ e)
  all_index e m =
      let (k, l, q) = mem_index (edge 0 0 0) m in
      let i : k < s.count = omega (arith, edges_length _ _ _ _ s.room) in
      (k, i, sym (edges_at _ _ _ _ s.room k i) ∙ q)

  pub rises : (i j : ℕ) → i < j → j < s.count → precedes (at i) (at j) ≡ true
  rises i j h l =
      let z = edges_length _ _ _ _ s.room in
      let y = sorted_before table_ordered (is_edge n) (edge 0 0 0) all (rules_accept n _ s.sound) i j h (omega arith) in
      rw (edges_at _ _ _ _ s.room i (omega arith), edges_at _ _ _ _ s.room j l) at y

  module _ (e : Edge) where
    pub passed_none : Past e 0
    passed_none = record { within = omega arith; before = λ k i. absurd (omega arith) }

    pub passed_more : (j : ℕ) → Past e j → j < s.count → precedes (at j) e ≡ true → Past e (j + 1)
    passed_more j p l q = record { within = omega arith; before = λ k i. pick k i (ℕ_discrete k j) }
      where
        pick : (k : ℕ) → k < j + 1 → Dec (k ≡ j) → precedes (at k) e ≡ true
        pick k i (yes z) = rw z q
        pick k i (no d) = p.before k (omega arith)

    -- the first edges precede e, and e precedes the next: e stands nowhere in the table
    pub passed_absent : (j : ℕ) → Past e j → (j < s.count → precedes e (at j) ≡ true) → among all e ≡ false
    passed_absent j p q = is_false (among all e) (λ h.
        let (k, l, x) = all_index e (among_mem all e h) in
        true≢false (sym (same_own e) ∙ ap (same e) (sym x) ∙ never k l (dec_lt k j) (ℕ_discrete k j)))
      where
        never : (k : ℕ) → k < s.count → Dec (k < j) → Dec (k ≡ j) → same e (at k) ≡ false
        never k l (yes b) d = table_ordered.symmetric e (at k) ∙ table_ordered.apart (at k) e (p.before k b)
        never k l (no b) (yes d) = table_ordered.apart e (at k) (rw d (q (rw d at l)))
        never k l (no b) (no d) = table_ordered.apart e (at k) (table_ordered.transitive e (at j) (at k) (q (omega arith)) (rises j k (omega arith) l))

-- ---- the words of a change

module _ (xs : List ℕ) (k a b : ℕ) where
  pub length_put : length (put xs k a b) ≡ length xs
  length_put = length-set (set xs (2 * k) a) (2 * k + 1) b ∙ length-set xs (2 * k) a

  pub put_other : (i : ℕ) → (i ≡ 2 * k → ⊥) → (i ≡ 2 * k + 1 → ⊥) → get_or (put xs k a b) i 0 ≡ get_or xs i 0
  put_other i d e = get_or-set_other (set xs (2 * k) a) (2 * k + 1) i b 0 e ∙ get_or-set_other xs (2 * k) i a 0 d

  pub put_first : 2 * k + 1 < length xs → get_or (put xs k a b) (2 * k) 0 ≡ a
  put_first l = get_or-set_other (set xs (2 * k) a) (2 * k + 1) (2 * k) b 0 (λ q. omega arith) ∙ get_or-set_same xs (2 * k) a 0 (omega arith)

  pub put_second : 2 * k + 1 < length xs → get_or (put xs k a b) (2 * k + 1) 0 ≡ b
  put_second l = get_or-set_same (set xs (2 * k) a) (2 * k + 1) b 0 (let z = length-set xs (2 * k) a in omega arith)
