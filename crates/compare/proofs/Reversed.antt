-- Backward rows: the list of changes with tails and heads changed over is that of the reversed edges. Assumes nothing.
use Rattle.property.proofs.Basics.{◌≡◌, refl, sym, ap, ◌∙◌, List, map, ℕ, ◌+◌, ◌*◌, ◌/◌, ◌≤◌, ◌<◌, ℕ_discrete, dec_lt, arith, length, get_or, set, length-set}
use Rattle.graph.specs.Arc.{arc_weights, arc, arc_head, arc_weight}
use Rattle.graph.proofs.Arcs.{head_arc, weight_arc}
use Rattle.graph.specs.Edge.{Edge, reverse}
use Rattle.graph.proofs.Edges.{mem_reverse, reverse_mem}
use Rattle.affected.proofs.Net.{among_reverse, net_reverse}
use Rattle.compare.specs.Code.{before, after, changes_in, Inside, Lacks, Lists, Differences, put}
use Rattle.compare.proofs.Ruled.{put_other, put_first, put_second}

-- the same edges, reversed
lacks_reverse : (es fs : List Edge) (g : ℕ) (f k : ℕ → Edge) → ((i : ℕ) → i < g → k i ≡ reverse (f i)) → Lacks es fs g f → Lacks (map reverse es) (map reverse fs) g k
lacks_reverse es fs g f k e l = record {
  lacked = λ i a w. let x = e i a in let z = l.lacked i a (rw x at w) in rw x (mem_reverse z.0, among_reverse fs (f i) ∙ z.1);
  all = λ x m q.
      let (i, a, z) = l.all (reverse x) (reverse_mem es x m) (sym (among_reverse fs (reverse x)) ∙ q) in
      (i, a, e i a ∙ ap reverse z);
  weighs = λ x m. l.weighs (reverse x) (reverse_mem es x m);
}

pub lists_reverse : (es fs : List Edge) (g h : ℕ) (f k : ℕ → Edge) (o p : ℕ → ℕ) → h ≡ g → ((i : ℕ) → i < g → k i ≡ reverse (f i)) → ((i : ℕ) → i < g → p i ≡ o i) → Lists es fs g f o
    → Lists (map reverse es) (map reverse fs) h k p
lists_reverse es fs g h f k o p q e u l = rw q (record {
  lacks = lacks_reverse es fs g f k e l.lacks;
  other = λ i a w. let x = e i a in rw (x, u i a) (net_reverse es fs (f i) ∙ l.other i a (rw x at w));
})

-- ---- tails and heads change over

low_weight : (a : ℕ) → arc_weight a < arc_weights
low_weight a = omega arith

-- the first k changes are changed over; weights stay
pub record Turned (xs ys : List ℕ) (k : ℕ) : Type 0 where
  pub heads : (i : ℕ) → i < k → (arc_head (get_or ys (2 * i) 0) ≡ arc_head (get_or xs (2 * i + 1) 0)) × (arc_head (get_or ys (2 * i + 1) 0) ≡ arc_head (get_or xs (2 * i) 0))
  pub weights : (i : ℕ) → arc_weight (get_or ys i 0) ≡ arc_weight (get_or xs i 0)
  pub rest : (i : ℕ) → 2 * k ≤ i → get_or ys i 0 ≡ get_or xs i 0
  pub size : length ys ≡ length xs

pub turned_none : (xs : List ℕ) → Turned xs xs 0
turned_none xs = record { heads = λ i l. absurd (omega arith); weights = λ i. refl; rest = λ i l. refl; size = refl }

pub turned_turn : (xs ys : List ℕ) (k a b : ℕ) → Turned xs ys k → 2 * k + 1 < length xs → a ≡ arc (arc_head (get_or ys (2 * k + 1) 0)) (arc_weight (get_or ys (2 * k) 0))
    → b ≡ arc (arc_head (get_or ys (2 * k) 0)) (arc_weight (get_or ys (2 * k + 1) 0)) → Turned xs (put ys k a b) (k + 1)
turned_turn xs ys k a b t l p q = record {
  heads = λ i h. turned i h (ℕ_discrete i k);
  weights = λ i. weigh i (ℕ_discrete i (2 * k)) (ℕ_discrete i (2 * k + 1)) ∙ t.weights i;
  rest = λ i h. put_other ys k a b i (λ e. omega arith) (λ e. omega arith) ∙ t.rest i (omega arith);
  size = length-set (set ys (2 * k) a) (2 * k + 1) b ∙ length-set ys (2 * k) a ∙ t.size;
}
  where
    one : get_or (put ys k a b) (2 * k) 0 ≡ a
    one = put_first ys k a b (let z = t.size in omega arith)

    two : get_or (put ys k a b) (2 * k + 1) 0 ≡ b
    two = put_second ys k a b (let z = t.size in omega arith)

    turned : (i : ℕ) → i < k + 1 → Dec (i ≡ k) → (arc_head (get_or (put ys k a b) (2 * i) 0) ≡ arc_head (get_or xs (2 * i + 1) 0)) × (arc_head (get_or (put ys k a b) (2 * i + 1) 0) ≡ arc_head (get_or xs (2 * i) 0))
    turned i h (yes e) = rw e
        (ap arc_head (one ∙ p) ∙ head_arc _ _ (low_weight _) ∙ ap arc_head (t.rest (2 * k + 1) (omega arith)), ap arc_head (two ∙ q) ∙ head_arc _ _ (low_weight _) ∙ ap arc_head (t.rest (2 * k) (omega arith)))
    turned i h (no d) = rw (put_other ys k a b (2 * i) (λ z. d (omega arith)) (λ z. omega arith), put_other ys k a b (2 * i + 1) (λ z. omega arith) (λ z. d (omega arith))) (t.heads i (omega arith))

    weigh : (i : ℕ) → Dec (i ≡ 2 * k) → Dec (i ≡ 2 * k + 1) → arc_weight (get_or (put ys k a b) i 0) ≡ arc_weight (get_or ys i 0)
    weigh i (yes e) f = rw e (ap arc_weight (one ∙ p) ∙ weight_arc _ _ (low_weight _))
    weigh i (no d) (yes e) = rw e (ap arc_weight (two ∙ q) ∙ weight_arc _ _ (low_weight _))
    weigh i (no d) (no e) = ap arc_weight (put_other ys k a b i d e)

module _ (xs ys : List ℕ) (t : Turned xs ys (changes_in xs)) where
  turned_before : (i : ℕ) → i < changes_in xs → before ys i ≡ reverse (before xs i)
  turned_before i l = rw ((t.heads i l).0, (t.heads i l).1, t.weights (2 * i))

  turned_after : (i : ℕ) → i < changes_in xs → after ys i ≡ reverse (after xs i)
  turned_after i l = rw ((t.heads i l).0, (t.heads i l).1, t.weights (2 * i + 1))

  pub turned_net : (es fs : List Edge) → Differences es fs xs → Differences (map reverse es) (map reverse fs) ys
  turned_net es fs d =
      let q : changes_in ys ≡ changes_in xs = ap (λ (l : ℕ). l / 2) t.size in
      record {
        old = lists_reverse es fs (changes_in xs) _ _ _ _ _ q turned_before (λ i l. t.weights (2 * i + 1)) d.old;
        new = lists_reverse fs es (changes_in xs) _ _ _ _ _ q turned_after (λ i l. t.weights (2 * i)) d.new;
      }

  pub turned_inside : (n : ℕ) → Inside n xs → Inside n ys
  turned_inside n h k l = let z = t.size in pick (k / 2) (omega arith) (omega arith) (dec_lt (k / 2) (changes_in xs)) (ℕ_discrete k (2 * (k / 2)))
    where
      pick : (i : ℕ) → 2 * i ≤ k → k ≤ 2 * i + 1 → Dec (i < changes_in xs) → Dec (k ≡ 2 * i) → arc_head (get_or ys k 0) < n
      pick i a b (no d) e = let z = t.size in rw (t.rest k (omega arith)) (h k (omega arith))
      pick i a b (yes d) (yes e) = rw (e, (t.heads i d).0) (h (2 * i + 1) (omega arith))
      pick i a b (yes d) (no e) = let o : k ≡ 2 * i + 1 = omega arith in rw (o, (t.heads i d).1) (h (2 * i) (omega arith))
