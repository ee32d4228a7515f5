-- A table with fewer than 65,535 edges lacks one: of the edges from vertex 0 to 1, one for each weight, one is left. Assumes nothing.
use Rattle.property.proofs.Basics.{◌≡◌, refl, sym, ap, ◌∙◌, true, false, List, [], ◌∷◌, map, ℕ, zero, suc, ◌-◌, ◌<◌, arith, eqb, length, length-map, lt-ltb, le-leb, eqb-true, eqb-false}
use Rattle.property.proofs.Tests.{is_false, by_test}
use Rattle.graph.specs.Limits.{max_weight}
use Rattle.graph.specs.Edge.{Edge, edge, same, exists, among}
use Rattle.graph.specs.Table.{is_edge}
use Rattle.graph.specs.Code.{equal, below}
use Rattle.graph.proofs.Tests.{or_false}
use Rattle.graph.proofs.Edges.{same_eq}
use Rattle.graph.proofs.Counts.{below_suc, below_le}

-- where fewer than k of the words are below k, a number below k is none of them
missing : (k : ℕ) (xs : List ℕ) → below k xs < k → (i : ℕ) × (i < k) × (equal i xs ≡ 0)
missing zero xs h = absurd (omega arith)
missing (suc k) xs h = by_test (eqb (equal k xs) 0)
    (λ e. (k, omega arith, eqb-true (equal k xs) 0 e))
    (λ e. let (i, l, q) = missing k xs (omega (arith, below_suc k xs, eqb-false (equal k xs) 0 e)) in (i, omega arith, q))

-- weights are from 1 on, and numbered from 0
abbrev numbered : Edge → ℕ
numbered e = e.weight - 1

absent : (es : List Edge) (i : ℕ) → equal i (map numbered es) ≡ 0 → among es (edge 0 1 (suc i)) ≡ false
unfolding equal exists
absent [] i h = refl
absent (f ∷ es) i h = by_test (eqb (numbered f) i)
    (λ p. absurd (omega (arith, rw p at h)))
    (λ p. or_false (is_false (same (edge 0 1 (suc i)) f) (λ r. eqb-false (numbered f) i p (ap numbered (sym (same_eq (edge 0 1 (suc i)) f r)) ∙ omega arith))) (absent es i (rw p at h)))

-- Of k + 1 weights k edges use at most k, so that one is left.
pub unused : (n : ℕ) (es : List Edge) → 1 < n → length es < max_weight → (e : Edge) × (is_edge n e ≡ true) × (among es e ≡ false)
unused n es h l =
    let k = suc (length es) in
    let (i, b, q) = missing k (map numbered es) (omega (arith, below_le k (map numbered es), length-map es numbered)) in
    (edge 0 1 (suc i), rw (lt-ltb 0 n (omega arith), lt-ltb 1 n h, lt-ltb 0 (suc i) (omega arith), le-leb (suc i) max_weight (omega arith)), absent es i q)
