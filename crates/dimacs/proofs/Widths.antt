-- How many digits a number has, and how many bytes a written text has at most. Assumes nothing.
use Rattle.property.proofs.Basics.{◌≡◌, refl, ap, ◌∙◌, true, List, [], ◌∷◌, map, ℕ, zero, suc, ◌+◌, ◌*◌, ◌/◌, ◌%◌, ◌^◌, ◌≤◌, ◌<◌, arith, ltb, length, length-append, ltb-true, ltb-false}
use Rattle.property.proofs.Tests.{by_test}
use Rattle.graph.specs.Limits.{max_vertices, max_edges}
use Rattle.graph.specs.Edge.{Edge}
use Rattle.graph.specs.Table.{is_edge, table_order}
use Rattle.graph.proofs.Sorted.{sorted_all}
use Rattle.graph.proofs.Order.{edge_facts, rules_accept}
use Rattle.graph.proofs.Judging.{size_accept}
use Rattle.dimacs.proofs.Digits.{digits_small, digits_big}
use Rattle.dimacs.specs.Decimal.{digits}
use Rattle.dimacs.specs.Lines.{joined, fields_of}
use Rattle.dimacs.specs.Network.{problem, arc, item_of, Edges, written}
use Rattle.dimacs.specs.Calls.{longest_text}
use Rattle.dimacs.specs.Claims.{Table}

-- ---- how many digits

pub width_small : (v : ℕ) → v < 10 → length (digits v) ≡ 1
width_small v h = rw (digits_small v h)

pub width_big : (v : ℕ) → 10 ≤ v → length (digits v) ≡ suc (length (digits (v / 10)))
width_big v h = rw (digits_big v h) (length-append (digits (v / 10)) ((48 + v % 10) ∷ []) ∙ omega arith)

-- a number below ten to the power k + 1 has at most k + 1 digits
pub width_most : (k v : ℕ) → v < 10 * 10 ^ k → length (digits v) ≤ suc k
width_most zero v h = omega (arith, width_small v (omega arith))
width_most (suc k) v h = by_test (ltb v 10)
    (λ e. omega (arith, width_small v (ltb-true v 10 e)))
    (λ e. omega (arith, width_big v (ltb-false v 10 e), width_most k (v / 10) (omega arith)))

-- ---- how many bytes

fields_width : (v : ℕ) (vs : List ℕ) → length (fields_of (v ∷ vs)) ≡ suc (length (digits v) + length (fields_of vs))
unfolding fields_of
fields_width v vs = ap suc (length-append (digits v) (fields_of vs))

no_width : length (fields_of []) ≡ 0
unfolding fields_of
no_width = refl

-- vertices from 1 have three digits at most, weights five: an a line has 16 bytes at most, with its line feed
arc_width : (n : ℕ) (e : Edge) → n ≤ max_vertices → is_edge n e ≡ true → length (item_of (arc e)) ≤ 15
unfolding item_of
arc_width n e m h =
    let a = edge_facts n e h in
    let t = width_most 2 (suc e.tail) (omega (arith, a.tail_below)) in
    let u = width_most 2 (suc e.head) (omega (arith, a.head_below)) in
    let w = width_most 4 e.weight (omega (arith, a.weight_most)) in
    simp (fields_width, no_width) (omega arith)

problem_width : (n m : ℕ) → n ≤ max_vertices → m ≤ max_edges → length (item_of (problem n m)) ≤ 13
unfolding item_of
problem_width n m a b =
    let t = width_most 2 n (omega arith) in
    let u = width_most 3 m (omega arith) in
    simp (fields_width, no_width) (omega arith)

arcs_width : (n : ℕ) (es : List Edge) → n ≤ max_vertices → Edges n es → length (joined (map item_of (map arc es))) ≤ 16 * length es
unfolding joined
arcs_width n [] m h = omega arith
arcs_width n (e ∷ es) m h =
    let a = arc_width n e m h.0 in
    let b = arcs_width n es m h.1 in
    let c = length-append (item_of (arc e)) (10 ∷ joined (map item_of (map arc es))) in
    omega arith

-- the p line has 14 bytes at most, and 2,048 a lines have 16 each
pub table_length : (n : ℕ) (es : List Edge) → Table n es → length (written n es) ≤ longest_text
unfolding written joined
table_length n es t =
    let m = (size_accept n t.vertices).1 in
    let a = problem_width n (length es) m t.few in
    let b = arcs_width n es m (sorted_all table_order (is_edge n) es (rules_accept n es t.rules)) in
    let c = length-append (item_of (problem n (length es))) (10 ∷ joined (map item_of (map arc es))) in
    let f = t.few in
    omega arith
