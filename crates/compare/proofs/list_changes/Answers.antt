-- `compare::list_changes` meets its contract. Assumes nothing.
use Rattle.property.proofs.Basics.{needs, arith, inl, inr, ℕ, ◌+◌, ◌*◌, ◌≤◌, length}
use Rattle.compare.specs.Code.{Tables}
use Rattle.compare.proofs.Walking.{Step, step_on, Words, words_low, Listed, walk_room, walk_turn, walk_inside, walk_done, old_table, new_table}
use Rattle.compare.proofs.list_changes.Goals.{then-i-count1, else-i-count1+then-j-count2}
use Rattle.compare.proofs.list_changes.Goals as goal

pub note-size-requires : goal.note-size-requires
note-size-requires c =
    let Given : ℕ → Type 0 = λ n. let g = c.args in Tables n g.count1 g.tails1.now g.heads1.now g.weights1.now g.count2 g.tails2.now g.heads2.now g.weights2.now in
    let step : (n : ℕ) (t : Given n) → let l = c.loop-i in
    Step (old_table t) (new_table t) l.i l.j c.is_due-gone.result c.is_due-come.result = λ n t. record { go = elim c.if-i-count1.branch [ then-i-count1 w ↦ inl w.if-i-count1.true | else-i-count1+then-j-count2 w ↦ inr w.if-j-count2.true ]; old = c.is_due-gone.ensures; new = c.is_due-come.ensures } in
    let words : (n : ℕ) (t : Given n) →
    Words (old_table t) (new_table t) c.loop-i.i c.loop-i.j c.is_due-gone.result c.is_due-come.result c.either-t.result c.either-h.result c.weight_if-old.result c.weight_if-new.result = λ n t. record { step = step n t; tail = c.either-t.ensures; head = c.either-h.ensures; old = c.weight_if-old.ensures; new = c.weight_if-new.ensures } in
    let room : c.loop-i.size + 1 ≤ c.args.count1 + c.args.count2 = let (n, t) = c.requires.0 in
    walk_room (old_table t) (new_table t) c.loop-i.list c.loop-i.i c.loop-i.j c.loop-i.size (c.loop-i.invariant.0 n t) (step n t).go in
    let (n, t) = c.requires.0 in
    let (x, y, o, w) = words_low (words n t) in
    let f = t.few in
    let z = room in
    (omega arith, omega arith, omega arith, omega arith, omega (arith, c.loop-i.invariant.1, c.requires.1), omega (arith, t.old.0, t.new.0))

pub past-i-requires : goal.past-i-requires
past-i-requires c =
    let (n, t) = c.requires.0 in omega (arith, (c.loop-i.invariant.0 n t).0.old.low, t.old.0)

pub past-j-requires : goal.past-j-requires
past-j-requires c =
    let (n, t) = c.requires.0 in omega (arith, (c.loop-i.invariant.0 n t).0.new.low, t.new.0)

pub loop-i-smaller : goal.loop-i-smaller
loop-i-smaller c =
    let Given : ℕ → Type 0 = λ n. let g = c.args in Tables n g.count1 g.tails1.now g.heads1.now g.weights1.now g.count2 g.tails2.now g.heads2.now g.weights2.now in
    let step : (n : ℕ) (t : Given n) → let l = c.loop-i in
    Step (old_table t) (new_table t) l.i l.j c.is_due-gone.result c.is_due-come.result = λ n t. record { go = elim c.if-i-count1.branch [ then-i-count1 w ↦ inl w.if-i-count1.true | else-i-count1+then-j-count2 w ↦ inr w.if-j-count2.true ]; old = c.is_due-gone.ensures; new = c.is_due-come.ensures } in
    let words : (n : ℕ) (t : Given n) →
    Words (old_table t) (new_table t) c.loop-i.i c.loop-i.j c.is_due-gone.result c.is_due-come.result c.either-t.result c.either-h.result c.weight_if-old.result c.weight_if-new.result = λ n t. record { step = step n t; tail = c.either-t.ensures; head = c.either-h.ensures; old = c.weight_if-old.ensures; new = c.weight_if-new.ensures } in
    let room : c.loop-i.size + 1 ≤ c.args.count1 + c.args.count2 = let (n, t) = c.requires.0 in
    walk_room (old_table t) (new_table t) c.loop-i.list c.loop-i.i c.loop-i.j c.loop-i.size (c.loop-i.invariant.0 n t) (step n t).go in
    let turned : (n : ℕ) (t : Given n) →
    Listed (old_table t) (new_table t) c.note-size.new.list c.past-i.result c.past-j.result c.note-size.result = λ n t. let z = room in
    rw (c.note-size.ensures.0, c.note-size.ensures.1, c.past-i.ensures, c.past-j.ensures)
    (walk_turn (old_table t) (new_table t) c.loop-i.list c.loop-i.i c.loop-i.j c.loop-i.size (c.loop-i.invariant.0 n t) (omega (arith, c.loop-i.invariant.1, c.requires.1)) _ _ _ _ _ _ (words n t)) in
    let (n, t) = c.requires.0 in
    let z = step_on _ _ (step n t) in
    let w = (turned n t).0 in
    omega (arith, z, w.old.low, w.new.low, c.past-i.ensures, c.past-j.ensures)

pub loop-i-preserved : goal.loop-i-preserved
loop-i-preserved c =
    let Given : ℕ → Type 0 = λ n. let g = c.args in Tables n g.count1 g.tails1.now g.heads1.now g.weights1.now g.count2 g.tails2.now g.heads2.now g.weights2.now in
    let step : (n : ℕ) (t : Given n) → let l = c.loop-i in
    Step (old_table t) (new_table t) l.i l.j c.is_due-gone.result c.is_due-come.result = λ n t. record { go = elim c.if-i-count1.branch [ then-i-count1 w ↦ inl w.if-i-count1.true | else-i-count1+then-j-count2 w ↦ inr w.if-j-count2.true ]; old = c.is_due-gone.ensures; new = c.is_due-come.ensures } in
    let words : (n : ℕ) (t : Given n) →
    Words (old_table t) (new_table t) c.loop-i.i c.loop-i.j c.is_due-gone.result c.is_due-come.result c.either-t.result c.either-h.result c.weight_if-old.result c.weight_if-new.result = λ n t. record { step = step n t; tail = c.either-t.ensures; head = c.either-h.ensures; old = c.weight_if-old.ensures; new = c.weight_if-new.ensures } in
    let room : c.loop-i.size + 1 ≤ c.args.count1 + c.args.count2 = let (n, t) = c.requires.0 in
    walk_room (old_table t) (new_table t) c.loop-i.list c.loop-i.i c.loop-i.j c.loop-i.size (c.loop-i.invariant.0 n t) (step n t).go in
    let turned : (n : ℕ) (t : Given n) →
    Listed (old_table t) (new_table t) c.note-size.new.list c.past-i.result c.past-j.result c.note-size.result = λ n t. let z = room in
    rw (c.note-size.ensures.0, c.note-size.ensures.1, c.past-i.ensures, c.past-j.ensures)
    (walk_turn (old_table t) (new_table t) c.loop-i.list c.loop-i.i c.loop-i.j c.loop-i.size (c.loop-i.invariant.0 n t) (omega (arith, c.loop-i.invariant.1, c.requires.1)) _ _ _ _ _ _ (words n t)) in
    (turned, search needs)

pub returns : goal.returns
returns c =
    let (n, t) = c.requires.0 in
    let w = (c.loop-i.invariant.0 n t).0 in
    let long : 2 * c.loop-i.size ≤ length c.loop-i.list = omega (arith, c.loop-i.invariant.1, w.old.low, w.new.low, w.few, c.requires.1) in record { result_in_bounds = (long, omega (arith, w.old.low, w.new.low, w.few, t.old.0, t.new.0), (λ n t. walk_inside (old_table t) (new_table t) c.loop-i.list c.loop-i.i c.loop-i.j c.loop-i.size (c.loop-i.invariant.0 n t) long)); unjoined = walk_done (old_table t) (new_table t) c.loop-i.list c.loop-i.i c.loop-i.j c.loop-i.size (c.loop-i.invariant.0 n t) (λ q. omega arith) (λ q. omega arith) }
