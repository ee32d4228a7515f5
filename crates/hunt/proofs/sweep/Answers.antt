-- `hunt::sweep` meets its contract. The loop's invariant is `Sweeping`: the vertices of the numbers below `i` are done. Assumes nothing.
use Rattle.property.proofs.Basics.{refl, sym, ◌∙◌, ◌<◌, arith, needs}
use Rattle.frontier.specs.Waiting.{waiting_of}
use Rattle.frontier.proofs.Laws.{First, next_none}
use Rattle.hunt.proofs.Bits.{marks_next}
use Rattle.hunt.proofs.Sweeping.{sweeping_start, sweeping_done, sweeping_next, sweeping_turn}
use Rattle.hunt.proofs.sweep.Goals as goal

pub loop-i-init : goal.loop-i-init
loop-i-init c =
    sweeping_start c.requires

pub next_from-requires : goal.next_from-requires
next_from-requires c =
    omega (arith, c.loop-i.invariant.hunting.todo.few, c.loop-i-test.true)

pub returns-in_default : goal.returns-in_default
returns-in_default c =
    sweeping_done c.loop-i.invariant (next_none _ _ (sym c.next_from.ensures.next ∙ c.in_default.is))

pub remove-requires : goal.remove-requires
remove-requires c =
    let found : let k = c.in-Some.k in First (waiting_of c.loop-i.todo) c.loop-i.i k × (k < c.args.n) = marks_next c.loop-i.invariant.hunting.todo (sym c.next_from.ensures.next ∙ c.in-Some.is) in
    let z = found.1 in search needs

pub overflow_sub-n : goal.overflow_sub-n
overflow_sub-n c =
    let found : let k = c.in-Some.k in First (waiting_of c.loop-i.todo) c.loop-i.i k × (k < c.args.n) = marks_next c.loop-i.invariant.hunting.todo (sym c.next_from.ensures.next ∙ c.in-Some.is) in
    let z = found.1 in search needs

pub overflow_sub-n-in-loop-i : goal.overflow_sub-n-in-loop-i
overflow_sub-n-in-loop-i c =
    let found : let k = c.in-Some.k in First (waiting_of c.loop-i.todo) c.loop-i.i k × (k < c.args.n) = marks_next c.loop-i.invariant.hunting.todo (sym c.next_from.ensures.next ∙ c.in-Some.is) in
    let z = found.1 in search needs

pub touch_vertex-requires : goal.touch_vertex-requires
touch_vertex-requires c =
    let found : let k = c.in-Some.k in First (waiting_of c.loop-i.todo) c.loop-i.i k × (k < c.args.n) = marks_next c.loop-i.invariant.hunting.todo (sym c.next_from.ensures.next ∙ c.in-Some.is) in
    sweeping_next c.loop-i.invariant found refl c.remove.ensures

pub overflow_add-i : goal.overflow_add-i
overflow_add-i c =
    let found : let k = c.in-Some.k in First (waiting_of c.loop-i.todo) c.loop-i.i k × (k < c.args.n) = marks_next c.loop-i.invariant.hunting.todo (sym c.next_from.ensures.next ∙ c.in-Some.is) in
    let z = found.1 in search needs

pub loop-i-smaller : goal.loop-i-smaller
loop-i-smaller c =
    let found : let k = c.in-Some.k in First (waiting_of c.loop-i.todo) c.loop-i.i k × (k < c.args.n) = marks_next c.loop-i.invariant.hunting.todo (sym c.next_from.ensures.next ∙ c.in-Some.is) in
    let z = found in omega (arith, z.0.from, z.1)

pub loop-i-preserved : goal.loop-i-preserved
loop-i-preserved c =
    let found : let k = c.in-Some.k in First (waiting_of c.loop-i.todo) c.loop-i.i k × (k < c.args.n) = marks_next c.loop-i.invariant.hunting.todo (sym c.next_from.ensures.next ∙ c.in-Some.is) in
    let v = c.loop-i.invariant in sweeping_turn v found refl c.remove.ensures (rw v.hunting.words at c.touch_vertex.ensures)

pub returns : goal.returns
returns c =
    let v = c.loop-i.invariant in sweeping_done v (λ k h. v.hunting.todo.idle k (omega (arith, c.loop-i-test.false)))
