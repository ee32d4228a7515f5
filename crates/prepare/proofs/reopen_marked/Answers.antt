-- `prepare::reopen_marked` meets its contract. The loop's invariant is `Reopening`. Assumes nothing.
use Rattle.property.proofs.Basics.{sym, ◌∙◌, ◌<◌, arith, needs}
use Rattle.frontier.specs.Waiting.{waiting_of}
use Rattle.frontier.proofs.Laws.{First, next_none}
use Rattle.hunt.proofs.Bits.{marks_next}
use Rattle.prepare.proofs.Starts.{reopen_start, reopen_turn, reopen_over}
use Rattle.prepare.proofs.reopen_marked.Goals as goal

pub loop-i-init : goal.loop-i-init
loop-i-init c =
    reopen_start c.requires.2 c.requires.3

pub next_from-requires : goal.next_from-requires
next_from-requires c =
    omega (arith, c.requires.1.few)

pub returns-in_default : goal.returns-in_default
returns-in_default c =
    let both = reopen_over c.requires.2 c.loop-i.invariant (next_none _ _ (sym c.next_from.ensures.next ∙ c.in_default.is)) in record { words_after = both.0; raised = both.1.0; marks = both.1.1 }

pub offset_bounds-words-v : goal.offset_bounds-words-v
offset_bounds-words-v c =
    let found : let a = c.args in let v = c.in-Some.v in First (waiting_of a.marks.now) c.loop-i.i v × (v < a.n) = marks_next c.requires.1 (sym c.next_from.ensures.next ∙ c.in-Some.is) in
    let z = found.1 in search needs

pub bounds-words-v : goal.bounds-words-v
bounds-words-v c =
    let found : let a = c.args in let v = c.in-Some.v in First (waiting_of a.marks.now) c.loop-i.i v × (v < a.n) = marks_next c.requires.1 (sym c.next_from.ensures.next ∙ c.in-Some.is) in
    let z = found.1 in search needs

pub wake_into-requires : goal.wake_into-requires
wake_into-requires c =
    let found : let a = c.args in let v = c.in-Some.v in First (waiting_of a.marks.now) c.loop-i.i v × (v < a.n) = marks_next c.requires.1 (sym c.next_from.ensures.next ∙ c.in-Some.is) in
    (found.1, c.requires.0, c.loop-i.invariant.waiting)

pub overflow_add-i : goal.overflow_add-i
overflow_add-i c =
    let found : let a = c.args in let v = c.in-Some.v in First (waiting_of a.marks.now) c.loop-i.i v × (v < a.n) = marks_next c.requires.1 (sym c.next_from.ensures.next ∙ c.in-Some.is) in
    omega (arith, found.1)

pub loop-i-smaller : goal.loop-i-smaller
loop-i-smaller c =
    let found : let a = c.args in let v = c.in-Some.v in First (waiting_of a.marks.now) c.loop-i.i v × (v < a.n) = marks_next c.requires.1 (sym c.next_from.ensures.next ∙ c.in-Some.is) in
    omega (arith, found.0.from)

pub loop-i-preserved : goal.loop-i-preserved
loop-i-preserved c =
    let found : let a = c.args in let v = c.in-Some.v in First (waiting_of a.marks.now) c.loop-i.i v × (v < a.n) = marks_next c.requires.1 (sym c.next_from.ensures.next ∙ c.in-Some.is) in
    let f = found in
    let e = c.wake_into.ensures in
    reopen_turn c.requires.2 c.loop-i.invariant f.1 f.0 c.none.ensures _ e.raised e.marks

pub returns : goal.returns
returns c =
    let both = reopen_over c.requires.2 c.loop-i.invariant (λ k h. c.requires.1.idle k (omega (arith, c.loop-i-test.false))) in record { words_after = both.0; raised = both.1.0; marks = both.1.1 }
