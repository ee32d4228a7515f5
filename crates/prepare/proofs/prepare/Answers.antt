-- `prepare::prepare` meets its contract. Assumes nothing.
use Rattle.property.proofs.Basics.{sym, ap, ◌∙◌, arith}
use Rattle.property.proofs.Instances.{property_laws}
use Rattle.frontier.specs.Waiting.{count_of}
use Rattle.frontier.proofs.Counts.{count_le}
use Rattle.graph.proofs.Arcs.{own_reads}
use Rattle.run.specs.Code.{bits}
use Rattle.run.proofs.States.{marks_clear}
use Rattle.hunt.proofs.Bits.{bits_count, bits_length}
use Rattle.prepare.proofs.Marking.{unmarked, start_shut}
use Rattle.prepare.proofs.Starts.{prepared_made}
use Rattle.prepare.proofs.prepare.Goals as goal

pub take_changes-requires : goal.take_changes-requires
take_changes-requires c =
    let h = c.requires.1.few in rw c.requires.4 (c.requires.0, marks_clear _ _ h c.empty-todo.ensures, marks_clear _ _ h c.clear.ensures)

pub hunt-requires : goal.hunt-requires
hunt-requires c =
    let m = marks_clear _ _ c.requires.1.few c.empty-marks.ensures in
    record { words = c.requires.4; index = c.requires.1; room = c.requires.2; marks = m; todo = rw c.requires.4 at c.take_changes.ensures.raised.1 }

pub reopen_marked-requires : goal.reopen_marked-requires
reopen_marked-requires c =
    (c.requires.3, c.hunt.ensures.marks, c.requires.4, rw c.requires.4 at c.take_changes.ensures.raised_2.1)

pub returns : goal.returns
returns c =
    let a = c.args in
    let laws = property_laws a.p in
    let none = c.empty-marks.ensures in
    let m = c.hunt.ensures.marks in
    let r = c.reopen_marked.ensures in
    let ms = c.hunt.new.marks in
    let k = bits_count a.n ms m in record {
      no_tally_after = (λ es fs d face.
          let f = c.hunt.ensures.marks_after es fs (λ e i. let z = d.inside e i in (z.0, z.1)) d.old
          record { other = face; loopless = λ u j h x y q. (d.inside _ (own_reads a.n a.old.now es d.old u j h x y)).2 (sym q) }
          (λ t q. absurd (unmarked none t q)) (start_shut laws a.s a.words.now a.old.now a.net.now d.old d.net.old c.requires.4 none c.take_changes.ensures.raised.0) in
          (prepared_made laws d _ _ m c.clear.ensures c.take_changes.ensures.raised_2.0 r.raised r.marks a.s a.words.now f r.words_after, c.count.ensures ∙ k ∙ ap count_of f));
      marks = (r.marks, (let x = count_le (bits a.n ms) in let y = bits_length a.n ms m in omega (arith, c.count.ensures, k, c.requires.1.few)));
    }
