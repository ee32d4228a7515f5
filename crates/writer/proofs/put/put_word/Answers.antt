-- `writer::put::put_word` meets its contract: the bytes below i are put. Assumes nothing.
use Rattle.property.proofs.Basics.{arith, ◌≡◌, refl, length, length-set, paste-zero}
use Rattle.writer.proofs.Laid.{copy_turn, paste_wrote}
use Rattle.writer.proofs.put.put_word.Goals as goal

pub loop-i-init : goal.loop-i-init
loop-i-init c =
    (paste-zero c.args.out.now c.args.at c.args.word.now, refl)

pub loop-i-preserved : goal.loop-i-preserved
loop-i-preserved c =
    (copy_turn _ _ _ _ _ (omega arith) (omega arith) c.loop-i.invariant.0, simp length-set c.loop-i.invariant.1)

pub returns : goal.returns
returns c =
    let e : c.loop-i.i ≡ length c.args.word.now = omega arith in
    rw (← e) (paste_wrote e c.loop-i.invariant.0)
