-- `writer::put::put_number` meets its contract: what is still to store from here comes to the same. Assumes nothing.
use Rattle.property.proofs.Basics.{arith, ◌≡◌, refl, sym, ◌∙◌, ◌+◌, ◌-◌, length, length-set, sets}
use Rattle.dimacs.specs.Decimal.{digits}
use Rattle.writer.proofs.Digits.{digits_pad}
use Rattle.writer.proofs.Laid.{laid_sets, pad_turn, pad_done}
use Rattle.writer.proofs.put.put_number.Goals as goal

pub overflow_add-end : goal.overflow_add-end
overflow_add-end c =
    omega (arith, c.width.ensures)

pub loop-i-init : goal.loop-i-init
loop-i-init c =
    let a = c.args in
    let e : a.at + c.width.result - a.at ≡ length (digits a.v) = omega (arith, c.width.ensures) in (
      rw (e, ← digits_pad a.v),
      omega arith,
      refl,
      omega (arith, c.width.ensures),
    )

pub loop-i-preserved : goal.loop-i-preserved
loop-i-preserved c =
    let a = c.args in (
      pad_turn c.loop-i.out a.at c.loop-i.i c.loop-i.w (omega arith) ∙ c.loop-i.invariant.0,
      omega arith,
      simp length-set c.loop-i.invariant.2,
      c.loop-i.invariant.3,
    )

pub returns : goal.returns
returns c =
    let a = c.args in
    let e : c.loop-i.i - a.at ≡ 0 = omega arith in
    record {
      next = c.loop-i.invariant.3;
      bytes =
          pad_done c.loop-i.out a.at (c.loop-i.i - a.at) c.loop-i.w (sets a.out.now a.at (digits a.v)) e c.loop-i.invariant.0
          ∙ sym (laid_sets a.at (digits a.v) a.out.now c.requires.room);
    }
