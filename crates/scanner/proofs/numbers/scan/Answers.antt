-- `scanner::numbers::scan` meets its contract: what is left to read, from the value so far, comes to the same. Assumes nothing.
use Rattle.property.proofs.Basics.{needs, arith, refl, sym, ap, ◌∙◌, ℕ, ◌+◌, ◌≡◌, drop, length}
use Rattle.scanner.specs.Capped.{cap_scan}
use Rattle.scanner.proofs.Caps.{scan_more, scan_stop, scan_end}
use Rattle.scanner.proofs.numbers.scan.Goals as goal

pub loop-i-init : goal.loop-i-init
loop-i-init c =
    (refl, search needs)

pub returns-then-not-is_digit : goal.returns-then-not-is_digit
returns-then-not-is_digit c =
    let a = c.args in
    let e = sym c.is_digit.ensures ∙ c.if-not-is_digit.true in
    (sym (scan_stop a.s.now c.loop-i.i c.loop-i.value (omega arith) e c.loop-i.invariant.1) ∙ c.loop-i.invariant.0, omega arith)

pub push-value-requires : goal.push-value-requires
push-value-requires c =
    (search needs, sym c.is_digit.ensures ∙ c.if-not-is_digit.false)

pub loop-i-preserved : goal.loop-i-preserved
loop-i-preserved c =
    let a = c.args in
    let e = sym c.is_digit.ensures ∙ c.if-not-is_digit.false in (
      ap (λ (x : ℕ). cap_scan x (drop (c.loop-i.i + 1) a.s.now)) c.push-value.ensures ∙ (sym (scan_more a.s.now c.loop-i.i c.loop-i.value (omega arith) e) ∙ c.loop-i.invariant.0),
      omega (arith, c.push-value.ensures),
    )

pub returns : goal.returns
returns c =
    let a = c.args in
    let e : c.loop-i.i ≡ length a.s.now = omega arith in
    (rw e at (sym (scan_end a.s.now c.loop-i.i c.loop-i.value (omega arith) c.loop-i.invariant.1) ∙ c.loop-i.invariant.0), omega arith)
