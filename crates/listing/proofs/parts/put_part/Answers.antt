-- `listing::parts::put_part` meets its contract: a refusal, the header, or the lines of a source. Assumes nothing.
use Rattle.property.proofs.Basics.{arith, ◌≡◌, ◌+◌, ◌-◌}
use Rattle.listing.specs.Code.{parts}
use Rattle.listing.proofs.Pieces.{parts_refused, parts_accepted, piece_only}
use Rattle.listing.proofs.parts.put_part.Goals as goal

pub returns-in-Err : goal.returns-in-Err
returns-in-Err c =
    record {
      by_index = λ gr ss h l. rw (piece_only (parts gr ss) _ _ (parts_refused gr ss _ (rw c.in-Err.is at h)) l, ← c.number.ensures, ← c.place.ensures) c.put_refused.ensures.wrote;
      upper_bound = c.put_refused.ensures.upper_bound;
    }

pub returns-then-i-eq0 : goal.returns-then-i-eq0
returns-then-i-eq0 c =
    record { by_index = λ gr ss h l. rw (c.if-i-eq0.true, parts_accepted (rw c.in-Ok.is at h)) c.put_header.ensures.wrote; upper_bound = c.put_header.ensures.upper_bound }

pub put_lines-requires : goal.put_lines-requires
put_lines-requires c =
    let r = rw c.in-Ok.is at c.requires in
    (omega (arith, r.0), r.1)

pub returns : goal.returns
returns c =
    let a = c.args in
    let z : a.i - 1 + 1 ≡ a.i = omega arith in record { by_index = λ gr ss h l. (let s = rw c.in-Ok.is at h in rw z at (c.put_lines.ensures.by_index gr ss s s.0)); upper_bound = c.put_lines.ensures.upper_bound }
