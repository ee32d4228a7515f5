-- `listing::parts::part_count` meets its contract. Assumes nothing.
use Rattle.property.proofs.Basics.{arith, sym, ap, length}
use Rattle.listing.proofs.Pieces.{parts_refused, parts_count}
use Rattle.listing.proofs.parts.part_count.Goals as goal

pub returns-in-Ok : goal.returns-in-Ok
returns-in-Ok c =
    rw c.in-Ok.is (record { upper_bound = omega arith; value = λ gr ss ts hs ws xs f b i h. parts_count h i.sources })

pub returns-in-Err : goal.returns-in-Err
returns-in-Err c =
    rw c.in-Err.is (record { upper_bound = omega arith; value = λ gr ss ts hs ws xs f b i h. sym (ap length (parts_refused gr ss _ h)) })
