-- What a test of the code chooses, and comparisons of signed numbers by their bits. Assumes nothing.
use Rattle.property.proofs.Basics.{◌≡◌, sym, ap₂, ◌∙◌, Bool, cond, lit<, ◌<◌, ◌^◌}
use lib.IntN.{ℤ, pos}
use lib.Signed.{mag, lt_z}
use mir.Syntax.{w64}
use mir.Val.{SFits, to_z, of_z}
use mir.Facts.{to_z-of_z}

-- r is the result of the test b: z is what it chooses
pub chosen : {r b : Bool} (t : Bool) (x y : Bool) {z : Bool} → r ≡ b → r ≡ t → z ≡ cond t x y → z ≡ cond b x y
chosen t x y e q h = rw (sym e ∙ q) h

pub zero_fits : SFits w64 (pos 0)
zero_fits = record { sfits = lit< tt }

-- the bits of a number that fits say the number
pub told : (d : ℤ) → mag d < 2 ^ 63 → to_z w64 (of_z w64 d) ≡ d
told d h = to_z-of_z {w = w64} (record { sfits = h })

pub less : {d g : ℤ} → SFits w64 d → SFits w64 g → lt_z (to_z w64 (of_z w64 d)) (to_z w64 (of_z w64 g)) ≡ lt_z d g
less s r = ap₂ lt_z (to_z-of_z s) (to_z-of_z r)
