-- What the functions on effects answer. Assumes nothing.
--
--   is_zero d       == the move d is none
--   effect_number e == the number of an effect
--   effect_move e   == the move that an effect tells
--   shown_of xs ys  == two lists as those lent for a preview's answer
use Rattle.std.specs.Prelude.{Bool, false, cond, List, ℕ, ℤ, pos, negsuc, eqb}
use Rattle.effects.specs.declared.Effect.{Effect}
use Rattle.effects.specs.declared.Effect.TheVariants.{Neither, Gained, Lost, Both}
use Rattle.answers.specs.Preview.{Shown}

abbrev pub is_zero : ℤ → Bool
is_zero (pos k) = eqb k 0
is_zero (negsuc k) = false

unfoldable pub effect_number : Effect → ℕ
effect_number Neither = 0
effect_number Gained = 1
effect_number Lost = 2
effect_number (Both d) = cond (is_zero d) 0 3

unfoldable pub effect_move : Effect → ℤ
effect_move Neither = pos 0
effect_move Gained = pos 0
effect_move Lost = pos 0
effect_move (Both d) = d

abbrev pub shown_of : List ℕ → List ℤ → Shown
shown_of xs ys = record { effects = xs; moves = ys }
