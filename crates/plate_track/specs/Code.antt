-- What a caller in C gets: each call's outcome, spelled as a number and words. Assumes nothing.
--
--   Spelled L          == the number that is returned, the reply list and everything else that is lent, at exit
--   spelled f o old xs == the outcome o, spelled into the reply list xs: a list that is too short is number 2, and all that was
--                             lent, old, is as before
--   alone r      == a reply as the outcome of a call that writes nothing
--   lookup_start == where the row that a look-up shows starts in its list
--   version      == the number of the calls as a program is compiled against them
use Rattle.std.specs.Prelude.{cond, List, ℕ, ◌*◌, length, ltb}
use Rattle.graph.specs.Refusal.{Reply, replied, Outcome, over}
use Rattle.network.specs.Network.{Rows}
use Rattle.network.specs.Query.{row_at}
use Rattle.network.specs.Lookup.{index_of, lookup_verdict}
use Rattle.spelling.specs.Code.{reply_words, number_of, words_told}

pub record Spelled (L : Type 0) : Type 0 where
  pub number : ℕ
  pub reply : List ℕ
  pub memory : L

unfoldable pub spelled : {A L : Type 0} → (A → List ℕ) → Outcome A L → L → List ℕ → Spelled L
spelled f o old xs =
    cond (ltb (length xs) reply_words)
    (record { number = 2; reply = xs; memory = old })
    (record { number = number_of o.reply; reply = over (words_told f o.reply) xs; memory = o.memory })

abbrev pub alone : {A : Type 0} → Reply A → Outcome A (Unit {0})
alone r = record { reply = r; memory = tt }

abbrev pub lookup_start : ℕ → List ℕ → Rows → ℕ → ℕ → ℕ → Reply ℕ
lookup_start n ls xs side l p = replied (lookup_verdict n ls xs side l p) (row_at (index_of l ls) p * n)

-- `PLATE_TRACK_VERSION` of the header
abbrev pub version : ℕ
version = 2
