-- Reading a text line by line, for any kind of text. It computes. Assumes nothing.
--
--   after p s            == what stands after the bytes p
--   fields k s           == k numbers, each after a single space, to the end of the line
--   line_in parse l      == what a line says, comments included; none where it has no meaning
--   Read S               == a good text with the state it leads to, or bad with the line of the refusal
--   step .. st l         == the state after a line; none where no good text can go on with it
--   reading .. ls r k st == the lines ls and the rest r are left, k lines are read
--   read .. text         == the whole text. `act` says which state a line leads to, `complete` which states may be the last
--   comment_of s         == the comment after whose `c` s stands
--   spoken_by o          == a line that says what o has
--   heard .. st x        == the state after what a line says
--   ended .. r k st      == the end of the text after k complete lines: r stands after the last line feed
use Rattle.std.specs.Prelude.{Bool, cond, List, [], ◌∷◌, ℕ, zero, suc, eqb}
use Rattle.std.proofs.Math.Option.{Option, none, some, bind}
use Rattle.dimacs.specs.Decimal.{number}
use Rattle.dimacs.specs.Lines.{Line, bare, comment, says, split}

-- ---- one line

unfoldable pub after : List ℕ → List ℕ → Option (List ℕ)
after [] s = some s
after (c ∷ p) [] = none
after (c ∷ p) (b ∷ s) = cond (eqb b c) (after p s) none

unfoldable pub fields : ℕ → List ℕ → Option (List ℕ)
fields zero [] = some []
fields zero (b ∷ s) = none
fields (suc k) s = bind (after (32 ∷ []) s) (λ r. bind (number r) (λ q. bind (fields k q.1) (λ vs. some (q.0 ∷ vs))))

-- what stands after the `c` of a comment
unfoldable pub comment_of : {A : Type 0} → List ℕ → Option (Line A)
comment_of [] = some bare
comment_of (b ∷ s) = cond (eqb b 32) (some (comment s)) none

unfoldable pub spoken_by : {A : Type 0} → Option A → Option (Line A)
spoken_by none = none
spoken_by (some a) = some (says a)

unfoldable pub line_in : {A : Type 0} → (List ℕ → Option A) → List ℕ → Option (Line A)
line_in parse [] = none
line_in parse (b ∷ s) = cond (eqb b 99) (comment_of s) (spoken_by (parse (b ∷ s)))

-- ---- all lines

pub data Read (S : Type 0) : Type 0 where
  good : S → Read S
  bad : ℕ → Read S

module _ {A S : Type 0} (parse : List ℕ → Option A) (act : S → A → Option S) (complete : S → Bool) where
  unfoldable pub heard : S → Line A → Option S
  heard st bare = some st
  heard st (comment s) = some st
  heard st (says a) = act st a

  unfoldable pub step : S → List ℕ → Option S
  step st l = bind (line_in parse l) (heard st)

  -- the end of the text, after k complete lines; the rest stands after the last line feed
  unfoldable pub ended : List ℕ → ℕ → S → Read S
  ended [] k st = cond (complete st) (good st) (bad (suc k))
  ended (b ∷ r) k st = bad (suc k)

  unfoldable pub reading : List (List ℕ) → List ℕ → ℕ → S → Read S
  reading [] r k st = ended r k st
  reading (l ∷ ls) r k st = elim (step st l) [ none ↦ bad (suc k) | some st' ↦ reading ls r (suc k) st' ]

  unfoldable pub read : S → List ℕ → Read S
  read st text = reading (split text).lines (split text).rest 0 st
