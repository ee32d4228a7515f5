-- Lines of a text, what they say, and the place of a refusal: document 01, "Text" and number 14. They serve network text and
-- source files alike; A is what a line says that is no comment. Assumes nothing.
--
--   joined ls         == the text of the lines ls, each ended by line feed, byte 10
--   split text        == the complete lines of text, and what stands after the last line feed
--   plain s           == no byte of s is a line feed
--   Line A            == a comment (`c` alone, or `c ` and any bytes) or a line that says an A
--   line_of f x       == the bytes of a line without its line feed, where f spells an A
--   spoken xs         == what the lines xs say: comments left out
--   Spelled f text as == text is lines, each ended by line feed, that say as, comments among them anywhere
--   fields_of vs      == numbers, each after a single space
--   Begins Good text  == some good text begins with text
--   Place Good text k == k is the first line, from 1, with which no good text can go on; complete lines + 1 if it ends too soon
--   Split             == complete lines, and what stands after the last line feed
--   before b c ls r   == the byte c put before a split text; b says whether it is a line feed
--   Plain f xs        == no line of xs has a line feed in it
use Rattle.std.specs.Prelude.{◌≡◌, Bool, true, false, ◌&&◌, not, List, [], ◌∷◌, ◌++◌, map, ℕ, suc, ◌-◌, ◌≤◌, ◌<◌, eqb, length, take}
use Rattle.dimacs.specs.Decimal.{digits}

-- ---- lines

unfoldable pub joined : List (List ℕ) → List ℕ
joined [] = []
joined (l ∷ ls) = l ++ (10 ∷ joined ls)

pub record Split : Type 0 where
  pub lines : List (List ℕ)
  pub rest : List ℕ

-- a byte put before a split text: the first argument says whether it is a line feed
unfoldable pub before : Bool → ℕ → List (List ℕ) → List ℕ → Split
before true b ls r = record { lines = [] ∷ ls; rest = r }
before false b [] r = record { lines = []; rest = b ∷ r }
before false b (l ∷ ls) r = record { lines = (b ∷ l) ∷ ls; rest = r }

unfoldable pub split : List ℕ → Split
split [] = record { lines = []; rest = [] }
split (b ∷ s) = before (eqb b 10) b (split s).lines (split s).rest

unfoldable pub plain : List ℕ → Bool
plain [] = true
plain (b ∷ s) = not (eqb b 10) && plain s

-- ---- what lines say

pub data Line (A : Type 0) : Type 0 where
  bare : Line A
  comment : List ℕ → Line A
  says : A → Line A

-- 99 is `c`, 32 the space
unfoldable pub line_of : {A : Type 0} → (A → List ℕ) → Line A → List ℕ
line_of f bare = 99 ∷ []
line_of f (comment s) = 99 ∷ 32 ∷ s
line_of f (says a) = f a

unfoldable pub spoken : {A : Type 0} → List (Line A) → List A
spoken [] = []
spoken (bare ∷ xs) = spoken xs
spoken (comment s ∷ xs) = spoken xs
spoken (says a ∷ xs) = a ∷ spoken xs

abbrev pub Plain : {A : Type 0} → (A → List ℕ) → List (Line A) → Type 0
Plain f [] = Unit {0}
Plain f (x ∷ xs) = (plain (line_of f x) ≡ true) × Plain f xs

pub record Spelled {A : Type 0} (f : A → List ℕ) (text : List ℕ) (as' : List A) : Type 0 where
  pub lines : List (Line A)
  pub spells : text ≡ joined (map (line_of f) lines)
  pub plains : Plain f lines
  pub speaks : spoken lines ≡ as'

unfoldable pub fields_of : List ℕ → List ℕ
fields_of [] = []
fields_of (v ∷ vs) = 32 ∷ (digits v ++ fields_of vs)

-- ---- the place of a refusal

abbrev pub Begins : (List ℕ → Type 0) → List ℕ → Type 0
Begins Good text = (more : List ℕ) × Good (text ++ more)

pub record Place (Good : List ℕ → Type 0) (text : List ℕ) (k : ℕ) : Type 0 where
  pub from_one : 0 < k
  pub inside : k ≤ suc (length (split text).lines)
  -- up to the line before it some good text goes on
  pub alive : Begins Good (joined (take (k - 1) (split text).lines))
  -- with that line, where it is complete, none does
  pub dead : k ≤ length (split text).lines → Begins Good (joined (take k (split text).lines)) → ⊥
  pub not_good : Good text → ⊥
