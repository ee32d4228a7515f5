-- The frontier, which document 01 calls "waiting" (in "Runs"): the bits of 64-bit words as a list of Bool, and what is asked of such a list.
-- Entry v of the list says whether vertex v waits ("Waiting is one bit for each station": a station is a vertex). Assumes nothing.
--
--   odd w            == w is odd: its lowest bit is set
--   bits_of n w      == the n lowest bits of w, lowest first
--   bits_of_all n ws == the bits of words of n bits each, one word after the other
--   waiting_of ws    == the bits of 64-bit words: which vertices wait, from vertex 0 on
--   word_count       == how many words a frontier has: `WORDS` of src/lib.rt
--   capacity         == how many vertices those words have a bit for
--   seek i l         == the place of the first true in l, where l's own first place is i
--   next_from l i    == the first vertex at or after i that waits ("the lowest set bit at or after a given one")
--   any_of l         == whether any vertex waits ("while any waits")
--   count_of l       == how many vertices wait
use Rattle.std.specs.Prelude.{Bool, true, false, List, [], ◌∷◌, ◌++◌, ℕ, zero, suc, ◌*◌, ◌/◌, ◌%◌, eqb, drop, Option, Some, None}

-- ---- words as a list of Bool

abbrev pub odd : ℕ → Bool
odd w = eqb (w % 2) 1

unfoldable pub bits_of : ℕ → ℕ → List Bool
bits_of zero w = []
bits_of (suc n) w = odd w ∷ bits_of n (w / 2)

unfoldable pub bits_of_all : ℕ → List ℕ → List Bool
bits_of_all n [] = []
bits_of_all n (w ∷ ws) = bits_of n w ++ bits_of_all n ws

abbrev pub waiting_of : List ℕ → List Bool
waiting_of ws = bits_of_all 64 ws

-- ---- the limit: the contract of `empty` holds `WORDS` to this number

abbrev pub word_count : ℕ
word_count = 4

abbrev pub capacity : ℕ
capacity = word_count * 64

-- ---- what is asked of a list of Bool

unfoldable pub seek : ℕ → List Bool → Option ℕ
seek i [] = None
seek i (true ∷ l) = Some i
seek i (false ∷ l) = seek (suc i) l

abbrev pub next_from : List Bool → ℕ → Option ℕ
next_from l i = seek i (drop i l)

unfoldable pub any_of : List Bool → Bool
any_of [] = false
any_of (true ∷ l) = true
any_of (false ∷ l) = any_of l

unfoldable pub count_of : List Bool → ℕ
count_of [] = 0
count_of (true ∷ l) = suc (count_of l)
count_of (false ∷ l) = count_of l
