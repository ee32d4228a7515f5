-- Worked examples, computed: four words in which vertices 63, 64 and 255 wait, on both sides of a word's end and at the last bit.
-- Assumes nothing.
use Rattle.std.specs.Prelude.{Some, None}
use Rattle.property.proofs.Basics.{◌≡◌, refl, true, false, List, [], ◌∷◌, map, ℕ, ◌^◌, get_or, set, replicate}
use Rattle.frontier.specs.Waiting.{bits_of, bits_of_all, waiting_of, seek, next_from, any_of, count_of}

abbrev words : List ℕ
words = 2 ^ 63 ∷ 1 ∷ 0 ∷ 2 ^ 63 ∷ []

-- ---- which wait

bits : waiting_of words ≡ set (set (set (replicate 256 false) 63 true) 64 true) 255 true
unfolding bits_of bits_of_all
bits = refl

waits : map (λ i. get_or (waiting_of words) i false) (62 ∷ 63 ∷ 64 ∷ 65 ∷ 255 ∷ []) ≡ false ∷ true ∷ true ∷ false ∷ true ∷ []
unfolding bits_of bits_of_all
waits = refl

-- the next that waits, also at the number of bits and beyond it
next : map (next_from (waiting_of words)) (0 ∷ 63 ∷ 64 ∷ 65 ∷ 255 ∷ 256 ∷ 300 ∷ []) ≡ Some 63 ∷ Some 63 ∷ Some 64 ∷ Some 255 ∷ Some 255 ∷ None ∷ None ∷ []
unfolding bits_of bits_of_all seek
next = refl

-- ---- how many wait, and whether any does

count_words : count_of (waiting_of words) ≡ 3
unfolding bits_of bits_of_all count_of
count_words = refl

any_words : map (λ ws. any_of (waiting_of ws)) (words ∷ (0 ∷ 0 ∷ 0 ∷ 2 ^ 63 ∷ []) ∷ replicate 4 0 ∷ []) ≡ true ∷ true ∷ false ∷ []
unfolding bits_of bits_of_all any_of
any_words = refl
