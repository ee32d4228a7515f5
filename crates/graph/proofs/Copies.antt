-- Copies of lists of words: what a copy to the front of a list brings, also word by word. Assumes nothing.
use Rattle.property.proofs.Basics.{◌≡◌, refl, ap, ◌∙◌, List, [], ◌∷◌, ◌++◌, ℕ, zero, suc, ◌<◌, ◌≤◌, zero-add, arith, length, set, get_or, take, paste, take_all, length-take-le}
use lib.Seq.{drop-set-lt}
use Rattle.graph.specs.Refusal.{over}

-- ---- copies to the front: of some words, of a whole list, of a list over one as long

pub paste_front : (m : ℕ) (new old : List ℕ) → m ≤ length new → paste old 0 new m ≡ over (take m new) old
paste_front m new old l = rw (zero-add, length-take-le m new l)

pub paste_over : (d s : List ℕ) (k : ℕ) → length s ≡ k → paste d 0 s k ≡ over s d
paste_over d s k e = paste_front k s d (omega arith) ∙ ap (λ (l : List ℕ). over l d) (take_all k s (omega arith))

-- ---- words written to the front, the last one first: those still to be written, over the list as it is, come to the same

over_front : (xs l : List ℕ) (j : ℕ) → j < length xs → j < length l → over (take j xs) (set l j (get_or xs j 0)) ≡ over (take (suc j) xs) l
over_front [] l j a b = absurd (omega arith)
over_front (x ∷ xs) [] j a b = absurd (omega arith)
over_front (x ∷ xs) (y ∷ l) zero a b = refl
over_front (x ∷ xs) (y ∷ l) (suc j) a b = ap (λ (z : List ℕ). x ∷ z) (over_front xs l j (omega arith) (omega arith))

pub over_back_turn : (xs l : List ℕ) (i j x : ℕ) {z : List ℕ} → i ≡ suc j → j < length xs → j < length l → x ≡ get_or xs j 0 → over (take i xs) l ≡ z → over (take j xs) (set l j x) ≡ z
over_back_turn xs l i j x e a b q h = rw q (over_front xs l j a b ∙ (rw e at h))

-- a word below those to be written does not matter
pub over_set : (xs l : List ℕ) (i x : ℕ) → i < length xs → over xs (set l i x) ≡ over xs l
over_set xs l i x h = ap (λ (z : List ℕ). xs ++ z) (drop-set-lt (length xs) l i x h)

pub over_back_start : (xs l : List ℕ) (k : ℕ) → length xs ≤ k → over (take k xs) l ≡ over xs l
over_back_start xs l k h = ap (λ (z : List ℕ). over z l) (take_all k xs h)

pub over_back_done : (xs l : List ℕ) (i : ℕ) {z : List ℕ} → i ≡ 0 → over (take i xs) l ≡ z → l ≡ z
over_back_done xs l i e h = rw e at h
