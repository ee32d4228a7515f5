-- The changes of a batch whose words stand in five lists of 1,024, one after the other in one: what is put there is read there. Assumes nothing.
--
--   word_of c j       == word j of a change: kind, tail, head, weight, old weight
--   stored xs i c k  == the five lists in xs after words 0 to k - 1 of c went to place i of the first k
use Rattle.property.proofs.Basics.{◌≡◌, refl, sym, ap, ◌∙◌, List, [], ◌∷◌, ℕ, zero, suc, ◌+◌, ◌*◌, ◌<◌, ◌≤◌, min, zero-add, add-one, arith, length, get_or, set, take, drop, length-map, length-drop, length-set, length-take-le, get_or-map, get_or-set_same, get_or-set_other, get_or-take, get_or-drop, drop-cons, take_all, ltb, eqb, ltb-true, ltb-false, eqb-true, eqb-false}
use Rattle.property.proofs.Tests.{by_test}
use Rattle.graph.specs.Limits.{max_batch}
use Rattle.network.specs.Change.{Change}
use Rattle.items.specs.Code.{change, change_of, changes_of, change_at, Laid, put_change, laid_all}

-- what is read past the last of them
abbrev none : Change
none = change 0 0 0 0 0

-- ---- the words of one change, list after list

abbrev word_of : Change → ℕ → ℕ
word_of c j = get_or (c.kind ∷ c.tail ∷ c.head ∷ c.weight ∷ c.old ∷ []) j 0

abbrev stored : List ℕ → ℕ → Change → ℕ → List ℕ
stored xs i c zero = xs
stored xs i c (suc k) = set (stored xs i c k) (k * max_batch + i) (word_of c k)

module _ (xs : List ℕ) (i : ℕ) (c : Change) (f : i < max_batch) where
  stored_length : (k : ℕ) → length (stored xs i c k) ≡ length xs
  stored_length zero = refl
  stored_length (suc k) = simp (length-set, stored_length k)

  -- at its place each list holds its word, and no other place of any list changes
  stored_there : (k j : ℕ) → j < k → k * max_batch ≤ length xs → get_or (stored xs i c k) (j * max_batch + i) 0 ≡ word_of c j
  stored_there zero j l e = absurd (omega arith)
  stored_there (suc k) j l e = by_test (eqb j k)
      (λ q. rw (eqb-true j k q) (get_or-set_same (stored xs i c k) (k * max_batch + i) (word_of c k) 0 (omega (arith, stored_length k))))
      (λ q. let n = eqb-false j k q in get_or-set_other (stored xs i c k) (k * max_batch + i) (j * max_batch + i) (word_of c k) 0 (λ h. omega arith) ∙ stored_there k j (omega arith) (omega arith))

  stored_elsewhere : (k j m : ℕ) → m < max_batch → (m ≡ i → ⊥) → get_or (stored xs i c k) (j * max_batch + m) 0 ≡ get_or xs (j * max_batch + m) 0
  stored_elsewhere zero j m a n = refl
  stored_elsewhere (suc k) j m a n = get_or-set_other (stored xs i c k) (k * max_batch + i) (j * max_batch + m) (word_of c k) 0 (λ h. n (omega arith)) ∙ stored_elsewhere k j m a n

  stored_all : put_change xs i c ≡ stored xs i c 5
  stored_all = rw (zero-add i)

-- ---- all changes

pub filled_length : (c : ℕ → Change) (xs : List ℕ) (k : ℕ) → length (laid_all c xs k) ≡ length xs
filled_length c xs zero = refl
filled_length c xs (suc k) = simp (length-set, filled_length c xs k)

pub filled_more : (c : ℕ → Change) (xs : List ℕ) (k : ℕ) → put_change (laid_all c xs k) k (c k) ≡ laid_all c xs (k + 1)
filled_more c xs k = sym (ap (laid_all c xs) (add-one k))

module _ (c : ℕ → Change) (xs : List ℕ) (e : length xs ≡ 5 * max_batch) where
  -- the words of change i, below k, are read at place i: the last is put there now, an earlier one is left there
  filled_words : (k : ℕ) → k ≤ max_batch → (j i : ℕ) → j < 5 → i < k → get_or (laid_all c xs k) (j * max_batch + i) 0 ≡ word_of (c i) j
  filled_words zero f j i a b = absurd (omega arith)
  filled_words (suc k) f j i a b =
      let ys = laid_all c xs k in
      let y = filled_length c xs k in
      rw (stored_all ys k (c k) (omega arith))
      (by_test (ltb i k)
      (λ q. let h = ltb-true i k q in stored_elsewhere ys k (c k) (omega arith) 5 j i (omega arith) (λ z. omega arith) ∙ filled_words k (omega arith) j i a h)
      (λ q. let h = ltb-false i k q in let z : i ≡ k = omega arith in rw z (stored_there ys k (c k) (omega arith) 5 j a (omega arith))))

  pub filled_laid : (cs : List Change) (m k : ℕ) → length cs ≡ m → k ≡ min m max_batch → ((i : ℕ) → i < m → c i ≡ get_or cs i none) → {us : List ℕ} → us ≡ laid_all c xs k → Laid m cs us
  filled_laid cs m k l s h q = record {
    size = l;
    words = λ i a b.
        let w : (j : ℕ) → j < 5 → get_or (laid_all c xs k) (j * max_batch + i) 0 ≡ word_of (c i) j = λ j n. filled_words k (omega arith) j i n (omega arith) in
        rw (q, ap (λ (p : ℕ). get_or (laid_all c xs k) p 0) (sym (zero-add i)) ∙ w 0 (omega arith), w 1 (omega arith), w 2 (omega arith), w 3 (omega arith), w 4 (omega arith)) (h i a);
  }

-- the size changes from index from on
module _ (cs : List (List ℕ)) (from size : ℕ) (fits : from + size ≤ length cs) where
  pub part_length : length (take size (drop from (changes_of cs))) ≡ size
  part_length = length-take-le size (drop from (changes_of cs)) (omega (arith, length-drop from (changes_of cs), length-map cs change_of))

  pub part_at : (i : ℕ) → i < size → change_of (get_or cs (from + i) []) ≡ get_or (take size (drop from (changes_of cs))) i none
  part_at i l = sym (get_or-take size (drop from (changes_of cs)) i none l ∙ get_or-drop from (changes_of cs) i none ∙ get_or-map change_of cs (from + i) [])

-- all of them
pub part_all : (cs : List (List ℕ)) (k : ℕ) → length cs ≤ k → take k (drop 0 (changes_of cs)) ≡ changes_of cs
part_all cs k h = take_all k (changes_of cs) (omega (arith, length-map cs change_of))

-- ---- change after change

-- what is left of the changes from index i on is the one at i and the rest
pub laid_more : (k : ℕ) (cs : List Change) (xs : List ℕ) → Laid k cs xs → (i : ℕ) → i < k → i < max_batch → drop i cs ≡ change_at xs i ∷ drop (i + 1) cs
laid_more k cs xs l i h b =
    let z = l.size in
    drop-cons cs i none (omega arith) ∙ rw (← (l.words i h b), add-one)
