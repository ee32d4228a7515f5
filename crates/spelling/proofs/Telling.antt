-- Replies as number and words: what stores into a reply list spell. Assumes nothing.
--
--   set_all ys xs i   == xs after the words ys are stored one by one, from index i on
use Rattle.property.proofs.Basics.{◌≡◌, refl, List, [], ◌∷◌, ℕ, ◌≤◌, zero-add, arith, length, set, sets}
use lib.Seq.{sets-eq}
use Rattle.std.specs.Prelude.{Result, Ok, Err}
use Rattle.graph.specs.declared.refusal.Refusal.{Refusal}
use Rattle.graph.specs.Refusal.{Reply, accepted, refused, replied, over}
use Rattle.graph.specs.Code.{told, reply_of}
use Rattle.spelling.specs.Code.{reply_words, number_of, words_told, Tells}

-- ---- stores one after the other

abbrev pub set_all : List ℕ → List ℕ → ℕ → List ℕ
set_all ys xs i = sets xs i ys

-- from the front on, the stored words stand over the list
pub set_all_over : (ys xs : List ℕ) → length ys ≤ length xs → set_all ys xs 0 ≡ over ys xs
set_all_over ys xs l = rw zero-add at (sets-eq ys xs 0 (omega arith))

-- ---- what is told

module _ {A : Type 0} (f : A → List ℕ) (xs : List ℕ) (l : reply_words ≤ length xs) where
  pub refused_tells : (k i : ℕ) → Tells f (refused k i) k xs (set xs 0 i)
  unfolding number_of words_told
  refused_tells k i = record { number = refl; reply = set_all_over (i ∷ []) xs (omega arith) }

  pub accepted_tells : (a : A) {ys : List ℕ} → ys ≡ over (f a) xs → Tells f (accepted a) 0 xs ys
  unfolding number_of words_told
  accepted_tells a e = record { number = refl; reply = e }

-- the words of an answer are those of what it is in the documents' terms
pub told_by : {A B : Type 0} (f : B → List ℕ) (g : A → B) (r : Result A Refusal) {k : ℕ} {xs ys : List ℕ} → Tells (λ a. f (g a)) (reply_of (λ a. a) r) k xs ys → Tells f (reply_of g r) k xs ys
unfolding number_of words_told reply_of
told_by f g (Ok a) t = record { number = t.number; reply = t.reply }
told_by f g (Err e) t = record { number = t.number; reply = t.reply }

-- a judgement's verdict, as a reply
pub replied_told : (r : Result (Unit {0}) Refusal) → ◌≡◌ {A = Reply (Unit {0})} (replied (told r) tt) (reply_of (λ u. tt) r)
unfolding told replied reply_of
replied_told (Ok u) = refl
replied_told (Err e) = refl
