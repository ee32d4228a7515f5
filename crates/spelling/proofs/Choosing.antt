-- A landmark choice as number and words. Assumes nothing.
use Rattle.std.specs.Prelude.{Result}
use Rattle.property.proofs.Basics.{◌≡◌, sym, List, ◌∷◌, ℕ}
use Rattle.graph.specs.declared.refusal.Refusal.{Refusal}
use Rattle.graph.specs.Refusal.{Reply, accepted, refused}
use Rattle.graph.specs.Code.{reply_of}
use Rattle.choice.specs.declared.Choice.{Choice}
use Rattle.choice.specs.Code.{ChosenWords, words_of, chosen_of, choosing}
use Rattle.spelling.specs.Code.{number_of, words_told, Tells, choice_words, chosen_words}
use Rattle.spelling.proofs.Telling.{told_by}

listed : ChosenWords → List ℕ
listed w = w.count ∷ w.vertices

written : (x : Reply (List ℕ)) {k : ℕ} {xs ys : List ℕ} → Tells listed (chosen_of x) k xs ys → Tells choice_words x k xs ys
unfolding chosen_of number_of words_told listed
written (accepted us) t = record { number = t.number; reply = t.reply }
written (refused j i) t = record { number = t.number; reply = t.reply }

pub choice_tells : (r : Result Choice Refusal) (x : Reply (List ℕ)) {k : ℕ} {xs ys : List ℕ} → choosing r ≡ chosen_of x → Tells chosen_words (reply_of (λ c. c) r) k xs ys → Tells choice_words x k xs ys
unfolding listed
choice_tells r x e t = written x (rw (sym e) (told_by listed words_of r t))
