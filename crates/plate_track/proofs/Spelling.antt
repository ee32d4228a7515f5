-- What a call that tells its reply spells. Assumes nothing.
use Rattle.std.specs.Prelude.{Result}
use Rattle.property.proofs.Basics.{◌≡◌, List, ℕ, ◌<◌, ◌≤◌, length, lt-ltb, le-ltb}
use Rattle.graph.specs.declared.refusal.Refusal.{Refusal}
use Rattle.graph.specs.Refusal.{Reply, Outcome}
use Rattle.graph.specs.Code.{reply_of}
use Rattle.spelling.specs.Code.{reply_words, Tells}
use Rattle.spelling.proofs.Telling.{told_by}
use Rattle.plate_track.specs.Code.{spelled}

module _ {B L : Type 0} (f : B → List ℕ) (xs : List ℕ) (old : L) where
  pub spelled_short : (o : Outcome B L) → length xs < reply_words → record { number = 2; reply = xs; memory = old } ≡ spelled f o old xs
  unfolding spelled
  spelled_short o l = rw (lt-ltb (length xs) reply_words l)

  pub spelled_reply : (r : Reply B) (m : L) {o : Outcome B L} {k : ℕ} {ys : List ℕ} → reply_words ≤ length xs → record { reply = r; memory = m } ≡ o → Tells f r k xs ys → record { number = k; reply = ys; memory = m } ≡ spelled f o old xs
  unfolding spelled
  spelled_reply r m l e t = rw (t.number, t.reply, ← e, le-ltb (length xs) reply_words l)

  -- a reply that the code has as a Result, of answers that g puts in the documents' terms
  pub spelled_told : {A : Type 0} (g : A → B) (r : Result A Refusal) (m : L) {o : Outcome B L} {k : ℕ} {ys : List ℕ} → reply_words ≤ length xs → record { reply = reply_of g r; memory = m } ≡ o
      → Tells (λ a. f (g a)) (reply_of (λ a. a) r) k xs ys → record { number = k; reply = ys; memory = m } ≡ spelled f o old xs
  spelled_told g r m l e t = spelled_reply (reply_of g r) m l e (told_by f g r t)
