-- What a caller in C gets: a reply as a number and words. Assumes nothing.
--
--   reply_words       == how many words a reply list has at least
--   number_of r       == the refusal number of a reply; 0 where it is accepted
--   words_told f r    == the words of a reply: f of what is answered, or the place of a refusal
--   Tells f r k xs ys == k and ys spell the reply r, where xs was the reply list: words past those of the reply stay
--   open_words        == an opening, like a preview, tells only that it was accepted
--   tally_words       == taken, rounds, stores
--   report_words      == count, affected, stores
--   check_words       == 1 where settled; else 0, side, row, record
--   choice_words      == how many, then the four places
--   chosen_words      == the same of a choice as the code has it
--   size_words        == n and the count of a network that was read
--   one_word          == a single number: where a row starts, how long a text is, how many sources there are, how many vertices a route has
--   digest_words      == gained, lost, better, worse, and the vertex that loses most
use Rattle.std.specs.Prelude.{◌≡◌, List, [], ◌∷◌, ℕ, length}
use Rattle.graph.specs.Refusal.{Reply, accepted, refused, over}
use Rattle.run.specs.Run.{Tally}
use Rattle.network.specs.Batch.{Report}
use Rattle.network.specs.Settled.{Check, settled, found}
use Rattle.answers.specs.Digest.{Digest}
use Rattle.choice.specs.declared.Choice.{Choice}
use Rattle.choice.specs.Code.{padded}
use Rattle.dimacs.specs.Call.{Size}

abbrev pub reply_words : ℕ
reply_words = 8

-- ---- a reply as number and words

unfoldable pub number_of : {A : Type 0} → Reply A → ℕ
number_of (accepted a) = 0
number_of (refused k i) = k

unfoldable pub words_told : {A : Type 0} → (A → List ℕ) → Reply A → List ℕ
words_told f (accepted a) = f a
words_told f (refused k i) = i ∷ []

pub record Tells {A : Type 0} (f : A → List ℕ) (r : Reply A) (k : ℕ) (xs ys : List ℕ) : Type 0 where
  pub number : k ≡ number_of r
  pub reply : ys ≡ over (words_told f r) xs

-- ---- what is answered, as words

abbrev pub open_words : Unit {0} → List ℕ
open_words t = []

abbrev pub tally_words : Tally → List ℕ
tally_words t = t.taken ∷ t.rounds ∷ t.stores ∷ []

abbrev pub report_words : Report → List ℕ
report_words r = r.count ∷ r.affected ∷ r.stores ∷ []

unfoldable pub check_words : Check → List ℕ
check_words settled = 1 ∷ []
check_words (found side r j) = 0 ∷ side ∷ r ∷ j ∷ []

abbrev pub choice_words : List ℕ → List ℕ
choice_words us = length us ∷ padded us

abbrev pub chosen_words : Choice → List ℕ
chosen_words c = c.count ∷ c.vertices

abbrev pub size_words : Size → List ℕ
size_words s = s.vertices ∷ s.count ∷ []

abbrev pub one_word : ℕ → List ℕ
one_word i = i ∷ []

abbrev pub digest_words : Digest → List ℕ
digest_words d = d.gained ∷ d.lost ∷ d.better ∷ d.worse ∷ d.most ∷ []
