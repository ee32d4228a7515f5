-- The state after a line, for any kind of text: a comment, or another line; and how the rest of the text is read after it. Assumes nothing.
use Rattle.std.specs.Prelude as std
use Rattle.property.proofs.Basics.{◌≡◌, refl, sym, ap, ◌∙◌, Bool, true, false, true≢false, cond, List, [], ◌∷◌, Option, none, some, bind, ℕ, ◌+◌, ◌-◌, ◌≤◌, ◌<◌, add-one, arith, eqb, length, take, drop, drop_of_length-le, drop-cons}
use Rattle.property.proofs.Tests.{by_test}
use Rattle.dimacs.specs.Lines.{split}
use Rattle.dimacs.specs.Read.{line_in, comment_of, spoken_by, heard, step, Read, bad, ended, reading}
use Rattle.dimacs.proofs.Reading.{reading_none, reading_some}
use Rattle.scanner.specs.Code.{split_by, in_text}
use Rattle.scanner.specs.Capped.{starts, commented}

-- what is known of an answer, once it is told
pub known : {A B : Type 0} (f : A → B) {r s : A} {o : B} → r ≡ s → f r ≡ o → f s ≡ o
known f q e = ap f (sym q) ∙ e

module _ {A S : Type 0} (parse : List ℕ → Option A) (act : S → A → Option S) (complete : S → Bool) where
  comment_heard : (st : S) (s : List ℕ) → bind (comment_of s) (heard parse act complete st) ≡ cond (commented s) (some st) none
  unfolding bind comment_of heard commented
  comment_heard st [] = refl
  comment_heard st (b ∷ s) = by_test (eqb b 32) (λ e. rw e) (λ e. rw e)

  -- h and i say whether the line begins with `c`, and whether it is then a comment
  pub step_comment : (st : S) (l : List ℕ) {h i : Bool} (t : Bool) → h ≡ starts 99 l → i ≡ commented (drop 1 l) → h ≡ true → i ≡ t → cond t (some st) none ≡ step parse act complete st l
  unfolding step line_in starts
  step_comment st [] t a b p q = absurd (true≢false (sym p ∙ a))
  step_comment st (b ∷ s) t a c p q = rw (sym a ∙ p) (rw (← q, c) (sym (comment_heard st s)))

  spoken_heard : (st : S) (o : Option A) → bind (spoken_by o) (heard parse act complete st) ≡ bind o (act st)
  unfolding bind spoken_by heard
  spoken_heard st none = refl
  spoken_heard st (some a) = refl

  -- o is what the line says, up to what the state does not tell
  pub step_item : (st : S) (l : List ℕ) {h : Bool} {x : Option S} {o p : Option A} → parse [] ≡ none → h ≡ starts 99 l → h ≡ false
      → x ≡ bind o (act st) → o ≡ p → bind p (act st) ≡ bind (parse l) (act st) → x ≡ step parse act complete st l
  unfolding step line_in starts bind
  step_item st [] e a f r u v = r ∙ rw (u, v, e)
  step_item st (b ∷ s) e a f r u v = r ∙ rw (u, v, sym a ∙ f) (sym (spoken_heard st (parse (b ∷ s))))

-- ---- a text line by line

-- what is left of the text x from at on, after k lines, in the state s, comes to the answer o
pub record Left {A S : Type 0} (parse : List ℕ → Option A) (act : S → A → Option S) (complete : S → Bool) (x : List ℕ) (at k : ℕ) (s : S) (o : Read S) : Type 0 where
  pub comes : reading parse act complete (split (drop at x)).lines (split (drop at x)).rest k s ≡ o
  pub inside : at ≤ length x
  pub counted : k ≤ at

-- each way in which it goes on or ends there
module _ {A S : Type 0} {parse : List ℕ → Option A} {act : S → A → Option S} {complete : S → Bool} {x : List ℕ} {at k : ℕ} {s : S} {o : Read S} (l : Left parse act complete x at k s o) where
  pub left_end : length x ≤ at → ended parse act complete [] k s ≡ o
  unfolding reading split
  left_end h = rw (drop_of_length-le x h) at l.comes

  -- r says where the line ends
  module _ {r : std.Option ℕ} (feed : (split_by x at r ≡ split (drop at x)) × in_text x at r) where
    parted : {q : std.Option ℕ} → r ≡ q → reading parse act complete (split_by x at q).lines (split_by x at q).rest k s ≡ o
    parted q = rw (← feed.0, q) at l.comes

    pub left_open : at < length x → r ≡ std.None → bad (k + 1) ≡ o
    unfolding reading ended
    left_open h q = rw (drop-cons x at 0 h, ← add-one k) at (parted q)

    -- f is the state after the line, as it is told
    module _ {e : ℕ} (q : r ≡ std.Some e) {B : Type 0} (f : B → Option S) {u v : B} (told : u ≡ v) (stepped : f u ≡ step parse act complete s (take (e - at) (drop at x))) where
      pub left_stop : f v ≡ none → bad (k + 1) ≡ o
      left_stop h = rw add-one (sym (reading_none parse act complete _ _ _ k s (sym (known f told stepped) ∙ h)) ∙ parted q)

      pub left_next : (t : S) → f v ≡ some t → Left parse act complete x (e + 1) (k + 1) t o
      left_next t h =
          let (a, b) = rw q at feed.1 in
          let c = l.counted in
          record { comes = rw (add-one k) (sym (reading_some parse act complete _ _ _ k s t (sym (known f told stepped) ∙ h)) ∙ parted q); inside = omega arith; counted = omega arith }
