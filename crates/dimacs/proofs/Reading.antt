-- Reading any text of lines, for every list of bytes. Where items are spelled as lines, the reader accepts exactly the texts whose
-- items lead to a complete state; where also no state is a dead end, it refuses at the place of document 01, number 14.
-- Network text and source files are two instances. Assumes nothing.
--
--   acts act s as        == the state after the items as
--   speaks l             == l is there and is no comment
--   Ends act complete s  == items lead from s to a complete state
--   Spelling spell parse == each item has one spelling, which is one line and no comment, and is read from that alone
--   NoDeadEnd            == each state that is reached can be completed
--   steps s ls           == the state after the lines ls
--   Accepts text         == the reader accepts text
use Rattle.property.proofs.Basics.{◌≡◌, refl, sym, subst, ◌∙◌, Bool, true, false, not, false≢true, List, [], ◌∷◌, ◌++◌, map, Option, none, some, bind, ℕ, suc, ◌+◌, ◌-◌, ◌≤◌, ◌<◌, arith, eqb, length, take, eqb-true, not-true}
use Rattle.property.proofs.Tests.{by_test}
use Rattle.dimacs.proofs.Options.{none_some, some_same, by_option, bind_some}
use Rattle.dimacs.proofs.Split.{Plains, joined_append, split_joined, split_spelled, split_plain, split_lines, plains_append, plains_take}
use Rattle.dimacs.specs.Lines.{joined, split, plain, Line, bare, comment, says, line_of, spoken, Plain, Spelled, Begins, Place}
use Rattle.dimacs.specs.Read.{comment_of, spoken_by, line_in, Read, good, bad, heard, step, ended, reading, read}

-- ---- items

unfoldable pub acts : {A S : Type 0} → (S → A → Option S) → S → List A → Option S
acts act s [] = some s
acts act s (a ∷ as') = bind (act s a) (λ t. acts act t as')

pub spoken_says : {A : Type 0} (as' : List A) → spoken (map says as') ≡ as'
unfolding spoken
spoken_says [] = refl
spoken_says (a ∷ as') = rw (spoken_says as')

pub map_says : {A : Type 0} (f : A → List ℕ) (as' : List A) → map (line_of f) (map says as') ≡ map f as'
unfolding line_of
map_says f [] = refl
map_says f (a ∷ as') = rw (map_says f as')

-- a line that is there and is no comment
unfoldable pub speaks : List ℕ → Bool
speaks [] = false
speaks (b ∷ s) = not (eqb b 99)

pub record Ends {A S : Type 0} (act : S → A → Option S) (complete : S → Bool) (s : S) : Type 0 where
  pub items : List A
  pub end : S
  pub reached : acts act s items ≡ some end
  pub completed : complete end ≡ true

-- one item more at the front
module _ {A S : Type 0} (act : S → A → Option S) (s : S) (a : A) (t : S) (e : act s a ≡ some t) where
  pub acts_some : (as' : List A) → acts act s (a ∷ as') ≡ acts act t as'
  unfolding acts bind
  acts_some as' = rw e

  pub ends_more : {complete : S → Bool} → Ends act complete t → Ends act complete s
  ends_more d = record { items = a ∷ d.items; end = d.end; reached = acts_some d.items ∙ d.reached; completed = d.completed }

-- items spelled as lines
pub record Spelling {A : Type 0} (spell : A → List ℕ) (parse : List ℕ → Option A) : Type 0 where
  -- each item is read from its bytes, and from no others
  pub reads_spelled : (a : A) → parse (spell a) ≡ some a
  pub spells_read : (l : List ℕ) (a : A) → parse l ≡ some a → l ≡ spell a
  -- its bytes are one line and no comment
  pub no_comment : (a : A) → speaks (spell a) ≡ true
  pub one_line : (a : A) → plain (spell a) ≡ true

-- each state that is reached can be completed
abbrev pub NoDeadEnd : {A S : Type 0} → (S → A → Option S) → (S → Bool) → S → Type 0
NoDeadEnd {A} {S} act complete start = (as' : List A) (s : S) → acts act start as' ≡ some s → Ends act complete s

-- ---- one turn of the reader

module _ {A S : Type 0} (parse : List ℕ → Option A) (act : S → A → Option S) (complete : S → Bool) where
  module _ (l : List ℕ) (ls : List (List ℕ)) (r : List ℕ) (k : ℕ) (s : S) where
    pub reading_none : step parse act complete s l ≡ none → reading parse act complete (l ∷ ls) r k s ≡ bad (suc k)
    unfolding reading
    reading_none e = rw (e, reading)

    pub reading_some : (t : S) → step parse act complete s l ≡ some t → reading parse act complete (l ∷ ls) r k s ≡ reading parse act complete ls r (suc k) t
    unfolding reading
    reading_some t e = rw (e, reading)

module _ {A S : Type 0} {spell : A → List ℕ} {parse : List ℕ → Option A} (laws : Spelling spell parse) (act : S → A → Option S) (complete : S → Bool) (start : S) where
  -- ---- one line

  says_in : (l : List ℕ) → speaks l ≡ true → line_in parse l ≡ spoken_by (parse l)
  unfolding speaks line_in
  says_in [] h = absurd (false≢true h)
  says_in (b ∷ s) h = rw (not-true (eqb b 99) h)

  pub line_in_lem : (x : Line A) → line_in parse (line_of spell x) ≡ some x
  unfolding line_of line_in comment_of
  line_in_lem bare = refl
  line_in_lem (comment s) = refl
  line_in_lem (says a) = says_in (spell a) (laws.no_comment a) ∙ rw (laws.reads_spelled a) (unfold spoken_by in refl)

  comment_spells : (s : List ℕ) (x : Line A) → comment_of s ≡ some x → 99 ∷ s ≡ line_of spell x
  unfolding comment_of line_of
  comment_spells [] x h = let w : bare ≡ x = some_same h in rw (← w)
  comment_spells (b ∷ s) x h = by_test (eqb b 32)
      (λ e. let w : comment s ≡ x = some_same (rw e at h) in rw (eqb-true b 32 e, ← w))
      (λ e. absurd (none_some (rw e at h)))

  spoken_spells : (l : List ℕ) (o : Option A) (x : Line A) → parse l ≡ o → spoken_by o ≡ some x → l ≡ line_of spell x
  unfolding spoken_by line_of
  spoken_spells l none x e h = absurd (none_some h)
  spoken_spells l (some a) x e h = let w : says a ≡ x = some_same h in rw (← w) (laws.spells_read l a e)

  pub line_spells : (l : List ℕ) (x : Line A) → line_in parse l ≡ some x → l ≡ line_of spell x
  unfolding line_in
  line_spells [] x h = absurd (none_some h)
  line_spells (b ∷ s) x h = by_test (eqb b 99)
      (λ e. rw (eqb-true b 99 e) (comment_spells s x (rw e at h)))
      (λ e. spoken_spells (b ∷ s) (parse (b ∷ s)) x refl (rw e at h))

  -- ---- several lines

  unfoldable pub steps : S → List (List ℕ) → Option S
  steps s [] = some s
  steps s (l ∷ ls) = bind (step parse act complete s l) (λ t. steps t ls)

  pub steps_append : (ls ms : List (List ℕ)) (s : S) → steps s (ls ++ ms) ≡ bind (steps s ls) (λ t. steps t ms)
  unfolding steps bind
  steps_append [] ms s = refl
  steps_append (l ∷ ls) ms s = by_option (step parse act complete s l) (λ e. rw e) (λ t e. rw e (steps_append ls ms t))

  step_line : (s : S) (x : Line A) → step parse act complete s (line_of spell x) ≡ heard parse act complete s x
  unfolding step
  step_line s x = rw (line_in_lem x) (unfold bind in refl)

  -- comments change nothing, and the others act
  pub steps_lines : (xs : List (Line A)) (s : S) → steps s (map (line_of spell) xs) ≡ acts act s (spoken xs)
  unfolding steps acts spoken heard bind
  steps_lines [] s = refl
  steps_lines (bare ∷ xs) s = rw (step_line s bare) (steps_lines xs s)
  steps_lines (comment c ∷ xs) s = rw (step_line s (comment c)) (steps_lines xs s)
  steps_lines (says a ∷ xs) s = rw (step_line s (says a)) (by_option (act s a) (λ e. rw e) (λ t e. rw e (steps_lines xs t)))

  -- lines that are read to the end say something
  pub steps_said : (ls : List (List ℕ)) (s t : S) → steps s ls ≡ some t → (xs : List (Line A)) × (ls ≡ map (line_of spell) xs)
  unfolding steps step
  steps_said [] s t h = ([], refl)
  steps_said (l ∷ ls) s t h =
      let (u, p, q) = bind_some (step parse act complete s l) _ t h in
      let (x, p₁, q₁) = bind_some (line_in parse l) _ u p in
      let (xs, e) = steps_said ls u t q in
      (x ∷ xs, rw (← line_spells l x p₁, ← e))

  said_acts : (ls : List (List ℕ)) (t : S) → steps start ls ≡ some t → (xs : List (Line A)) × (ls ≡ map (line_of spell) xs) × (acts act start (spoken xs) ≡ some t)
  said_acts ls t h = let (xs, e) = steps_said ls start t h in (xs, e, sym (steps_lines xs start) ∙ rw (← e) h)

  -- ---- the whole text

  good_bad : {s : S} {k : ℕ} → ◌≡◌ {A = Read S} (bad k) (good s) → ⊥
  good_bad h = let z : ◌≡◌ {A = ℕ} 0 1 = cc in omega arith

  ended_good : (r : List ℕ) (k : ℕ) (s t : S) → ended parse act complete r k s ≡ good t → (s ≡ t) × (r ≡ []) × (complete t ≡ true)
  unfolding ended
  ended_good (b ∷ r) k s t h = absurd (good_bad h)
  ended_good [] k s t h = by_test (complete s)
      (λ e. let q : ◌≡◌ {A = Read S} (good s) (good t) = rw e at h in let w : s ≡ t = cc in (w, refl, rw w at e))
      (λ e. absurd (good_bad (rw e at h)))

  -- the reader goes by steps
  reading_good : (ls : List (List ℕ)) (r : List ℕ) (k : ℕ) (s t : S) → reading parse act complete ls r k s ≡ good t
      → (steps s ls ≡ some t) × (r ≡ []) × (complete t ≡ true)
  unfolding reading steps bind
  reading_good [] r k s t h = let (p, q, c) = ended_good r k s t h in (rw p, q, c)
  reading_good (l ∷ ls) r k s t h = by_option (step parse act complete s l)
      (λ e. absurd (good_bad (rw (e, reading) at h)))
      (λ u e. rw e (reading_good ls r (suc k) u t (rw (e, reading) at h)))

  good_reading : (ls : List (List ℕ)) (k : ℕ) (s t : S) → steps s ls ≡ some t → complete t ≡ true → reading parse act complete ls [] k s ≡ good t
  unfolding reading steps ended bind
  good_reading [] k s t h c = let w : s ≡ t = some_same h in rw (w, c)
  good_reading (l ∷ ls) k s t h c = by_option (step parse act complete s l)
      (λ e. absurd (none_some (rw e at h)))
      (λ u e. rw (e, reading) (good_reading ls (suc k) u t (rw e at h) c))

  -- ---- exactly the good texts are accepted

  -- A spelled text splits into its lines, each line says what it was spelled from, and comments change nothing: the reader comes
  -- to the state after the items. The other way round, lines that were all read say something, spell it, and nothing is left.

  pub plains_of : (xs : List (Line A)) → Plain spell xs → Plains (map (line_of spell) xs)
  plains_of [] p = tt
  plains_of (x ∷ xs) p = (p.0, plains_of xs p.1)

  of_plains : (xs : List (Line A)) → Plains (map (line_of spell) xs) → Plain spell xs
  of_plains [] p = tt
  of_plains (x ∷ xs) p = (p.0, of_plains xs p.1)

  -- what a reader says at the end of whole lines that lead to a complete state
  pub read_lines : (ls : List (List ℕ)) (t : S) → Plains ls → steps start ls ≡ some t → complete t ≡ true → read parse act complete start (joined ls) ≡ good t
  unfolding read
  read_lines ls t p h c = rw (split_lines ls p) (good_reading ls 0 start t h c)

  pub accepts : {text : List ℕ} {as' : List A} (t : S) → Spelled spell text as' → acts act start as' ≡ some t → complete t ≡ true → read parse act complete start text ≡ good t
  accepts t d h c = rw d.spells (read_lines (map (line_of spell) d.lines) t (plains_of d.lines d.plains) (steps_lines d.lines start ∙ rw d.speaks h) c)

  pub accepted : (text : List ℕ) (t : S) → read parse act complete start text ≡ good t → (as' : List A) × Spelled spell text as' × (acts act start as' ≡ some t) × (complete t ≡ true)
  unfolding read
  accepted text t h =
      let (p, q, c) = reading_good (split text).lines (split text).rest 0 start t h in
      let (xs, e, a) = said_acts (split text).lines t p in (
        spoken xs,
        record { lines = xs; spells = split_spelled text (map (line_of spell) xs) e q; plains = of_plains xs (subst Plains e (split_plain text)); speaks = refl },
        a,
        c,
      )

  -- ---- the place of a refusal

  abbrev pub Accepts : List ℕ → Type 0
  Accepts text = (t : S) × (read parse act complete start text ≡ good t)

  ended_bad : (r : List ℕ) (k : ℕ) (s : S) (j : ℕ) → ended parse act complete r k s ≡ bad j → j ≡ suc k
  unfolding ended
  ended_bad (b ∷ r) k s j h = cc
  ended_bad [] k s j h = by_test (complete s)
      (λ e. absurd (good_bad (sym (rw e at h))))
      (λ e. let q : ◌≡◌ {A = Read S} (bad (suc k)) (bad j) = rw e at h in cc)

  -- where a reading is refused: after i lines that are read, at the line after them, or at the end
  reading_stops : (ls : List (List ℕ)) (r : List ℕ) (k : ℕ) (s : S) (j : ℕ) → reading parse act complete ls r k s ≡ bad j
      → (i : ℕ) × (j ≡ suc (k + i)) × (i ≤ length ls) × (t : S) × (steps s (take i ls) ≡ some t) × (i < length ls → steps s (take (suc i) ls) ≡ none)
  unfolding reading steps bind
  reading_stops [] r k s j h = (0, omega (arith, ended_bad r k s j h), omega arith, s, refl, λ l. absurd (omega arith))
  reading_stops (l ∷ ls) r k s j h = by_option (step parse act complete s l)
      (λ e. let q : ◌≡◌ {A = Read S} (bad (suc k)) (bad j) = rw (e, reading) at h in let w : suc k ≡ j = cc in (0, omega arith, omega arith, s, refl, λ z. rw e))
      (λ t e. let (i, p, a, u, q, d) = reading_stops ls r (suc k) t j (rw (e, reading) at h) in (suc i, omega arith, omega arith, u, rw e q, λ z. rw e (d (omega arith))))

  plains_spelled : (as' : List A) → Plains (map spell as')
  plains_spelled [] = tt
  plains_spelled (a ∷ as') = (laws.one_line a, plains_spelled as')

  steps_spelled : (as' : List A) (s : S) → steps s (map spell as') ≡ acts act s as'
  unfolding line_of
  steps_spelled as' s = rw (← map_says spell as') (steps_lines (map says as') s ∙ rw (spoken_says as'))

  -- lines that were read can go on to a text that is accepted: the items that complete the state follow
  alive : NoDeadEnd act complete start → (ls : List (List ℕ)) (s : S) → Plains ls → steps start ls ≡ some s → Begins Accepts (joined ls)
  unfolding bind
  alive goes_on ls s p h =
      let (xs, e, a) = said_acts ls s h in
      let d = goes_on (spoken xs) s a in
      let ms = map spell d.items in
      (joined ms, (d.end, rw (← joined_append ls ms) (read_lines (ls ++ ms) d.end (plains_append ls ms p (plains_spelled d.items)) (steps_append ls ms start ∙ rw h (steps_spelled d.items s ∙ d.reached)) d.completed)))

  -- lines of which one was refused cannot
  dead_end : (ls : List (List ℕ)) → Plains ls → steps start ls ≡ none → Begins Accepts (joined ls) → ⊥
  unfolding read bind
  dead_end ls p h (more, (t, g)) =
      let (q, r, c) = reading_good (split (joined ls ++ more)).lines (split (joined ls ++ more)).rest 0 start t g in
      none_some (rw (split_joined ls more p, steps_append ls (split more).lines start, h) at q)

  -- A refusal's place. The lines before it were read, so that they reached a state, from which items go on to a good text.
  -- The line itself has no meaning there, or the state takes it not: whatever follows, the reader stops there too, and it
  -- accepts every good text.
  pub refused : NoDeadEnd act complete start → (text : List ℕ) (k : ℕ) → read parse act complete start text ≡ bad k → Place Accepts text k
  unfolding read
  refused goes_on text k h =
      let ls = (split text).lines in
      let (i, e, l, t, a, d) = reading_stops ls (split text).rest 0 start k h in
      let p = split_plain text in
      let v : k ≡ suc i = omega arith in
      let w : k - 1 ≡ i = omega arith in
      record {
        from_one = omega arith;
        inside = omega arith;
        alive = rw w (alive goes_on (take i ls) t (plains_take i ls p) a);
        dead = λ m b. dead_end (take k ls) (plains_take k ls p) (rw v (d (omega arith))) b;
        not_good = λ g. good_bad (sym h ∙ g.1);
      }
