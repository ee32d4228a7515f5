-- Source files are an instance of Reading: their items are spelled as lines, no state is a dead end where there is a vertex, and
-- the items that lead to a complete state are those of a good file. Assumes nothing.
use Rattle.property.proofs.Basics.{◌≡◌, refl, sym, subst, ◌∙◌, ◌⊎◌, inl, inr, ⊎_elim, true, ◌&&◌, false≢true, List, [], ◌∷◌, ◌++◌, map, append_assoc, append-nil, some, bind, ℕ, zero, suc, ◌+◌, ◌-◌, ◌≤◌, ◌<◌, arith, leb, ltb, length, length-append, lt-ltb, le-leb, ltb-true, leb-true, eqb-true, eq-eqb}
use Rattle.graph.proofs.Tests.{both}
use Rattle.dimacs.proofs.Options.{none_some, some_same, bind_cond}
use Rattle.dimacs.proofs.Fields.{plain_fields, marked_fields, either_spells}
use Rattle.dimacs.proofs.Reading.{acts, acts_some, speaks, Ends, ends_more, Spelling, NoDeadEnd, accepts, accepted}
use Rattle.dimacs.specs.Lines.{plain, fields_of, Spelled}
use Rattle.dimacs.specs.Read.{after, good}
use Rattle.dimacs.specs.Network.{or_else}
use Rattle.dimacs.specs.Sources.{max_sources, Item, header, source, header_mark, source_mark, item_of, Vertices, Good, IsGood, header_from, source_from, item_in, State, start, within, act, complete, read_sources}

-- ---- lines

item_reads : (x : Item) → item_in (item_of x) ≡ some x
unfolding item_in item_of
item_reads (header k) = rw (marked_fields header_mark (k ∷ []) header_from) (unfold header_from or_else in refl)
item_reads (source v) = rw (marked_fields source_mark (suc v ∷ []) source_from) (unfold after bind or_else source_from in refl)

header_spells : (vs : List ℕ) (x : Item) → header_from vs ≡ some x → header_mark ++ fields_of vs ≡ item_of x
unfolding header_from item_of
header_spells [] x h = absurd (none_some h)
header_spells (k ∷ []) x h = let w : header k ≡ x = some_same h in rw (← w)
header_spells (k ∷ a ∷ bs) x h = absurd (none_some h)

source_spells : (vs : List ℕ) (x : Item) → source_from vs ≡ some x → source_mark ++ fields_of vs ≡ item_of x
unfolding source_from item_of
source_spells [] x h = absurd (none_some h)
source_spells (zero ∷ []) x h = absurd (none_some h)
source_spells (suc v ∷ []) x h = let w : source v ≡ x = some_same h in rw (← w)
source_spells (zero ∷ a ∷ bs) x h = absurd (none_some h)
source_spells (suc v ∷ a ∷ bs) x h = absurd (none_some h)

item_spells : (l : List ℕ) (x : Item) → item_in l ≡ some x → l ≡ item_of x
unfolding item_in
item_spells l x h = either_spells item_of header_mark 1 header_from header_spells source_mark 1 source_from source_spells l x h

item_speaks : (x : Item) → speaks (item_of x) ≡ true
unfolding item_of speaks
item_speaks (header k) = refl
item_speaks (source v) = refl

item_plain : (x : Item) → plain (item_of x) ≡ true
unfolding item_of plain
item_plain (header k) = plain_fields (k ∷ [])
item_plain (source v) = plain_fields (suc v ∷ [])

pub sources_spelling : Spelling item_of item_in
sources_spelling = record { reads_spelled = item_reads; spells_read = item_spells; no_comment = item_speaks; one_line = item_plain }

module _ (n : ℕ) where
  -- ---- items after the p line

  act_takes : (k : ℕ) (ss : List ℕ) (v : ℕ) → length ss < k → v < n → act n (within k ss) (source v) ≡ some (within k (ss ++ (v ∷ [])))
  unfolding act
  act_takes k ss v p q = rw (lt-ltb (length ss) k p, lt-ltb v n q)

  sources_taken : (k : ℕ) (ss vs : List ℕ) → Vertices n vs → length ss + length vs ≤ k → acts (act n) (within k ss) (map source vs) ≡ some (within k (ss ++ vs))
  unfolding acts
  sources_taken k ss [] a h = rw append-nil
  sources_taken k ss (v ∷ vs) a h =
      acts_some (act n) (within k ss) (source v) (within k (ss ++ (v ∷ []))) (act_takes k ss v (omega arith) a.0) (map source vs)
      ∙ sources_taken k (ss ++ (v ∷ [])) vs a.1 (omega (arith, length-append ss (v ∷ [])))
      ∙ rw append_assoc

  -- and what is taken is a vertex: the items xs are sources vs, which lead to s
  abbrev Taken : ℕ → List ℕ → List Item → State → Type 0
  Taken k ss xs s = (vs : List ℕ) × (xs ≡ map source vs) × Vertices n vs × (length ss ≤ k → length ss + length vs ≤ k) × (s ≡ within k (ss ++ vs))

  taken : (xs : List Item) (k : ℕ) (ss : List ℕ) (s : State) → acts (act n) (within k ss) xs ≡ some s → Taken k ss xs s
  unfolding acts act bind
  taken [] k ss s h = ([], refl, tt, λ z. omega arith, sym (some_same h) ∙ rw append-nil)
  taken (header j ∷ xs) k ss s h = absurd (none_some h)
  taken (source v ∷ xs) k ss s h =
      let (b, q) = bind_cond (ltb (length ss) k && ltb v n) (within k (ss ++ (v ∷ []))) _ s h in
      let (x, y) = both (ltb (length ss) k) (ltb v n) b in
      let (vs, i, a, f, u) = taken xs k (ss ++ (v ∷ [])) s q in
      let l = ltb-true (length ss) k x in
      let g = length-append ss (v ∷ []) in
      (v ∷ vs, cc i, (ltb-true _ _ y, a), λ z. (let j = f (omega arith) in omega arith), u ∙ rw append_assoc)

  -- ---- all items

  abbrev Opened : List Item → State → Type 0
  Opened xs s = (k : ℕ) × (ys : List Item) × (xs ≡ header k ∷ ys) × (k ≤ max_sources) × Taken k [] ys s

  opened : (xs : List Item) (s : State) → acts (act n) start xs ≡ some s → (s ≡ start) ⊎ Opened xs s
  unfolding acts act bind
  opened [] s h = inl (sym (some_same h))
  opened (source v ∷ xs) s h = absurd (none_some h)
  opened (header k ∷ xs) s h =
      let (b, q) = bind_cond (leb k max_sources) (within k []) _ s h in
      inr (k, xs, refl, leb-true _ _ b, taken xs k [] s q)

  -- ---- each state that is reached can be completed, where there is a vertex: lines `s 1` follow

  fill : (j k : ℕ) (ss : List ℕ) → 0 < n → length ss + j ≡ k → Ends (act n) complete (within k ss)
  unfolding acts complete
  fill zero k ss p h = record { items = []; end = within k ss; reached = refl; completed = eq-eqb (length ss) k (omega arith) }
  fill (suc j) k ss p h = ends_more (act n) (within k ss) (source 0) (within k (ss ++ (0 ∷ []))) (act_takes k ss 0 (omega arith) p) (fill j k (ss ++ (0 ∷ [])) p (omega (arith, length-append ss (0 ∷ []))))

  pub sources_go_on : 0 < n → NoDeadEnd (act n) complete start
  unfolding acts act complete bind
  sources_go_on pos xs s h = ⊎_elim
      (λ q. rw q record { items = header 0 ∷ []; end = within 0 []; reached = refl; completed = refl })
      (λ o.
      let (k, ys, i, m, (vs, j, a, f, u)) = o in
      let l = f (omega arith) in
      rw u (fill (k - length vs) k vs pos (omega arith)))
      (opened xs s h)

  -- ---- the items of a good file, and no others, lead to a complete state

  good_acts : (ss : List ℕ) → length ss ≤ max_sources → Vertices n ss → acts (act n) start (header (length ss) ∷ map source ss) ≡ some (within (length ss) ss)
  unfolding acts act bind
  good_acts ss l a =
      rw (le-leb (length ss) max_sources l) (sources_taken (length ss) [] ss a (omega arith))

  pub good_read : (text ss : List ℕ) → Good n text ss → read_sources n text ≡ good (within (length ss) ss)
  unfolding read_sources complete
  good_read text ss g =
      accepts sources_spelling (act n) complete start (within (length ss) ss) g.spelled (good_acts ss g.few g.vertices) (eq-eqb (length ss) (length ss) refl)

  opened_good : (text : List ℕ) (xs : List Item) (s : State) → Spelled item_of text xs → Opened xs s → complete s ≡ true → (ss : List ℕ) × (s ≡ within (length ss) ss) × Good n text ss
  unfolding complete
  opened_good text xs s d (k, ys, i, m, (vs, j, a, f, u)) c =
      let l : length vs ≡ k = eqb-true _ _ (rw u at c) in
      (vs, u ∙ rw l, record { spelled = subst (λ (zs : List Item). Spelled item_of text zs) (i ∙ rw (j, l)) d; few = omega arith; vertices = a })

  pub read_good : (text : List ℕ) (s : State) → read_sources n text ≡ good s → (ss : List ℕ) × (s ≡ within (length ss) ss) × Good n text ss
  unfolding read_sources complete
  read_good text s h =
      let (xs, d, p, c) = accepted sources_spelling (act n) complete start text s h in
      ⊎_elim (λ q. absurd (false≢true (rw q at c))) (λ o. opened_good text xs s d o c) (opened xs s p)

  pub read_is_good : (text : List ℕ) (s : State) → read_sources n text ≡ good s → IsGood n text
  read_is_good text s h = let (ss, p, g) = read_good text s h in (ss, g)
