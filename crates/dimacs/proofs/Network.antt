-- Network text is an instance of Reading: its items are spelled as lines, no state is a dead end, and the items that lead to a complete state are those of a good
-- text. Assumes nothing.
use Rattle.property.proofs.Basics.{◌≡◌, refl, sym, ap, subst, ◌∙◌, ◌⊎◌, inl, inr, ⊎_elim, ◌↔◌, true, false, not, ◌||◌, false≢true, List, [], ◌∷◌, ◌++◌, map, some, bind, ℕ, zero, suc, ◌+◌, ◌-◌, ◌≤◌, ◌<◌, arith, leb, ltb, eqb, length, lt-ltb, le-leb, ltb-true, ltb-false, leb-true, eqb-true, eqb-false, eq-eqb, not-true}
use Rattle.property.proofs.Tests.{by_test}
use Rattle.graph.specs.Limits.{max_vertices, max_edges}
use Rattle.graph.specs.Edge.{Edge, edge, among}
use Rattle.graph.specs.Table.{is_edge, table_order, insert}
use Rattle.graph.proofs.Tests.{both, and_true, or_right}
use Rattle.graph.proofs.Sorted.{length_insert}
use Rattle.graph.proofs.Gather.{into, length_sorted, Fresh, fresh_insert, insert_fresh, fresh_none}
use Rattle.graph.proofs.Order.{table_ordered, edge_facts}
use Rattle.dimacs.proofs.Options.{none_some, some_same, bind_cond}
use Rattle.dimacs.proofs.Fields.{plain_fields, marked_fields, either_spells}
use Rattle.dimacs.proofs.Reading.{acts, acts_some, speaks, Ends, ends_more, Spelling, NoDeadEnd, accepts, accepted}
use Rattle.dimacs.proofs.Count.{unused}
use Rattle.dimacs.specs.Lines.{plain, fields_of, Spelled}
use Rattle.dimacs.specs.Read.{after, good}
use Rattle.dimacs.specs.Network.{Item, problem, arc, problem_mark, arc_mark, item_of, Distinct, Edges, sorted, problem_from, arc_of, arc_from, or_else, item_in, State, start, within, opens, takes, act, complete, Good, IsGood, read_network}

-- ---- lines

item_reads : (x : Item) → item_in (item_of x) ≡ some x
unfolding item_in item_of
item_reads (problem n m) = rw (marked_fields problem_mark (n ∷ m ∷ []) problem_from) (unfold problem_from or_else in refl)
item_reads (arc e) = rw (marked_fields arc_mark (suc e.tail ∷ suc e.head ∷ e.weight ∷ []) arc_from) (unfold after bind or_else arc_from arc_of in refl)

problem_spells : (vs : List ℕ) (x : Item) → problem_from vs ≡ some x → problem_mark ++ fields_of vs ≡ item_of x
unfolding problem_from item_of
problem_spells [] x h = absurd (none_some h)
problem_spells (n ∷ []) x h = absurd (none_some h)
problem_spells (n ∷ m ∷ []) x h = let w : problem n m ≡ x = some_same h in rw (← w)
problem_spells (n ∷ m ∷ k ∷ ks) x h = absurd (none_some h)

arc_of_spells : (t h w : ℕ) (x : Item) → arc_of t h w ≡ some x → arc_mark ++ fields_of (t ∷ h ∷ w ∷ []) ≡ item_of x
unfolding arc_of item_of
arc_of_spells zero h w x e = absurd (none_some e)
arc_of_spells (suc t) zero w x e = absurd (none_some e)
arc_of_spells (suc t) (suc h) w x e = let z : arc (edge t h w) ≡ x = some_same e in rw (← z)

arc_spells : (vs : List ℕ) (x : Item) → arc_from vs ≡ some x → arc_mark ++ fields_of vs ≡ item_of x
unfolding arc_from
arc_spells [] x h = absurd (none_some h)
arc_spells (a ∷ []) x h = absurd (none_some h)
arc_spells (a ∷ b ∷ []) x h = absurd (none_some h)
arc_spells (a ∷ b ∷ c ∷ []) x h = arc_of_spells a b c x h
arc_spells (a ∷ b ∷ c ∷ d ∷ ds) x h = absurd (none_some h)

item_spells : (l : List ℕ) (x : Item) → item_in l ≡ some x → l ≡ item_of x
unfolding item_in
item_spells l x h = either_spells item_of problem_mark 2 problem_from problem_spells arc_mark 3 arc_from arc_spells l x h

item_speaks : (x : Item) → speaks (item_of x) ≡ true
unfolding item_of speaks
item_speaks (problem n m) = refl
item_speaks (arc e) = refl

item_plain : (x : Item) → plain (item_of x) ≡ true
unfolding item_of plain
item_plain (problem n m) = plain_fields (n ∷ m ∷ [])
item_plain (arc e) = plain_fields (suc e.tail ∷ suc e.head ∷ e.weight ∷ [])

pub network_spelling : Spelling item_of item_in
network_spelling = record { reads_spelled = item_reads; spells_read = item_spells; no_comment = item_speaks; one_line = item_plain }

-- ---- what a state takes

pub opens_when : (n m : ℕ) → (opens n m ≡ true) ↔ ((0 < n) × (n ≤ max_vertices) × (m ≤ max_edges) × (0 < m → 1 < n))
unfolding opens
opens_when n m = (forth, back)
  where
    forth : opens n m ≡ true → (0 < n) × (n ≤ max_vertices) × (m ≤ max_edges) × (0 < m → 1 < n)
    forth h =
        let (p, h₁) = both (ltb 0 n) _ h in
        let (q, h₂) = both (leb n max_vertices) _ h₁ in
        let (r, s) = both (leb m max_edges) _ h₂ in (
          ltb-true _ _ p,
          leb-true _ _ q,
          leb-true _ _ r,
          λ l. by_test (ltb 1 n) (ltb-true 1 n) (λ z. absurd (
              let one : n ≡ 1 = omega (arith, ltb-true 0 n p, ltb-false 1 n z) in
              let none : m ≡ 0 = eqb-true m 0 (rw one at s) in
              omega arith)),
        )

    back : (0 < n) × (n ≤ max_vertices) × (m ≤ max_edges) × (0 < m → 1 < n) → opens n m ≡ true
    back (p, q, r, s) =
        and_true (lt-ltb 0 n p) (and_true (le-leb n max_vertices q) (and_true (le-leb m max_edges r)
        (by_test (eqb m 0) (or_right (ltb 1 n)) (λ z. let d = eqb-false m 0 z in ap (λ b. b || eqb m 0) (lt-ltb 1 n (s (omega arith)))))))

pub takes_when : (n m : ℕ) (es : List Edge) (e : Edge) → (takes n m es e ≡ true) ↔ ((length es < m) × (is_edge n e ≡ true) × (among es e ≡ false))
unfolding takes
takes_when n m es e = (forth, λ (p, q, r). and_true (lt-ltb (length es) m p) (and_true q (ap not r)))
  where
    forth : takes n m es e ≡ true → (length es < m) × (is_edge n e ≡ true) × (among es e ≡ false)
    forth h =
        let (p, q) = both (ltb (length es) m) _ h in
        let (r, s) = both (is_edge n e) _ q in
        (ltb-true _ _ p, r, not-true _ s)

act_opens : (n m : ℕ) → 0 < n → n ≤ max_vertices → m ≤ max_edges → (0 < m → 1 < n) → act start (problem n m) ≡ some (within n m [])
unfolding act
act_opens n m p q r s = rw ((opens_when n m).1 (p, q, r, s))

act_takes : (n m : ℕ) (es : List Edge) (e : Edge) → length es < m → is_edge n e ≡ true → among es e ≡ false → act (within n m es) (arc e) ≡ some (within n m (insert e es))
unfolding act
act_takes n m es e p q r = rw ((takes_when n m es e).1 (p, q, r))

-- ---- items after the p line

-- edges that keep the rules are all taken
arcs_taken : (n m : ℕ) (es fs : List Edge) → Edges n fs → Fresh table_order es fs → Distinct fs → length es + length fs ≤ m → acts act (within n m es) (map arc fs) ≡ some (within n m (into table_order es fs))
unfolding acts
arcs_taken n m es [] a f d h = refl
arcs_taken n m es (e ∷ fs) a f d h =
    acts_some act (within n m es) (arc e) (within n m (insert e es)) (act_takes n m es e (omega arith) a.0 f.0) (map arc fs)
    ∙ arcs_taken n m (insert e es) fs a.1 (fresh_insert table_ordered e es fs f.1 d.0) d.1 (omega (arith, length_insert table_order e es))

-- and what is taken keeps them: the items xs are edges fs, which lead to s
abbrev Taken : ℕ → ℕ → List Edge → List Item → State → Type 0
Taken n m es xs s = (fs : List Edge) × (xs ≡ map arc fs) × Edges n fs × Fresh table_order es fs × Distinct fs × (length es ≤ m → length es + length fs ≤ m) × (s ≡ within n m (into table_order es fs))

taken : (xs : List Item) (n m : ℕ) (es : List Edge) (s : State) → acts act (within n m es) xs ≡ some s → Taken n m es xs s
unfolding acts act bind
taken [] n m es s h = ([], refl, tt, tt, tt, λ z. omega arith, sym (some_same h))
taken (problem v k ∷ xs) n m es s h = absurd (none_some h)
taken (arc e ∷ xs) n m es s h =
    let (b, q) = bind_cond (takes n m es e) (within n m (insert e es)) _ s h in
    let (l, x, y) = (takes_when n m es e).0 b in
    let (fs, i, a, f, d, k, v) = taken xs n m (insert e es) s q in
    let (u, r) = insert_fresh table_ordered e es fs f in
    let g = length_insert table_order e es in
    (e ∷ fs, cc i, (x, a), (y, u), (r, d), λ z. (let j = k (omega arith) in omega arith), v)

-- ---- all items

abbrev Opened : List Item → State → Type 0
Opened xs s = (n : ℕ) × (m : ℕ) × (ys : List Item) × (xs ≡ problem n m ∷ ys) × (opens n m ≡ true) × Taken n m [] ys s

opened : (xs : List Item) (s : State) → acts act start xs ≡ some s → (s ≡ start) ⊎ Opened xs s
unfolding acts act bind
opened [] s h = inl (sym (some_same h))
opened (arc e ∷ xs) s h = absurd (none_some h)
opened (problem n m ∷ xs) s h =
    let (b, q) = bind_cond (opens n m) (within n m []) _ s h in
    inr (n, m, xs, refl, b, taken xs n m [] s q)

-- ---- each state that is reached can be completed

-- M2 is far below 65,535, so that while edges are to come one from vertex 0 to 1 is unused: `a` lines of unused edges follow
fill : (k n m : ℕ) (es : List Edge) → opens n m ≡ true → length es + k ≡ m → Ends act complete (within n m es)
unfolding acts complete
fill zero n m es o h = record { items = []; end = within n m es; reached = refl; completed = eq-eqb (length es) m (omega arith) }
fill (suc k) n m es o h =
    let (a, b, c, d) = (opens_when n m).0 o in
    let (e, p, q) = unused n es (d (omega arith)) (omega arith) in
    ends_more act (within n m es) (arc e) (within n m (insert e es)) (act_takes n m es e (omega arith) p q) (fill k n m (insert e es) o (omega (arith, length_insert table_order e es)))

-- before the p line, `p sp 1 0` completes the text
pub network_goes_on : NoDeadEnd act complete start
unfolding acts act opens complete bind
network_goes_on xs s h = ⊎_elim
    (λ q. rw q record { items = problem 1 0 ∷ []; end = within 1 0 []; reached = refl; completed = refl })
    (λ o.
    let (n, m, ys, i, b, (fs, j, a, f, d, k, v)) = o in
    let l = k (omega arith) in
    rw v (fill (m - length fs) n m (into table_order [] fs) b (omega (arith, length_sorted table_order fs))))
    (opened xs s h)

-- ---- the items of a good text, and no others, lead to a complete state

-- an edge has two ends
two_ends : (n : ℕ) (fs : List Edge) → Edges n fs → 0 < length fs → 1 < n
two_ends n [] a l = absurd (omega arith)
two_ends n (e ∷ fs) a l =
    let s = edge_facts n e a.0 in
    let d : e.tail ≡ e.head → ⊥ = s.no_loop in
    omega (arith, s.tail_below, s.head_below)

good_acts : (n : ℕ) (fs : List Edge) → 0 < n → n ≤ max_vertices → length fs ≤ max_edges → Edges n fs → Distinct fs
    → acts act start (problem n (length fs) ∷ map arc fs) ≡ some (within n (length fs) (sorted fs))
good_acts n fs p q r a d =
    acts_some act start (problem n (length fs)) (within n (length fs) []) (act_opens n (length fs) p q r (two_ends n fs a)) (map arc fs)
    ∙ arcs_taken n (length fs) [] fs a (fresh_none table_order fs) d (omega arith)

pub good_read : (text : List ℕ) (n : ℕ) (es : List Edge) → Good text n es → read_network text ≡ good (within n (length es) es)
unfolding read_network complete
good_read text n es g =
    let l : length g.arcs ≡ length es = sym (length_sorted table_order g.arcs) ∙ ap length (sym g.table) in
    accepts network_spelling act complete start (within n (length es) es) g.spelled
    (good_acts n g.arcs g.some_vertex g.vertices g.few g.edges g.distinct
    ∙ rw (← g.table, l))
    (eq-eqb (length es) (length es) refl)

-- what an accepted text says
opened_good : (text : List ℕ) (xs : List Item) (s : State) → Spelled item_of text xs → Opened xs s → complete s ≡ true → (n : ℕ) × (es : List Edge) × (s ≡ within n (length es) es) × Good text n es
unfolding complete
opened_good text xs s d (n, m, ys, i, b, (fs, j, a, f, e, k, v)) c =
    let (x, y, z, w) = (opens_when n m).0 b in
    let l : length (sorted fs) ≡ m = eqb-true _ _ (rw v at c) in
    let q : m ≡ length fs = sym l ∙ length_sorted table_order fs in (
      n,
      sorted fs,
      v ∙ rw l,
      record { arcs = fs; spelled = subst (λ (zs : List Item). Spelled item_of text zs) (i ∙ rw (j, q)) d; some_vertex = x; vertices = y; few = omega arith; edges = a; distinct = e; table = refl },
    )

pub read_good : (text : List ℕ) (s : State) → read_network text ≡ good s → (n : ℕ) × (es : List Edge) × (s ≡ within n (length es) es) × Good text n es
unfolding read_network complete
read_good text s h =
    let (xs, d, p, c) = accepted network_spelling act complete start text s h in
    ⊎_elim (λ q. absurd (false≢true (rw q at c))) (λ o. opened_good text xs s d o c) (opened xs s p)

pub read_is_good : (text : List ℕ) (s : State) → read_network text ≡ good s → IsGood text
read_is_good text s h = let (n, es, p, g) = read_good text s h in (n, es, g)
