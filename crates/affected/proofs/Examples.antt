-- Affected vertices of small networks, computed: document 01, "Near the edges, and a small deck"; document 02, One, Three and Five. Assumes
-- nothing.
use Rattle.property.proofs.Tables.{Said}
use Rattle.property.proofs.Basics.{◌≡◌, refl, Bool, true, false, List, [], ◌∷◌, map, ℕ, replicate}
use Rattle.property.specs.Property.{M, sssp, bfs, sswp, ssnp, ssr, property}
use Rattle.frontier.specs.Waiting.{count_of}
use Rattle.graph.specs.Edge.{Edge, edge, reverse, exists, keep, keep_if}
use Rattle.graph.specs.Table.{insert, delete, update}
use Rattle.graph.specs.Sorted as order
use Rattle.run.specs.Run.{tight}
use Rattle.affected.specs.Net.{sole, counterpart, removed, added}
use Rattle.affected.specs.Affected.{mark, sweep, hunt, affected}

-- ---- deck A, landmark 0, of which 0→1 is taken

abbrev graph_a : List Edge
graph_a = edge 0 1 4 ∷ edge 0 3 9 ∷ edge 1 2 4 ∷ edge 2 1 4 ∷ edge 3 2 2 ∷ []

abbrev less : List Edge
less = delete (edge 0 1 4) graph_a

abbrev time : List ℕ
time = 0 ∷ 4 ∷ 8 ∷ 9 ∷ []

abbrev widths : List ℕ
widths = M ∷ 4 ∷ 4 ∷ 9 ∷ []

abbrev nobody : List Bool
nobody = false ∷ false ∷ false ∷ false ∷ []

-- 1 and 2
abbrev two : List Bool
two = false ∷ true ∷ true ∷ false ∷ []

abbrev affected_a : List (List Bool × List Bool)
affected_a =
    -- 1 lost the edge that gives its time, and 2 has its own from 1
    (affected sssp graph_a less 0 time 4, two)
    -- the ring 1→2→1 of equal words cannot uphold itself
    ∷ (affected sswp graph_a less 0 widths 4, two)
    -- the backward row: nobody has a way to 0, and the edge that goes was into 0 as that row sees it
    ∷ (affected sssp (map reverse graph_a) (map reverse less) 0 (0 ∷ M ∷ M ∷ M ∷ []) 4, nobody)
    -- taken and added back: the new table has the same three words, so nothing is removed
    ∷ (affected sssp graph_a (insert (edge 0 1 4) less) 0 time 4, nobody)
    -- added back with a weight that is worse for time, as an update does it too: a retune, and the edge that was there is removed ..
    ∷ (affected sssp graph_a (insert (edge 0 1 5) less) 0 time 4, two)
    ∷ (affected sssp graph_a (update (edge 0 1 4) (edge 0 1 5) graph_a) 0 time 4, two)
    -- .. with one that is better it is not, ..
    ∷ (affected sssp graph_a (update (edge 0 1 4) (edge 0 1 3) graph_a) 0 time 4, nobody)
    -- .. but it is for headroom then
    ∷ (affected sswp graph_a (update (edge 0 1 4) (edge 0 1 3) graph_a) 0 widths 4, two)
    -- an edge that is removed without being tight affects nobody
    ∷ (affected sssp graph_a (delete (edge 3 2 2) graph_a) 0 time 4, nobody)
    ∷ []

affected_a_said : Said affected_a
unfolding affected hunt sweep mark count_of counterpart sole keep keep_if exists order.insert order.delete
affected_a_said = refl

-- a bettered edge passes on by its old weight: 1→2 of 2 becomes 1, 0→1 goes, and the time 3 of 2 is affected
passed_on : affected sssp (edge 0 1 1 ∷ edge 1 2 2 ∷ []) (edge 1 2 1 ∷ []) 0 (0 ∷ 1 ∷ 3 ∷ []) 3 ≡ false ∷ true ∷ true ∷ []
unfolding affected hunt sweep mark count_of counterpart sole keep keep_if exists
passed_on = refl

-- ---- whether a retuned pair counts as removed, and as added, for each property

-- 0→1 of weight v becomes one of weight w
counts : ℕ → ℕ → List (Bool × Bool)
counts v w = map (λ p. (removed (property p) (edge 0 1 v ∷ []) (edge 0 1 w ∷ []) (edge 0 1 v), added (property p) (edge 0 1 v ∷ []) (edge 0 1 w ∷ []) (edge 0 1 w)))
    (1 ∷ 2 ∷ 3 ∷ 4 ∷ 5 ∷ [])

counts_more : counts 4 5 ≡ (true, false) ∷ (false, false) ∷ (false, true) ∷ (true, false) ∷ (false, false) ∷ []
unfolding counts property counterpart sole keep keep_if exists
counts_more = refl

counts_less : counts 4 3 ≡ (false, true) ∷ (false, false) ∷ (true, false) ∷ (false, true) ∷ (false, false) ∷ []
unfolding counts property counterpart sole keep keep_if exists
counts_less = refl

counts_own : counts 4 4 ≡ (false, false) ∷ (false, false) ∷ (false, false) ∷ (false, false) ∷ (false, false) ∷ []
unfolding counts property counterpart sole keep keep_if exists
counts_own = refl

-- ---- twins: document 02, Five

-- a fast low track from 0 to 1 and a slow tall one, and one on to 2
abbrev parallel : List Edge
parallel = edge 0 1 2 ∷ edge 0 1 9 ∷ edge 1 2 5 ∷ []

-- which edges of the old table count as removed, and which of the new one as added, for each property
abbrev effect : List Edge → List Edge → List (List Bool × List Bool)
effect es fs = map (λ p. (map (removed (property p) es fs) es, map (added (property p) es fs) fs)) (1 ∷ 2 ∷ 3 ∷ 4 ∷ 5 ∷ [])

-- the same for all five
abbrev plainly : List Bool → List Bool → List (List Bool × List Bool)
plainly gone come = replicate 5 (gone, come)

abbrev effects : List (List (List Bool × List Bool) × List (List Bool × List Bool))
effects =
    -- "just one other old and one other new triple they are a retune", by an add and a take, as by an update; a triple in both tables counts as neither
    (
      effect (edge 0 1 4 ∷ []) (delete (edge 0 1 4) (insert (edge 0 1 7) (edge 0 1 4 ∷ []))),
      (true ∷ [], false ∷ []) ∷ (false ∷ [], false ∷ []) ∷ (false ∷ [], true ∷ []) ∷ (true ∷ [], false ∷ []) ∷ (false ∷ [], false ∷ []) ∷ [],
    )
    ∷ (
      effect (edge 0 1 2 ∷ edge 0 1 4 ∷ []) (update (edge 0 1 4) (edge 0 1 1) (edge 0 1 2 ∷ edge 0 1 4 ∷ [])),
      (false ∷ false ∷ [], true ∷ false ∷ []) ∷ (false ∷ false ∷ [], false ∷ false ∷ []) ∷ (false ∷ true ∷ [], false ∷ false ∷ [])
          ∷ (false ∷ false ∷ [], true ∷ false ∷ []) ∷ (false ∷ false ∷ [], false ∷ false ∷ []) ∷ [],
    )
    -- "else all others are plainly removed or added": one old and two new, two and two, ..
    ∷ (effect (edge 0 1 4 ∷ []) (update (edge 0 1 4) (edge 0 1 9) (insert (edge 0 1 3) (edge 0 1 4 ∷ []))), plainly (true ∷ []) (true ∷ true ∷ []))
    ∷ (effect parallel (update (edge 0 1 9) (edge 0 1 8) (update (edge 0 1 2) (edge 0 1 1) parallel)), plainly (true ∷ true ∷ false ∷ []) (true ∷ true ∷ false ∷ []))
    -- .. and a twin that goes, although the other stays
    ∷ (effect parallel (delete (edge 0 1 9) parallel), plainly (false ∷ true ∷ false ∷ []) (false ∷ false ∷ []))
    -- the figure that another pair has, or the same one the other way round, is no counterpart
    ∷ (effect (edge 0 1 4 ∷ []) (edge 0 2 4 ∷ edge 1 0 4 ∷ []), plainly (true ∷ []) (true ∷ true ∷ []))
    ∷ []

effects_said : Said effects
unfolding property counterpart sole keep keep_if exists order.insert order.delete
effects_said = refl

-- the tall twin goes: 1 and 2 are affected where it was tight, in handovers, headroom and reach; where both get other figures, in all
abbrev affected_parallel : List (List Bool × List Bool)
affected_parallel =
    (affected sssp parallel (delete (edge 0 1 9) parallel) 0 (0 ∷ 2 ∷ 7 ∷ []) 3, false ∷ false ∷ false ∷ [])
    ∷ (affected bfs parallel (delete (edge 0 1 9) parallel) 0 (0 ∷ 1 ∷ 2 ∷ []) 3, false ∷ true ∷ true ∷ [])
    ∷ (affected sswp parallel (delete (edge 0 1 9) parallel) 0 (M ∷ 9 ∷ 5 ∷ []) 3, false ∷ true ∷ true ∷ [])
    ∷ (affected ssnp parallel (delete (edge 0 1 9) parallel) 0 (0 ∷ 2 ∷ 5 ∷ []) 3, false ∷ false ∷ false ∷ [])
    ∷ (affected ssr parallel (delete (edge 0 1 9) parallel) 0 (1 ∷ 1 ∷ 1 ∷ []) 3, false ∷ true ∷ true ∷ [])
    ∷ (affected sssp parallel (edge 0 1 1 ∷ edge 0 1 8 ∷ edge 1 2 5 ∷ []) 0 (0 ∷ 2 ∷ 7 ∷ []) 3, false ∷ true ∷ true ∷ [])
    ∷ (affected ssr parallel (edge 0 1 1 ∷ edge 0 1 8 ∷ edge 1 2 5 ∷ []) 0 (1 ∷ 1 ∷ 1 ∷ []) 3, false ∷ true ∷ true ∷ [])
    ∷ []

affected_parallel_said : Said affected_parallel
unfolding affected hunt sweep mark count_of counterpart sole keep keep_if exists order.delete
affected_parallel_said = refl

-- ---- heads that are never affected

-- going along an edge between two vertices without a route gives the head's word, which is no route; and a tight edge into the landmark
never_tight : tight sssp (0 ∷ M ∷ M ∷ []) (edge 1 2 4) ∷ tight ssr (1 ∷ 1 ∷ []) (edge 1 0 1) ∷ [] ≡ true ∷ true ∷ []
never_tight = refl

abbrev ring : List Edge
ring = edge 0 1 1 ∷ edge 1 0 1 ∷ []

-- the removal of either affects nobody: the one's head has no route, and the other's is the landmark, which has its word from itself
never_taken : affected sssp (edge 1 2 4 ∷ []) [] 0 (0 ∷ M ∷ M ∷ []) 3 ∷ affected ssr ring (delete (edge 1 0 1) ring) 0 (1 ∷ 1 ∷ []) 2 ∷ []
    ≡ (false ∷ false ∷ false ∷ []) ∷ (false ∷ false ∷ []) ∷ []
unfolding affected hunt sweep mark count_of counterpart sole keep keep_if exists order.delete
never_taken = refl

-- ---- two tight edges into a head

abbrev diamond : List Edge
diamond = edge 0 1 1 ∷ edge 0 2 1 ∷ edge 1 3 1 ∷ edge 2 3 1 ∷ []

-- 3 is affected by the removal of 1→3, though 1 is not and 2→3 stays
diamond_taken : affected sssp diamond (delete (edge 1 3 1) diamond) 0 (0 ∷ 1 ∷ 1 ∷ 2 ∷ []) 4 ≡ false ∷ false ∷ false ∷ true ∷ []
unfolding affected hunt sweep mark count_of counterpart sole keep keep_if exists order.delete
diamond_taken = refl

-- ---- passes from last to first: document 02, Three

-- 2→1→0 leads down, and the row of headroom from landmark 2 is 1 1 M: without 2→1 the first pass finds both
abbrev down : List Edge
down = edge 1 0 2 ∷ edge 2 1 1 ∷ []

abbrev cut : List Edge
cut = delete (edge 2 1 1) down

-- the row to landmark 0 goes over 0→1→2, which leads up: without 1→0 the first pass finds 1 alone, the second 2 as well, and a third none
abbrev home : List Edge
home = map reverse down

abbrev left : List Edge
left = map reverse (delete (edge 1 0 2) down)

abbrev after_passes : List (List Bool × List Bool)
after_passes =
    (sweep sswp down cut 2 (1 ∷ 1 ∷ M ∷ []) down (false ∷ false ∷ false ∷ []), true ∷ true ∷ false ∷ [])
    ∷ (sweep sswp home left 0 (M ∷ 2 ∷ 1 ∷ []) home (false ∷ false ∷ false ∷ []), false ∷ true ∷ false ∷ [])
    ∷ (sweep sswp home left 0 (M ∷ 2 ∷ 1 ∷ []) home (false ∷ true ∷ false ∷ []), false ∷ true ∷ true ∷ [])
    ∷ (hunt sswp home left 0 (M ∷ 2 ∷ 1 ∷ []) home 1 (false ∷ false ∷ false ∷ []), false ∷ true ∷ false ∷ [])
    ∷ (hunt sswp home left 0 (M ∷ 2 ∷ 1 ∷ []) home 3 (false ∷ false ∷ false ∷ []), false ∷ true ∷ true ∷ [])
    -- the records in another order, one of them twice: the same in the end, here after one pass
    ∷ (sweep sswp home left 0 (M ∷ 2 ∷ 1 ∷ []) (edge 1 2 1 ∷ edge 0 1 2 ∷ edge 1 2 1 ∷ []) (false ∷ false ∷ false ∷ []), false ∷ true ∷ true ∷ [])
    ∷ []

after_passes_said : Said after_passes
unfolding hunt sweep mark count_of counterpart sole keep keep_if exists order.delete
after_passes_said = refl
