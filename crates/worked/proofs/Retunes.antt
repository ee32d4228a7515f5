-- Retuned segments, computed: document 02, One. Each line says which sentence it shows and which nearby reading it shuts out; the numbers
-- are those of a model written from the documents alone, apart from these definitions. What a retune is refused for stands in `Refusals`. Assumes nothing.
use Rattle.property.proofs.Tables.{Said, each}
use Rattle.property.proofs.Basics.{◌≡◌, refl, List, [], ◌∷◌, ◌++◌, ℕ}
use Rattle.property.specs.Property.{M}
use Rattle.graph.specs.Refusal.{refused, Outcome}
use Rattle.graph.specs.Edge.{edge}
use Rattle.network.specs.Network.{Memory}
use Rattle.network.specs.Change.{Change}
use Rattle.network.specs.Batch.{Report}
use Rattle.network.specs.Current.{current}
use Rattle.worked.specs.Starred.{graph_a, takes, adds}
use Rattle.worked.proofs.Calls.{calls}
use Rattle.worked.proofs.Refusals.{retunes}
use Rattle.worked.proofs.Examples.{graph0, forward_of0, leaves, swept, report, batch_on_a, same_pairs, reply_to}

-- ---- what a batch leaves in lent memory

-- forward rows of landmark 0 with these words for time, headroom and worst stretch; handovers and reach are those of deck A
abbrev pub side_of : List ℕ → List ℕ → List ℕ → List ℕ
side_of t h w = t ++ (0 ∷ 1 ∷ 2 ∷ 1 ∷ []) ++ h ++ w ++ (1 ∷ 1 ∷ 1 ∷ 1 ∷ [])

abbrev batches : List (List (List Change) × Outcome Report Memory)
batches =
    -- 0→1 from 4 to 3, "removed only for properties where it got worse": for headroom alone, where 1 and 2 are affected. "added only where it
    -- got better": two stores for time and one for worst stretch. "a batch's net effect" is that of its tables: a take and an add leave what the
    -- retune leaves
    (
      (retunes 0 1 3 4 ∷ []) ∷ (takes 0 1 4 ∷ adds 0 1 3 ∷ []) ∷ [],
      same_pairs (report 5 2 5) (3 ∷ 9 ∷ 4 ∷ 4 ∷ 2 ∷ []) (side_of (0 ∷ 3 ∷ 7 ∷ 9 ∷ []) (M ∷ 3 ∷ 3 ∷ 9 ∷ []) (0 ∷ 3 ∷ 4 ∷ 9 ∷ [])),
    )
    -- from 4 to 5, "more is worse for time and worst stretch": 1 and 2 are affected in both; headroom of 1 gets better, 2 has 4 by 1→2
    ∷ (
      (retunes 0 1 5 4 ∷ []) ∷ [],
      same_pairs (report 5 4 5) (5 ∷ 9 ∷ 4 ∷ 4 ∷ 2 ∷ []) (side_of (0 ∷ 5 ∷ 9 ∷ 9 ∷ []) (M ∷ 5 ∷ 4 ∷ 9 ∷ []) (0 ∷ 5 ∷ 5 ∷ 9 ∷ [])),
    )
    -- "its own present figure changes nothing", at once or in the end; records past the count become zero all the same
    ∷ ((retunes 0 1 4 4 ∷ []) ∷ (retunes 0 1 9 4 ∷ retunes 0 1 4 9 ∷ []) ∷ [], same_pairs (report 5 0 0) (4 ∷ 9 ∷ 4 ∷ 4 ∷ 2 ∷ []) forward_of0)
    -- 3→2 is tight for handovers and reach alone, which see no change: with 1 it gives 2 no better time or worst stretch, with 9 a headroom
    -- of 9
    ∷ ((retunes 3 2 1 2 ∷ []) ∷ [], same_pairs (report 5 0 0) (4 ∷ 9 ∷ 4 ∷ 4 ∷ 1 ∷ []) forward_of0)
    ∷ (
      (retunes 3 2 9 2 ∷ []) ∷ [],
      same_pairs (report 5 0 1) (4 ∷ 9 ∷ 4 ∷ 4 ∷ 9 ∷ []) (side_of (0 ∷ 4 ∷ 8 ∷ 9 ∷ []) (M ∷ 4 ∷ 9 ∷ 9 ∷ []) (0 ∷ 4 ∷ 4 ∷ 9 ∷ [])),
    )
    -- a segment that got better is "not removed", and passes suspicion on by its old figure: for time and worst stretch 2 is affected by
    -- 1→2, which is 3 now
    ∷ (
      (retunes 0 1 5 4 ∷ retunes 1 2 3 4 ∷ []) ∷ [],
      same_pairs (report 5 6 6) (5 ∷ 9 ∷ 3 ∷ 4 ∷ 2 ∷ []) (side_of (0 ∷ 5 ∷ 8 ∷ 9 ∷ []) (M ∷ 5 ∷ 3 ∷ 9 ∷ []) (0 ∷ 5 ∷ 5 ∷ 9 ∷ [])),
    )
    -- a pair that the batch itself adds is added with its last figure: 1, 2 and 3 get a way to 0
    ∷ (
      (adds 1 0 2 ∷ retunes 1 0 7 2 ∷ []) ∷ [],
      record {
        reply = report 6 0 15;
        memory = swept (0 ∷ 0 ∷ 1 ∷ 1 ∷ 2 ∷ 3 ∷ []) (1 ∷ 3 ∷ 0 ∷ 2 ∷ 1 ∷ 2 ∷ []) (4 ∷ 9 ∷ 7 ∷ 4 ∷ 4 ∷ 2 ∷ []) forward_of0
            ((0 ∷ 7 ∷ 11 ∷ 13 ∷ []) ++ (0 ∷ 1 ∷ 2 ∷ 3 ∷ []) ++ (M ∷ 7 ∷ 4 ∷ 2 ∷ []) ++ (0 ∷ 7 ∷ 7 ∷ 7 ∷ []) ++ (1 ∷ 1 ∷ 1 ∷ 1 ∷ []));
      },
    )
    -- "absent gives 11": the reversed pair does not do, and a pair that an earlier item took is gone; no word changes
    ∷ ((retunes 1 0 7 4 ∷ []) ∷ [], leaves (refused 11 0) graph0)
    ∷ ((takes 0 1 4 ∷ retunes 0 1 3 4 ∷ []) ∷ [], leaves (refused 11 1) graph0)
    ∷ []

-- ---- computed

retunes_said : Said (each batch_on_a batches)
unfolding calls
retunes_said = refl

-- "For homeward rows all segments are reversed": with 9, 3→2 is worse for the time and worst stretch of 3, and better for the headroom of 3
-- and 0
backward_said : reply_to 2 (retunes 3 2 9 2 ∷ []) ≡ report 5 2 4
unfolding calls
backward_said = refl

-- "an accepted one sets the figure of the record that it names": accepted; refused as a whole, for 2→0 is not there; accepted, on the pair
-- that came with the first
current_now : current 4 graph_a ((adds 1 0 2 ∷ retunes 0 1 3 4 ∷ []) ∷ (retunes 0 3 1 9 ∷ retunes 2 0 1 4 ∷ []) ∷ (retunes 1 0 7 2 ∷ []) ∷ [])
    ≡ edge 0 1 3 ∷ edge 0 3 9 ∷ edge 1 0 7 ∷ edge 1 2 4 ∷ edge 2 1 4 ∷ edge 3 2 2 ∷ []
unfolding calls
current_now = refl
