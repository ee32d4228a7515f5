-- Twin tracks, computed: document 02, Five. Each line says which sentence it shows and which nearby reading it shuts out; the numbers are worked out by
-- hand. What changes are refused for stands in `Refusals`, and the routes of twins in `Routes`. Assumes nothing.
--
--   twinned    == three vertices: 0→1 stands twice, 2 and 9, and 1→2 is 5
--   opened     == that deck with landmark 0, opened
--   reply_on b == the reply to a batch on it
use Rattle.property.proofs.Tables.{Said, each}
use Rattle.property.proofs.Basics.{◌≡◌, refl, List, [], ◌∷◌, ◌++◌, ℕ, set}
use Rattle.property.specs.Property.{M}
use Rattle.graph.specs.Refusal.{Reply, accepted, refused, Outcome}
use Rattle.graph.specs.Edge.{Edge, edge}
use Rattle.network.specs.Network.{Rows, Memory, Network}
use Rattle.network.specs.Change.{Change}
use Rattle.network.specs.Batch.{Report, batch_call}
use Rattle.network.specs.Settled.{Check, settled, found, settled_call}
use Rattle.network.specs.Caller.{holding, opened_network}
use Rattle.network.specs.Current.{current}
use Rattle.worked.specs.Starred.{graph_a, takes, adds}
use Rattle.worked.proofs.Calls.{calls}
use Rattle.worked.proofs.Refusals.{retunes}
use Rattle.worked.proofs.Examples.{graph0, backward_of0, leaves, swept, report, batch_on_a, same_pairs, reply_to}
use Rattle.worked.proofs.Retunes.{side_of}

-- ---- deck A: what a batch leaves in lent memory

-- what a batch leaves that makes 0→1 stand twice, with the weights v and w
abbrev twice : ℕ → ℕ → Reply Report → List ℕ → Outcome Report Memory
twice v w r f = record {
  reply = r;
  memory = swept (0 ∷ 0 ∷ 0 ∷ 1 ∷ 2 ∷ 3 ∷ []) (1 ∷ 1 ∷ 3 ∷ 2 ∷ 1 ∷ 2 ∷ []) (v ∷ w ∷ 9 ∷ 4 ∷ 4 ∷ 2 ∷ []) f backward_of0;
}

abbrev batches : List (List (List Change) × Outcome Report Memory)
batches =
    -- a twin is added: no affected vertex, and the headroom of 1 becomes 7; in time and worst stretch the old one stays the best
    ((adds 0 1 7 ∷ []) ∷ [], twice 4 7 (report 6 0 1) (side_of (0 ∷ 4 ∷ 8 ∷ 9 ∷ []) (M ∷ 7 ∷ 4 ∷ 9 ∷ []) (0 ∷ 4 ∷ 4 ∷ 9 ∷ [])))
    -- "where a pair has just one other old and one other new triple they are a retune", however the batch came to it: removed for time and worst
    -- stretch, where 1 and 2 are affected, and added for headroom
    ∷ (
      (retunes 0 1 7 4 ∷ []) ∷ (adds 0 1 7 ∷ takes 0 1 4 ∷ []) ∷ (takes 0 1 4 ∷ adds 0 1 7 ∷ []) ∷ (adds 0 1 7 ∷ retunes 0 1 9 4 ∷ takes 0 1 9 ∷ []) ∷ [],
      same_pairs (report 5 4 5) (7 ∷ 9 ∷ 4 ∷ 4 ∷ 2 ∷ []) (side_of (0 ∷ 7 ∷ 11 ∷ 9 ∷ []) (M ∷ 7 ∷ 4 ∷ 9 ∷ []) (0 ∷ 7 ∷ 7 ∷ 9 ∷ [])),
    )
    -- one old and two new, "else all others are plainly removed or added": 1 and 2 are affected for each property. Two stores for each, and for headroom one
    -- more: 1 gets 3, then 9
    ∷ ((adds 0 1 3 ∷ retunes 0 1 9 4 ∷ []) ∷ [], twice 3 9 (report 6 10 11) (side_of (0 ∷ 3 ∷ 7 ∷ 9 ∷ []) (M ∷ 9 ∷ 4 ∷ 9 ∷ []) (0 ∷ 3 ∷ 4 ∷ 9 ∷ [])))
    -- "a new figure that the pair already has is 10, even with the old one absent"; a take of another figure is 11. No word changes
    ∷ ((retunes 0 1 4 5 ∷ []) ∷ [], leaves (refused 10 0) graph0)
    ∷ ((takes 0 1 5 ∷ []) ∷ [], leaves (refused 11 0) graph0)
    ∷ []

-- homeward: a twin of 3→2 is quicker than the old one, for time and worst stretch of 3
abbrev backward : List (Reply Report × Reply Report)
backward = (reply_to 2 (adds 3 2 1 ∷ []), report 6 0 2) ∷ []

-- ---- a deck that opens with twins

abbrev twinned : List Edge
twinned = edge 0 1 2 ∷ edge 0 1 9 ∷ edge 1 2 5 ∷ []

abbrev opened : Network
opened = opened_network 3 (0 ∷ []) (holding twinned (0 ∷ []) 3)

-- "The best over all routes now ranges over twins too": time and worst stretch by 2, headroom by 9
abbrev best : Rows
best = record {
  forward = (0 ∷ 2 ∷ 7 ∷ []) ++ (0 ∷ 1 ∷ 2 ∷ []) ++ (M ∷ 9 ∷ 5 ∷ []) ++ (0 ∷ 2 ∷ 5 ∷ []) ++ (1 ∷ 1 ∷ 1 ∷ []);
  backward = (0 ∷ M ∷ M ∷ []) ++ (0 ∷ M ∷ M ∷ []) ++ (M ∷ 0 ∷ 0 ∷ []) ++ (0 ∷ M ∷ M ∷ []) ++ (1 ∷ 0 ∷ 0 ∷ []);
}

abbrev reply_on : List Change → Reply Report
reply_on b = (batch_call 3 (0 ∷ []) opened b).reply

abbrev replies : List (List (List Change) × Reply Report)
replies =
    -- two old and two new: plainly removed and added, 1 and 2 are affected for each property; for headroom 1 gets 1, then 8
    ((retunes 0 1 1 2 ∷ retunes 0 1 8 9 ∷ []) ∷ [], report 3 10 11)
    -- one old and two new, beside a twin that stays: 9 was tight for handovers, headroom and reach
    ∷ ((adds 0 1 5 ∷ retunes 0 1 8 9 ∷ []) ∷ [], report 4 6 8)
    -- "triples in both old and new table count as neither": 2 stays, and 9 to 8 is a retune, worse for headroom alone; 2 to 1 is better for time and worst
    -- stretch, and worse for headroom, where 2 was not tight
    ∷ ((retunes 0 1 8 9 ∷ []) ∷ [], report 3 2 3)
    ∷ ((retunes 0 1 1 2 ∷ []) ∷ [], report 3 0 3)
    -- "plainly removed", for handovers and reach too, although a twin stays; not tight are 9 for time and worst stretch, and 2 for headroom
    ∷ ((takes 0 1 9 ∷ []) ∷ [], report 2 6 6)
    ∷ ((takes 0 1 2 ∷ []) ∷ [], report 2 8 8)
    -- a twin that is taken and added again is in both tables
    ∷ ((takes 0 1 9 ∷ adds 0 1 9 ∷ []) ∷ (retunes 0 1 9 9 ∷ []) ∷ [], report 3 0 0)
    ∷ []

-- the settled check names a record, and each twin is one: 1 with headroom 8 could be bettered by the second
abbrev checked : ℕ → ℕ → Reply Check
checked i w = settled_call 3 (0 ∷ []) (record {
  memory = record { table = opened.memory.table; rows = record { forward = set opened.memory.rows.forward i w; backward = opened.memory.rows.backward } };
  count = 3;
})

abbrev checkings : List (Reply Check × Reply Check)
checkings = (checked 7 9, accepted settled) ∷ (checked 7 8, accepted (found 0 2 1)) ∷ (checked 1 3, accepted (found 0 0 0)) ∷ []

-- ---- computed

parallel_said : Said (each batch_on_a batches) × Said backward × Said (each reply_on replies) × Said checkings
unfolding calls
parallel_said = (refl, refl, refl, refl)

opened_best : opened.memory.rows ≡ best
unfolding calls
opened_best = refl

-- "the table ascends by tail, head, figure": twins stand in the order of their figures, wherever they come from; a take strikes the one that it names
current_now : current 4 graph_a ((adds 0 1 9 ∷ adds 0 1 2 ∷ []) ∷ (retunes 0 1 12 4 ∷ []) ∷ (adds 0 1 12 ∷ []) ∷ (takes 0 1 9 ∷ []) ∷ [])
    ≡ edge 0 1 2 ∷ edge 0 1 12 ∷ edge 0 3 9 ∷ edge 1 2 4 ∷ edge 2 1 4 ∷ edge 3 2 2 ∷ []
unfolding calls
current_now = refl
