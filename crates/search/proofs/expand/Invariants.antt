-- `search::expand` meets its contract. The loop's invariant: the edges that are left, from the search now, come to what all edges of the vertex come
-- to from the search at entry. Assumes nothing.
use Rattle.property.proofs.Basics.{◌≡◌, foldl, ◌-◌, ◌≤◌}
use Rattle.graph.specs.Index.{part}
use Rattle.answers.specs.Routing.{eligible}
use Rattle.search.specs.Search.{look}
use Rattle.search.specs.Code.{search_of, Searching}
use Rattle.search.proofs.expand.Given as goal

abbrev pub invariant-loop-j : goal.invariant-loop-j
invariant-loop-j l =
    (foldl (look (eligible l.p l.row l.v)) (search_of l.m l.queue l.via) (part l.index l.u l.j (l.hi - l.j))
    ≡ foldl (look (eligible l.p l.row l.v)) (search_of l.count l.initial.queue l.initial.via) (part l.index l.u l.lo (l.hi - l.lo)))
    × (l.j ≤ l.hi) × Searching l.m l.queue l.via
