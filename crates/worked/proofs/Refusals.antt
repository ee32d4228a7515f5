-- Refusals, computed: document 01, "Turned back" and "Near the edges"; document 02, One and Five. Each line says which sentence it shows and
-- which nearby reading it shuts out; the numbers are worked out by hand. Assumes nothing.
use Rattle.property.proofs.Tables.{Said, each}
use Rattle.property.proofs.Basics.{refl, List, [], ◌∷◌, ◌++◌, map, ℕ, ◌+◌, ◌/◌, ◌%◌, replicate}
use lib.ListN as list
use Rattle.graph.specs.Refusal.{Verdict, accept, refuse, verdict_of}
use Rattle.graph.specs.Edge.{Edge, edge, range}
use Rattle.network.specs.Network.{Network}
use Rattle.network.specs.Open.{open_call}
use Rattle.network.specs.Query.{query_call}
use Rattle.network.specs.Change.{Change, item, items}
use Rattle.network.specs.Batch.{batch_call}
use Rattle.network.specs.Settled.{settled_call}
use Rattle.network.specs.Choice.{choice_call}
use Rattle.network.specs.Lookup.{lookup_number}
use Rattle.network.specs.Caller.{holding}
use Rattle.worked.specs.Starred.{graph_a, takes, adds}
use Rattle.worked.proofs.Calls.{calls}

-- ---- numbers 1 to 6 of every call, in their order

-- lists of so many words for tails, heads, weights, forward rows and backward rows, and a count; all words are 0
abbrev lists : ℕ → ℕ → ℕ → ℕ → ℕ → ℕ → Network
lists i j k f b m = record {
  memory = record {
    table = record { tails = replicate i 0; heads = replicate j 0; weights = replicate k 0 };
    rows = record { forward = replicate f 0; backward = replicate b 0 };
  };
  count = m;
}

-- no words at all, and a count over the limit
abbrev wordless : Network
wordless = lists 0 0 0 0 0 2049

-- a table just long enough, with rows of so many words
abbrev tabled : ℕ → ℕ → ℕ → Network
tabled f b m = lists 2048 2048 2048 f b m

-- the rows alone
abbrev rowed : ℕ → ℕ → Network
rowed f b = lists 0 0 0 f b 0

-- lists just long enough for one landmark, 4 vertices and no edge
abbrev bare : Network
bare = tabled 20 20 0

abbrev opens : ℕ → List ℕ → Network → Verdict
opens n ls w = verdict_of (open_call n ls w).reply

abbrev asks : ℕ → List ℕ → Network → ℕ → ℕ → List ℕ → ℕ → ℕ → Verdict
asks n ls w p s vs i j =
    verdict_of
    (query_call n ls w (record { property = p; source = s; schedule = vs }) (record { starts = replicate i 0; settled = replicate j 0 })).reply

abbrev pub changes : ℕ → List ℕ → Network → List Change → Verdict
changes n ls w b = verdict_of (batch_call n ls w b).reply

abbrev checks : ℕ → List ℕ → Network → Verdict
checks n ls w = verdict_of (settled_call n ls w)

abbrev chooses : ℕ → Network → ℕ → Verdict
chooses n w k = verdict_of (choice_call n w.memory.table w.count k)

abbrev looks : ℕ → List ℕ → Network → ℕ → ℕ → ℕ → Verdict
looks n ls w side l p = verdict_of (lookup_number n ls w.memory.rows side l p)

-- a change that is bad in every way that a record can be
abbrev pub worst : Change
worst = record { kind = 7; tail = 9; head = 9; weight = 99999; old = 99999 }

-- the opening, a query, a batch and the settled check, all that is their own bad: a query's own lists have k words
abbrev every_call : ℕ → List ℕ → Network → ℕ → List Verdict
every_call n ls w k = opens n ls w ∷ asks n ls w 0 9 (9 ∷ []) k k ∷ changes n ls w (worst ∷ []) ∷ checks n ls w ∷ []

abbrev refusals : List (List Verdict × Verdict)
refusals =
    -- "The lowest number that applies is given": each line mends what the line before was refused for. First those that take a network
    (every_call 0 [] wordless 0 ++ every_call 257 [] wordless 0, refuse 1 0)
    ∷ (every_call 4 [] (lists 2047 2048 2048 0 0 2049) 4 ++ every_call 4 [] (lists 2048 2047 2048 0 0 2049) 4 ++ every_call 4 [] (lists 2048 2048 2047 0 0 2049) 4, refuse 2 0)
    ∷ (every_call 4 [] (tabled 0 0 2049) 4, refuse 3 0)
    ∷ (every_call 4 (0 ∷ []) (tabled 20 20 2049) 4, refuse 4 0)
    -- then none; longer lists are good, and so is n 1
    ∷ (
      opens 4 (0 ∷ []) bare ∷ checks 4 (0 ∷ []) bare ∷ changes 4 (0 ∷ []) bare [] ∷ opens 4 (0 ∷ []) (lists 2049 2050 2051 21 22 0) ∷ opens 1 (0 ∷ []) (tabled 5 5 0) ∷ [],
      accept,
    )
    -- a table's record of zeros is a loop of weight 0: number 4, not 8 or 9
    ∷ (opens 4 (0 ∷ []) (tabled 20 20 1) ∷ [], refuse 4 0)
    -- "the table ascends by tail, head, figure": a record twice, and a twin after a greater one, are 4 at the second; twins in order are good
    ∷ (opens 4 (0 ∷ []) (holding (edge 0 1 4 ∷ edge 0 1 4 ∷ []) (0 ∷ []) 4) ∷ opens 4 (0 ∷ []) (holding (edge 0 1 7 ∷ edge 0 1 4 ∷ []) (0 ∷ []) 4) ∷ [], refuse 4 1)
    ∷ (opens 4 (0 ∷ []) (holding (edge 0 1 4 ∷ edge 0 1 7 ∷ []) (0 ∷ []) 4) ∷ [], accept)
    -- posts: over 4, not a station, repeated; four in any order are good
    ∷ (opens 5 (3 ∷ 1 ∷ 4 ∷ 0 ∷ []) (tabled 100 100 0) ∷ [], accept)
    ∷ (opens 5 (0 ∷ 1 ∷ 2 ∷ 3 ∷ 4 ∷ []) (tabled 125 125 0) ∷ opens 4 (4 ∷ []) bare ∷ opens 4 (1 ∷ 2 ∷ 1 ∷ []) (tabled 60 60 0) ∷ [], refuse 3 0)
    -- row lists are measured with the posts list's real length: five posts with rows for four, one post named twice
    ∷ (opens 5 (0 ∷ 1 ∷ 2 ∷ 3 ∷ 4 ∷ []) (tabled 100 100 0) ∷ opens 4 (1 ∷ 1 ∷ []) bare ∷ [], refuse 2 0)
    ∷ (opens 4 (1 ∷ 1 ∷ []) (tabled 40 40 0) ∷ [], refuse 3 0)
    -- picks over 4,096; a query's own two lists are number 2 as any lent list, before bad posts
    ∷ (asks 4 [] wordless 0 9 (replicate 4097 9) 0 0 ∷ [], refuse 1 0)
    ∷ (asks 4 [] (tabled 0 0 2049) 0 9 (9 ∷ []) 3 4 ∷ asks 4 [] (tabled 0 0 2049) 0 9 (9 ∷ []) 4 3 ∷ [], refuse 2 0)
    ∷ (asks 4 (0 ∷ []) bare 0 9 (9 ∷ []) 4 4 ∷ asks 4 (0 ∷ []) bare 6 9 (9 ∷ []) 4 4 ∷ [], refuse 5 0)
    -- a bad source has place 0, also before a bad pick; a bad pick has its index, and n itself is no station
    ∷ (asks 4 (0 ∷ []) bare 5 4 (3 ∷ 4 ∷ []) 4 4 ∷ [], refuse 6 0)
    ∷ (asks 4 (0 ∷ []) bare 5 3 (3 ∷ 0 ∷ 4 ∷ 9 ∷ []) 4 4 ∷ [], refuse 6 2)
    ∷ (asks 4 (0 ∷ []) bare 5 3 (replicate 4095 3 ++ (4 ∷ [])) 4 4 ∷ [], refuse 6 4095)
    ∷ (asks 4 (0 ∷ []) bare 5 3 (replicate 4096 3) 4 4 ∷ [], accept)
    -- over 1,024 changes; 1 to 4 come before any change is looked at
    ∷ (changes 4 [] wordless (replicate 1025 worst) ∷ [], refuse 1 0)
    ∷ (changes 4 (0 ∷ []) bare (worst ∷ []) ∷ [], refuse 6 0)
    -- post choice: k is number 3, before a bad table; k may be above n
    ∷ (chooses 257 wordless 0 ∷ [], refuse 1 0)
    ∷ (chooses 3 (lists 2048 2047 2048 0 0 2049) 0 ∷ [], refuse 2 0)
    ∷ (chooses 3 (tabled 0 0 2049) 0 ∷ chooses 3 (tabled 0 0 2049) 5 ∷ [], refuse 3 0)
    ∷ (chooses 3 (tabled 0 0 2049) 4 ∷ [], refuse 4 0)
    ∷ (chooses 3 (tabled 0 0 0) 4 ∷ [], accept)
    -- a look-up: both lists are measured, whichever side is asked; a post not in the list is 3, before a bad property or side
    ∷ (looks 0 [] (rowed 0 0) 2 9 6 ∷ [], refuse 1 0)
    ∷ (looks 4 (0 ∷ []) (rowed 19 20) 1 9 6 ∷ looks 4 (0 ∷ []) (rowed 20 19) 0 9 6 ∷ [], refuse 2 0)
    ∷ (looks 4 [] (rowed 0 0) 2 9 6 ∷ looks 4 (0 ∷ []) (rowed 20 20) 2 1 6 ∷ [], refuse 3 0)
    ∷ (looks 4 (0 ∷ []) (rowed 20 20) 0 0 0 ∷ looks 4 (0 ∷ []) (rowed 20 20) 0 0 6 ∷ looks 4 (0 ∷ []) (rowed 20 20) 2 0 5 ∷ [], refuse 5 0)
    ∷ (looks 4 (0 ∷ []) (rowed 20 20) 1 0 5 ∷ [], accept)
    -- n 256 and its last station are good, station 256 is not
    ∷ (looks 256 (255 ∷ []) (rowed 1280 1280) 0 255 1 ∷ [], accept)
    ∷ (looks 256 (256 ∷ []) (rowed 1280 1280) 0 256 1 ∷ [], refuse 3 0)
    ∷ []

-- "a lent list .. is too short": each of the five lists counts in each call that takes a network
abbrev shorts : List (List Network × List Verdict)
shorts = (
  lists 2047 2048 2048 20 20 0 ∷ lists 2048 2047 2048 20 20 0 ∷ lists 2048 2048 2047 20 20 0 ∷ tabled 19 20 0 ∷ tabled 20 19 0 ∷ [],
  replicate 4 (refuse 2 0),
)
    ∷ []

-- ---- the changes of a batch: numbers 6 to 12

abbrev pub change : ℕ → ℕ → ℕ → ℕ → ℕ → Change
change k t h w o = record { kind = k; tail = t; head = h; weight = w; old = o }

-- from the old weight o to the weight w
abbrev pub retunes : ℕ → ℕ → ℕ → ℕ → Change
retunes t h w o = change 3 t h w o

-- changes against deck A; their place is 5
abbrev items_judged : List (List Change × Verdict)
items_judged =
    -- 6: tail or head is n or more, before a bad kind, a loop and a bad figure
    (worst ∷ adds 4 0 1 ∷ adds 0 4 1 ∷ takes 0 4 4 ∷ retunes 4 1 7 4 ∷ [], refuse 6 5)
    -- 7: none of 1 to 3, before a loop and a bad figure
    ∷ (change 0 1 1 65536 9 ∷ change 4 0 1 0 4 ∷ [], refuse 7 5)
    -- 8: tail equals head, before a bad figure; a loop is never there, and that is no 11
    ∷ (adds 1 1 0 ∷ change 2 1 1 0 4 ∷ takes 1 1 4 ∷ retunes 1 1 7 4 ∷ [], refuse 8 5)
    -- 9: a figure is 1 to 65,535, "a take names the figure (9 if outside 1 to 65,535)"; before 10 and 11
    ∷ (adds 0 1 0 ∷ adds 1 0 0 ∷ adds 1 0 65536 ∷ takes 0 1 0 ∷ takes 1 0 0 ∷ takes 0 1 65536 ∷ retunes 0 1 0 4 ∷ retunes 1 0 0 4 ∷ retunes 0 1 65536 4 ∷ [], refuse 9 5)
    -- "the old figure, 1 to 65,535 for kind 3 and 0 otherwise, else 9": also before 10 and 11
    ∷ (change 1 0 1 7 7 ∷ change 1 0 1 4 4 ∷ change 2 0 1 4 4 ∷ change 2 1 0 4 4 ∷ retunes 0 1 7 0 ∷ retunes 1 0 7 0 ∷ retunes 0 1 7 65536 ∷ retunes 0 1 4 0 ∷ [], refuse 9 5)
    ∷ (adds 1 0 65535 ∷ takes 0 1 4 ∷ retunes 0 1 65535 4 ∷ [], accept)
    -- "10 is for an equal triple": a twin is another, and so is the reversed pair
    ∷ (adds 0 1 4 ∷ [], refuse 10 5)
    ∷ (adds 0 1 7 ∷ adds 1 0 4 ∷ [], accept)
    -- "11 for an absent one": the pair with another figure does not do, nor the reversed one
    ∷ (takes 0 1 5 ∷ takes 1 0 4 ∷ retunes 0 1 7 5 ∷ retunes 1 0 7 4 ∷ [], refuse 11 5)
    -- "a new figure that the pair already has is 10, even with the old one absent, unless the two are equal"
    ∷ (retunes 0 1 4 5 ∷ [], refuse 10 5)
    ∷ (retunes 0 1 5 5 ∷ retunes 1 0 4 4 ∷ [], refuse 11 5)
    ∷ (retunes 0 1 4 4 ∷ retunes 0 1 7 4 ∷ [], accept)
    ∷ []

-- 2,048 edges among 256 vertices, in table order: tails 0 to 127, each to the heads 128 to 143
abbrev full_table : List Edge
full_table = map (λ i. edge (i / 16) (128 + i % 16) 1) (range 0 2048)

-- batches against that table
abbrev full_judged : List (List (List Change) × Verdict)
full_judged =
    -- 12: an add when 2,048 are there, of a twin too; a record that is there is 10 first; a take or a retune needs no room
    ((adds 0 1 1 ∷ []) ∷ (adds 0 128 2 ∷ []) ∷ [], refuse 12 0)
    ∷ ((adds 0 128 1 ∷ []) ∷ (retunes 0 128 1 9 ∷ []) ∷ [], refuse 10 0)
    ∷ ((takes 0 1 1 ∷ []) ∷ (takes 0 128 9 ∷ []) ∷ (retunes 0 1 9 1 ∷ []) ∷ [], refuse 11 0)
    ∷ ((takes 0 128 1 ∷ []) ∷ (retunes 0 128 9 1 ∷ []) ∷ [], accept)
    -- "against the table as earlier items left it": a take makes room for one add, an add after it finds its record gone
    ∷ ((takes 0 128 1 ∷ adds 0 1 1 ∷ []) ∷ (takes 0 128 1 ∷ adds 0 128 1 ∷ []) ∷ [], accept)
    ∷ ((takes 0 128 1 ∷ adds 0 1 1 ∷ adds 0 2 1 ∷ []) ∷ [], refuse 12 2)
    ∷ ((adds 0 1 1 ∷ takes 0 128 1 ∷ []) ∷ [], refuse 12 0)
    ∷ []

-- a batch against that table without its last record: there is room for one
abbrev less_judged : List (List (List Change) × Verdict)
less_judged = ((adds 200 0 1 ∷ adds 200 1 1 ∷ []) ∷ (adds 0 128 2 ∷ adds 0 128 3 ∷ []) ∷ [], refuse 12 1) ∷ []

-- batches against deck A
abbrev batches_judged : List (List (List Change) × Verdict)
batches_judged =
    -- "against the table as earlier items left it"; where the new figure is there, the old one is not asked for
    ((adds 1 0 5 ∷ adds 1 0 5 ∷ []) ∷ (retunes 0 1 3 4 ∷ adds 0 1 3 ∷ []) ∷ (adds 0 1 7 ∷ retunes 0 1 7 4 ∷ []) ∷ (adds 0 1 7 ∷ retunes 0 1 7 9 ∷ []) ∷ [], refuse 10 1)
    ∷ ((adds 1 0 5 ∷ takes 1 0 5 ∷ takes 1 0 5 ∷ []) ∷ [], refuse 11 2)
    ∷ ((takes 1 0 5 ∷ adds 1 0 5 ∷ []) ∷ [], refuse 11 0)
    ∷ ((takes 0 1 4 ∷ retunes 0 1 3 4 ∷ []) ∷ (retunes 0 1 3 4 ∷ takes 0 1 4 ∷ []) ∷ (adds 0 1 7 ∷ takes 0 1 5 ∷ []) ∷ [], refuse 11 1)
    ∷ ((adds 1 0 2 ∷ retunes 1 0 7 2 ∷ []) ∷ (adds 1 0 5 ∷ adds 1 0 6 ∷ []) ∷ (adds 0 1 7 ∷ retunes 0 1 9 4 ∷ takes 0 1 7 ∷ []) ∷ [], accept)
    -- "the first item with any of 6 to 12, its lowest number": a later item with a lower number is not heard
    ∷ ((adds 1 0 5 ∷ takes 2 0 1 ∷ worst ∷ []) ∷ [], refuse 11 1)
    -- place is the "index from 0"
    ∷ ((takes 0 1 4 ∷ takes 0 3 9 ∷ takes 1 2 4 ∷ worst ∷ []) ∷ [], refuse 6 3)
    -- no item, no fault
    ∷ ([] ∷ [], accept)
    ∷ []

-- ---- computed

refusals_said : Said (each (λ v. v) refusals)
    × Said (each (λ w. opens 4 (0 ∷ []) w ∷ asks 4 (0 ∷ []) w 1 0 [] 4 4 ∷ changes 4 (0 ∷ []) w [] ∷ checks 4 (0 ∷ []) w ∷ []) shorts)
    × Said (each (item 4 5 graph_a) items_judged) × Said (each (items 256 0 full_table) full_judged) × Said (each (items 256 0 (list.take 2047 full_table)) less_judged) × Said (each (items 4 0 graph_a) batches_judged)
unfolding calls
refusals_said = (refl, refl, refl, refl, refl, refl)
