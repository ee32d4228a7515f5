-- Small calls, computed: document 01, "Network", "Runs", "Turned back" and "Near the edges"; document 02, One and Five. Each line says which sentence it shows and
-- which nearby reading it shuts out; the numbers are worked out by hand. Assumes nothing.
use Rattle.property.proofs.Tables.{Said, each}
use Rattle.property.proofs.Basics.{◌≡◌, refl, List, [], ◌∷◌, ◌++◌, map, ℕ, ◌-◌, ◌%◌, length, replicate, set}
use lib.ListN as list
use Rattle.property.specs.Property.{M}
use Rattle.graph.specs.Refusal.{Verdict, accept, refuse, Reply, accepted, refused, Outcome}
use Rattle.graph.specs.Edge.{Edge, edge, range}
use Rattle.run.specs.Run.{Tally}
use Rattle.network.specs.Network.{Rows, Memory, Network, edges_in}
use Rattle.network.specs.Open.{open_call}
use Rattle.network.specs.Query.{Words, query_call}
use Rattle.network.specs.Change.{Change}
use Rattle.network.specs.Batch.{Report, batch_call}
use Rattle.network.specs.Settled.{Check, settled, found, settled_call}
use Rattle.network.specs.Choice.{choice_call}
use Rattle.network.specs.Lookup.{lookup_row}
use Rattle.network.specs.Caller.{holding, opened_network, lived}
use Rattle.network.specs.Current.{turned_back, current}
use Rattle.worked.specs.Starred.{graph_a, takes, adds}
use Rattle.worked.proofs.Calls.{calls}
use Rattle.worked.proofs.Refusals.{changes, worst, change}

-- ---- what the calls leave in lent memory

-- the lists of a network of deck A with 4 vertices: 2,050 words for each column, those past the count 77; rows as given, and two words
-- past them that are 99
abbrev pub dusty : List ℕ → List ℕ → Network
dusty f b = record {
  memory = record {
    table = record {
      tails = (0 ∷ 0 ∷ 1 ∷ 2 ∷ 3 ∷ []) ++ replicate 2045 77;
      heads = (1 ∷ 3 ∷ 2 ∷ 1 ∷ 2 ∷ []) ++ replicate 2045 77;
      weights = (4 ∷ 9 ∷ 4 ∷ 4 ∷ 2 ∷ []) ++ replicate 2045 77;
    };
    rows = record { forward = f ++ (99 ∷ 99 ∷ []); backward = b ++ (99 ∷ 99 ∷ []) };
  };
  count = 5;
}

-- deck A, landmark 0: "Reading the outward row as homeward" is shut out: 0 has a way to each vertex, and none has a way to 0
abbrev pub forward_of0 : List ℕ
forward_of0 = (0 ∷ 4 ∷ 8 ∷ 9 ∷ []) ++ (0 ∷ 1 ∷ 2 ∷ 1 ∷ []) ++ (M ∷ 4 ∷ 4 ∷ 9 ∷ []) ++ (0 ∷ 4 ∷ 4 ∷ 9 ∷ []) ++ (1 ∷ 1 ∷ 1 ∷ 1 ∷ [])

abbrev pub backward_of0 : List ℕ
backward_of0 = (0 ∷ M ∷ M ∷ M ∷ []) ++ (0 ∷ M ∷ M ∷ M ∷ []) ++ (M ∷ 0 ∷ 0 ∷ 0 ∷ []) ++ (0 ∷ M ∷ M ∷ M ∷ []) ++ (1 ∷ 0 ∷ 0 ∷ 0 ∷ [])

-- deck A, landmark 2
abbrev forward_of2 : List ℕ
forward_of2 = (M ∷ 4 ∷ 0 ∷ M ∷ []) ++ (M ∷ 1 ∷ 0 ∷ M ∷ []) ++ (0 ∷ 4 ∷ M ∷ 0 ∷ []) ++ (M ∷ 4 ∷ 0 ∷ M ∷ []) ++ (0 ∷ 1 ∷ 1 ∷ 0 ∷ [])

abbrev backward_of2 : List ℕ
backward_of2 = (8 ∷ 4 ∷ 0 ∷ 2 ∷ []) ++ (2 ∷ 1 ∷ 0 ∷ 1 ∷ []) ++ (4 ∷ 4 ∷ M ∷ 2 ∷ []) ++ (4 ∷ 4 ∷ 0 ∷ 2 ∷ []) ++ (1 ∷ 1 ∷ 1 ∷ 1 ∷ [])

-- deck A as openings leave it: landmark 0, landmark 2, both
abbrev pub graph0 : Network
graph0 = dusty forward_of0 backward_of0

abbrev graph2 : Network
graph2 = dusty forward_of2 backward_of2

abbrev graph_both : Network
graph_both = dusty (forward_of2 ++ forward_of0) (backward_of2 ++ backward_of0)

-- an outcome that leaves the lists of a network
abbrev pub leaves : {A : Type 0} → Reply A → Network → Outcome A Memory
leaves r w = record { reply = r; memory = w.memory }

abbrev openings : List (Outcome (Unit {0}) Memory × Outcome (Unit {0}) Memory)
openings =
    -- an opening writes the row lists alone: "words past those stay", and so does the table with all that lies past its count
    (open_call 4 (0 ∷ []) (dusty (replicate 20 5) (replicate 20 6)), leaves (accepted tt) graph0)
    -- "rows go by post in list order, then property": landmark 2 comes first where it is listed first
    ∷ (open_call 4 (2 ∷ 0 ∷ []) (dusty (replicate 40 5) (replicate 40 6)), leaves (accepted tt) graph_both)
    -- a refused opening leaves every list: here a landmark is named twice
    ∷ (open_call 4 (0 ∷ 0 ∷ []) (dusty (replicate 40 5) (replicate 40 6)), leaves (refused 3 0) (dusty (replicate 40 5) (replicate 40 6)))
    ∷ []

-- after the take of 0→1: each forward row loses the words of 1 and 2 and finds them by way of 3. Headroom is 2, and not the 4 that the
-- ring 1→2→1 would feed itself; no backward word changes
abbrev forward_taken : List ℕ
forward_taken = (0 ∷ 15 ∷ 11 ∷ 9 ∷ []) ++ (0 ∷ 3 ∷ 2 ∷ 1 ∷ []) ++ (M ∷ 2 ∷ 2 ∷ 9 ∷ []) ++ (0 ∷ 9 ∷ 9 ∷ 9 ∷ []) ++ (1 ∷ 1 ∷ 1 ∷ 1 ∷ [])

-- the lists after a batch: "Records from the new count to 2,047 become zero", words from 2,048 on stay, and so do words past the rows
abbrev pub swept : List ℕ → List ℕ → List ℕ → List ℕ → List ℕ → Memory
swept ts hs ws f b = record {
  table = record {
    tails = ts ++ replicate (2048 - length ts) 0 ++ (77 ∷ 77 ∷ []);
    heads = hs ++ replicate (2048 - length hs) 0 ++ (77 ∷ 77 ∷ []);
    weights = ws ++ replicate (2048 - length ws) 0 ++ (77 ∷ 77 ∷ []);
  };
  rows = record { forward = f ++ (99 ∷ 99 ∷ []); backward = b ++ (99 ∷ 99 ∷ []) };
}

abbrev pub report : ℕ → ℕ → ℕ → Reply Report
report m a s = accepted (record { count = m; affected = a; stores = s })

-- a batch on deck A with landmark 0
abbrev pub batch_on_a : List Change → Outcome Report Memory
batch_on_a b = batch_call 4 (0 ∷ []) graph0 b

-- what a batch leaves that keeps the pairs of deck A: these weights, and these forward rows; no backward word changes
abbrev pub same_pairs : Reply Report → List ℕ → List ℕ → Outcome Report Memory
same_pairs r ws f = record { reply = r; memory = swept (0 ∷ 0 ∷ 1 ∷ 2 ∷ 3 ∷ []) (1 ∷ 3 ∷ 2 ∷ 1 ∷ 2 ∷ []) ws f backward_of0 }

-- batches on deck A, and what they leave
abbrev batches : List (List (List Change) × Outcome Report Memory)
batches =
    -- two affected vertices and two stores in each of five forward rows: "sums suspects and stores over all rows"
    (
      (takes 0 1 4 ∷ []) ∷ [],
      record { reply = report 4 10 10; memory = swept (0 ∷ 1 ∷ 2 ∷ 3 ∷ []) (3 ∷ 2 ∷ 1 ∷ 2 ∷ []) (9 ∷ 4 ∷ 4 ∷ 2 ∷ []) forward_taken backward_of0 },
    )
    -- "An empty batch is accepted": count as before, 0, 0; it zeroes the records past the count all the same. 1,024 changes are good: 0→1 is
    -- taken and added back 512 times; its record stands in both tables, so it is neither removed nor added
    ∷ ([] ∷ map (λ i. change (2 - i % 2) 0 1 4 0) (range 0 1024) ∷ [], same_pairs (report 5 0 0) (4 ∷ 9 ∷ 4 ∷ 4 ∷ 2 ∷ []) forward_of0)
    -- "all or none": the second item is refused, and the first has changed nothing
    ∷ ((takes 0 1 4 ∷ takes 0 1 4 ∷ []) ∷ [], leaves (refused 11 1) graph0)
    ∷ []

-- ---- affected vertices and stores of a batch

-- deck A with one landmark, opened
abbrev pub with_landmark : ℕ → Network
with_landmark l = opened_network 4 (l ∷ []) (holding graph_a (l ∷ []) 4)

abbrev pub reply_to : ℕ → List Change → Reply Report
reply_to l b = (batch_call 4 (l ∷ []) (with_landmark l) b).reply

abbrev reports : List (Reply Report × Reply Report)
reports =
    -- a pair with another figure counts by property (document 02, One): 10 is worse for time and worst stretch, where 1 and 2 are affected, and
    -- better for headroom; handovers and reach see no change. A store for each word that gets better: time gives 1 the word 10, and 2 the
    -- word 14, then 11; headroom gives 1 the word 10; worst gives 1 and 2 first 10, then 9
    (reply_to 0 (takes 0 1 4 ∷ adds 0 1 10 ∷ []), report 5 4 8)
    -- an added edge has no affected vertices; 3→0 gives 3 a way to 0, a store in each backward row and none in a forward one
    ∷ (reply_to 0 (adds 3 0 5 ∷ []), report 6 0 5)
    -- a removed edge that is not tight affects nobody: 3→2 gives 11 for 8, 2 for 4 and 9 for 4; it is tight for handovers, where it
    -- affects 2, and for reach, where "and so on" leads from 2 to 1
    ∷ (reply_to 0 (takes 3 2 2 ∷ []), report 4 3 3)
    -- "For homeward rows all segments are reversed": 1 has lost its only way to 2, and 0 goes by way of 3 now; forward, 1→2 ends in the
    -- landmark and affects nobody
    ∷ (reply_to 2 (takes 1 2 4 ∷ []), report 4 10 5)
    -- "both its ends hold the no-route word": 0→3 has no route at either end in the forward rows of landmark 1, and 3 is not
    -- affected there; the one affected vertex is 0 in the backward row for reach
    ∷ (reply_to 1 (takes 0 3 9 ∷ []), report 4 1 1)
    -- sums go over the rows of all posts: 10 and 10 forward for landmark 0, 5 and 5 backward for landmark 2
    ∷ ((batch_call 4 (2 ∷ 0 ∷ []) graph_both (takes 0 1 4 ∷ [])).reply, report 4 15 15)
    ∷ []

-- ---- queries

-- what a query on deck A leaves: two lists longer than n, whose words past n stay, and the tally: picks taken, rounds, stores
abbrev answer_lists : Words
answer_lists = record { starts = replicate 6 7; settled = replicate 5 8 }

abbrev query : List ℕ → Network → ℕ → ℕ → List ℕ → Outcome Tally Words
query ls w p s vs = query_call 4 ls w (record { property = p; source = s; schedule = vs }) answer_lists

abbrev answer : List ℕ → List ℕ → ℕ → ℕ → ℕ → Outcome Tally Words
answer xs ys k r c = record {
  reply = accepted (record { taken = k; rounds = r; stores = c });
  memory = record { starts = xs ++ (7 ∷ 7 ∷ []); settled = ys ++ (8 ∷ []) };
}

abbrev queries : List (Outcome Tally Words × Outcome Tally Words)
queries =
    -- from the landmark itself: bounds are best values; the round that finds nothing to store counts
    (query (0 ∷ []) graph0 1 0 [], answer (0 ∷ 4 ∷ 8 ∷ 9 ∷ []) (0 ∷ 4 ∷ 8 ∷ 9 ∷ []) 0 1 0)
    -- M + 4 is M: 1 has no way to landmark 0, and a sum that wraps would start 2 and 3 with 7 and 8
    ∷ (query (0 ∷ []) graph0 1 1 [], answer (M ∷ 0 ∷ M ∷ M ∷ []) (M ∷ 0 ∷ 4 ∷ M ∷ []) 0 1 1)
    -- the backward word of 3 is no route: its forward word 9, read in its place, would start 0 with 9 and 1 with 13
    ∷ (query (0 ∷ []) graph0 1 3 [], answer (M ∷ M ∷ M ∷ 0 ∷ []) (M ∷ 6 ∷ 2 ∷ 0 ∷ []) 0 3 2)
    -- headroom: no route is 0, the source has M
    ∷ (query (0 ∷ []) graph0 3 3 [], answer (0 ∷ 0 ∷ 0 ∷ M ∷ []) (0 ∷ 2 ∷ 2 ∷ M ∷ []) 0 3 2)
    -- landmark 2: the way there, 2, joined with the way on, 4: their sum for time, their greater one for worst stretch, their lesser one for headroom
    ∷ (query (2 ∷ []) graph2 1 3 [], answer (M ∷ 6 ∷ 2 ∷ 0 ∷ []) (M ∷ 6 ∷ 2 ∷ 0 ∷ []) 0 1 0)
    ∷ (query (2 ∷ []) graph2 4 3 [], answer (M ∷ 4 ∷ 2 ∷ 0 ∷ []) (M ∷ 4 ∷ 2 ∷ 0 ∷ []) 0 1 0)
    ∷ (query (2 ∷ []) graph2 3 3 [], answer (0 ∷ 2 ∷ 2 ∷ M ∷ []) (0 ∷ 2 ∷ 2 ∷ M ∷ []) 0 1 0)
    -- landmark 2, from 0: the bound for 1 is 8 + 4, and the edge 0→1 betters it; 3 has no bound
    ∷ (query (2 ∷ []) graph2 1 0 [], answer (0 ∷ 12 ∷ 8 ∷ M ∷ []) (0 ∷ 4 ∷ 8 ∷ 9 ∷ []) 0 1 2)
    -- "the best, over all posts", wherever it is listed: landmark 2 is the better one from 3, landmark 0 from 0
    ∷ (query (2 ∷ 0 ∷ []) graph_both 1 3 [], answer (M ∷ 6 ∷ 2 ∷ 0 ∷ []) (M ∷ 6 ∷ 2 ∷ 0 ∷ []) 0 1 0)
    ∷ (query (2 ∷ 0 ∷ []) graph_both 1 0 [], answer (0 ∷ 4 ∷ 8 ∷ 9 ∷ []) (0 ∷ 4 ∷ 8 ∷ 9 ∷ []) 0 1 0)
    -- picks come before rounds: 3, 2, 1 in that order leave nothing to do; 0 does not wait, and 3 alone leaves two rounds
    ∷ (query (0 ∷ []) graph0 1 3 (3 ∷ 2 ∷ 1 ∷ []), answer (M ∷ M ∷ M ∷ 0 ∷ []) (M ∷ 6 ∷ 2 ∷ 0 ∷ []) 3 0 2)
    ∷ (query (0 ∷ []) graph0 1 3 (0 ∷ 3 ∷ 3 ∷ []), answer (M ∷ M ∷ M ∷ 0 ∷ []) (M ∷ 6 ∷ 2 ∷ 0 ∷ []) 1 2 2)
    -- "Standing words may be any words": rows of zeros are not refused; for time they leave words that are too good, for headroom the run mends them
    ∷ (query (0 ∷ []) (holding graph_a (0 ∷ []) 4) 1 0 [], answer (0 ∷ 0 ∷ 0 ∷ 0 ∷ []) (0 ∷ 0 ∷ 0 ∷ 0 ∷ []) 0 1 0)
    ∷ (query (0 ∷ []) (holding graph_a (0 ∷ []) 4) 3 0 [], answer (M ∷ 0 ∷ 0 ∷ 0 ∷ []) (M ∷ 4 ∷ 4 ∷ 9 ∷ []) 0 1 3)
    -- .. and a run may end with an edge that could better a word: 3 never waits, so 2 keeps 8 though 3→2 would give 3
    ∷ (query (0 ∷ []) (dusty (set forward_of0 3 1) backward_of0) 1 0 [], answer (0 ∷ 4 ∷ 8 ∷ 1 ∷ []) (0 ∷ 4 ∷ 8 ∷ 1 ∷ []) 0 1 0)
    -- the source's start word is its value though the landmark rows say 5 + 5
    ∷ (query (0 ∷ []) (dusty (replicate 20 5) (replicate 20 5)) 1 0 [], answer (0 ∷ 10 ∷ 10 ∷ 10 ∷ []) (0 ∷ 4 ∷ 8 ∷ 9 ∷ []) 0 1 3)
    -- "No lent memory changes"
    ∷ (query (0 ∷ []) graph0 6 0 [], record { reply = refused 5 0; memory = answer_lists })
    ∷ (query (0 ∷ []) graph0 1 0 (0 ∷ 4 ∷ []), record { reply = refused 6 1; memory = answer_lists })
    ∷ []

-- ---- the settled check

abbrev checked : List ℕ → List ℕ → List ℕ → Reply Check
checked ls f b = settled_call 4 ls (dusty f b)

abbrev checkings : List (Reply Check × Reply Check)
checkings =
    -- the rows that an opening leaves are settled: an edge that gives a word its equal could not better it
    (checked (0 ∷ []) forward_of0 backward_of0, accepted settled)
    ∷ (checked (2 ∷ []) forward_of2 backward_of2, accepted settled)
    -- forward, row 0 (time): 1 has 5, and record 0 would give it 4
    ∷ (checked (0 ∷ []) (set forward_of0 1 5) backward_of0, accepted (found 0 0 0))
    -- row 1 (handovers): 2 has 3; records 2 and 4 would give it 2, and the first of them is named
    ∷ (checked (0 ∷ []) (set forward_of0 6 3) backward_of0, accepted (found 0 1 2))
    -- row 2 (headroom): a lesser word is the worse one; 3 has 8, and record 1 would give it 9
    ∷ (checked (0 ∷ []) (set forward_of0 11 8) backward_of0, accepted (found 0 2 1))
    -- the second landmark's rows come after the first's five: row 5 is its time row
    ∷ (checked (0 ∷ 2 ∷ []) (forward_of0 ++ set forward_of2 1 5) (backward_of0 ++ backward_of2), accepted (found 0 5 3))
    -- backward alone: side 1; 3 has 7, and 3→2 would give it 2: record 4 of the table, not its place among reversed edges (3)
    ∷ (checked (2 ∷ []) forward_of2 (set backward_of2 3 7), accepted (found 1 0 4))
    -- "in order outward, homeward, then row, then record": a late forward row goes before an early backward one
    ∷ (checked (2 ∷ []) (set forward_of2 17 0) (set backward_of2 3 7), accepted (found 0 4 3))
    -- an early row with a late record goes before a late row with an early record
    ∷ (checked (0 ∷ []) (set (set forward_of0 2 20) 5 9) backward_of0, accepted (found 0 0 2))
    -- "Settled" doesn't say that words aren't too good: 2 has 3 for 8. Where a word that is too good would better another, that edge is named
    ∷ (checked (0 ∷ []) (set forward_of0 2 3) backward_of0, accepted settled)
    ∷ (checked (0 ∷ []) (set forward_of0 3 0) backward_of0, accepted (found 0 0 4))
    -- a call that is refused says nothing of the rows
    ∷ (checked (0 ∷ 0 ∷ []) (forward_of0 ++ forward_of0) (backward_of0 ++ backward_of0), refused 3 0)
    ∷ []

-- ---- post choice

-- on lists of a table that holds the edges es
abbrev chosen : ℕ → List Edge → ℕ → Reply (List ℕ)
chosen n es k = choice_call n (holding es [] 0).memory.table (length es) k

abbrev choices : List (Reply (List ℕ) × Reply (List ℕ))
choices =
    -- deck A has 2, 3, 3, 2 segments in plus out: "most .. first, ties to the lower number, listed in that order"
    (chosen 4 graph_a 1, accepted (1 ∷ []))
    ∷ (chosen 4 graph_a 2, accepted (1 ∷ 2 ∷ []))
    ∷ (chosen 4 graph_a 3, accepted (1 ∷ 2 ∷ 0 ∷ []))
    ∷ (chosen 4 graph_a 4, accepted (1 ∷ 2 ∷ 0 ∷ 3 ∷ []))
    -- segments in alone and segments out alone count alike: 3 has three in, and in the other network three out
    ∷ (chosen 4 (edge 0 3 1 ∷ edge 1 3 1 ∷ edge 2 3 1 ∷ []) 2, accepted (3 ∷ 0 ∷ []))
    ∷ (chosen 4 (edge 3 0 1 ∷ edge 3 1 1 ∷ edge 3 2 1 ∷ []) 2, accepted (3 ∷ 0 ∷ []))
    -- in plus out: 2 has one each way, the others one
    ∷ (chosen 3 (edge 0 2 1 ∷ edge 2 1 1 ∷ []) 3, accepted (2 ∷ 0 ∷ 1 ∷ []))
    -- figures don't count
    ∷ (chosen 4 (edge 0 1 1 ∷ edge 2 3 65535 ∷ []) 4, accepted (0 ∷ 1 ∷ 2 ∷ 3 ∷ []))
    -- each twin counts: 2 and 3 have two each
    ∷ (chosen 4 (edge 0 1 1 ∷ edge 2 3 1 ∷ edge 2 3 9 ∷ []) 4, accepted (2 ∷ 3 ∷ 0 ∷ 1 ∷ []))
    -- "or n if fewer": k above n is good and gives n stations
    ∷ (chosen 3 (edge 1 2 1 ∷ []) 4, accepted (1 ∷ 2 ∷ 0 ∷ []))
    ∷ (chosen 1 [] 4, accepted (0 ∷ []))
    -- a station without segments may be chosen
    ∷ (chosen 5 [] 2, accepted (0 ∷ 1 ∷ []))
    -- k is 1 to 4, however many stations there are
    ∷ (chosen 5 [] 0, refused 3 0)
    ∷ (chosen 5 [] 5, refused 3 0)
    ∷ []

-- ---- row look-up

-- landmarks 2 and 0, in that order; three words past the rows
abbrev rows : Rows
rows = record { forward = forward_of2 ++ forward_of0 ++ (99 ∷ 99 ∷ 99 ∷ []); backward = backward_of2 ++ backward_of0 ++ (98 ∷ 98 ∷ 98 ∷ []) }

-- side, landmark and property
abbrev shown : ℕ → ℕ → ℕ → List ℕ
shown side l p = lookup_row 4 (2 ∷ 0 ∷ []) rows side l p

abbrev lookups : List (List ℕ × List ℕ)
lookups =
    -- the post is named by its station: 2 is the first of the list, 0 the second
    (shown 0 2 1, M ∷ 4 ∷ 0 ∷ M ∷ [])
    ∷ (shown 0 0 1, 0 ∷ 4 ∷ 8 ∷ 9 ∷ [])
    -- "a part of whichever of the two it belongs to": 0 is outward, 1 homeward; A has 0→3 but no way from 3 to 0
    ∷ (shown 1 0 1, 0 ∷ M ∷ M ∷ M ∷ [])
    ∷ (shown 1 2 1, 8 ∷ 4 ∷ 0 ∷ 2 ∷ [])
    -- properties count from 1; the last row ends where the words past the rows begin
    ∷ (shown 0 2 3, 0 ∷ 4 ∷ M ∷ 0 ∷ [])
    ∷ (shown 1 2 4, 4 ∷ 4 ∷ 0 ∷ 2 ∷ [])
    ∷ (shown 0 0 5, 1 ∷ 1 ∷ 1 ∷ 1 ∷ [])
    ∷ (shown 1 0 5, 1 ∷ 0 ∷ 0 ∷ 0 ∷ [])
    -- "A refused look-up shows the empty part": property 0 and 6, side 2, a post not in the list (1 is its index, no station of it)
    ∷ (shown 0 2 0, [])
    ∷ (shown 0 2 6, [])
    ∷ (shown 2 2 1, [])
    ∷ (shown 0 1 1, [])
    ∷ (lookup_row 4 (2 ∷ 2 ∷ []) rows 0 2 1, [])
    ∷ []

-- ---- the network as it is now

-- accepted; refused, for 0→1 is gone; accepted; refused as a whole, though its first change is good; accepted and empty
abbrev history : List (List Change)
history =
    (takes 0 1 4 ∷ [])
    ∷ (takes 0 1 4 ∷ [])
    ∷ (adds 1 0 2 ∷ adds 0 1 3 ∷ [])
    ∷ (takes 0 3 9 ∷ adds 2 2 1 ∷ [])
    ∷ []
    ∷ []

abbrev graph_now : List Edge
graph_now = edge 0 1 3 ∷ edge 0 3 9 ∷ edge 1 0 2 ∷ edge 1 2 4 ∷ edge 2 1 4 ∷ edge 3 2 2 ∷ []

-- "Accepted: item by item .. the list stays in table order. Refused: it stays"
current_now : current 4 graph_a history ≡ graph_now
unfolding calls
current_now = refl

-- "The table's records below the present count are this list, and the count is its length": a refused batch hands on words and count.
-- The time rows of landmark 0 are those of the edges now: from 0 and, by way of the new edge 1→0, to 0
abbrev held : Network → List Edge × ℕ × List ℕ × List ℕ
held w = (edges_in w, w.count, list.take 4 w.memory.rows.forward, list.take 4 w.memory.rows.backward)

lived_now : held (lived 4 (0 ∷ []) (with_landmark 0) history) ≡ (graph_now, 6, 0 ∷ 3 ∷ 7 ∷ 9 ∷ [], 0 ∷ 2 ∷ 6 ∷ 8 ∷ [])
unfolding calls
lived_now = refl

-- "whether "Turned back" accepts the batch": reckoned from the edges alone it is what the call says, number and place
abbrev judged_batches : List (List (List Change) × Verdict)
judged_batches =
    ([] ∷ (takes 0 1 4 ∷ []) ∷ [], accept)
    ∷ ((takes 0 1 4 ∷ takes 0 1 4 ∷ []) ∷ [], refuse 11 1)
    ∷ ((takes 0 1 4 ∷ adds 0 1 4 ∷ worst ∷ []) ∷ [], refuse 6 2)
    ∷ (replicate 1025 worst ∷ [], refuse 1 0)
    ∷ []

-- ---- computed

examples_said : Said openings × Said (each batch_on_a batches) × Said reports × Said queries × Said checkings × Said choices × Said lookups
    × Said (each (turned_back 4 graph_a) judged_batches) × Said (each (changes 4 (0 ∷ []) (with_landmark 0)) judged_batches)
unfolding calls
examples_said = (refl, refl, refl, refl, refl, refl, refl, refl, refl)
