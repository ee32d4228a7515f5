-- Small runs, computed: document 01, "Runs", "Opening" and "Query". Each line says which sentence it shows and which nearby reading it
-- shuts out; the numbers are worked out by hand. Assumes nothing.
use Rattle.property.proofs.Tables.{Said}
use Rattle.property.proofs.Basics.{refl, Bool, true, false, List, [], ◌∷◌, map, foldl, ℕ, length, set, replicate}
use Rattle.property.specs.Property.{Property, M, sssp, bfs, sswp, ssnp, ssr}
use Rattle.frontier.specs.Waiting.{any_of}
use Rattle.graph.specs.Edge.{Edge, edge, reverse, keep_if, keep, range}
use Rattle.run.specs.Run.{State, relaxable, store_if, relax, clear, handle, visit_if, visit, take_entry_if, take_entry, pass, round, settle}
use Rattle.run.specs.Start.{opened, Landmark, finer, bound, asked}

-- words, the vertices that wait, and the tally: picks taken, rounds, stores
abbrev state : List ℕ → List ℕ → ℕ → ℕ → ℕ → State
state ws vs k r c = record {
  words = ws;
  waiting = foldl (λ bs v. set bs v true) (replicate (length ws) false) vs;
  tally = record { taken = k; rounds = r; stores = c };
}

-- four words
abbrev four : ℕ → ℕ → ℕ → ℕ → List ℕ
four a b c d = a ∷ b ∷ c ∷ d ∷ []

abbrev graph_a : List Edge
graph_a = edge 0 1 4 ∷ edge 0 3 9 ∷ edge 1 2 4 ∷ edge 2 1 4 ∷ edge 3 2 2 ∷ []

-- ---- whether an edge betters its head

-- the edge from 0 to 1 of weight k, where their words are a and b
abbrev betters : Property → ℕ → ℕ → ℕ → Bool
betters P a b k = relaxable P (a ∷ b ∷ []) (edge 0 1 k)

abbrev bettering : List (Bool × Bool)
bettering =
    -- "each head whose word would get better": an equal word is not better, a worse one neither
    (betters sssp 5 9 4, false)
    ∷ (betters sssp 5 10 4, true)
    ∷ (betters sssp 5 8 4, false)
    -- handovers go up by 1, not by the weight
    ∷ (betters bfs 5 7 4, true)
    ∷ (betters bfs 5 6 4, false)
    -- headroom: the lesser of value and weight, and greater is better
    ∷ (betters sswp 5 3 4, true)
    ∷ (betters sswp 5 4 4, false)
    ∷ (betters sswp 5 9 4, false)
    -- worst stretch: the greater of value and weight, and less is better
    ∷ (betters ssnp 3 5 4, true)
    ∷ (betters ssnp 3 4 4, false)
    -- reach: the value goes along as it is, whatever the weight
    ∷ (betters ssr 1 0 4, true)
    ∷ (betters ssr 1 1 4, false)
    -- M + 4 is M and no quick route: a sum that wraps would be 3
    ∷ (betters sssp M 9 4, false)
    ∷ (betters sssp M M 4, false)
    -- "A sum above 4,294,967,294 is M": 4,294,967,290 + 4 is still a value, + 5 is no route
    ∷ (betters sssp 4294967290 M 4, true)
    ∷ (betters sssp 4294967290 M 5, false)
    ∷ (betters bfs 4294967294 M 4, false)
    -- an edge is gone along from tail to head only
    ∷ (betters sssp 9 0 4, false)
    ∷ []

bettering_said : Said bettering
bettering_said = refl

-- ---- handling a vertex

-- a vertex of deck A is handled, for time
abbrev handle_a : State → ℕ → State
handle_a = handle sssp graph_a

abbrev handlings : List (State × State)
handlings =
    -- "Handling a station clears its bit": 0 waits no more; its heads 1 and 3 wait, and their stores are counted
    (handle_a (opened sssp 4 0) 0, state (four 0 4 M 9) (1 ∷ 3 ∷ []) 0 0 2)
    -- a handling that stores nothing clears the bit too; 1's edge gives 2 exactly 8, and equal is no store
    ∷ (handle_a (state (four 0 4 8 9) (1 ∷ 3 ∷ []) 0 0 3) 1, state (four 0 4 8 9) (3 ∷ []) 0 0 3)
    -- only the head that gets better is stored and waits: 3 has 9 already, and 1 gets 4 for 5
    ∷ (handle_a (state (four 0 5 M 9) (0 ∷ 2 ∷ []) 1 2 3) 0, state (four 0 4 M 9) (1 ∷ 2 ∷ []) 1 2 4)
    -- a head that waits already stays waiting, and its store counts
    ∷ (handle_a (state (four 0 5 M M) (0 ∷ 1 ∷ 3 ∷ []) 0 0 0) 0, state (four 0 4 M 9) (1 ∷ 3 ∷ []) 0 0 2)
    -- "in table order", a store for each time that a word gets better: 9, then 4 are two stores; 4, then 9 are one
    ∷ (handle sssp (edge 0 1 9 ∷ edge 0 1 4 ∷ []) (opened sssp 2 0) 0, state (0 ∷ 4 ∷ []) (1 ∷ []) 0 0 2)
    ∷ (handle sssp (edge 0 1 4 ∷ edge 0 1 9 ∷ []) (opened sssp 2 0) 0, state (0 ∷ 4 ∷ []) (1 ∷ []) 0 0 1)
    -- a vertex without a route betters nothing: M + 4 and M + 9 are no route at 1 and at 3
    ∷ (handle_a (state (four M M M 0) (0 ∷ 3 ∷ []) 0 0 0) 0, state (four M M M 0) (3 ∷ []) 0 0 0)
    -- the sum to 1 is 4,294,967,294 and stored, the one to 3 is above it and is no route
    ∷ (handle_a (state (four 4294967290 M M M) (0 ∷ []) 0 0 0) 0, state (four 4294967290 4294967294 M M) (1 ∷ []) 0 0 1)
    -- backward rows are worked on the reversed edges: 2 is handled, and the tails 1 and 3 of its edges get words
    ∷ (handle sssp (map reverse graph_a) (opened sssp 4 2) 2, state (four M 4 0 2) (1 ∷ 3 ∷ []) 0 0 2)
    ∷ []

handlings_said : Said handlings
unfolding opened handle clear relax store_if keep keep_if
handlings_said = refl

-- ---- the pick list

-- deck A, time, opened at 0; its pick list is gone through
abbrev picked : List ℕ → State
picked vs = pass sssp graph_a vs (opened sssp 4 0)

abbrev passes : List (State × State)
passes =
    -- no pick: as opened, "no route but for its post, which has its value at the source and waits"
    (picked [], state (four 0 M M M) (0 ∷ []) 0 0 0)
    -- "a pick that isn't waiting is skipped" and not counted: neither 3, nor 0 for the second time
    ∷ (picked (3 ∷ 0 ∷ 0 ∷ []), state (four 0 4 M 9) (1 ∷ 3 ∷ []) 1 0 2)
    -- skipped is not handled, even where its edge would better a word: 0 doesn't wait, and 1 goes on from 50
    ∷ (pass sssp graph_a (0 ∷ 1 ∷ []) (state (four 0 50 M 9) (1 ∷ []) 0 0 0), state (four 0 50 54 9) (2 ∷ []) 1 0 1)
    -- picks go in list order, not ascending: 3 gives 2 the word 11 before 1 betters it to 8, which are two stores
    ∷ (picked (0 ∷ 3 ∷ 1 ∷ []), state (four 0 4 8 9) (2 ∷ []) 3 0 4)
    ∷ (picked (0 ∷ 1 ∷ 3 ∷ []), state (four 0 4 8 9) (2 ∷ []) 3 0 3)
    -- a vertex that waits anew is taken and counted anew: 2 at 11, and again at 8
    ∷ (picked (0 ∷ 3 ∷ 2 ∷ 1 ∷ 2 ∷ []), state (four 0 4 8 9) [] 5 0 4)
    -- "Then rounds": picks that leave nobody waiting are followed by no round
    ∷ (settle sssp graph_a 4 4 (picked (0 ∷ 1 ∷ 2 ∷ 3 ∷ [])), state (four 0 4 8 9) [] 4 0 3)
    -- the round after these picks handles 2 and stores nothing: it counts, and picks taken stay 3
    ∷ (settle sssp graph_a 4 4 (picked (0 ∷ 3 ∷ 1 ∷ [])), state (four 0 4 8 9) [] 3 1 4)
    ∷ []

passes_said : Said passes
unfolding opened pass take_entry take_entry_if handle clear relax store_if keep keep_if settle any_of round visit visit_if range
passes_said = refl

-- ---- rounds and their budget

-- edges that climb from 0 to 3, and edges that fall from 3 to 0
abbrev climb : List Edge
climb = edge 0 1 1 ∷ edge 1 2 1 ∷ edge 2 3 1 ∷ []

abbrev fall : List Edge
fall = edge 1 0 1 ∷ edge 2 1 1 ∷ edge 3 2 1 ∷ []

-- 1 gets 10 from 0, and then 2 by way of 2
abbrev twice : List Edge
twice = edge 0 1 10 ∷ edge 0 2 1 ∷ edge 2 1 1 ∷ []

-- rounds along it
abbrev fallen : ℕ → State → State
fallen = settle sssp fall 4

abbrev settlings : List (State × State)
settlings =
    -- "each handled if waiting when its turn comes": 1, 2 and 3 come to wait within the round and are handled in it, so that one round does
    (settle sssp climb 4 4 (opened sssp 4 0), state (four 0 1 2 3) [] 0 1 3)
    -- a vertex below the one being handled waits for the next round; the last round stores nothing and counts
    ∷ (fallen 4 (opened sssp 4 3), state (four 3 2 1 0) [] 0 4 3)
    -- that network needs all of its n rounds: with one less 0 still waits, and with more there is no further round
    ∷ (fallen 3 (opened sssp 4 3), state (four 3 2 1 0) (0 ∷ []) 0 3 3)
    ∷ (fallen 9 (opened sssp 4 3), state (four 3 2 1 0) [] 0 4 3)
    -- a budget of 0 is no round, of 1 at most one: who waits then, waits still
    ∷ (fallen 0 (opened sssp 4 3), opened sssp 4 3)
    ∷ (fallen 1 (opened sssp 4 3), state (four M M 1 0) (2 ∷ []) 0 1 1)
    -- "Rounds go on while any waits": nobody waits, so no round is counted
    ∷ (fallen 4 (state (four M 7 1 0) [] 0 0 0), state (four M 7 1 0) [] 0 0 0)
    -- "stores that bettered a word": 1 is bettered twice, which counts twice; it is lower than 2, and waits for round two
    ∷ (settle sssp twice 3 3 (opened sssp 3 0), state (0 ∷ 2 ∷ 1 ∷ []) [] 0 2 3)
    -- for headroom its first word 10 is the better one: one store for 1, and one round
    ∷ (settle sswp twice 3 3 (opened sswp 3 0), state (M ∷ 10 ∷ 1 ∷ []) [] 0 1 2)
    -- for handovers 1 + 1 is no better than 1
    ∷ (settle bfs twice 3 3 (opened bfs 3 0), state (0 ∷ 1 ∷ 1 ∷ []) [] 0 1 2)
    -- deck A from 3: 2 in round one, 1 in round two, and 1 is handled for nothing in round three
    ∷ (settle sssp graph_a 4 4 (opened sssp 4 3), state (four M 6 2 0) [] 0 3 2)
    ∷ (settle ssnp graph_a 4 4 (opened ssnp 4 3), state (four M 4 2 0) [] 0 3 2)
    -- deck A backward from 2, handovers: 1, 3 and, by way of 3, 0 in round one; in round two 1 gives 0 no better word
    ∷ (settle bfs (map reverse graph_a) 4 4 (opened bfs 4 2), state (four 2 1 0 1) [] 0 2 3)
    -- the time: in round two 1 gives 0 the word 8 for 11, and 0, which had its turn, is handled in round three
    ∷ (settle sssp (map reverse graph_a) 4 4 (opened sssp 4 2), state (four 8 4 0 2) [] 0 3 4)
    -- any words: those of vertices that never wait are not gone along, so that 1 stays at 50
    ∷ (settle sssp climb 4 4 (state (four 0 50 7 M) (2 ∷ []) 0 0 0), state (four 0 50 7 8) [] 0 1 1)
    ∷ []

settlings_said : Said settlings
unfolding opened settle any_of round visit visit_if handle clear relax store_if keep keep_if range
settlings_said = refl

-- ---- where runs start

abbrev starts : List (State × State)
starts =
    -- "no route but for its post": no route is 0 for headroom and reach, and M for the others
    (opened sssp 3 1, state (M ∷ 0 ∷ M ∷ []) (1 ∷ []) 0 0 0)
    ∷ (opened bfs 3 1, state (M ∷ 0 ∷ M ∷ []) (1 ∷ []) 0 0 0)
    ∷ (opened sswp 3 1, state (0 ∷ M ∷ 0 ∷ []) (1 ∷ []) 0 0 0)
    ∷ (opened ssnp 3 1, state (M ∷ 0 ∷ M ∷ []) (1 ∷ []) 0 0 0)
    ∷ (opened ssr 3 1, state (0 ∷ 1 ∷ 0 ∷ []) (1 ∷ []) 0 0 0)
    -- one vertex
    ∷ (opened sssp 1 0, state (0 ∷ []) (0 ∷ []) 0 0 0)
    ∷ []

starts_said : Said starts
unfolding opened
starts_said = refl

-- two landmarks: 3 to the first and 5 on from it to vertex 1, 2 to the second and 7 on from it; vertex 0 is the source
abbrev two : List Landmark
two = record { vertex = 8; into = 3; row = 6 ∷ 5 ∷ [] } ∷ record { vertex = 9; into = 2; row = 6 ∷ 7 ∷ [] } ∷ []

-- reach to the second landmark, and on from both
abbrev far : List Landmark
far = record { vertex = 8; into = 0; row = 1 ∷ 1 ∷ [] } ∷ record { vertex = 9; into = 1; row = 0 ∷ 1 ∷ [] } ∷ []

abbrev bounds : List (ℕ × ℕ)
bounds =
    -- "A sum above 4,294,967,294 is M", along an edge and joined: M + 4 is neither 3 nor 4,294,967,299
    (sssp.along M 4, M)
    ∷ (sssp.along 4294967290 5, M)
    ∷ (sssp.along 4294967290 4, 4294967294)
    ∷ (bfs.along M 4, M)
    ∷ (sssp.join M 4, M)
    ∷ (bfs.join M M, M)
    -- "Joining is the sum for 1 and 2": the lesser of 3 + 5 and 2 + 7, and no hop more for handovers
    ∷ (bound sssp two 1, 8)
    ∷ (bound bfs two 1, 8)
    -- "the lesser for 3", and the best is the greater of 3 and 2
    ∷ (bound sswp two 1, 3)
    -- "the greater for 4", and the best is the lesser of 5 and 7
    ∷ (bound ssnp two 1, 5)
    -- "the lesser for .. 5": vertex 0 is reached from the first landmark alone, and that one isn't reached; vertex 1 is reached from the second
    ∷ (bound ssr far 0, 0)
    ∷ (bound ssr far 1, 1)
    -- "the best, over all posts" of none is no route
    ∷ (bound sssp [] 1, M)
    ∷ (bound sswp [] 1, 0)
    -- M + 4 is M: no route to the landmark, or none on from it, is no bound
    ∷ (bound sssp (record { vertex = 8; into = M; row = 4 ∷ [] } ∷ []) 0, M)
    ∷ (bound sssp (record { vertex = 8; into = 4; row = M ∷ [] } ∷ []) 0, M)
    ∷ (bound ssnp (record { vertex = 8; into = M; row = 4 ∷ [] } ∷ []) 0, M)
    ∷ (bound sswp (record { vertex = 8; into = 0; row = 4 ∷ [] } ∷ []) 0, 0)
    -- better is greater for headroom, less for time
    ∷ (finer sswp 4 9, 9)
    ∷ (finer sswp 9 4, 9)
    ∷ (finer sssp 4 9, 4)
    ∷ (finer sssp 9 4, 4)
    ∷ []

bounds_said : Said bounds
unfolding bound
bounds_said = refl

abbrev askings : List (State × State)
askings =
    -- "The source's start word is its value", though its bound is 2 + 6 here; "Only the source waits"
    (asked sssp two 2 0, state (0 ∷ 8 ∷ []) (0 ∷ []) 0 0 0)
    ∷ (asked sswp two 2 0, state (M ∷ 3 ∷ []) (0 ∷ []) 0 0 0)
    ∷ (asked sssp two 2 1, state (8 ∷ 0 ∷ []) (1 ∷ []) 0 0 0)
    -- also where the bound would be better: on any words the bound for reach may be 3, and the source's value is 1
    ∷ (asked ssr two 2 0, state (1 ∷ 3 ∷ []) (0 ∷ []) 0 0 0)
    ∷ []

askings_said : Said askings
unfolding asked bound range
askings_said = refl
