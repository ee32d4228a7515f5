-- The starred lines of document 01, "Near the edges, and a small deck": one table of rows, and one statement over it.
-- The numbers are document 01's; "the worked takes name 4" (document 02, Five). Assumes nothing.
--
--   graph_a                      == Deck A: n 4; 0→1 4, 0→3 9, 1→2 4, 2→1 4, 3→2 2
--   takes t h w, adds t h w      == change records
--   Ask                          == what a line asks of a network
--     settled p s                == the settled words of a query from s for property p
--     asked p s vs               == start words, settled words, rounds of a query with the schedule vs
--     tallied p s vs             == entries taken and rounds of such a query
--     affected_row b side p       == the affected vertices of the batch b in the row of the first landmark, side and property
--     batch b                    == the reply to the batch b: how many are affected, or number and place
--   Said                         == an answer
--   Case                         == a line: the edges, n, landmarks, the batches before, what is asked, what document 01 says
--   answer n ls w a              == what the calls' definitions answer to what is asked of a network
--   found c                      == what they give for a line: on its network, opened, after its batches
--   starred                      == the table, in document 01's order
--   Starred                      == the statement: every line is found as document 01 says it
--   those i ms                   == the marked vertices of the marks ms, the first of which is vertex i
--   affected_list                == the affected vertices of a row of one side
--   said_of_query, said_of_batch == a reply as an answer
--   on_a, alone                  == a line about Deck A, about one vertex and no edge
use Rattle.std.specs.Prelude.{◌≡◌, Bool, true, false, List, [], ◌∷◌, map, ℕ, zero, suc}
use Rattle.property.specs.Property.{M}
use Rattle.graph.specs.Refusal.{Reply, accepted, refused}
use Rattle.graph.specs.Edge.{Edge, edge, reverse}
use Rattle.run.specs.Run.{Tally}
use Rattle.network.specs.Network.{Network, edges_in}
use Rattle.network.specs.Query.{row_at}
use Rattle.network.specs.Change.{Change}
use Rattle.network.specs.Batch.{affected_in, Report, new_edges, batch_call}
use Rattle.network.specs.Caller.{holding, opened_network, lived, queried}

-- ---- networks and changes

abbrev pub graph_a : List Edge
graph_a = edge 0 1 4 ∷ edge 0 3 9 ∷ edge 1 2 4 ∷ edge 2 1 4 ∷ edge 3 2 2 ∷ []

abbrev pub takes : ℕ → ℕ → ℕ → Change
takes t h w = record { kind = 2; tail = t; head = h; weight = w; old = 0 }

abbrev pub adds : ℕ → ℕ → ℕ → Change
adds t h w = record { kind = 1; tail = t; head = h; weight = w; old = 0 }

-- ---- what a line asks, and what the calls' definitions answer

pub data Ask : Type 0 where
  settled : ℕ → ℕ → Ask
  asked : ℕ → ℕ → List ℕ → Ask
  tallied : ℕ → ℕ → List ℕ → Ask
  affected_row : List Change → ℕ → ℕ → Ask
  batch : List Change → Ask

pub data Said : Type 0 where
  words : List ℕ → Said
  starts_settled_rounds : List ℕ → List ℕ → ℕ → Said
  taken_rounds : ℕ → ℕ → Said
  vertices : List ℕ → Said
  affected : ℕ → Said
  refused_with : ℕ → ℕ → Said

pub record Case : Type 0 where
  pub graph : List Edge
  pub n : ℕ
  pub landmarks : List ℕ
  pub before : List (List Change)
  pub asks : Ask
  pub says : Said

-- the marked ones of a list of marks, the first of which is vertex i
unfoldable pub those : ℕ → List Bool → List ℕ
those i [] = []
those i (true ∷ ms) = i ∷ those (suc i) ms
those i (false ∷ ms) = those (suc i) ms

unfoldable pub said_of_query : Reply Tally → (Tally → Said) → Said
said_of_query (accepted a) f = f a
said_of_query (refused k i) f = refused_with k i

unfoldable pub said_of_batch : Reply Report → Said
said_of_batch (accepted r) = affected r.affected
said_of_batch (refused k i) = refused_with k i

-- the affected vertices of a row of one side, 0 forward and 1 backward
unfoldable pub affected_list : ℕ → List ℕ → Network → List Change → ℕ → ℕ → List ℕ
affected_list n ls w b zero r = those 0 (affected_in n ls (edges_in w) (new_edges w b) w.memory.rows.forward r)
affected_list n ls w b (suc side) r =
    those 0 (affected_in n ls (map reverse (edges_in w)) (map reverse (new_edges w b)) w.memory.rows.backward r)

unfoldable pub answer : ℕ → List ℕ → Network → Ask → Said
answer n ls w (settled p s) = let o = queried n ls w p s [] in said_of_query o.reply (λ a. words o.memory.settled)
answer n ls w (asked p s vs) =
    let o = queried n ls w p s vs in
    said_of_query o.reply (λ a. starts_settled_rounds o.memory.starts o.memory.settled a.rounds)
answer n ls w (tallied p s vs) = let o = queried n ls w p s vs in said_of_query o.reply (λ a. taken_rounds a.taken a.rounds)
answer n ls w (affected_row b side p) = vertices (affected_list n ls w b side (row_at 0 p))
answer n ls w (batch b) = said_of_batch (batch_call n ls w b).reply

unfoldable pub found : Case → Said
found c =
    answer c.n c.landmarks
    (lived c.n c.landmarks (opened_network c.n c.landmarks (holding c.graph c.landmarks c.n)) c.before) c.asks

-- ---- the table

-- a line about Deck A with one landmark
abbrev pub on_a : ℕ → List (List Change) → Ask → Said → Case
on_a l bs a s = record { graph = graph_a; n = 4; landmarks = l ∷ []; before = bs; asks = a; says = s }

-- a line about one vertex and no edge
abbrev pub alone : Ask → Said → Case
alone a s = record { graph = []; n = 1; landmarks = 0 ∷ []; before = []; asks = a; says = s }

abbrev pub starred : List Case
starred =
    -- n 1, no segment, from 0: time 0, headroom M
    alone (settled 1 0) (words (0 ∷ []))
    ∷ alone (settled 3 0) (words (M ∷ []))
    -- A from 0: time 0 4 8 9; handovers 0 1 2 1; headroom M 4 4 9; worst 0 4 4 9
    ∷ on_a 0 [] (settled 1 0) (words (0 ∷ 4 ∷ 8 ∷ 9 ∷ []))
    ∷ on_a 0 [] (settled 2 0) (words (0 ∷ 1 ∷ 2 ∷ 1 ∷ []))
    ∷ on_a 0 [] (settled 3 0) (words (M ∷ 4 ∷ 4 ∷ 9 ∷ []))
    ∷ on_a 0 [] (settled 4 0) (words (0 ∷ 4 ∷ 4 ∷ 9 ∷ []))
    -- A, reach from 3: 0 1 1 1
    ∷ on_a 0 [] (settled 5 3) (words (0 ∷ 1 ∷ 1 ∷ 1 ∷ []))
    -- Take 0→1: time 0 15 11 9; headroom M 2 2 9
    ∷ on_a 0 ((takes 0 1 4 ∷ []) ∷ []) (settled 1 0) (words (0 ∷ 15 ∷ 11 ∷ 9 ∷ []))
    ∷ on_a 0 ((takes 0 1 4 ∷ []) ∷ []) (settled 3 0) (words (M ∷ 2 ∷ 2 ∷ 9 ∷ []))
    -- That take: suspects 1 and 2 in the outward time row; none in the homeward one
    ∷ on_a 0 [] (affected_row (takes 0 1 4 ∷ []) 0 1) (vertices (1 ∷ 2 ∷ []))
    ∷ on_a 0 [] (affected_row (takes 0 1 4 ∷ []) 1 1) (vertices [])
    -- A, post 2, time from 1: start and settled M 0 4 M, 1 round; picks 1, 1: taken 1, rounds 0
    ∷ on_a 2 [] (asked 1 1 []) (starts_settled_rounds (M ∷ 0 ∷ 4 ∷ M ∷ []) (M ∷ 0 ∷ 4 ∷ M ∷ []) 1)
    ∷ on_a 2 [] (tallied 1 1 (1 ∷ 1 ∷ [])) (taken_rounds 1 0)
    -- Take 0→1, add 0→1 4: no suspects. Take 0→1 twice: 11, place 1
    ∷ on_a 0 [] (batch (takes 0 1 4 ∷ adds 0 1 4 ∷ [])) (affected 0)
    ∷ on_a 0 [] (batch (takes 0 1 4 ∷ takes 0 1 4 ∷ [])) (refused_with 11 1)
    ∷ []

abbrev pub Starred : Type 0
Starred = map found starred ≡ map (λ c. c.says) starred
