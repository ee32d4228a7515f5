-- The values that are printed are best values. Assumes nothing.
use Rattle.property.proofs.Basics.{◌≡◌, refl, ap, subst, ◌∙◌, true, false, not, List, [], ℕ, ◌≤◌, ◌<◌, arith, length, replicate, length-replicate, ltb, lt-ltb, le-ltb}
use Rattle.property.specs.Property.{property, is_property}
use Rattle.graph.specs.Limits.{max_landmarks}
use Rattle.graph.specs.Refusal.{accept, ◌▷◌, refuse_if, verdict_of}
use Rattle.graph.specs.Edge.{Edge}
use Rattle.graph.specs.Route.{Best}
use Rattle.graph.proofs.Tests.{or_false}
use Rattle.graph.proofs.Verdicts.{accept_then, accept_if}
use Rattle.network.specs.Network.{landmarks, faults}
use Rattle.network.specs.Open.{open_call}
use Rattle.network.specs.Query.{Query, Words, scheduled}
use Rattle.network.specs.Current.{query_back}
use Rattle.network.proofs.Chosen.{choice_landmarks}
use Rattle.network.proofs.Held.{holding_edges, holding_faults, opening_accepted, query_accepted, query_best}
use Rattle.dimacs.specs.Network as net
use Rattle.dimacs.specs.Sources as src
use Rattle.dimacs.specs.Read.{good}
use Rattle.dimacs.specs.Call.{judged, vertex_count, edges_read, sources_read}
use Rattle.dimacs.specs.Claims.{Table}
use Rattle.dimacs.proofs.Theorems.{network_reads, network_tables, sources_read_lem}
use Rattle.listing.specs.Listing.{max_file, Graph, graph, landmarks_of, held_of, network_of, query_of, value_at, listed, output, printed}
use Rattle.listing.specs.Claims.{PrintedBest}

-- ---- a query of the listing has nothing to be refused for

abbrev request : ℕ → ℕ → Query
request s p = record { property = p; source = s; schedule = [] }

abbrev room : ℕ → Words
room n = record { starts = replicate n 0; settled = replicate n 0 }

asking_good : (n s p : ℕ) → s < n → is_property p ≡ true → query_back n (request s p) (room n) ≡ accept
unfolding scheduled refuse_if
asking_good n s p h k =
    accept_then refl ∙ accept_then (accept_if 2 0 (or_false wide wide))
    ∙ accept_then (accept_if 5 0 (ap not k)) ∙ accept_then (accept_if 6 0 (ap not (lt-ltb s n h)))
  where
    wide : ltb (length (replicate {A = ℕ} n 0)) n ≡ false
    wide = le-ltb (length (replicate {A = ℕ} n 0)) n (omega (arith, length-replicate {A = ℕ} n 0))

-- ---- the network of a table

module _ (n : ℕ) (es : List Edge) (pos : 0 < n) (t : Table n es) where
  abbrev d : Graph
  d = graph n es

  chosen : landmarks n (landmarks_of d) ≡ accept
  chosen = choice_landmarks n max_landmarks es pos (omega arith) (omega arith)

  sound : faults n (landmarks_of d) (held_of d) ≡ accept
  sound = holding_faults es (landmarks_of d) n t.vertices t.few t.rules chosen

  opening : verdict_of (open_call n (landmarks_of d) (held_of d)).reply ≡ accept
  opening = opening_accepted n (landmarks_of d) (held_of d) sound

  module _ (s p : ℕ) (h : s < n) (k : is_property p ≡ true) where
    queried : verdict_of (query_of d (network_of d) s p).reply ≡ accept
    queried = query_accepted n (landmarks_of d) (held_of d) sound (request s p) (room n) (asking_good n s p h k)

    value_best : (v : ℕ) → v < n → Best (property p) es s v (value_at d (network_of d) s v p)
    value_best v l =
        subst (λ fs. Best (property p) fs s v (value_at d (network_of d) s v p)) (holding_edges es (landmarks_of d) n)
        (query_best n (landmarks_of d) (held_of d) sound (request s p) (room n) (asking_good n s p h k) v l)

-- ---- the text

printed_listed : (gr ss : List ℕ) (n : ℕ) (es : List Edge) (vs : List ℕ) → length gr ≤ max_file → length ss ≤ max_file
    → net.read_network gr ≡ good (net.within n (length es) es) → src.read_sources n ss ≡ good (src.within (length vs) vs) → printed gr ss ≡ listed (graph n es) vs
unfolding printed output judged vertex_count edges_read sources_read refuse_if ◌▷◌
printed_listed gr ss n es vs a b r q = rw (le-ltb max_file (length gr) a, le-ltb max_file (length ss) b, r, q)

-- Good files of at most 65,536 bytes are read, so that neither is refused and the listing of their network and sources is printed. The
-- network's edges are a table, and the vertices of choice are landmarks, for there is a vertex; so the opening has no ground to be refused.
-- After it, and before any batch, a query is refused for 1, 2, 5 and 6 alone. Each query of the listing has an empty schedule, lists of n words, a
-- property and a source below n: it is accepted, and its settled words are best over all routes of the edges that were opened, which are those
-- of the file.
pub printed_best : PrintedBest
printed_best gr ss n es vs a b g h =
    let t = (network_tables gr n es g).0 in
    let pos = g.some_vertex in
    record {
      text = printed_listed gr ss n es vs a b ((network_reads gr n es).1 g) ((sources_read_lem n ss vs).1 h);
      opening = opening n es pos t;
      queries = queried n es pos t;
      best = λ s v p i j k. value_best n es pos t s p i k v j;
    }
