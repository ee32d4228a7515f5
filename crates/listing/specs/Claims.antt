-- What holds of the output for two good files: document 01, "Text" ("the values program"). Assumes nothing.
--
--   PrintedHolds gr ss d vs == what is printed for deck.gr of the network d and deck.ss of the sources vs: the listing of them; its opening and its
--                              queries are accepted; and each value that can be listed is the best over all routes of d
--
-- and the claim, with its theorem in proofs/Best.antt:
--
--   PrintedBest             == two good files, each of at most 65,536 bytes: that holds, with deck.gr's network and deck.ss's sources,
--                              in file order                                                                                     printed_best
use Rattle.std.specs.Prelude.{◌≡◌, true, List, ℕ, ◌≤◌, ◌<◌, length}
use Rattle.property.specs.Property.{property, is_property}
use Rattle.graph.specs.Refusal.{accept, verdict_of}
use Rattle.graph.specs.Edge.{Edge}
use Rattle.graph.specs.Route.{Best}
use Rattle.network.specs.Open.{open_call}
use Rattle.dimacs.specs.Network as net
use Rattle.dimacs.specs.Sources as src
use Rattle.listing.specs.Listing.{max_file, Graph, graph, landmarks_of, held_of, network_of, query_of, value_at, listed, printed}

pub record PrintedHolds (gr ss : List ℕ) (d : Graph) (vs : List ℕ) : Type 0 where
  pub text : printed gr ss ≡ listed d vs
  pub opening : verdict_of (open_call d.n (landmarks_of d) (held_of d)).reply ≡ accept
  pub queries : (s p : ℕ) → s < d.n → is_property p ≡ true → verdict_of (query_of d (network_of d) s p).reply ≡ accept
  pub best : (s t p : ℕ) → s < d.n → t < d.n → is_property p ≡ true → Best (property p) d.edges s t (value_at d (network_of d) s t p)

-- the sources of a good file are below n, and so are the vertices of their lines: no listed value is left out
abbrev pub PrintedBest : Type 0
PrintedBest = (gr ss : List ℕ) (n : ℕ) (es : List Edge) (vs : List ℕ) → length gr ≤ max_file → length ss ≤ max_file → net.Good gr n es → src.Good n ss vs
    → PrintedHolds gr ss (graph n es) vs
