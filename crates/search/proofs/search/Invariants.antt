-- `search::search` meets its contract. The loop's invariant: the steps that are left, from the search now, come to what `n` steps come to from the
-- search before its first. Assumes nothing.
use Rattle.property.proofs.Basics.{◌≡◌, List, ℕ, ◌-◌, length}
use Rattle.graph.specs.Edge.{Edge}
use Rattle.graph.specs.Index.{Own}
use Rattle.answers.specs.Routing.{eligible}
use Rattle.search.specs.Search.{is_unfound, begun}
use Rattle.search.specs.Search as spec
use Rattle.search.specs.Code.{search_of, Searching}
use Rattle.search.proofs.search.Given as goal

abbrev pub invariant-loop-i : goal.invariant-loop-i
invariant-loop-i l =
    ((n : ℕ) → n ≡ length l.via → (es : List Edge) → Own n l.index es
    → spec.search (eligible l.p l.row l.v) es l.t (n - l.i) l.i (search_of l.count l.queue l.via) ≡ spec.search (eligible l.p l.row l.v) es l.t n 0 (begun n l.s))
    × (length l.via ≡ length l.initial.via) × (length l.queue ≡ length l.initial.queue) × Searching l.count l.queue l.via

abbrev pub decreases-loop-i : goal.decreases-loop-i
decreases-loop-i l =
    length l.initial.via - l.i
