-- Tables without twins, as documents 01 and 02 had them before Five: "Records ascend by tail, then head; no pair stands twice". Assumes nothing.
--
--   pair_order       == the order "by tail, then head": edges of one pair are the same to it
--   Simple es        == no pair stands twice in es
--   pair_weight es e == the weight that the pair of e has in es; 0, which is no weight, where it has none
use Rattle.std.specs.Prelude.{◌&&◌, ◌||◌, cond, List, [], ◌∷◌, ℕ, eqb, ltb}
use Rattle.graph.specs.Edge.{Edge, same_pair}
use Rattle.graph.specs.Sorted.{Order, Distinct}

abbrev pub pair_order : Order Edge
pair_order = record { before = λ e f. ltb e.tail f.tail || (eqb e.tail f.tail && ltb e.head f.head); same = same_pair }

abbrev pub Simple : List Edge → Type 0
Simple es = Distinct pair_order es

unfoldable pub pair_weight : List Edge → Edge → ℕ
pair_weight [] e = 0
pair_weight (x ∷ es) e = cond (same_pair e x) x.weight (pair_weight es e)
