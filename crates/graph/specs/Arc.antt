-- Arcs: the head and the weight of an edge in one word. Assumes nothing.
--
--   arc_weights   == 131,072: weights are below
--   arc_heads     == 32,768: heads are below, so that an arc fits a word of 32 bits
--   arc h w       == the arc of head h and weight w
--   arc_head a    == the head of an arc
--   arc_weight a  == the weight of an arc
--   head_in b a   == the head that a word gives: of an arc where b holds, else the word itself
--   weight_in b a == the weight that a word gives, likewise
use Rattle.std.specs.Prelude.{Bool, cond, ℕ, ◌+◌, ◌*◌, ◌/◌, ◌%◌}

abbrev pub arc_weights : ℕ
arc_weights = 131072

abbrev pub arc_heads : ℕ
arc_heads = 32768

abbrev pub arc : ℕ → ℕ → ℕ
arc h w = h * arc_weights + w

abbrev pub arc_head : ℕ → ℕ
arc_head a = a / arc_weights

abbrev pub arc_weight : ℕ → ℕ
arc_weight a = a % arc_weights

abbrev pub head_in : Bool → ℕ → ℕ
head_in b a = cond b (arc_head a) a

abbrev pub weight_in : Bool → ℕ → ℕ
weight_in b a = cond b (arc_weight a) a
