-- Where the run of a row or a query starts: document 01, "Opening" and "Query". Assumes nothing.
--
--   opened P n s         == the state in which a row of landmark s is opened: no route but for s, which has its value and waits
--   values_from P es n s == the values from the vertex s, a word for each vertex: opened, and settled on the edges es
--   Landmark             == a landmark: its vertex, which says which one it is, and what its two rows tell a query: the word from the source
--                          to it, and the row on from it
--   finer P a b    == the better of two words
--   bound P ls t   == the best, over the landmarks, of the word to the landmark joined with the word on to t
--   asked P ls n s == the state in which a query from s starts: bounds, but for s, which has its value and alone waits
use Rattle.std.specs.Prelude.{true, false, cond, List, [], ◌∷◌, map, ℕ, set, replicate, eqb}
use Rattle.property.specs.Property.{Property}
use Rattle.graph.specs.Edge.{Edge, range}
use Rattle.run.specs.Run.{State, no_tally, word, settle}

unfoldable pub opened : Property → ℕ → ℕ → State
opened P n s = record { words = set (replicate n P.none) s P.start; waiting = set (replicate n false) s true; tally = no_tally }

abbrev pub values_from : Property → List Edge → ℕ → ℕ → List ℕ
values_from P es n s = (settle P es n n (opened P n s)).words

pub record Landmark : Type 0 where
  pub vertex : ℕ
  pub into : ℕ
  pub row : List ℕ

abbrev pub finer : Property → ℕ → ℕ → ℕ
finer P a b = cond (P.better a b) a b

unfoldable pub bound : Property → List Landmark → ℕ → ℕ
bound P [] t = P.none
bound P (l ∷ ls) t = finer P (P.join l.into (word P l.row t)) (bound P ls t)

unfoldable pub asked : Property → List Landmark → ℕ → ℕ → State
asked P ls n s = record {
  words = map (λ t. cond (eqb t s) P.start (bound P ls t)) (range 0 n);
  waiting = set (replicate n false) s true;
  tally = no_tally;
}
