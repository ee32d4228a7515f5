-- The changes of a batch: document 01, "Batch" and numbers 6 to 12; document 02, One and Five. Assumes nothing.
--
--   Change    == a change record: kind (1 add, 2 take, 3 update), tail, head, weight, old weight; an add inserts, a take deletes
--   brought c == the edge of a change's tail, head and weight: the one that an insert puts in, and that an update leaves
--   struck c  == the edge that a delete or an update names: an update by its old weight, a delete by its weight
--   inserts c == c is of kind 1
--   deletes c == c is of kind 2
--   updates c == c is of kind 3
--   edit es c == the edges after a change: an insert puts in its edge, an update sets the weight of the one it names, a delete strikes
--                          that one; the list stays in table order
--   comes c         == c brings an edge that must not be there yet: an insert, or an update to another weight
--   edits es cs     == the edges after changes, in order
--   words n i c     == numbers 6 to 9 of the change c, at place i: those of its own words
--   against i es c  == numbers 10 to 12: those against the edges es
--   item n i es c   == numbers 6 to 12 of the change c, at place i, against the edges es
--   items n i es cs == the first change, from place i, with any of them: each against the edges as earlier ones left them
use Rattle.std.specs.Prelude.{Bool, not, ◌&&◌, ◌||◌, cond, ℕ, suc, length, ltb, eqb}
use mathlib.Core.List.{List, [], ◌∷◌, foldl}
use Rattle.graph.specs.Limits.{max_edges}
use Rattle.graph.specs.Refusal.{Verdict, accept, ◌▷◌, refuse_if}
use Rattle.graph.specs.Edge.{Edge, edge, among}
use Rattle.graph.specs.Table.{is_weight, insert, delete, update}

pub record Change : Type 0 where
  pub kind : ℕ
  pub tail : ℕ
  pub head : ℕ
  pub weight : ℕ
  pub old : ℕ

abbrev pub brought : Change → Edge
brought c = edge c.tail c.head c.weight

abbrev pub inserts : Change → Bool
inserts c = eqb c.kind 1

abbrev pub deletes : Change → Bool
deletes c = eqb c.kind 2

abbrev pub updates : Change → Bool
updates c = eqb c.kind 3

abbrev pub struck : Change → Edge
struck c = edge c.tail c.head (cond (updates c) c.old c.weight)

unfoldable pub edit : List Edge → Change → List Edge
edit es c = cond (inserts c) (insert (brought c) es) (cond (updates c) (update (struck c) (brought c) es) (delete (struck c) es))

abbrev pub edits : List Edge → List Change → List Edge
edits es cs = foldl edit es cs

unfoldable pub words : ℕ → ℕ → Change → Verdict
words n i c =
    refuse_if (not (ltb c.tail n && ltb c.head n)) 6 i
    ▷ refuse_if (not (inserts c || (deletes c || updates c))) 7 i
    ▷ refuse_if (eqb c.tail c.head) 8 i
    ▷ refuse_if (not (is_weight c.weight && cond (updates c) (is_weight c.old) (eqb c.old 0))) 9 i

-- "a new figure that the pair already has is 10, even with the old one absent, unless the two are equal"
abbrev pub comes : Change → Bool
comes c = inserts c || (updates c && not (eqb c.weight c.old))

unfoldable pub against : ℕ → List Edge → Change → Verdict
against i es c =
    refuse_if (comes c && among es (brought c)) 10 i
    ▷ refuse_if (not (inserts c) && not (among es (struck c))) 11 i
    ▷ refuse_if (inserts c && not (ltb (length es) max_edges)) 12 i

unfoldable pub item : ℕ → ℕ → List Edge → Change → Verdict
item n i es c = words n i c ▷ against i es c

unfoldable pub items : ℕ → ℕ → List Edge → List Change → Verdict
items n i es [] = accept
items n i es (c ∷ cs) = item n i es c ▷ items n (suc i) (edit es c) cs
