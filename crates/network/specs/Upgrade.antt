-- Where no pair stands twice: the rules of a table and the changes of a batch by document 02, Five, beside what stood before it. Before: documents 01 and One alone, where a table ascends
-- "by tail, then head" and "no pair stands twice", a take has figure 0 and an update names no old one. Assumes nothing.
--
--   rules_before n es     == the table's rules before: number 4 at the first index whose record breaks them
--   ChangeBefore          == a change record before: kind, tail, head, weight
--   edge_before c         == the edge of its tail, head and weight
--   paired es e           == the pair of e stands in es
--   words_before n i c    == numbers 6 to 9 before: the weight of a take is 0, and any other 1 to 65,535
--   against_before i es c == numbers 10 to 12 before: by the pair
--   item_before n i es c, items_before n i es cs == as `item` and `items`, before
--   reweigh e es          == es with e in the place of the edge of its pair
--   edit_before es c      == the edges after a change before: a take strikes the edge of its pair, an update gives it another weight
--   edits_before es cs    == the edges after changes before, in order
--   weight_named es e     == the weight that the pair of e has in es; 1 where it is not there
--   renamed es c          == the change c as a record of five words, for the edges es: a take names the weight that its pair has there, and an update
--                            names that one as the old weight. A take that had a weight has 0, and stays number 9
--   renamed_all es cs      == changes one after the other, each for the edges as earlier ones left them
--
-- and the claims, each with its theorem in proofs/Upgrade.antt:
--
--   OrderConserved == of edges in which no pair stands twice the rules before and now say the same, number and place             order_conserved
--   BatchConserved == on edges that keep the rules before, changes that were not turned back by 10 are judged now, renamed, as they were before, number and
--                     place; and where they are accepted they leave the same edges, which again keep the rules before, so that no pair stands twice: between
--                     such tables `NetConserved` has the net effect                                                              batch_conserved
use Rattle.std.specs.Prelude.{◌≡◌, ◌≢◌, Bool, not, ◌&&◌, ◌||◌, cond, ℕ, suc, length, ltb, eqb}
use mathlib.Core.List.{List, [], ◌∷◌, foldl}
use Rattle.graph.specs.Limits.{max_edges}
use Rattle.graph.specs.Refusal.{Verdict, accept, refuse, ◌▷◌, refuse_if}
use Rattle.graph.specs.Edge.{Edge, edge, same_pair}
use Rattle.graph.specs.Sorted as order
use Rattle.graph.specs.Simple.{pair_order, Simple, pair_weight}
use Rattle.graph.specs.Table.{is_weight, is_edge, rules}
use Rattle.network.specs.Change.{Change, edits, items}

-- ---- tables before

abbrev pub rules_before : ℕ → List Edge → Verdict
rules_before n es = order.rules pair_order (is_edge n) es

-- ---- changes before

pub record ChangeBefore : Type 0 where
  pub kind : ℕ
  pub tail : ℕ
  pub head : ℕ
  pub weight : ℕ

abbrev pub edge_before : ChangeBefore → Edge
edge_before c = edge c.tail c.head c.weight

abbrev pub paired : List Edge → Edge → Bool
paired es e = order.has pair_order es e

unfoldable pub words_before : ℕ → ℕ → ChangeBefore → Verdict
words_before n i c =
    refuse_if (not (ltb c.tail n && ltb c.head n)) 6 i
    ▷ refuse_if (not (eqb c.kind 1 || (eqb c.kind 2 || eqb c.kind 3))) 7 i
    ▷ refuse_if (eqb c.tail c.head) 8 i
    ▷ refuse_if (not (cond (eqb c.kind 2) (eqb c.weight 0) (is_weight c.weight))) 9 i

unfoldable pub against_before : ℕ → List Edge → ChangeBefore → Verdict
against_before i es c =
    refuse_if (eqb c.kind 1 && paired es (edge_before c)) 10 i
    ▷ refuse_if (not (eqb c.kind 1) && not (paired es (edge_before c))) 11 i
    ▷ refuse_if (eqb c.kind 1 && not (ltb (length es) max_edges)) 12 i

unfoldable pub item_before : ℕ → ℕ → List Edge → ChangeBefore → Verdict
item_before n i es c = words_before n i c ▷ against_before i es c

unfoldable pub reweigh : Edge → List Edge → List Edge
reweigh e [] = []
reweigh e (x ∷ es) = cond (same_pair e x) (e ∷ es) (x ∷ reweigh e es)

unfoldable pub edit_before : List Edge → ChangeBefore → List Edge
edit_before es c =
    cond (eqb c.kind 1) (order.insert pair_order (edge_before c) es)
    (cond (eqb c.kind 3) (reweigh (edge_before c) es) (order.delete pair_order (edge_before c) es))

abbrev pub edits_before : List Edge → List ChangeBefore → List Edge
edits_before es cs = foldl edit_before es cs

unfoldable pub items_before : ℕ → ℕ → List Edge → List ChangeBefore → Verdict
items_before n i es [] = accept
items_before n i es (c ∷ cs) = item_before n i es c ▷ items_before n (suc i) (edit_before es c) cs

-- ---- such a change, said now

abbrev pub weight_named : List Edge → Edge → ℕ
weight_named es e = cond (paired es e) (pair_weight es e) 1

abbrev pub renamed : List Edge → ChangeBefore → Change
renamed es c = record {
  kind = c.kind;
  tail = c.tail;
  head = c.head;
  weight = cond (eqb c.kind 2) (cond (eqb c.weight 0) (weight_named es (edge_before c)) 0) c.weight;
  old = cond (eqb c.kind 3) (weight_named es (edge_before c)) 0;
}

unfoldable pub renamed_all : List Edge → List ChangeBefore → List Change
renamed_all es [] = []
renamed_all es (c ∷ cs) = renamed es c ∷ renamed_all (edit_before es c) cs

-- ---- the claims

abbrev pub OrderConserved : Type 0
OrderConserved = (n : ℕ) (es : List Edge) → Simple es → rules_before n es ≡ rules n es

-- an add of a pair that stands, number 10 before, may be an add of a twin now
abbrev pub BatchConserved : Type 0
BatchConserved = (n i : ℕ) (es : List Edge) (cs : List ChangeBefore) → rules_before n es ≡ accept → ((j : ℕ) → items_before n i es cs ≢ refuse 10 j)
    → (items n i es (renamed_all es cs) ≡ items_before n i es cs)
    × (items_before n i es cs ≡ accept
    → (edits es (renamed_all es cs) ≡ edits_before es cs) × (rules_before n (edits_before es cs) ≡ accept) × Simple (edits_before es cs))
