-- The claims of specs/Edited.antt. Assumes nothing.
use Rattle.property.proofs.Basics.{◌≡◌, ap, ◌∙◌, true, not, ◌&&◌, ◌||◌, cond, List, ℕ, eqb, eq-eqb, ne_eqb}
use Rattle.graph.specs.Edge.{Edge, same, among}
use Rattle.graph.specs.Table.{delete}
use Rattle.graph.proofs.Tests.{and_true, or_right}
use Rattle.graph.proofs.Verdicts.{accept_then, refuse_then}
use Rattle.graph.proofs.Order.{Sound, rules_accept, accept_rules}
use Rattle.graph.proofs.Keeps.{among_insert, among_delete}
use Rattle.network.specs.Change.{Change, brought, struck, inserts, deletes, updates, edit, against, item}
use Rattle.network.specs.Edited.{of_pair, EditExact, PresentFirst}
use Rattle.network.proofs.Items.{refuse_if_lem, item_taken, delete_kind, edit_insert, edit_update, edit_delete, edit_sound}

-- what stands in a table after one edge is put in or struck, put together by kind
module _ (n : ℕ) (es : List Edge) (s : Sound n es) (c : Change) (x : Edge) where
  pub inserted : inserts c ≡ true → among (edit es c) x ≡ (same x (brought c) || among es x)
  inserted p = ap (λ l. among l x) (edit_insert es c p) ∙ among_insert (brought c) x es

  pub deleted : deletes c ≡ true → among (edit es c) x ≡ (among es x && not (same x (struck c)))
  deleted p = let z = delete_kind c p in ap (λ l. among l x) (edit_delete es c z.0 z.1) ∙ among_delete n es s (struck c) x

  pub updated : updates c ≡ true → among (edit es c) x ≡ (same x (brought c) || (among es x && not (same x (struck c))))
  updated p = ap (λ l. among l x) (edit_update es c p) ∙ among_insert (brought c) x (delete (struck c) es) ∙ ap (λ b. same x (brought c) || b) (among_delete n es s (struck c) x)

-- The order is kept, since a change that is accepted names an edge that is not there, or strikes one. In table order no edge stands twice, so one that
-- is struck is gone.
pub edit_exact : EditExact
edit_exact n i es c h a =
    let s = rules_accept n es h in (
      accept_rules n (edit es c) (edit_sound n es c (item_taken n i es c a) s),
      λ k x. inserted n es s c x (eq-eqb c.kind 1 k),
      λ k x. deleted n es s c x (eq-eqb c.kind 2 k) ∙ ap (λ w. among es x && not (same x (of_pair c w))) (ap (λ j. cond (eqb j 3) c.old c.weight) k),
      λ k x. updated n es s c x (eq-eqb c.kind 3 k) ∙ ap (λ w. same x (brought c) || (among es x && not (same x (of_pair c w)))) (ap (λ j. cond (eqb j 3) c.old c.weight) k),
    )

pub present_first : PresentFirst
unfolding item against
present_first n i es c w k d m = accept_then w ∙ refuse_then _ _ (refuse_if_lem (and_true (or_right (inserts c) (and_true (eq-eqb c.kind 3 k) (ap not (ne_eqb c.weight c.old d)))) m))
