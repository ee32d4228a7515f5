-- What a batch leaves in the lent lists, from what its rows came to. Assumes nothing.
use Rattle.property.proofs.Basics.{◌≡◌, ◌∙◌, List, map, ℕ, length}
use Rattle.std.specs.Prelude.{Ok}
use Rattle.graph.specs.Refusal.{accept, accepted, replied, choose}
use Rattle.graph.specs.Edge.{Edge, reverse, edges}
use Rattle.graph.specs.Index.{Own}
use Rattle.graph.proofs.Order.{rules_accept, sound_fit, within}
use Rattle.compare.specs.Code.{Tables, Differences}
use Rattle.graph.specs.Code.{reply_of, columns}
use Rattle.apply.specs.declared.Report.{Report}
use Rattle.rows.specs.declared.Rowed.{Rowed}
use Rattle.network.specs.Batch.{rewritten, still_waiting}
use Rattle.sides.specs.Code.{Sides, SidesDone}
use Rattle.apply.specs.Code.{apply_call, batch_outcome}
use Rattle.calls.specs.Code.{network}

-- ---- what is written

-- nothing waits in any row
pub apply_done : (n : ℕ) (ls ts hs ws f b : List ℕ) (m : ℕ) (fs : List Edge) (f' b' : List ℕ) (a : Rowed) → SidesDone n ls (edges ts hs ws m) fs f b f' b' a
    → still_waiting n ls (network ts hs ws f b m) fs ≡ accept → (r : Report) (ts' hs' ws' : List ℕ) → r.count ≡ length fs → r.affected ≡ a.affected → r.stores ≡ a.stores
    → columns ts' hs' ws' ≡ rewritten fs (columns ts hs ws) → batch_outcome (Ok r) ts' hs' ws' f' b' ≡ apply_call n ls (network ts hs ws f b m) fs
unfolding apply_call reply_of replied choose
apply_done n ls ts hs ws f b m fs f' b' a d u r ts' hs' ws' c o s t =
    let l = o ∙ d.affected in
    let j = s ∙ d.stores in
    rw u
    (λ i. record {
      reply = accepted (record { count = c i; affected = l i; stores = j i });
      memory = record { table = t i; rows = record { forward = d.forward i; backward = d.backward i } };
    })

-- ---- both tables

-- what the rows are run on has the batch
pub sides_made : (n m : ℕ) (ts hs ws : List ℕ) (m' : ℕ) (ts' hs' ws' xs is ris ns rns : List ℕ) → Tables n m ts hs ws m' ts' hs' ws' → Differences (edges ts hs ws m) (edges ts' hs' ws' m') xs
    → Own n is (edges ts hs ws m) → Own n ris (map reverse (edges ts hs ws m)) → Own n ns (edges ts' hs' ws' m') → Own n rns (map reverse (edges ts' hs' ws' m'))
    → Sides n (edges ts hs ws m) (edges ts' hs' ws' m') xs is ris ns rns
sides_made n m ts hs ws m' ts' hs' ws' xs is ris ns rns t d p q r s =
    let a = sound_fit n (edges ts hs ws m) (rules_accept n (edges ts hs ws m) t.old.2) in
    let b = within n (edges ts' hs' ws' m') (rules_accept n (edges ts' hs' ws' m') t.new.2) in
    record { before = λ e i. ((a e i).tail_below, (a e i).head_below, (a e i).no_loop); after = λ e i. (b.tails e i, b.heads e i); old = p; rold = q; new = r; rnew = s; net = d }
