-- Which numbers turn a route, a digest and a preview back, whatever is lent, as long as the words of the row lists are of 32 bits: document 01, "Turned
-- back"; document 02, Two and Four. 13 is none of them. Assumes nothing.
use Rattle.property.proofs.Basics.{refl, Bool, ◌||◌, List, ℕ, suc, arith, length, eqb}
use Rattle.property.specs.Property.{property}
use Rattle.graph.specs.Refusal.{◌▷◌, verdict_of}
use Rattle.graph.specs.Table.{Columns}
use Rattle.graph.proofs.Verdicts.{verdict_replied}
use Rattle.network.specs.Network.{Network}
use Rattle.network.specs.Change.{Change}
use Rattle.network.proofs.Never.{FitList, Only, between, only_if, only_more, only_then, others}
use Rattle.network.proofs.Numbers.{wider, only_bare, asked_numbers, any_query_numbers, any_batch_numbers, batch_fits}
use Rattle.answers.specs.Routing.{Request, Answer, route_faults, no_route, route_call, preferred}
use Rattle.answers.specs.Digest.{digest, digest_faults, digest_call}
use Rattle.answers.specs.Preview.{Shown, inquiry, applied, preview_faults, preview_verdict, preview_call, AnyPreviewNever}

-- 1 to 6, and 15
abbrev pub route_number : ℕ → Bool
route_number k = between 1 6 k || eqb k 15

pub route_numbers : (n : ℕ) (cs : Columns) (m : ℕ) (q : Request) (out : Answer) → Only route_number (verdict_of (route_call n cs m q out).reply)
unfolding route_call route_faults
route_numbers n cs m q out = rw (verdict_replied (route_faults n cs m q (length out.vertices) (length out.marks) (length out.figures) ▷ no_route n cs m q) (suc (length (preferred n cs m q))))
    (only_then (only_then (only_bare refl refl refl n cs m (only_if _ 2 0 refl)) (only_then (only_if _ 5 0 refl) (only_if _ 6 0 refl))) (only_if _ 15 0 refl))

pub digest_numbers : (n p : ℕ) (out : Shown) → Only (between 1 5) (verdict_of (digest_call n p out))
unfolding digest_call digest_faults
digest_numbers n p out = rw (verdict_replied (digest_faults n p (length out.effects) (length out.moves)) (digest (property p) n out))
    (only_then (only_if _ 1 0 refl) (only_then (only_if _ 2 0 refl) (only_if _ 5 0 refl)))

module _ (n : ℕ) (ls : List ℕ) (w : Network) (forward : FitList w.memory.rows.forward) (backward : FitList w.memory.rows.backward) (b : List Change) (p s : ℕ) (out : Shown) where
  -- the query after the batch goes over the rows that the batch left
  pub any_preview_numbers : Only (between 1 12) (verdict_of (preview_call n ls w b p s out).reply)
  unfolding preview_call preview_faults
  any_preview_numbers =
      let f = batch_fits n ls w b forward backward in
      let six = wider {a = 1} {b = 6} {c = 1} {d = 12} (omega arith) (omega arith) in
      rw (verdict_replied (preview_verdict n ls w b p s out) (tt {0}))
      (only_then (only_then (only_if _ 1 0 refl) (only_more six (asked_numbers n ls w (inquiry p s) (length out.effects) (length out.moves))))
      (only_then (any_batch_numbers n ls w b forward backward)
      (only_then (only_more six (any_query_numbers n ls w forward backward (inquiry p s) _))
      (only_more six (any_query_numbers n ls (applied n ls w b) f.0 f.1 (inquiry p s) _)))))

pub any_preview_never : AnyPreviewNever
any_preview_never n ls w f g b p s out = others _ refl (any_preview_numbers n ls w f g b p s out)
