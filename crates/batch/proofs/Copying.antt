-- The words of change records in five lists of 1,024, one after the other: the changes that are laid there. Assumes nothing.
use Rattle.property.proofs.Basics.{◌≡◌, sym, List, map, ℕ, ◌*◌, min, length, get_or-map, length-map}
use Rattle.graph.specs.Limits.{max_batch}
use Rattle.items.specs.Code.{Laid}
use Rattle.items.proofs.Laying.{filled_laid}
use Rattle.batch.specs.Code.{recorded, no_change, record_at, copied}
use Rattle.batch.specs.declared.Change.{Change}

pub copied_laid : (ys : List Change) (xs us : List ℕ) (k : ℕ) → k ≡ min (length ys) max_batch → us ≡ copied ys xs k → length xs ≡ 5 * max_batch → Laid (length ys) (map recorded ys) us
copied_laid ys xs us k s c e = filled_laid (record_at ys) xs e (map recorded ys) (length ys) k (length-map ys recorded) s (λ i l. sym (get_or-map recorded ys i no_change)) c
