-- A row look-up as number and words. Assumes nothing.
use Rattle.std.specs.Prelude.{Ok, Err}
use Rattle.property.proofs.Basics.{◌≡◌, sym, List, ℕ, ◌*◌}
use Rattle.graph.specs.declared.refusal.Refusal.{Refusal}
use Rattle.graph.specs.Refusal.{accepted, refused, replied}
use Rattle.graph.specs.Code.{number, place, told}
use Rattle.network.specs.Network.{Rows}
use Rattle.network.specs.Query.{row_at}
use Rattle.network.specs.Lookup.{index_of, lookup_number}
use Rattle.lookup.proofs.Showing.{told_number}
use Rattle.plate_track.specs.Code.{lookup_start}

module _ (n : ℕ) (ls : List ℕ) (xs : Rows) (side l p : ℕ) where
  pub start_refused : (e : Refusal) → replied (told (Err e)) tt ≡ lookup_number n ls xs side l p → refused (number e) (place e) ≡ lookup_start n ls xs side l p
  unfolding told replied
  start_refused e h = rw (sym (told_number n ls xs side l p (Err e) h))

  pub start_shown : replied (told (Ok tt)) tt ≡ lookup_number n ls xs side l p → (s : ℕ) → s ≡ row_at (index_of l ls) p * n → accepted s ≡ lookup_start n ls xs side l p
  unfolding told replied
  start_shown h s at = rw (sym (told_number n ls xs side l p (Ok tt) h), at)
