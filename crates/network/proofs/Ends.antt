-- The runs of each call come to rest within n rounds, whatever words of 32 bits they start from. Assumes nothing.
use Rattle.property.proofs.Basics.{◌≡◌, false, List, Memᴰ, ℕ, suc, ◌%◌, ◌≤◌}
use Rattle.property.specs.Property.{M, properties}
use Rattle.property.proofs.Instances.{property_laws, property_joins}
use Rattle.frontier.specs.Waiting.{any_of}
use Rattle.graph.specs.Edge.{Edge}
use Rattle.graph.proofs.Order.{Within}
use Rattle.run.specs.Run.{word}
use Rattle.run.specs.Start.{Landmark}
use Rattle.theory.proofs.Chains.{nothing_waits, nothing_waits_on}
use Rattle.theory.proofs.Fits.{opened_words, Told, asked_words}
use Rattle.affected.proofs.Fits.{prepared_words}
use Rattle.network.specs.Network.{Network, edges_in, row, property_of, landmark_of}
use Rattle.network.specs.Open.{open_row}
use Rattle.network.specs.Query.{Query, asks, known, at_end}
use Rattle.network.specs.Batch.{batch_row}

module _ (n : ℕ) (ls : List ℕ) where
  pub open_row_ends : (es : List Edge) → Within n es → (r : ℕ) → any_of (open_row n ls es r).waiting ≡ false
  open_row_ends es h r = nothing_waits (suc (r % properties)) n es _ h (opened_words (property_laws (suc (r % properties))) n (landmark_of ls r))

  -- es are the edges before the batch and fs those after it
  pub batch_row_ends : (es fs : List Edge) → Within n fs → (xs : List ℕ) (r : ℕ) → ((t : ℕ) → word (property_of r) (row n r xs) t ≤ M)
      → any_of (batch_row n ls es fs xs r).waiting ≡ false
  batch_row_ends es fs h xs r k = nothing_waits (suc (r % properties)) n fs _ h
      (prepared_words (property_laws (suc (r % properties))) es fs (landmark_of ls r) n (row n r xs) k)

  -- after any schedule
  pub query_ends : (w : Network) (q : Query) → Within n (edges_in w) → ((l : Landmark) → Memᴰ l (known n ls w q) → Told (asks n ls w q) l)
      → any_of (at_end n ls w q).waiting ≡ false
  query_ends w q h k = nothing_waits_on q.property n (edges_in w) q.schedule _ h
      (asked_words (property_laws q.property) (property_joins q.property) (known n ls w q) k n q.source)
