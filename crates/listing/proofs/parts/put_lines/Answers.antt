-- `listing::parts::put_lines` meets its contract. Assumes nothing.
use Rattle.property.proofs.Basics.{arith, ◌≡◌, sym, List, ℕ, ◌*◌, ◌≤◌, length, take, length-take-le}
use Rattle.property.specs.Property.{properties}
use Rattle.dimacs.specs.Network.{read_network}
use Rattle.dimacs.specs.Call.{edges_read}
use Rattle.listing.specs.Code.{RowLists, row_words}
use Rattle.calls.proofs.Rows.{rows_most}
use Rattle.listing.proofs.Pieces.{parts_lines}
use Rattle.listing.proofs.parts.put_lines.Goals as goal

pub overflow_mul-k-2 : goal.overflow_mul-k-2
overflow_mul-k-2 c =
    let cells : ℕ = c.args.prepared.choice.count * properties * c.args.prepared.n in
    let most : cells ≤ row_words = let h = c.requires.1.bounded in rows_most c.args.prepared.choice.count c.args.prepared.n h.landmarks h.vertices in
    omega (arith, most)

pub slice_bounds-vertices-end : goal.slice_bounds-vertices-end
slice_bounds-vertices-end c =
    let h = c.requires.1.bounded in omega (arith, h.landmarks, h.places)

pub slice_bounds-put_source-end : goal.slice_bounds-put_source-end
slice_bounds-put_source-end c =
    let h = c.requires.1.bounded in sym (length-take-le _ _ (omega (arith, h.landmarks, h.places)))

pub slice_bounds-put_source-end-2 : goal.slice_bounds-put_source-end-2
slice_bounds-put_source-end-2 c =
    let cells : ℕ = c.args.prepared.choice.count * properties * c.args.prepared.n in
    let most : cells ≤ row_words = let h = c.requires.1.bounded in rows_most c.args.prepared.choice.count c.args.prepared.n h.landmarks h.vertices in
    let rows_fit : (xs : List ℕ) → (RowLists c.args.forward.now c.args.backward.now → row_words ≤ length xs) → length (take cells xs) ≡ cells = λ xs h. length-take-le cells xs (omega (arith, most, h c.requires.1.bounded.rows)) in
    sym (rows_fit _ (λ r. r.forward))

pub slice_bounds-put_source-end-3 : goal.slice_bounds-put_source-end-3
slice_bounds-put_source-end-3 c =
    let cells : ℕ = c.args.prepared.choice.count * properties * c.args.prepared.n in
    let most : cells ≤ row_words = let h = c.requires.1.bounded in rows_most c.args.prepared.choice.count c.args.prepared.n h.landmarks h.vertices in
    let rows_fit : (xs : List ℕ) → (RowLists c.args.forward.now c.args.backward.now → row_words ≤ length xs) → length (take cells xs) ≡ cells = λ xs h. length-take-le cells xs (omega (arith, most, h c.requires.1.bounded.rows)) in
    sym (rows_fit _ (λ r. r.backward))

pub returns : goal.returns
returns c =
    record {
      by_index = λ gr ss h e.
          rw (parts_lines h c.requires.1.bounded.sources c.args.i c.requires.0)
          (c.put_source.ensures.wrote (edges_read (read_network gr)) h.1.ready.landmarks);
      upper_bound = c.put_source.ensures.upper_bound;
    }
