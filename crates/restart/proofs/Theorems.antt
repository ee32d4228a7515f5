-- The claim of specs/Claims.antt. Assumes nothing.
use Rattle.property.proofs.Basics.{◌≡◌, refl, sym, ap, ◌∙◌, List, map, ℕ, suc, ◌*◌, ◌%◌, ◌≤◌, ◌<◌, arith, length, length-map, ext_get_or}
use Rattle.property.specs.Property.{properties}
use Rattle.property.proofs.Instances.{property_laws}
use Rattle.graph.specs.Limits.{max_edges}
use Rattle.graph.specs.Refusal.{accept, accepted, verdict_of, over}
use Rattle.graph.specs.Edge.{Edge, reverse}
use Rattle.graph.specs.Table.{Columns, short_table}
use Rattle.graph.proofs.Verdicts.{accept_then}
use Rattle.graph.proofs.Order.{rules_accept}
use Rattle.graph.proofs.Judging.{lengths_accept, table_accept}
use Rattle.theory.proofs.Exists.{best_same}
use Rattle.network.specs.Network.{Rows, Network, edges_in, row_count, short_rows, landmarks, faults, row, property_of}
use Rattle.network.specs.Open.{open_call}
use Rattle.network.specs.Caller.{opened_network}
use Rattle.network.specs.History.{moment, edges_now}
use Rattle.network.proofs.Items.{accept_table, length_over}
use Rattle.network.proofs.Rows.{RowsBest, long_rows}
use Rattle.network.proofs.Moment.{Good, good_count, opens}
use Rattle.network.proofs.Never.{open_judged, begun}
use Rattle.network.proofs.Steady.{row_long}
use Rattle.dimacs.specs.Network as net
use Rattle.dimacs.specs.Call.{filled}
use Rattle.dimacs.specs.Claims.{Table}
use Rattle.dimacs.specs.Calls.{Writes}
use Rattle.dimacs.proofs.Written.{filled_edges}
use Rattle.dimacs.proofs.Theorems.{network_writes}
use Rattle.dimacs.proofs.Widths.{table_length}
use Rattle.dimacs.proofs.Calls.{call_reads, written_call}
use Rattle.restart.specs.Claims.{restored, Same, Saved, Restart}

-- ---- rows of best words are the same words

rows_same : (n : ℕ) (ls : List ℕ) (es : List Edge) (xs ys : List ℕ) → row_count ls * n ≤ length xs → row_count ls * n ≤ length ys
    → RowsBest n ls es xs → RowsBest n ls es ys → (r : ℕ) → r < row_count ls → row n r xs ≡ row n r ys
rows_same n ls es xs ys a b p q r h =
    ext_get_or (property_of r).none (row n r xs) (row n r ys) (row_long n (row_count ls) r xs a h ∙ sym (row_long n (row_count ls) r ys b h))
    (λ t l. best_same (property_laws (suc (r % properties))) (p r h t) (q r h t))

-- two networks that keep the invariant, and have the same edges, are the same
good_same : (n : ℕ) (ls : List ℕ) (v w : Network) → Good n ls v → Good n ls w → edges_in v ≡ edges_in w → Same n ls v w
good_same n ls v w g h e = record {
  records = e;
  count = sym (good_count n ls v g) ∙ ap (λ (fs : List Edge). length fs) e ∙ good_count n ls w h;
  forward = rows_same n ls (edges_in w) v.memory.rows.forward w.memory.rows.forward (long_rows n ls v.memory.rows g.long).0 (long_rows n ls w.memory.rows h.long).0
      (rw e at g.forward) h.forward;
  backward = rows_same n ls (map reverse (edges_in w)) v.memory.rows.backward w.memory.rows.backward (long_rows n ls v.memory.rows g.long).1 (long_rows n ls w.memory.rows h.long).1
      (rw e at g.backward) h.backward;
}

-- ---- a table that was read

filled_long : (es : List Edge) (ds : Columns) → length es ≤ max_edges → short_table ds ≡ accept → short_table (filled es ds) ≡ accept
filled_long es ds f s =
    let l = lengths_accept ds.tails ds.heads ds.weights s in
    rw (kept (λ e. e.tail) ds.tails l.tails, kept (λ e. e.head) ds.heads l.heads, kept (λ e. e.weight) ds.weights l.weights) s
  where
    kept : (g : Edge → ℕ) (xs : List ℕ) → max_edges ≤ length xs → length (over (map g es) xs) ≡ length xs
    kept g xs h = length_over (map g es) xs (omega (arith, length-map es g))

module _ (n : ℕ) (ls : List ℕ) (es : List Edge) (t : Table n es) (c : landmarks n ls ≡ accept) (ds : Columns) (xs : Rows)
    (s : short_table ds ≡ accept) (l : short_rows n ls xs ≡ accept) where
  restored_edges : edges_in (restored es ds xs) ≡ es
  restored_edges = filled_edges es (length es) ds refl

  restored_faults : faults n ls (restored es ds xs) ≡ accept
  restored_faults = accept_then t.vertices ∙ accept_then (filled_long es ds t.few s) ∙ accept_then l ∙ accept_then c
      ∙ accept_table n (filled es ds) (length es) t.few (rw restored_edges (rules_accept n es t.rules))

  restored_opens : verdict_of (open_call n ls (restored es ds xs)).reply ≡ accept
  restored_opens = open_judged n ls (restored es ds xs) ∙ restored_faults

  restored_same : (w : Network) → Good n ls w → edges_in w ≡ es → Same n ls (opened_network n ls (restored es ds xs)) w
  restored_same w g e =
      let o = opens n ls (restored es ds xs) restored_opens in
      good_same n ls (opened_network n ls (restored es ds xs)) w o.0 g (o.1 ∙ restored_edges ∙ sym e)

-- ---- the claim

saved : (n : ℕ) (ls : List ℕ) (w : Network) (es : List Edge) → Good n ls w → edges_in w ≡ es → Saved n ls w es
saved n ls w es g e = record {
  text = text;
  canonical = network_writes n es good;
  short = table_length n es good;
  written = λ out r. written_call n w.memory.table w.count out (length text) (writes out r) ∙ ap (λ (fs : List Edge). record { reply = accepted (length text); memory = over (net.written n fs) out }) e;
  read = λ ds s. (call_reads text ds s n es).1 (network_writes n es good).good;
  opens = λ ds xs s l. restored_opens n ls es good g.chosen ds xs s l;
  same = λ ds xs s l. restored_same n ls es good g.chosen ds xs s l w g e;
}
  where
    text : List ℕ
    text = net.written n es

    few : w.count ≤ max_edges
    few = (table_accept n w.memory.table w.count g.sound).0

    held : Table n (edges_in w)
    held = record { vertices = g.sized; few = omega (arith, few, good_count n ls w g); rules = (table_accept n w.memory.table w.count g.sound).1 }

    good : Table n es
    good = rw e at held

    writes : (out : List ℕ) → length text ≤ length out → Writes n w.memory.table w.count out (length text)
    writes out r = record {
      long = g.roomy;
      few = few;
      table = held;
      text = net.written n (edges_in w);
      canonical = network_writes n (edges_in w) held;
      bytes = ap (λ (fs : List Edge). length (net.written n fs)) e;
      room = r;
    }

-- At each moment the network keeps its invariant, and the edges in its table are the network as it is now. They are a table, so that the writing
-- call has no ground to refuse but room, and its text is the canonical one. That text is good, so that it is read as these edges. In lists that are
-- long enough they pass numbers 1 to 4, so the opening is accepted and brings the invariant about on the same edges. Its rows then hold best
-- words, as those of the network that was saved do; and a best value is one only.
pub restart : Restart
restart n ls w h bs =
    let z = begun n ls w h bs in
    saved n ls (moment n ls w bs) (edges_now n w bs) z.0 z.1
