-- The reply of a writing and the buffer after it, in the order of the refusals. Assumes nothing.
use Rattle.property.proofs.Basics.{◌≡◌, sym, ap, List, ◌++◌, ℕ, ◌+◌, ◌≤◌, ◌<◌, arith, zero-add, length, length-append, ltb, lt-ltb, le-ltb}
use Rattle.std.specs.Prelude.{Ok, Err}
use Rattle.graph.specs.declared.refusal.Refusal.{Refusal}
use Rattle.graph.specs.declared.refusal.Refusal.TheVariants.{Short}
use Rattle.graph.specs.Edge.{edges}
use Rattle.graph.specs.Refusal.{Verdict, accept, ◌▷◌, refuse_if, replied, choose, over}
use Rattle.graph.specs.Limits.{max_edges}
use Rattle.graph.specs.Table.{Columns, edges_of, size, short_table, table}
use Rattle.graph.specs.Code.{told, reply_of, Room, columns}
use Rattle.graph.proofs.Verdicts.{then_accept, then_assoc}
use Rattle.graph.proofs.Judging.{lengths_accept, table_accept, fine_accept}
use Rattle.graph.proofs.Records.{room_less}
use Rattle.dimacs.specs.Network.{written}
use Rattle.dimacs.specs.Call.{write_call}
use Rattle.writer.specs.Code.{laid, Fits, Wrote, arcs_of, write_outcome}
use Rattle.writer.proofs.Text.{problem_line, written_lines}

-- ---- writing

-- what is judged before the buffer
abbrev pub judged_write : ℕ → Columns → ℕ → Verdict
judged_write n cs m = size n ▷ short_table cs ▷ table n cs m

pub record Writable (n : ℕ) (ts hs ws : List ℕ) (m : ℕ) : Type 0 where
  pub count : m ≤ max_edges
  pub room : Room m ts hs ws

pub write_accept : {n : ℕ} {ts hs ws : List ℕ} {m : ℕ} → judged_write n (columns ts hs ws) m ≡ accept → Writable n ts hs ws m
write_accept {n} {ts} {hs} {ws} {m} e =
    let a = then_accept (size n) _ e in
    let s = then_accept (short_table (columns ts hs ws)) _ a.1 in
    let t = table_accept n (columns ts hs ws) m s.1 in
    record { count = t.0; room = room_less t.0 (lengths_accept ts hs ws s.0) }

module _ (n : ℕ) (cs : Columns) (m : ℕ) (out : List ℕ) where
  abbrev text : List ℕ
  text = written n (edges_of cs m)

  -- the whole chain, by its value
  pub chain : (v : Verdict) → judged_write n cs m ≡ v → (size n ▷ short_table cs ▷ table n cs m ▷ refuse_if (ltb (length out) (length text)) 2 0) ≡ (v ▷ refuse_if (ltb (length out) (length text)) 2 0)
  chain v e =
      let last = refuse_if (ltb (length out) (length text)) 2 0 in
      rw (← e, then_assoc (size n) (short_table cs ▷ table n cs m) last, then_assoc (short_table cs) (table n cs m) last)

pub wrote_over : {text out new : List ℕ} {r : ℕ} → Wrote text 0 out r new → new ≡ over text out
unfolding laid
wrote_over w = rw zero-add at w.bytes

-- what the call answers where it is refused before the buffer is judged
pub write_refused : (n : ℕ) (cs : Columns) (m : ℕ) (out : List ℕ) (e : Refusal) → told (Err e) ≡ judged_write n cs m → write_outcome (Err e) out ≡ write_call n cs m out
unfolding write_call told ◌▷◌ replied choose reply_of
write_refused n cs m out e h = rw (chain n cs m out _ (sym h))

-- where it is not
module _ (n : ℕ) (ts hs ws : List ℕ) (m : ℕ) (h : told (Ok tt) ≡ judged_write n (columns ts hs ws) m) where
  pub writable : Writable n ts hs ws m
  writable = write_accept (fine_accept _ h)

  pub lines : written n (edges ts hs ws m) ≡ problem_line n m ++ arcs_of (edges ts hs ws m)
  lines = written_lines n writable.room

  -- p and a are the lengths of the p line and of the a lines
  module _ {p a : ℕ} (u : p ≡ length (problem_line n m)) (v : a ≡ length (arcs_of (edges ts hs ws m))) (out : List ℕ) where
    whole : p + a ≡ length (written n (edges ts hs ws m))
    whole = omega (arith, ap length lines, length-append (problem_line n m) (arcs_of (edges ts hs ws m)), u, v)

    pub write_short : length out < p + a → write_outcome (Err Short) out ≡ write_call n (columns ts hs ws) m out
    unfolding write_call ◌▷◌ refuse_if replied choose reply_of
    write_short l = rw (chain n (columns ts hs ws) m out _ (fine_accept _ h), lt-ltb (length out) (length (written n (edges ts hs ws m))) (omega (arith, whole)))

    module _ (l : p + a ≤ length out) where
      pub fits : Fits (written n (edges ts hs ws m)) 0 out
      fits = record { room = omega (arith, whole) }

      pub write_good : {r : ℕ} {new : List ℕ} → Wrote (written n (edges ts hs ws m)) 0 out r new → write_outcome (Ok (p + a)) new ≡ write_call n (columns ts hs ws) m out
      unfolding write_call ◌▷◌ refuse_if replied choose reply_of
      write_good w = rw (chain n (columns ts hs ws) m out _ (fine_accept _ h), le-ltb (length out) (length (written n (edges ts hs ws m))) (omega (arith, whole)), whole, wrote_over w)
