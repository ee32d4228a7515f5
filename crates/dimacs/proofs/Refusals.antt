-- The calls on text refused, in the order of their numbers, before the text is looked at or, writing, before it is measured. Assumes nothing.
use Rattle.property.proofs.Basics.{◌≡◌, refl, ◌∙◌, Bool, true, false, List, ℕ, ◌<◌, ltb, length, lt-ltb}
use Rattle.graph.specs.Refusal.{accept, refuse, ◌▷◌, refuse_if, refused, over}
use Rattle.graph.specs.Table.{Columns, edges_of, size, short_table, table}
use Rattle.graph.proofs.Verdicts.{accept_then, refuse_then, outcome_refused}
use Rattle.dimacs.specs.Network as net
use Rattle.dimacs.specs.Sources as src
use Rattle.dimacs.specs.Call.{judged, vertex_count, edges_read, sources_read, filled, read_call, write_call, sources_call}
use Rattle.dimacs.specs.Calls.{CallShort, SourcesCallShort}

-- a test that does not accept refuses
if_refuses : (b : Bool) (k i : ℕ) → (refuse_if b k i ≡ accept → ⊥) → refuse_if b k i ≡ refuse k i
unfolding refuse_if
if_refuses true k i h = refl
if_refuses false k i h = absurd (h refl)

refuse_if_lem : {b : Bool} (k i : ℕ) → b ≡ true → refuse_if b k i ≡ refuse k i
unfolding refuse_if
refuse_if_lem k i h = rw h

-- ---- reading

pub call_short : CallShort
unfolding read_call
call_short text cs h =
    let r = net.read_network text in
    outcome_refused (short_table cs ▷ judged r) (record { vertices = vertex_count r; count = length (edges_read r) }) (filled (edges_read r) cs) cs
    (refuse_then (short_table cs) (judged r) (if_refuses _ 2 0 h))

pub sources_call_short : SourcesCallShort
unfolding sources_call
sources_call_short n text out =
    let r = src.read_sources n text in
    let rest = refuse_if (ltb (length out) src.max_sources) 2 0 ▷ judged r in
    let call : (k : ℕ) → (size n ▷ rest) ≡ refuse k 0 → sources_call n text out ≡ record { reply = refused k 0; memory = out } = λ k e. outcome_refused (size n ▷ rest) (length (sources_read r)) (over (sources_read r) out) out e in (
      λ h. call 1 (refuse_then (size n) rest (if_refuses _ 1 0 h)),
      λ s l. call 2 (accept_then s ∙ refuse_then (refuse_if (ltb (length out) src.max_sources) 2 0) (judged r) (refuse_if_lem 2 0 (lt-ltb (length out) src.max_sources l))),
    )

-- ---- writing: 1, 2, 4, and last the buffer's 2

pub write_refused : (n : ℕ) (cs : Columns) (m : ℕ) (out : List ℕ)
    → ((size n ≡ accept → ⊥) → write_call n cs m out ≡ record { reply = refused 1 0; memory = out })
    × (size n ≡ accept → (short_table cs ≡ accept → ⊥) → write_call n cs m out ≡ record { reply = refused 2 0; memory = out })
    × (size n ≡ accept → short_table cs ≡ accept → (k i : ℕ) → table n cs m ≡ refuse k i → write_call n cs m out ≡ record { reply = refused k i; memory = out })
    × (size n ≡ accept → short_table cs ≡ accept → table n cs m ≡ accept → length out < length (net.written n (edges_of cs m))
    → write_call n cs m out ≡ record { reply = refused 2 0; memory = out })
unfolding write_call
write_refused n cs m out =
    let x = net.written n (edges_of cs m) in
    let last = refuse_if (ltb (length out) (length x)) 2 0 in
    let call : (k i : ℕ) → (size n ▷ short_table cs ▷ table n cs m ▷ last) ≡ refuse k i → write_call n cs m out ≡ record { reply = refused k i; memory = out } = λ k i e. outcome_refused (size n ▷ short_table cs ▷ table n cs m ▷ last) (length x) _ out e in (
      λ h. call 1 0 (refuse_then (size n) (short_table cs ▷ table n cs m ▷ last) (if_refuses _ 1 0 h)),
      λ s h. call 2 0 (accept_then s ∙ refuse_then (short_table cs) (table n cs m ▷ last) (if_refuses _ 2 0 h)),
      λ s l k i h. call k i (accept_then s ∙ accept_then l ∙ refuse_then (table n cs m) last h),
      λ s l t h. call 2 0 (accept_then s ∙ accept_then l ∙ accept_then t ∙ refuse_if_lem 2 0 (lt-ltb (length out) (length x) h)),
    )
