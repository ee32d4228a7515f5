-- Two files as they are read: the verdict of each, and what it leaves in the lists. Assumes nothing.
use Rattle.property.proofs.Basics.{◌≡◌, refl, sym, ap, subst, ◌∙◌, Bool, ◌||◌, List, ℕ, ◌≤◌, ◌<◌, arith, length, drop, replicate, length-append, take_at, eqb, lt-ltb, le-ltb}
use Rattle.std.specs.Prelude.{Result, Ok, Err}
use Rattle.graph.specs.declared.refusal.Refusal.{Refusal}
use Rattle.graph.specs.Refusal.{Verdict, accept, refuse, ◌▷◌, refuse_if, Reply, accepted, verdict_of, Outcome, replied, choose, over}
use Rattle.graph.specs.Limits.{max_edges}
use Rattle.graph.specs.Edge.{Edge}
use Rattle.graph.specs.Table.{Columns, size, short_table}
use Rattle.graph.specs.Code.{reply_of, columns}
use Rattle.graph.proofs.Verdicts.{accept_then, refuse_then, accept_if, verdict_replied}
use Rattle.dimacs.specs.Read.{Read, good, bad}
use Rattle.dimacs.specs.Network as net
use Rattle.dimacs.specs.Sources as src
use Rattle.dimacs.specs.Call.{Size, judged, vertex_count, edges_read, filled, read_call, sources_read, sources_call}
use Rattle.dimacs.specs.Claims.{Table}
use Rattle.dimacs.proofs.Calls.{judged_accept}
use Rattle.dimacs.proofs.Network as networks
use Rattle.dimacs.proofs.Theorems.{network_tables}
use Rattle.dimacs.proofs.Written.{read_call_lem}
use Rattle.network.proofs.Never.{Only, accepts, refuses, only_if, only_then}
use Rattle.reader.specs.declared.network_text.Size as graphs
use Rattle.reader.specs.Code as graph
use Rattle.sources.specs.Code as list
use Rattle.listing.proofs.Opening.{zeros}
use Rattle.listing.specs.Listing.{max_file, graph_verdict, sources_verdict, files_verdict}
use Rattle.listing.specs.Code.{GraphRead, SourcesRead}

-- ---- deck.gr

pub graph_long : (gr : List ℕ) → max_file < length gr → graph_verdict gr ≡ refuse 2 0
unfolding refuse_if ◌▷◌
graph_long gr l = rw (lt-ltb max_file (length gr) l)

pub graph_verdict_lem : (gr : List ℕ) → length gr ≤ max_file → graph_verdict gr ≡ judged (net.read_network gr)
graph_verdict_lem gr l = accept_then (accept_if 2 0 (le-ltb max_file (length gr) l))

pub zero_columns : (ts hs ws : List ℕ) {t h w : List ℕ} → t ≡ replicate (length ts) 0 → h ≡ replicate (length hs) 0 → w ≡ replicate (length ws) 0
    → length ts ≡ max_edges → length hs ≡ max_edges → length ws ≡ max_edges → columns t h w ≡ zeros
zero_columns ts hs ws p q r a b c = rw (p, q, r, a, b, c)

zeros_long : short_table zeros ≡ accept
unfolding refuse_if
zeros_long = refl

same_size : {a b c d : ℕ} → ◌≡◌ {A = Reply Size} (accepted (record { vertices = a; count = b })) (accepted (record { vertices = c; count = d })) → (a ≡ c) × (b ≡ d)
same_size {a} {b} {c} {d} e =
    let r : ◌≡◌ {A = Size} (record { vertices = a; count = b }) (record { vertices = c; count = d }) = cc in
    (ap (λ (z : Size). z.vertices) r, ap (λ (z : Size). z.count) r)

module _ (gr ts hs ws : List ℕ) (l : length gr ≤ max_file) where
  graph_told : (r : Result graphs.Size Refusal) → graph.read_outcome r ts hs ws ≡ read_call gr zeros → verdict_of (graph.reading r) ≡ judged (net.read_network gr)
  unfolding read_call
  graph_told r e = ap (λ (o : Outcome Size Columns). verdict_of o.reply) e ∙ verdict_replied (short_table zeros ▷ judged (net.read_network gr)) _ ∙ accept_then zeros_long

  module _ (st : net.State) (q : net.read_network gr ≡ good st) where
    abbrev found : (n : ℕ) × (es : List Edge) × (st ≡ net.within n (length es) es) × net.Good gr n es
    found = networks.read_good gr st q

    graph_good : net.read_network gr ≡ good (net.within found.0 (length found.1) found.1)
    graph_good = q ∙ ap good found.2

    graph_whole : read_call gr zeros ≡ record { reply = accepted (record { vertices = found.0; count = length found.1 }); memory = filled found.1 zeros }
    graph_whole = read_call_lem gr found.0 found.1 (length found.1) zeros graph_good refl zeros_long

    graph_count : vertex_count (net.read_network gr) ≡ found.0
    unfolding vertex_count
    graph_count = ap vertex_count graph_good

    graph_edges : edges_read (net.read_network gr) ≡ found.1
    unfolding edges_read
    graph_edges = ap edges_read graph_good

    graph_loaded : (z : graphs.Size) → graph.read_outcome (Ok z) ts hs ws ≡ read_call gr zeros → GraphRead gr (Ok z) ts hs ws
    unfolding reply_of judged
    graph_loaded z e =
        let x = same_size (ap (λ (o : Outcome Size Columns). o.reply) (e ∙ graph_whole)) in
        let a : z.n ≡ found.0 = x.0 in
        let b : z.count ≡ length found.1 = x.1 in
        let c = ap (λ (o : Outcome Size Columns). o.memory) (e ∙ graph_whole) in (
          graph_verdict_lem gr l ∙ ap judged q,
          a ∙ sym graph_count,
          rw graph_edges (record { good = subst (λ (k : ℕ). Table k found.1) (sym a) (network_tables gr found.0 found.1 found.3).0; count = b; table = c }),
        )

  pub graph_read : (r : Result graphs.Size Refusal) → graph.read_outcome r ts hs ws ≡ read_call gr zeros → GraphRead gr r ts hs ws
  unfolding reply_of verdict_of
  graph_read (Ok z) e = let (st, q) = judged_accept (net.read_network gr) (sym (graph_told (Ok z) e)) in graph_loaded st q z e
  graph_read (Err d) e = graph_verdict_lem gr l ∙ sym (graph_told (Err d) e)

-- ---- deck.ss

pub sources_long : (n : ℕ) (ss : List ℕ) → max_file < length ss → sources_verdict n ss ≡ refuse 2 0
unfolding refuse_if ◌▷◌
sources_long n ss l = rw (lt-ltb max_file (length ss) l)

module _ (n : ℕ) (ss xs ys : List ℕ) (s : size n ≡ accept) (w : src.max_sources ≤ length xs) (l : length ss ≤ max_file) where
  sources_verdict_lem : sources_verdict n ss ≡ judged (src.read_sources n ss)
  sources_verdict_lem = accept_then (accept_if 2 0 (le-ltb max_file (length ss) l))

  abbrev R : Read src.State
  R = src.read_sources n ss

  sources_call_lem : sources_call n ss xs ≡ record { reply = replied (judged R) (length (sources_read R)); memory = choose (judged R) (over (sources_read R) xs) xs }
  unfolding sources_call
  sources_call_lem =
      ap (λ (v : Verdict). record { reply = replied v (length (sources_read R)); memory = choose v (over (sources_read R) xs) xs })
      (accept_then s ∙ accept_then (accept_if 2 0 (le-ltb (length xs) src.max_sources w)))

  sources_loaded : (k : ℕ) → judged R ≡ accept → list.sources_outcome (Ok k) ys ≡ sources_call n ss xs → SourcesRead n ss (Ok k) ys
  unfolding reply_of replied choose
  sources_loaded k v e =
      let f = rw v at (e ∙ sources_call_lem) in
      let x : accepted k ≡ accepted (length (sources_read R)) = ap (λ (o : Outcome ℕ (List ℕ)). o.reply) f in
      let a : k ≡ length (sources_read R) = cc in
      let b : ys ≡ over (sources_read R) xs = ap (λ (o : Outcome ℕ (List ℕ)). o.memory) f in (
        sources_verdict_lem ∙ v,
        rw b (take_at (sources_read R) (drop (length (sources_read R)) xs) k (sym a)),
        omega (arith, ap length b, length-append (sources_read R) (drop (length (sources_read R)) xs)),
      )

  sources_told : (r : Result ℕ Refusal) → list.sources_outcome r ys ≡ sources_call n ss xs → verdict_of (list.reading r) ≡ judged R
  sources_told r e = ap (λ (o : Outcome ℕ (List ℕ)). verdict_of o.reply) (e ∙ sources_call_lem) ∙ verdict_replied (judged R) (length (sources_read R))

  pub sources_read_lem : (r : Result ℕ Refusal) → list.sources_outcome r ys ≡ sources_call n ss xs → SourcesRead n ss r ys
  unfolding reply_of verdict_of
  sources_read_lem (Ok k) e = sources_loaded k (sym (sources_told (Ok k) e)) e
  sources_read_lem (Err d) e = sources_verdict_lem ∙ sym (sources_told (Err d) e)

-- ---- both

pub files_first : (gr ss : List ℕ) (k i : ℕ) → graph_verdict gr ≡ refuse k i → files_verdict gr ss ≡ refuse k i
files_first gr ss k i e = refuse_then (graph_verdict gr) _ e

pub files_second : (gr ss : List ℕ) (n : ℕ) (v : Verdict) → graph_verdict gr ≡ accept → n ≡ vertex_count (net.read_network gr) → sources_verdict n ss ≡ v → files_verdict gr ss ≡ v
files_second gr ss n v e a h = accept_then e ∙ ap (λ (k : ℕ). sources_verdict k ss) (sym a) ∙ h

-- ---- which numbers the files are refused with

-- 2 and 14
abbrev pub file_number : ℕ → Bool
file_number k = eqb k 2 || eqb k 14

only_judged : {S : Type 0} (r : Read S) → Only file_number (judged r)
unfolding judged
only_judged (good st) = accepts
only_judged (bad k) = refuses refl

pub files_numbers : (gr ss : List ℕ) → Only file_number (files_verdict gr ss)
files_numbers gr ss = only_then (only_then (only_if _ 2 0 refl) (only_judged (net.read_network gr)))
    (only_then (only_if _ 2 0 refl) (only_judged (src.read_sources (vertex_count (net.read_network gr)) ss)))
