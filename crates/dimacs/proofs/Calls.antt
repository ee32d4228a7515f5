-- The claims of specs/Calls.antt, one theorem each. Assumes nothing.
use Rattle.property.proofs.Basics.{◌≡◌, refl, sym, ap, ◌∙◌, ◌↔◌, ◌⊎◌, inl, inr, List, ℕ, ◌≤◌, arith, ltb, length, drop, take_at, drop_at, le-ltb}
use Rattle.graph.specs.Limits.{max_edges}
use Rattle.graph.specs.Refusal.{Verdict, accept, refuse, ◌▷◌, refuse_if, accepted, refused, replied, verdict_of, Outcome, choose, over}
use Rattle.graph.specs.Edge.{Edge}
use Rattle.graph.specs.Table.{Columns, edges_of, size, short_table, table}
use Rattle.graph.proofs.Verdicts.{not_accept, then_accept, accept_then, accept_if, reply_accepted, outcome_accepted}
use Rattle.graph.proofs.Judging.{size_accept}
use Rattle.dimacs.proofs.Refusals.{write_refused}
use Rattle.dimacs.proofs.Places.{place_one}
use Rattle.dimacs.proofs.Network as network
use Rattle.dimacs.proofs.Sources as sources
use Rattle.dimacs.proofs.Written.{write_verdict, filled_edges, read_call_lem}
use Rattle.dimacs.proofs.Widths.{table_length}
use Rattle.dimacs.proofs.Theorems.{network_places, network_writes, network_canonical, sources_places}
use Rattle.dimacs.specs.Lines.{Place}
use Rattle.dimacs.specs.Read.{Read, good, bad}
use Rattle.dimacs.specs.Network as net
use Rattle.dimacs.specs.Sources as src
use Rattle.dimacs.specs.Call.{judged, Size, vertex_count, edges_read, sources_read, filled, read_call, write_call, sources_call}
use Rattle.dimacs.specs.Calls.{Writes, NetworkCover, SourcesCover, CallReads, CallRefuses, SourcesCallReads, SourcesCallRefuses, CallWrites, CallWritten, CallUnwritten, WrittenLength}

-- ---- every text

-- The reader accepts, and the text is good, or refuses somewhere, and there is the place.
covered : {S : Type 0} (Good : List ℕ → Type 0) (text : List ℕ) (r : Read S) → ((s : S) → r ≡ good s → Good text) → ((j : ℕ) → r ≡ bad j → Place Good text j)
    → Good text ⊎ ((k : ℕ) × Place Good text k × ((j : ℕ) → Place Good text j → j ≡ k))
covered Good text (good s) f g = inl (f s refl)
covered Good text (bad k) f g = inr (k, g k refl, λ j p. place_one Good text j k p (g k refl))

pub network_cover : NetworkCover
network_cover text = covered net.IsGood text (net.read_network text) (network.read_is_good text) (λ j. (network_places text j).0)

pub sources_cover : SourcesCover
sources_cover n pos text = covered (src.IsGood n) text (src.read_sources n text) (sources.read_is_good n text) (λ j. (sources_places n pos text j).0)

-- ---- outcomes of a judged text

-- a call whose chain is a text's verdict is refused exactly where the text is, with 14
judged_refused : {S A : Type 0} (r : Read S) (a : A) (k i : ℕ) → (replied (judged r) a ≡ refused k i) ↔ ((k ≡ 14) × (r ≡ bad i))
unfolding judged replied verdict_of
judged_refused (good s) a k i = (λ h. absurd (not_accept (sym (ap verdict_of h))), λ h. let z : ◌≡◌ {A = ℕ} 0 1 = cc in absurd (omega arith))
judged_refused (bad j) a k i = (λ h. let p : 14 ≡ k = cc in let q : j ≡ i = cc in (sym p, ap bad q), λ h. let q : j ≡ i = cc in rw (h.0, q))

-- what a refused call lends is as it was
refused_old : {A L : Type 0} (v : Verdict) (a : A) (new old : L) (k i : ℕ) → replied v a ≡ refused k i → choose v new old ≡ old
unfolding replied choose verdict_of
refused_old accept a new old k i h = absurd (not_accept (sym (ap verdict_of h)))
refused_old (refuse j p) a new old k i h = refl

-- so a call with that chain is refused exactly where the text has its place, P, and lends what it lent
call_refused : {S A L P : Type 0} (r : Read S) (a : A) (new old : L) (v : Verdict) (k i : ℕ) → v ≡ judged r → ((r ≡ bad i) ↔ P)
    → ((replied v a ≡ refused k i) ↔ ((k ≡ 14) × P)) × (replied v a ≡ refused k i → choose v new old ≡ old)
call_refused r a new old v k i c p =
    ((λ h. let z = (judged_refused r a k i).0 (rw c at h) in (z.0, p.0 z.1), λ h. rw c ((judged_refused r a k i).1 (h.0, p.1 h.1))), refused_old v a new old k i)

pub judged_accept : {S : Type 0} (r : Read S) → judged r ≡ accept → (s : S) × (r ≡ good s)
unfolding judged
judged_accept (good s) h = (s, refl)
judged_accept (bad k) h = absurd (not_accept h)

-- ---- reading network text

-- the network that was read, from an accepted reply
call_read : (text : List ℕ) (cs : Columns) (z : Size) → (read_call text cs).reply ≡ accepted z → net.IsGood text
unfolding read_call
call_read text cs z h =
    let r = net.read_network text in
    let (v, w) = reply_accepted (short_table cs ▷ judged r) (record { vertices = vertex_count r; count = length (edges_read r) }) z h in
    let (st, e) = judged_accept r (then_accept (short_table cs) (judged r) v).1 in
    network.read_is_good text st e

-- edges in front of three lists can be told from others of the same number
filled_same : (es fs : List Edge) (cs : Columns) → length es ≡ length fs → filled es cs ≡ filled fs cs → es ≡ fs
filled_same es fs cs l h = sym (filled_edges es (length fs) cs l) ∙ ap (λ (ds : Columns). edges_of ds (length fs)) h ∙ filled_edges fs (length fs) cs refl

-- A good text is accepted with its n and edges. An accepted call has read a good text, of some n and edges; its reply tells that n and
-- their number, and the lists tell them one by one.
pub call_reads : CallReads
call_reads text cs s n es = (forth, λ g. read_call_lem text n es (length es) cs (network.good_read text n es g) refl s)
  where
    forth : read_call text cs ≡ record { reply = accepted (record { vertices = n; count = length es }); memory = filled es cs } → net.Good text n es
    forth h =
        let (v, fs, g) = call_read text cs (record { vertices = n; count = length es }) (ap (λ (o : Outcome Size Columns). o.reply) h) in
        let o = sym (read_call_lem text v fs (length fs) cs (network.good_read text v fs g) refl s) ∙ h in
        let r = ap (λ (o : Outcome Size Columns). o.reply) o in
        let z : ◌≡◌ {A = Size} (record { vertices = v; count = length fs }) (record { vertices = n; count = length es }) = cc in
        let a : v ≡ n = ap (λ (x : Size). x.vertices) z in
        let l : length fs ≡ length es = ap (λ (x : Size). x.count) z in
        let b : fs ≡ es = filled_same fs es cs l (ap (λ (o : Outcome Size Columns). o.memory) o) in
        rw (a, b) at g

pub call_refuses : CallRefuses
unfolding read_call
call_refuses text cs s k i =
    let r = net.read_network text in
    call_refused r (record { vertices = vertex_count r; count = length (edges_read r) }) (filled (edges_read r) cs) cs (short_table cs ▷ judged r) k i (accept_then s) (network_places text i)

-- ---- reading a source file

module _ (n : ℕ) (text out : List ℕ) (s : size n ≡ accept) (l : src.max_sources ≤ length out) where
  abbrev chain : Verdict
  chain = size n ▷ refuse_if (ltb (length out) src.max_sources) 2 0 ▷ judged (src.read_sources n text)

  short : chain ≡ judged (src.read_sources n text)
  short = accept_then s ∙ accept_then (accept_if 2 0 (le-ltb (length out) src.max_sources l))

  good_call : (ss : List ℕ) → src.Good n text ss → sources_call n text out ≡ record { reply = accepted (length ss); memory = over ss out }
  unfolding sources_call judged sources_read replied choose
  good_call ss g = rw (short, sources.good_read n text ss g)

  call_sources : (k : ℕ) → (sources_call n text out).reply ≡ accepted k → src.IsGood n text
  unfolding sources_call
  call_sources k h =
      let r = src.read_sources n text in
      let (v, w) = reply_accepted chain (length (sources_read r)) k h in
      let (st, e) = judged_accept r (sym short ∙ v) in
      sources.read_is_good n text st e

  call_back : (ss : List ℕ) → sources_call n text out ≡ record { reply = accepted (length ss); memory = over ss out } → src.Good n text ss
  call_back ss h =
      let (vs, g) = call_sources (length ss) (ap (λ (o : Outcome ℕ (List ℕ)). o.reply) h) in
      let o = sym (good_call vs g) ∙ h in
      let r = ap (λ (o : Outcome ℕ (List ℕ)). o.reply) o in
      let k : length vs ≡ length ss = cc in
      let m : over vs out ≡ over ss out = ap (λ (o : Outcome ℕ (List ℕ)). o.memory) o in
      let b : vs ≡ ss = sym (take_at vs (drop (length vs) out) (length ss) k) ∙ rw m (take_at ss (drop (length ss) out) (length ss) refl) in
      rw b at g

pub sources_call_reads : SourcesCallReads
sources_call_reads n text out s l ss = (call_back n text out s l ss, good_call n text out s l ss)

pub sources_call_refuses : SourcesCallRefuses
unfolding sources_call
sources_call_refuses n text out s l k i =
    let r = src.read_sources n text in
    call_refused r (length (sources_read r)) (over (sources_read r) out) out (chain n text out s l) k i (short n text out s l) (sources_places n (size_accept n s).0 text i)

-- ---- writing network text

module _ (n : ℕ) (cs : Columns) (m : ℕ) (out : List ℕ) (k : ℕ) where
  abbrev text : List ℕ
  text = net.written n (edges_of cs m)

  abbrev verdict : Verdict
  verdict = size n ▷ short_table cs ▷ table n cs m ▷ refuse_if (ltb (length out) (length text)) 2 0

  writes : (write_call n cs m out).reply ≡ accepted k → Writes n cs m out k
  writes h =
      let (t, l, w, e, b, f, r) = write_verdict n cs m out k h in
      record { long = b; few = f; table = t; text = text; canonical = network_writes n (edges_of cs m) t; bytes = w; room = omega (arith, r, w) }

  -- the canonical text is the written one, so that the buffer has room for it
  pub written_call : Writes n cs m out k → write_call n cs m out ≡ record { reply = accepted k; memory = over text out }
  unfolding write_call
  written_call w =
      let e : length text ≡ k = ap length (sym (network_canonical w.text n (edges_of cs m) w.canonical)) ∙ w.bytes in
      let r : length text ≤ length out = omega (arith, e, w.room) in
      let c : table n cs m ≡ accept = accept_then (accept_if 4 0 (le-ltb max_edges m w.few)) ∙ w.table.rules in
      let v : verdict ≡ accept = accept_then w.table.vertices ∙ accept_then w.long ∙ accept_then c ∙ accept_if 2 0 (le-ltb (length out) (length text) r) in
      outcome_accepted verdict (length text) (over text out) out v ∙ rw e

pub call_writes : CallWrites
call_writes n cs m out k = (writes n cs m out k, λ w. ap (λ (o : Outcome ℕ (List ℕ)). o.reply) (written_call n cs m out k w))

pub call_written : CallWritten
call_written n cs m out k h =
    let (t, l, b, e, _, _, _) = write_verdict n cs m out k h in
    let es = edges_of cs m in (
      (λ x. (λ c. network_canonical x n es c ∙ sym e, λ p. rw (p ∙ e) (network_writes n es t))),
      ap (λ (o : Outcome ℕ (List ℕ)). drop k o.memory) (written_call n cs m out k (writes n cs m out k h)) ∙ rest (text n cs m out k) b,
    )
  where
    rest : (x : List ℕ) → length x ≡ k → drop k (over x out) ≡ drop k out
    rest x q = drop_at x (drop (length x) out) k q ∙ rw q

pub written_length : WrittenLength
written_length n cs m out k h = let (t, l, b, _, _, _, _) = write_verdict n cs m out k h in omega (arith, b, table_length n (edges_of cs m) t)

-- ---- the writing call refused

-- the buffer is measured by the canonical text, which is the written one
pub call_unwritten : CallUnwritten
call_unwritten n cs m out =
    let (a, b, c, d) = write_refused n cs m out in (
      a,
      b,
      c,
      λ s l t y e h. d s l t (rw (network_canonical y n (edges_of cs m) e) at h),
    )
