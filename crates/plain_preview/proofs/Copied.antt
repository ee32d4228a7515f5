-- A network copied into scratch lists is alike to the one lent, and what a batch and a query answer on the copy they answer there. Assumes nothing.
use Rattle.property.proofs.Basics.{◌≡◌, refl, sym, ap, ◌∙◌, List, [], ◌++◌, ℕ, ◌+◌, ◌*◌, ◌<◌, ◌≤◌, arith, length, take, drop, length-drop, take-append-drop, length-take-le, drop-append-le, paste, ltb, le-ltb}
use lib.Seq.{take-append-le}
use Rattle.graph.specs.Limits.{max_edges}
use Rattle.std.specs.Prelude.{Result, Ok, Err}
use Rattle.graph.specs.declared.refusal.Refusal.{Refusal}
use Rattle.graph.specs.Refusal.{accept, ◌▷◌, refuse_if, accepted, verdict_of, Outcome}
use Rattle.graph.specs.Edge.{edges}
use Rattle.graph.specs.Table.{rules}
use Rattle.graph.specs.Code.{told, reply_of, Room}
use Rattle.graph.proofs.Tests.{or_false}
use Rattle.graph.proofs.Verdicts.{not_accept, accept_then, accept_if, refuse_then}
use Rattle.apply.specs.declared.Report as declared
use Rattle.apply.specs.Code.{reporting, batch_outcome}
use Rattle.network.specs.Network.{Memory, Network, faults, row_count, row}
use Rattle.network.specs.Change.{Change}
use Rattle.network.specs.Batch.{Report, batch_call}
use Rattle.network.specs.Caller.{reported, hand_on, queried}
use Rattle.network.proofs.Moment.{faults_parts}
use Rattle.network.proofs.Alike.{Alike, query_alike, batch_alike, applied_faults}
use Rattle.calls.specs.Code.{network}
use Rattle.calls.proofs.Judging.{rows_accept}
use Rattle.calls.proofs.Rows.{row_ends}
use Rattle.plain_preview.specs.Code.{AskDone, AskAfterDone}

-- ---- the copy

-- a row that ends within the words in front is read from them
row_front : (n r : ℕ) (xs ys : List ℕ) → r * n + n ≤ length xs → row n r (xs ++ ys) ≡ row n r xs
row_front n r xs ys h = ap (take n) (drop-append-le (r * n) xs ys (omega arith)) ∙ take-append-le n (drop (r * n) xs) ys (omega (arith, length-drop (r * n) xs))

row_copied : (n r k : ℕ) (xs d : List ℕ) → r < k → k * n ≤ length xs → row n r (paste d 0 xs (k * n)) ≡ row n r xs
row_copied n r k xs d h l =
    let e : r * n + n ≤ length (take (k * n) xs) = rw (length-take-le (k * n) xs l) (row_ends r k n (k * n) h (omega arith)) in
    row_front n r (take (k * n) xs) _ e ∙ sym (row_front n r (take (k * n) xs) (drop (k * n) xs) e) ∙ ap (row n r) (take-append-drop (k * n) xs)

-- lists of 2,048 words that hold the edges, and lists long enough for the rows, with these in front
pub copied_alike : (n : ℕ) (ls ts hs ws f b : List ℕ) (m : ℕ) → faults n ls (network ts hs ws f b m) ≡ accept → (ts2 hs2 ws2 f2 b2 df db : List ℕ) → Room max_edges ts2 hs2 ws2
    → edges ts2 hs2 ws2 m ≡ edges ts hs ws m → row_count ls * n ≤ length f2 → row_count ls * n ≤ length b2 → f2 ≡ paste df 0 f (row_count ls * n) → b2 ≡ paste db 0 b (row_count ls * n)
    → Alike n ls (network ts hs ws f b m) (network ts2 hs2 ws2 f2 b2 m)
copied_alike n ls ts hs ws f b m h ts2 hs2 ws2 f2 b2 df db room same lf lb ef eb =
    let o = faults_parts n ls (network ts hs ws f b m) h in
    let x = rows_accept n ls f b o.2 in
    record {
      edges = same;
      count = refl;
      forward = λ r k. ap (row n r) ef ∙ row_copied n r (row_count ls) f df k x.0;
      backward = λ r k. ap (row n r) eb ∙ row_copied n r (row_count ls) b db k x.1;
      passes =
          accept_then o.0 ∙ accept_then (accept_if 2 0 (or_false (le-ltb _ _ room.tails) (or_false (le-ltb _ _ room.heads) (le-ltb _ _ room.weights))))
          ∙ accept_then (accept_if 2 0 (or_false (le-ltb _ _ lf) (le-ltb _ _ lb))) ∙ accept_then o.3 ∙ ap (λ es. refuse_if (ltb max_edges m) 4 0 ▷ rules n es) same ∙ o.4;
    }

-- ---- a batch on the copy v of w, and the query after it

module _ (n : ℕ) (ls : List ℕ) (w v : Network) (h : faults n ls w ≡ accept) (a : Alike n ls w v) (p s : ℕ) (cs : List Change) (zs : List ℕ) where
  pub follows_refused : (d : Refusal) {ts hs ws f b : List ℕ} → batch_outcome (Err d) ts hs ws f b ≡ batch_call n ls v cs → AskAfterDone n ls w p s cs (Err d) zs
  unfolding told reply_of verdict_of
  follows_refused d e =
      let q = ap (λ (o : Outcome Report Memory). verdict_of o.reply) e ∙ ap verdict_of (batch_alike n ls w v h a cs).0 in
      record { verdict = sym (refuse_then _ _ (sym q)); words = λ z. absurd (not_accept (ap told z)) }

  pub follows_asked : (d : declared.Report) (t : Result (Unit {0}) Refusal) {ts hs ws f b : List ℕ} → batch_outcome (Ok d) ts hs ws f b ≡ batch_call n ls v cs
      → AskDone n ls (network ts hs ws f b d.count) p s t zs → AskAfterDone n ls w p s cs t zs
  unfolding reply_of verdict_of reported
  follows_asked d t {ts} {hs} {ws} {f} {b} c x =
      let q : (batch_call n ls w cs).reply ≡ accepted (reporting d) = sym (ap (λ (o : Outcome Report Memory). o.reply) c ∙ (batch_alike n ls w v h a cs).0) in
      let same : queried n ls (network ts hs ws f b d.count) p s [] ≡ queried n ls (hand_on w (batch_call n ls w cs)) p s []
      = ap (λ (o : Outcome Report Memory). queried n ls (hand_on v o) p s []) c
      ∙ query_alike n ls _ _ (applied_faults n ls w h cs _ q) ((batch_alike n ls w v h a cs).1 _ q) _ _ in
      record { verdict = x.verdict ∙ ap (λ o. verdict_of o.reply) same ∙ sym (accept_then (ap verdict_of q)); words = λ z. x.words z ∙ ap (λ o. o.memory.settled) same }
