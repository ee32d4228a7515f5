-- A batch as a call: numbers 1 to 4, then its changes, then number 13, and what is lent. Assumes nothing.
use Rattle.property.proofs.Basics.{◌≡◌, sym, ◌∙◌, List, ℕ, ◌+◌, ◌-◌, ◌≤◌, ◌<◌, min, arith, dec_lt, length, take, drop, length-drop, drop_of_length-le, take_all, take-nil, take_at, length-take-le, paste, lt-ltb, le-ltb, ltb-false, map}
use Rattle.std.specs.Prelude.{Err}
use Rattle.graph.specs.declared.refusal.Refusal.{Refusal}
use Rattle.graph.specs.Limits.{max_batch}
use Rattle.graph.specs.Refusal.{Verdict, accept, refuse, ◌▷◌, refuse_if, replied, choose}
use Rattle.graph.specs.Edge.{Edge, edges, range}
use Rattle.graph.specs.Code.{number, place, told, reply_of, Room, columns}
use Rattle.graph.proofs.Verdicts.{then_accept, if_accept, accept_then, accept_if, refuse_then}
use Rattle.network.specs.Network.{Network, edges_in, faults}
use Rattle.network.specs.Change.{Change, edits, items}
use Rattle.network.specs.Batch.{batch_verdict, new_edges, still_waiting, long_batch, batch_call, batch_faults}
use Rattle.sides.specs.Code.{Fair}
use Rattle.apply.specs.Code.{apply_call, batch_outcome}
use Rattle.items.specs.Code.{change, change_at, Laid}
use Rattle.calls.specs.Code.{network}
use Rattle.graph.proofs.Lists.{length_table, table_at}
use Rattle.network.proofs.Rows.{landmark_below}
use Rattle.network.proofs.Moment.{faults_parts}
use Rattle.graph.proofs.Judging.{size_accept, lengths_accept, table_accept}
use Rattle.calls.proofs.Judging.{rows_accept, landmarks_accept}

-- ---- a part of the changes

-- a part whose bounds are cut to what is there is the part
pub part_cut : {A : Type 0} (xs : List A) (from to end start : ℕ) → end ≡ min to (length xs) → start ≡ min from end
    → take (end - start) (drop start xs) ≡ take (to - from) (drop from xs)
part_cut {A} xs from to end start e s = pick (dec_lt end from) (dec_lt (length xs) to)
  where
    pick : Dec (end < from) → Dec (length xs < to) → take (end - start) (drop start xs) ≡ take (to - from) (drop from xs)
    pick (yes p) (yes q) =
        let z : end - start ≡ 0 = omega arith in
        let d = drop_of_length-le xs {i = from} (omega arith) in
        rw (z, d, take-nil {A = A} (to - from))
    pick (yes p) (no q) =
        let z : end - start ≡ 0 = omega arith in
        let y : to - from ≡ 0 = omega arith in
        rw (z, y)
    pick (no p) (yes q) =
        let z : start ≡ from = omega arith in
        let l = length-drop from xs in
        rw z (take_all (end - from) (drop from xs) (omega arith) ∙ sym (take_all (to - from) (drop from xs) (omega arith)))
    pick (no p) (no q) =
        let z : start ≡ from = omega arith in
        let y : end ≡ to = omega arith in
        rw (z, y)

-- some changes are laid in any list: those that are read there
pub laid_some : (k : ℕ) (xs : List ℕ) → Laid k (map (change_at xs) (range 0 k)) xs
laid_some k xs = record { size = length_table (change_at xs) 0 k; words = λ i h b. sym (table_at (change_at xs) k i (change 0 0 0 0 0) h) }

-- ---- numbers 1 to 4

pub faults_long : (n : ℕ) (ls : List ℕ) (w : Network) (j : ℕ) → max_batch < j → refuse 1 0 ≡ batch_faults n ls w j
unfolding batch_faults refuse_if ◌▷◌
faults_long n ls w j h = rw (lt-ltb max_batch j h)

pub faults_rest : (n : ℕ) (ls : List ℕ) (w : Network) (j : ℕ) → j ≤ max_batch → {v : Verdict} → v ≡ faults n ls w → v ≡ batch_faults n ls w j
unfolding batch_faults
faults_rest n ls w j h e = e ∙ sym (accept_then (accept_if 1 0 (le-ltb max_batch j h)))

pub faults_as : (n : ℕ) (ls : List ℕ) (w : Network) {j k : ℕ} → j ≡ k → batch_faults n ls w j ≡ accept → batch_faults n ls w k ≡ accept
faults_as n ls w q e = rw q at e

-- ---- what they tell where they let a batch pass

pub faults_short : (n : ℕ) (ls : List ℕ) (w : Network) (j : ℕ) → batch_faults n ls w j ≡ accept → j ≤ max_batch
unfolding batch_faults
faults_short n ls w j e = ltb-false max_batch j (if_accept _ _ _ (then_accept (long_batch j) (faults n ls w) e).0)

pub faults_fair : (n : ℕ) (ls : List ℕ) (ts hs ws f b : List ℕ) (m j : ℕ) → batch_faults n ls (network ts hs ws f b m) j ≡ accept → Fair n ls (network ts hs ws f b m)
unfolding batch_faults
faults_fair n ls ts hs ws f b m j e =
    let p = faults_parts n ls (network ts hs ws f b m) (then_accept (long_batch j) (faults n ls (network ts hs ws f b m)) e).1 in
    let t = table_accept n (columns ts hs ws) m p.4 in
    let x = rows_accept n ls f b p.2 in
    let y = landmarks_accept n ls p.3 in
    record {
      few = (size_accept n p.0).1;
      landmarks = record { few = y.0; vertices = λ i k. landmark_below n ls i p.3 k };
      table = record { few = t.0; room = lengths_accept ts hs ws p.1; rules = t.1 };
      forward = x.0;
      backward = x.1;
    }

-- ---- the call by its parts

module _ (n : ℕ) (ls : List ℕ) (ts hs ws f b : List ℕ) (m : ℕ) (cs : List Change) where
  abbrev w : Network
  w = network ts hs ws f b m

  pub call_faulty : (d : Refusal) → told (Err d) ≡ batch_faults n ls w (length cs) → batch_outcome (Err d) ts hs ws f b ≡ batch_call n ls w cs
  unfolding told batch_call reply_of replied choose
  call_faulty d e =
      let v : batch_verdict n ls w cs ≡ refuse (number d) (place d) = refuse_then _ _ (sym e) in
      rw v

  module _ (a : batch_faults n ls w (length cs) ≡ accept) where
    pub call_item : (d : Refusal) → refuse (number d) (place d) ≡ items n 0 (edges_in w) cs → batch_outcome (Err d) ts hs ws f b ≡ batch_call n ls w cs
    unfolding batch_call reply_of replied choose
    call_item d e =
        let v : batch_verdict n ls w cs ≡ refuse (number d) (place d) = accept_then a ∙ refuse_then _ _ (sym e) in
        rw v

    pub call_applied : accept ≡ items n 0 (edges_in w) cs → (fs : List Edge) → fs ≡ edits (edges_in w) cs → apply_call n ls w fs ≡ batch_call n ls w cs
    unfolding batch_call apply_call replied choose
    call_applied e fs q =
        let v : batch_verdict n ls w cs ≡ still_waiting n ls w (new_edges w cs) = accept_then a ∙ accept_then (sym e) in
        rw (v, q)

-- ---- the scratch table is a copy

pub edges_copied : (m : ℕ) (ts hs ws a b c : List ℕ) → Room m ts hs ws → {x y z : List ℕ} → x ≡ paste a 0 ts m → y ≡ paste b 0 hs m → z ≡ paste c 0 ws m
    → edges x y z m ≡ edges ts hs ws m
unfolding edges
edges_copied m ts hs ws a b c r p q s = rw (p, q, s, front a ts r.tails, front b hs r.heads, front c ws r.weights)
  where
    front : (d l : List ℕ) → m ≤ length l → take m (paste d 0 l m) ≡ take m l
    front d l h = take_at (take m l) (drop (0 + m) d) m (length-take-le m l h)
