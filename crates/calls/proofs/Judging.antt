-- Refusals 1 to 4 of a network as the code judges them, and what an accepted network tells. Assumes nothing.
use Rattle.property.proofs.Basics.{◌≡◌, sym, Bool, true, false, not, List, ℕ, ◌+◌, ◌*◌, ◌/◌, ◌<◌, ◌≤◌, div-lt_iff_lt-mul, add-one, arith, length, get_or, drop, drop_of_length-le, drop-cons, eqb, ltb, eq-eqb, ne_eqb, lt-ltb, le-ltb, ltb-true, ltb-false, not-false}
use native.Mathlib.Nat.{mul_assoc, mul-zero}
use Rattle.graph.specs.Edge.{exists}
use Rattle.graph.specs.Refusal.{accept}
use Rattle.graph.specs.Limits.{max_landmarks}
use Rattle.graph.specs.Code.{columns}
use Rattle.graph.proofs.Tests.{neither, same_test}
use Rattle.graph.proofs.Verdicts.{if_accept}
use Rattle.graph.proofs.Judging.{size_accept, lengths_accept, table_accept}
use Rattle.graph.proofs.Records.{room_less}
use Rattle.network.specs.Network.{is_in, are_landmarks, landmarks, short_rows, faults, row_count}
use Rattle.network.proofs.Rows.{landmark_below}
use Rattle.network.proofs.Moment.{faults_parts}
use Rattle.calls.specs.Code.{row_lists, network, Openable}

-- ---- landmarks, one by one

module _ (v : ℕ) (vs : List ℕ) (i : ℕ) {b : Bool} (h : is_in v (drop i vs) ≡ b) where
  pub in_found : i < length vs → v ≡ get_or vs i 0 → true ≡ b
  unfolding exists
  in_found l e = rw (drop-cons vs i 0 l, eq-eqb v (get_or vs i 0) e) at h

  pub in_more : i < length vs → (v ≡ get_or vs i 0 → ⊥) → is_in v (drop (i + 1) vs) ≡ b
  unfolding exists
  in_more l e = rw add-one (rw (drop-cons vs i 0 l, ne_eqb v (get_or vs i 0) e) at h)

  pub in_none : length vs ≤ i → false ≡ b
  unfolding exists
  in_none l = rw (drop_of_length-le vs {i = i} l) at h

module _ (n : ℕ) (vs : List ℕ) (i : ℕ) {b : Bool} (h : are_landmarks n (drop i vs) ≡ b) where
  pub landmark_high : i < length vs → n ≤ get_or vs i 0 → false ≡ b
  unfolding are_landmarks
  landmark_high l e = rw (drop-cons vs i 0 l, le-ltb (get_or vs i 0) n e) at h

  pub landmark_twice : i < length vs → get_or vs i 0 < n → is_in (get_or vs i 0) (drop (i + 1) vs) ≡ true → false ≡ b
  unfolding are_landmarks
  landmark_twice l e t = rw (drop-cons vs i 0 l, lt-ltb (get_or vs i 0) n e, rw add-one at t) at h

  pub landmark_more : i < length vs → get_or vs i 0 < n → is_in (get_or vs i 0) (drop (i + 1) vs) ≡ false → are_landmarks n (drop (i + 1) vs) ≡ b
  unfolding are_landmarks
  landmark_more l e t = rw add-one (rw (drop-cons vs i 0 l, lt-ltb (get_or vs i 0) n e, rw add-one at t) at h)

  pub landmark_none : length vs ≤ i → true ≡ b
  unfolding are_landmarks
  landmark_none l = rw (drop_of_length-le vs {i = i} l) at h

-- ---- row lists: the quotient is compared for the product

ltb_iff : (a b c d : ℕ) → (a < b → c < d) → (c < d → a < b) → ltb a b ≡ ltb c d
ltb_iff a b c d to from = same_test _ _ ((λ e. lt-ltb c d (to (ltb-true a b e))), (λ e. lt-ltb a b (from (ltb-true c d e))))

pub short_none : (w k n : ℕ) → n ≡ 0 → false ≡ ltb w (k * 5 * n)
short_none w k n e = rw (e, mul-zero) (sym (le-ltb w 0 (omega arith)))

pub short_some : (w k n : ℕ) → 0 < n → ltb (w / (5 * n)) k ≡ ltb w (k * 5 * n)
short_some w k n l =
    let p : 0 < 5 * n = omega arith in
    let q = div-lt_iff_lt-mul {k = 5 * n} {x = w} {y = k} p in
    rw mul_assoc (ltb_iff (w / (5 * n)) k w (k * (5 * n)) q.0 q.1)

-- ---- what each verdict tells where it accepts

pub rows_accept : (n : ℕ) (ls f b : List ℕ) → short_rows n ls (row_lists f b) ≡ accept → (row_count ls * n ≤ length f) × (row_count ls * n ≤ length b)
rows_accept n ls f b e =
    let z = neither (ltb (length f) (row_count ls * n)) (ltb (length b) (row_count ls * n)) (if_accept _ _ _ e) in
    (ltb-false _ _ z.0, ltb-false _ _ z.1)

pub landmarks_accept : (n : ℕ) (ls : List ℕ) → landmarks n ls ≡ accept → (length ls ≤ max_landmarks) × (are_landmarks n ls ≡ true)
landmarks_accept n ls e =
    let y = neither (eqb (length ls) 0) _ (if_accept _ _ _ e) in
    let z = neither (ltb max_landmarks (length ls)) (not (are_landmarks n ls)) y.1 in
    (ltb-false max_landmarks _ z.0, not-false _ z.1)

-- ---- what an accepted network tells: its sides may be opened, and its row lists are long enough

pub network_accept : (n : ℕ) (ls ts hs ws : List ℕ) (m : ℕ) (f b : List ℕ) → faults n ls (network ts hs ws f b m) ≡ accept
    → Openable n m ls ts hs ws × (row_count ls * n ≤ length f) × (row_count ls * n ≤ length b)
network_accept n ls ts hs ws m f b e =
    let a = faults_parts n ls (network ts hs ws f b m) e in
    let t = table_accept n (columns ts hs ws) m a.4 in
    let o : Openable n m ls ts hs ws = record {
      few = (size_accept n a.0).1;
      records = t.0;
      room = room_less t.0 (lengths_accept ts hs ws a.1);
      rules = t.1;
      landmarks = record { few = (landmarks_accept n ls a.3).0; vertices = λ i k. landmark_below n ls i a.3 k };
    } in
    let x = rows_accept n ls f b a.2 in
    (o, x.0, x.1)
