-- The settled check: one record against one row, and the search through sides, rows and records. Assumes nothing.
use Rattle.property.proofs.Basics.{◌≡◌, refl, ap, ◌∙◌, Bool, true, false, cond, List, [], ◌∷◌, map, ℕ, zero, suc, ◌+◌, ◌*◌, ◌-◌, ◌%◌, ◌<◌, ◌≤◌, add-one, arith, length, get_or, drop, eqb}
use Rattle.property.specs.Property.{Property, property, properties}
use Rattle.std.specs.Prelude.{Option, None, Some, Ok, Err}
use Rattle.graph.specs.declared.refusal.Refusal.{Refusal}
use Rattle.graph.specs.Refusal.{Verdict, replied}
use Rattle.graph.specs.Edge.{Edge, edge, reverse, edges, range}
use Rattle.graph.specs.Code.{told, reply_of, Room, edge_at}
use Rattle.graph.proofs.Records.{edges_more, edges_none}
use Rattle.run.specs.Run.{relaxable}
use Rattle.settled_check.specs.declared.Spot.{Spot}
use Rattle.network.specs.Network.{row, property_of}
use Rattle.network.specs.Settled.{Check, settled, found, in_records, in_rows}
use Rattle.settled_check.specs.Code.{spotted, checking}
use Rattle.calls.proofs.Rows.{row_word}

-- ---- one record against one row

pub relaxable_told : (n r : ℕ) {p : ℕ} (t h w : ℕ) (ws : List ℕ) (v : ℕ) (b : Bool) → p ≡ suc (r % properties) → t < n → h < n → r * n + n ≤ length ws
    → v ≡ (property p).along (get_or ws (r * n + t) 0) w → b ≡ (property p).better v (get_or ws (r * n + h) 0)
    → b ≡ relaxable (property_of r) (row n r ws) (edge t h w)
relaxable_told n r {p} t h w ws v b e ht hh f ev eb =
    let P = property_of r in
    let q : property p ≡ P = ap property e in
    let x = row_word P n r t ws ht (omega arith) in
    let y = row_word P n r h ws hh (omega arith) in
    eb ∙ (rw (ev, q, x, y))

-- ---- sides: forward rows go by the edges, backward rows by the reversed edges

abbrev pub edges_on : Bool → List Edge → List Edge
edges_on t es = cond t es (map reverse es)

abbrev pub edge_on : Bool → Edge → Edge
edge_on t e = cond t e (reverse e)

-- a side in the code
pub spot_on : (side : ℕ) (P : Property) (n r : ℕ) (f b : List ℕ) (e : Edge) (t : Bool) → eqb side 0 ≡ t
    → relaxable P (row n r (cond t f b)) (edge_on t e) ≡ relaxable P (row n r (cond (eqb side 0) f b)) (edge_on (eqb side 0) e)
spot_on side P n r f b e t h = rw h

drop_map : {A B : Type 0} (g : A → B) (k : ℕ) (l : List A) → drop k (map g l) ≡ map g (drop k l)
drop_map g zero l = refl
drop_map g (suc k) [] = refl
drop_map g (suc k) (x ∷ l) = drop_map g k l

module _ (ts hs ws : List ℕ) (m : ℕ) (room : Room m ts hs ws) where
  on_more : (t : Bool) (j : ℕ) → j < m → drop j (edges_on t (edges ts hs ws m)) ≡ edge_on t (edge_at ts hs ws j) ∷ drop (j + 1) (edges_on t (edges ts hs ws m))
  on_more true j l = edges_more ts hs ws m room j l
  on_more false j l = drop_map reverse j (edges ts hs ws m) ∙ (ap (map reverse) (edges_more ts hs ws m room j l) ∙ rw (drop_map reverse (j + 1) (edges ts hs ws m)))

  on_none : (t : Bool) (j : ℕ) → m ≤ j → drop j (edges_on t (edges ts hs ws m)) ≡ []
  on_none true j l = edges_none ts hs ws m room j l
  on_none false j l = drop_map reverse j (edges ts hs ws m) ∙ ap (map reverse) (edges_none ts hs ws m room j l)

  -- ---- the search: what is left from a record, a row, a side on

  module _ (P : Property) (xs : List ℕ) (side r j : ℕ) (later : Check) {c : Check}
      (h : in_records P xs side r j (drop j (edges_on (eqb side 0) (edges ts hs ws m))) later ≡ c) where
    pub records_more : j < m → relaxable P xs (edge_on (eqb side 0) (edge_at ts hs ws j)) ≡ false → in_records P xs side r (j + 1) (drop (j + 1) (edges_on (eqb side 0) (edges ts hs ws m))) later ≡ c
    unfolding in_records
    records_more l e = rw add-one (rw (on_more (eqb side 0) j l, e, add-one) at h)

    pub records_found : j < m → relaxable P xs (edge_on (eqb side 0) (edge_at ts hs ws j)) ≡ true → found side r j ≡ c
    unfolding in_records
    records_found l e = rw (on_more (eqb side 0) j l, e) at h

    pub records_none : m ≤ j → later ≡ c
    unfolding in_records
    records_none l = rw (on_none (eqb side 0) j l) at h

module _ (n k : ℕ) (es : List Edge) (xs : List ℕ) (side r : ℕ) (later : Check) {c : Check} (h : in_rows n es xs side (range r (k - r)) later ≡ c) where
  pub rows_more : r < k → in_records (property_of r) (row n r xs) side r 0 (drop 0 es) (in_rows n es xs side (range (r + 1) (k - (r + 1))) later) ≡ c
  unfolding in_rows range
  rows_more l = let f : k - r ≡ suc (k - (r + 1)) = omega arith in rw add-one (rw (f, add-one) at h)

  pub rows_none : k ≤ r → later ≡ c
  unfolding in_rows range
  rows_none l = let f : k - r ≡ 0 = omega arith in rw f at h

-- the q sides from a side on, k rows each
unfoldable pub in_sides : ℕ → ℕ → List Edge → List ℕ → List ℕ → ℕ → ℕ → Check
in_sides n k es f b side zero = settled
in_sides n k es f b side (suc q) = in_rows n (edges_on (eqb side 0) es) (cond (eqb side 0) f b) side (range 0 k) (in_sides n k es f b (suc side) q)

module _ (n k : ℕ) (es : List Edge) (f b : List ℕ) where
  pub sides_all : in_sides n k es f b 0 2 ≡ in_rows n es f 0 (range 0 k) (in_rows n (map reverse es) b 1 (range 0 k) settled)
  unfolding in_sides
  sides_all = refl

  module _ (side : ℕ) {c : Check} (h : in_sides n k es f b side (2 - side) ≡ c) where
    pub sides_more : side < 2 → in_rows n (edges_on (eqb side 0) es) (cond (eqb side 0) f b) side (range 0 (k - 0)) (in_sides n k es f b (side + 1) (2 - (side + 1))) ≡ c
    unfolding in_sides
    sides_more l =
        let e : 2 - side ≡ suc (2 - (side + 1)) = omega arith in
        let z : k - 0 ≡ k = omega arith in
        rw (z, add-one) (rw (e, add-one) at h)

    pub sides_none : 2 ≤ side → settled ≡ c
    unfolding in_sides
    sides_none l = let e : 2 - side ≡ 0 = omega arith in rw e at h

-- ---- replies

pub checking_found : (s : Spot) (c : Check) → found s.side s.row s.record ≡ c → spotted (Some s) ≡ c
unfolding spotted
checking_found s c e = e

pub checking_settled : (x : Option Spot) (c : Check) → x ≡ None → settled ≡ c → spotted x ≡ c
unfolding spotted
checking_settled x c q e = ap spotted q ∙ e

pub checking_refused : (e : Refusal) (w : Verdict) (c : Check) → told (Err e) ≡ w → checking (Err e) ≡ replied w c
unfolding reply_of told replied
checking_refused e w c h = rw (← h)

pub checking_accepted : (x : Option Spot) (w : Verdict) (c : Check) → told (Ok tt) ≡ w → spotted x ≡ c → checking (Ok x) ≡ replied w c
unfolding reply_of told replied
checking_accepted x w c h f = rw (← h, f)
