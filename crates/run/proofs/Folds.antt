-- Lists as loops go through them: what is left at a turn, and at the end. Assumes nothing.
use Rattle.property.proofs.Basics.{◌≡◌, Bool, List, [], ◌∷◌, ℕ, suc, ◌+◌, ◌-◌, ◌<◌, ◌≤◌, add-one, arith, length, get_or, drop, drop-cons}
use Rattle.graph.specs.Edge.{range}
use Rattle.graph.specs.Index.{edge_in, part_in}

pub part_more : (b : Bool) (hs ws : List ℕ) (u j hi : ℕ) → j < hi → part_in b hs ws u j (hi - j) ≡ edge_in b hs ws u j ∷ part_in b hs ws u (j + 1) (hi - (j + 1))
unfolding part_in
part_more b hs ws u j hi h =
    let e : hi - j ≡ suc (hi - (j + 1)) = omega arith in
    rw (e, add-one)

pub part_none : (b : Bool) (hs ws : List ℕ) (u j hi : ℕ) → hi ≤ j → part_in b hs ws u j (hi - j) ≡ []
unfolding part_in
part_none b hs ws u j hi h =
    let e : hi - j ≡ 0 = omega arith in
    rw e

pub range_more : (i n : ℕ) → i < n → range i (n - i) ≡ i ∷ range (i + 1) (n - (i + 1))
unfolding range
range_more i n h =
    let e : n - i ≡ suc (n - (i + 1)) = omega arith in
    rw (e, add-one)

pub range_none : (i n : ℕ) → n ≤ i → range i (n - i) ≡ []
unfolding range
range_none i n h =
    let e : n - i ≡ 0 = omega arith in
    rw e

pub drop_more : (l : List ℕ) (i : ℕ) → i < length l → drop i l ≡ get_or l i 0 ∷ drop (i + 1) l
drop_more l i h = rw add-one (drop-cons l i 0 h)
