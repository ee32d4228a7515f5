-- Reading a number at a position of a list, with its value capped: the laws of dimacs, up to the cap. Assumes nothing.
use Rattle.property.proofs.Basics.{◌≡◌, sym, ap, ◌∙◌, true, false, List, ℕ, ◌+◌, ◌-◌, ◌*◌, ◌≤◌, ◌<◌, arith, length, get_or, drop}
use Rattle.dimacs.specs.Decimal.{is_digit, scan}
use Rattle.dimacs.proofs.Positions as at
use Rattle.dimacs.proofs.Caps.{capped, scan_capped}
use Rattle.scanner.specs.Capped.{cap, cap_scan}

module _ (s : List ℕ) (i v : ℕ) where
  pub scan_more : i < length s → is_digit (get_or s i 0) ≡ true → cap_scan v (drop i s) ≡ cap_scan (cap (v * 10 + (get_or s i 0 - 48))) (drop (i + 1) s)
  unfolding cap_scan
  scan_more h e = ap (capped 65536) (at.scan_more s i v h e) ∙ sym (scan_capped 65536 (drop (i + 1) s) (v * 10 + (get_or s i 0 - 48)))

  -- a value below the cap is known
  whole : v ≤ 65536 → scan v (drop i s) ≡ (v, drop i s) → cap_scan v (drop i s) ≡ (v, drop i s)
  unfolding cap_scan
  whole l e =
      let w : cap v ≡ v = omega arith in
      rw (e, w)

  pub scan_stop : i < length s → is_digit (get_or s i 0) ≡ false → v ≤ 65536 → cap_scan v (drop i s) ≡ (v, drop i s)
  scan_stop h e l = whole l (at.scan_stop s i v h e)

  pub scan_end : length s ≤ i → v ≤ 65536 → cap_scan v (drop i s) ≡ (v, drop i s)
  scan_end h l = whole l (at.scan_end s i v h)
