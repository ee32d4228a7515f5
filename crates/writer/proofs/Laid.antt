-- Text laid into a buffer, piece after piece. Assumes nothing.
--
--   Pending text at out left r mid   == text is being laid into out from at: left is still to be laid, from r of the buffer mid
use Rattle.property.proofs.Basics.{◌≡◌, refl, sym, ap, ◌∙◌, List, [], ◌∷◌, ◌++◌, append-nil, ℕ, suc, ◌+◌, ◌-◌, ◌/◌, ◌%◌, ◌≤◌, ◌<◌, arith, add-zero, add-one, length, set, get_or, length-append, take-append-drop, sets, paste}
use lib.Seq.{sets-eq, length-sets, set_comm, take-length, paste-suc}
use Rattle.writer.specs.Code.{laid, Fits, Wrote}
use Rattle.writer.proofs.Digits.{pad, length_pad}

-- where it fits, laying a text is storing its bytes one by one
pub laid_sets : (at : ℕ) (text out : List ℕ) → at + length text ≤ length out → laid at text out ≡ sets out at text
unfolding laid
laid_sets at text out h = sym (sets-eq text out at h)

sets_append : (xs ys l : List ℕ) (i : ℕ) → sets l i (xs ++ ys) ≡ sets (sets l i xs) (i + length xs) ys
sets_append [] ys l i = rw add-zero
sets_append (x ∷ xs) ys l i =
    let e : suc i + length xs ≡ i + suc (length xs) = omega arith in
    sets_append xs ys (set l i x) (suc i) ∙ rw e

pub wrote_length : {text : List ℕ} {at : ℕ} {out : List ℕ} {r : ℕ} {new : List ℕ} → Fits text at out → Wrote text at out r new → length new ≡ length out
wrote_length {text} {at} {out} f w = rw (w.bytes, laid_sets at text out f.room) (length-sets out at text)

fits_first : (xs ys : List ℕ) {at : ℕ} {out : List ℕ} → Fits (xs ++ ys) at out → Fits xs at out
fits_first xs ys f = record { room = omega (arith, f.room, length-append xs ys) }

module _ (xs ys : List ℕ) {at : ℕ} {out : List ℕ} {r : ℕ} {mid : List ℕ} (f : Fits (xs ++ ys) at out) (v : Wrote xs at out r mid) where
  fits_then : Fits ys r mid
  fits_then = record { room = omega (arith, f.room, length-append xs ys, v.next, wrote_length (fits_first xs ys f) v) }

  wrote_then : {s : ℕ} {new : List ℕ} → Wrote ys r mid s new → Wrote (xs ++ ys) at out s new
  wrote_then {s} {new} w = record {
    next = omega (arith, length-append xs ys, v.next, w.next);
    bytes =
        w.bytes
        ∙ laid_sets r ys mid fits_then.room
        ∙ rw (v.next, v.bytes, laid_sets at xs out (fits_first xs ys f).room, ← sets_append xs ys out at) (sym (laid_sets at (xs ++ ys) out f.room));
  }

-- A text that is being laid: `left` is what is still to be laid, from position r of the buffer as it is now. Every writer of more than one
-- piece goes by it: at first all is left, each piece takes its part from the front, and where nothing is left the whole is written.
pub record Pending (text : List ℕ) (at : ℕ) (out left : List ℕ) (r : ℕ) (mid : List ℕ) : Type 0 where
  pub fits : Fits left r mid
  pub ends : (s : ℕ) (new : List ℕ) → Wrote left r mid s new → Wrote text at out s new
  pub same : length mid ≡ length out

pub pending_start : {text : List ℕ} {at : ℕ} {out : List ℕ} → Fits text at out → Pending text at out text at out
pending_start f = record { fits = f; ends = λ s new w. w; same = refl }

module _ {text : List ℕ} {at : ℕ} {out left : List ℕ} {r : ℕ} {mid : List ℕ} (p : Pending text at out left r mid) where
  module _ (piece rest : List ℕ) (e : left ≡ piece ++ rest) where
    whole : Fits (piece ++ rest) r mid
    whole = rw e at p.fits

    pub pending_fits : Fits piece r mid
    pending_fits = fits_first piece rest whole

    pub pending_turn : {s : ℕ} {new : List ℕ} → Wrote piece r mid s new → Pending text at out rest s new
    pending_turn {s} {new} w = record {
      fits = fits_then piece rest whole w;
      ends = λ t next v. p.ends t next (rw e (wrote_then piece rest whole w v));
      same = wrote_length pending_fits w ∙ p.same;
    }

  pub pending_done : left ≡ [] → Wrote text at out r mid
  unfolding laid
  pending_done e = p.ends r mid (rw e (record { next = sym (add-zero r); bytes = rw (add-zero, append-nil, take-append-drop) }))

-- two pieces, one after the other
module _ {text : List ℕ} (xs ys : List ℕ) (e : text ≡ xs ++ ys) {at : ℕ} {out : List ℕ} (f : Fits text at out) where
  pub first_fits : Fits xs at out
  first_fits = pending_fits (pending_start f) xs ys e

  module _ {r : ℕ} {mid : List ℕ} (v : Wrote xs at out r mid) where
    pub second_fits : Fits ys r mid
    second_fits = (pending_turn (pending_start f) xs ys e v).fits

    pub both_wrote : {s : ℕ} {new : List ℕ} → Wrote ys r mid s new → Wrote text at out s new
    both_wrote w = (pending_turn (pending_start f) xs ys e v).ends _ _ w

-- a copy, byte by byte
pub copy_turn : (src d e : List ℕ) (at i : ℕ) → i < length src → at + i < length d → e ≡ paste d at src i → set e (at + i) (get_or src i 0) ≡ paste d at src (i + 1)
copy_turn src d e at i hs hd h = rw (h, add-one) (paste-suc d at src i 0 hd hs)

-- a copy of all bytes
pub paste_wrote : {text : List ℕ} {at : ℕ} {out : List ℕ} {i : ℕ} {new : List ℕ} → i ≡ length text → new ≡ paste out at text i → Wrote text at out (at + i) new
unfolding laid
paste_wrote e h = record { next = rw e; bytes = rw (e, take-length) at h }

-- ---- the digits of a number, last first

-- a store at the end may come before the others
sets_last : (xs l : List ℕ) (i d : ℕ) → sets (set l (i + length xs) d) i xs ≡ sets l i (xs ++ (d ∷ []))
sets_last [] l i d = rw add-zero
sets_last (x ∷ xs) l i d =
    let e : i + suc (length xs) ≡ suc i + length xs = omega arith in
    rw (set_comm l (i + suc (length xs)) i d x (λ z. omega arith), e) (sets_last xs (set l i x) (suc i) d)

pub pad_turn : (l : List ℕ) (at i w : ℕ) → at < i → sets (set l (i - 1) (48 + w % 10)) at (pad (i - 1 - at) (w / 10)) ≡ sets l at (pad (i - at) w)
unfolding pad
pad_turn l at i w h =
    let e : suc (i - 1 - at) ≡ i - at = omega arith in
    let f : i - 1 ≡ at + length (pad (i - 1 - at) (w / 10)) = omega (arith, length_pad (i - 1 - at) (w / 10)) in
    ap (λ (j : ℕ). sets (set l j (48 + w % 10)) at (pad (i - 1 - at) (w / 10))) f ∙ rw (← e) (sets_last (pad (i - 1 - at) (w / 10)) l at (48 + w % 10))

pub pad_done : (l : List ℕ) (at k w : ℕ) (z : List ℕ) → k ≡ 0 → sets l at (pad k w) ≡ z → l ≡ z
unfolding pad
pad_done l at k w z e h = rw e at h
