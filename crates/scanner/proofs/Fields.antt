-- Reading the bytes and fields of a line by positions. Assumes nothing.
use Rattle.property.proofs.Basics.{◌≡◌, refl, sym, ap, ◌∙◌, true, false, true≢false, List, [], ◌∷◌, ◌++◌, append-nil, append_assoc, Option, none, some, bind, ℕ, zero, suc, ◌+◌, ◌-◌, ◌≤◌, ◌<◌, arith, add-one, eqb, length, set, get_or, take, drop, take_all, take-suc-set, drop_of_length-le, drop-cons}
use Rattle.dimacs.specs.Decimal.{number}
use Rattle.dimacs.specs.Read.{after, fields}
use Rattle.dimacs.proofs.Options.{bind_bind}
use Rattle.scanner.specs.Capped.{cap, cap_number, field, cap_fields, starts}

-- ---- bytes

pub starts_at : (c : ℕ) (s : List ℕ) (i : ℕ) → i < length s → starts c (drop i s) ≡ eqb (get_or s i 0) c
unfolding starts
starts_at c s i h = rw (drop-cons s i 0 h)

pub starts_inside : (c : ℕ) (s : List ℕ) (i : ℕ) → starts c (drop i s) ≡ true → i < length s
unfolding starts
starts_inside c [] zero h = absurd (true≢false (sym h))
starts_inside c [] (suc i) h = absurd (true≢false (sym h))
starts_inside c (b ∷ s) zero h = omega arith
starts_inside c (b ∷ s) (suc i) h = omega (arith, starts_inside c s i h)

pub after_other : (c : ℕ) (p s : List ℕ) → starts c s ≡ false → after (c ∷ p) s ≡ none
unfolding starts after
after_other c p [] h = refl
after_other c p (b ∷ s) h = rw h

pub after_one : (c : ℕ) (p s : List ℕ) (i : ℕ) → starts c (drop i s) ≡ true → after (c ∷ p) (drop i s) ≡ after p (drop (i + 1) s)
unfolding after
after_one c p s i h =
    let l : i < length s = starts_inside c s i h in
    let e : eqb (get_or s i 0) c ≡ true = sym (starts_at c s i l) ∙ h in
    rw (drop-cons s i 0 l, e, add-one)

-- ---- the bytes of a mark, one by one

module _ (p s : List ℕ) (i : ℕ) where
  pub mark_more : i < length p → starts (get_or p i 0) (drop i s) ≡ true → after (drop i p) (drop i s) ≡ after (drop (i + 1) p) (drop (i + 1) s)
  mark_more l h = rw (drop-cons p i 0 l, add-one i) (rw (add-one i) at (after_one (get_or p i 0) (drop (suc i) p) s i h))

  pub mark_other : i < length p → starts (get_or p i 0) (drop i s) ≡ false → after (drop i p) (drop i s) ≡ none
  mark_other l h = rw (drop-cons p i 0 l) (after_other (get_or p i 0) (drop (suc i) p) (drop i s) h)

  pub mark_done : i ≡ length p → after (drop i p) (drop i s) ≡ some (drop (length p) s)
  unfolding after
  mark_done e =
      let l : length p ≤ i = omega arith in
      rw (drop_of_length-le p l, e)

-- ---- fields to the end of a line

-- one field more
unfoldable pub put : ℕ → Option (List ℕ) → Option (List ℕ)
put v none = none
put v (some vs) = some (v ∷ vs)

put_some : (o : Option (List ℕ)) (w : ℕ) → cap_fields (bind o (λ vs. some (w ∷ vs))) ≡ put (cap w) (cap_fields o)
unfolding put cap_fields bind
put_some none w = refl
put_some (some vs) w = refl

fields_field : (k : ℕ) (s : List ℕ) → fields (suc k) s ≡ bind (field s) (λ q. bind (fields k q.1) (λ vs. some (q.0 ∷ vs)))
unfolding fields field
fields_field k s = sym (bind_bind (after (32 ∷ []) s) number (λ q. bind (fields k q.1) (λ vs. some (q.0 ∷ vs))))

-- the fields after a first one that is read as o
abbrev rest : ℕ → Option (ℕ × List ℕ) → Option (List ℕ)
rest k o = bind o (λ q. put q.0 (cap_fields (fields k q.1)))

fields_from : (k : ℕ) (o : Option (ℕ × List ℕ)) → rest k (cap_number o) ≡ cap_fields (bind o (λ q. bind (fields k q.1) (λ vs. some (q.0 ∷ vs))))
unfolding cap_number bind cap_fields
fields_from k none = refl
fields_from k (some q) = sym (put_some (fields k q.1) q.0)

module _ (k : ℕ) (x : List ℕ) where
  fields_first : {o : Option (ℕ × List ℕ)} → o ≡ cap_number (field x) → rest k o ≡ cap_fields (fields (suc k) x)
  fields_first h = rw (h, fields_field k x) (fields_from k (field x))

  pub fields_none : none ≡ cap_number (field x) → none ≡ cap_fields (fields (suc k) x)
  unfolding bind
  fields_none h = fields_first h

  fields_one : {v : ℕ} {y : List ℕ} → some (v, y) ≡ cap_number (field x) → put v (cap_fields (fields k y)) ≡ cap_fields (fields (suc k) x)
  unfolding bind
  fields_one h = fields_first h

pub fields_over : (s : List ℕ) (i : ℕ) → length s ≤ i → some [] ≡ cap_fields (fields 0 (drop i s))
unfolding cap_fields fields
fields_over s i h = rw (drop_of_length-le s h)

pub fields_long : (s : List ℕ) (i : ℕ) → i < length s → none ≡ cap_fields (fields 0 (drop i s))
unfolding cap_fields fields
fields_long s i h = rw (drop-cons s i 0 h)

-- ---- one field after the other

-- the fields so far, before those that are left
unfoldable pub before : List ℕ → Option (List ℕ) → Option (List ℕ)
before vs none = none
before vs (some ws) = some (vs ++ ws)

before_put : (vs : List ℕ) (v : ℕ) (o : Option (List ℕ)) → before (vs ++ (v ∷ [])) o ≡ before vs (put v o)
unfolding before put
before_put vs v none = refl
before_put vs v (some ws) = ap some (append_assoc vs (v ∷ []) ws)

no_before : (o : Option (List ℕ)) → before [] o ≡ o
unfolding before
no_before none = refl
no_before (some ws) = refl

-- of n fields k are read, which stand in front of vs; the rest begins at x
module _ (n k : ℕ) (vs x : List ℕ) where
  abbrev pub Turn : Option (List ℕ) → Type 0
  Turn o = before (take k vs) (cap_fields (fields (n - k) x)) ≡ o

  pub turn_none : {o : Option (List ℕ)} → k < n → none ≡ cap_number (field x) → Turn o → none ≡ o
  unfolding before
  turn_none l h t =
      let e : n - k ≡ suc (n - suc k) = omega arith in
      rw (e, ← fields_none (n - suc k) x h) at t

  pub turn_one : {o : Option (List ℕ)} {v : ℕ} {y : List ℕ} → k < length vs → length vs ≡ n → some (v, y) ≡ cap_number (field x) → Turn o
      → before (take (k + 1) (set vs k v)) (cap_fields (fields (n - (k + 1)) y)) ≡ o
  turn_one {o} {v} {y} l m h t =
      let e : n - k ≡ suc (n - suc k) = omega arith in
      let u : before (take k vs) (put v (cap_fields (fields (n - suc k) y))) ≡ o = rw (e, ← fields_one (n - suc k) x h) at t in
      rw (add-one, take-suc-set vs k v l) (before_put (take k vs) v _ ∙ u)

pub turn_start : (n : ℕ) (vs x : List ℕ) → Turn n 0 vs x (cap_fields (fields n x))
turn_start n vs x =
    let e : n - 0 ≡ n = omega arith in
    rw e (no_before (cap_fields (fields n x)))

-- where all are read, the line ends or goes on
module _ (n : ℕ) (vs s : List ℕ) (i k : ℕ) {o : Option (List ℕ)} (e : k ≡ n) (m : length vs ≡ n) (t : Turn n k vs (drop i s) o) where
  zero_left : before vs (cap_fields (fields 0 (drop i s))) ≡ o
  zero_left =
      let z : n - k ≡ 0 = omega arith in
      let a : take k vs ≡ vs = take_all k vs (omega arith) in
      rw (z, a) at t

  pub turn_over : length s ≤ i → some vs ≡ o
  unfolding before
  turn_over h = ap some (sym (append-nil vs)) ∙ (rw (← fields_over s i h) at zero_left)

  pub turn_long : i < length s → none ≡ o
  unfolding before
  turn_long h = rw (← fields_long s i h) at zero_left
