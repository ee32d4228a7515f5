-- Marks of n vertices in words of 64 bits: read, set, counted. Assumes nothing.
use Rattle.std.specs.Prelude.{Some}
use Rattle.property.proofs.Basics.{◌≡◌, refl, sym, ap, ◌∙◌, Bool, true, false, cond, List, [], ◌∷◌, ℕ, zero, suc, ◌≤◌, ◌<◌, dec_lt, arith, length, get_or, set, take, get_or-eq_default, length-take-le}
use Rattle.frontier.specs.Waiting.{waiting_of, count_of, next_from}
use Rattle.frontier.proofs.Laws.{First, next_first, count_none}
use Rattle.run.specs.Code.{bits, Marks}
use Rattle.run.proofs.States.{bits_at, marks_set, marks_within}

-- past the last that is set there is nothing to count
count_take : (n : ℕ) (l : List Bool) → ((k : ℕ) → n ≤ k → get_or l k false ≡ false) → count_of (take n l) ≡ count_of l
unfolding count_of
count_take zero l f = sym (count_none l (λ k. f k (omega arith)))
count_take (suc n) [] f = refl
count_take (suc n) (true ∷ l) f = ap suc (count_take n l (λ k h. f (suc k) (omega arith)))
count_take (suc n) (false ∷ l) f = count_take n l (λ k h. f (suc k) (omega arith))

pub bits_count : (n : ℕ) (bs : List ℕ) → Marks n bs → count_of (waiting_of bs) ≡ count_of (bits n bs)
bits_count n bs m = sym (count_take n (waiting_of bs) m.idle)

pub bits_length : (n : ℕ) (bs : List ℕ) → Marks n bs → length (bits n bs) ≡ n
bits_length n bs m = length-take-le n (waiting_of bs) (omega (arith, m.few, m.bits))

-- a bit of n vertices is one of all
pub bits_all : (n : ℕ) (bs : List ℕ) → Marks n bs → (t : ℕ) → get_or (bits n bs) t false ≡ get_or (waiting_of bs) t false
bits_all n bs m t = elim (dec_lt t n) [
  | yes h ↦ bits_at n bs t h
  | no d ↦ get_or-eq_default (bits n bs) false (omega (arith, bits_length n bs m)) ∙ sym (m.idle t (omega arith))
]

-- the next mark from i on is one of the vertices
pub marks_next : {n : ℕ} {bs : List ℕ} {i v : ℕ} → Marks n bs → next_from (waiting_of bs) i ≡ Some v → First (waiting_of bs) i v × (v < n)
marks_next {n} {bs} {i} {v} m e = let f = next_first (waiting_of bs) i v e in (f, marks_within n bs v m f.waits)

-- a vertex is marked where a test holds
pub marks_if : (n : ℕ) (bs cs : List ℕ) (v : ℕ) (b : Bool) → v < n → waiting_of cs ≡ cond b (set (waiting_of bs) v true) (waiting_of bs)
    → Marks n bs → Marks n cs
marks_if n bs cs v true h e m = marks_set n v bs cs true h e m
marks_if n bs cs v false h e m = record { few = m.few; bits = ap length e ∙ m.bits; idle = λ k l. ap (λ (x : List Bool). get_or x k false) e ∙ m.idle k l }
