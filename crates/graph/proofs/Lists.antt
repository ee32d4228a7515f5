-- Lists: ranges, tables over them, stored places, folds, lists of one value. Assumes nothing.
use Rattle.property.proofs.Basics.{◌≡◌, refl, sym, ap, ◌∙◌, ◌⊎◌, inl, inr, ⊎_elim, ◌≢◌, List, [], ◌∷◌, map, foldl, Memᴰ, Memᴰ-head, Memᴰ-tail, Memᴰ-cases_cons, Memᴰ-not_nil, ℕ, zero, suc, ◌+◌, ◌-◌, ◌<◌, ◌≤◌, add-zero, zero-add, ℕ_discrete, arith, get_or, set, length, take, drop, replicate, length-map, get_or-set_same, get_or-set_other}
use Rattle.graph.specs.Edge.{range}

-- ---- ranges and tables over them

pub length_range : (i n : ℕ) → length (range i n) ≡ n
unfolding range
length_range i zero = refl
length_range i (suc n) = ap suc (length_range (suc i) n)

pub mem_range : (i n t : ℕ) → t < n → Memᴰ (i + t) (range i n)
unfolding range
mem_range i zero t h = absurd (omega arith)
mem_range i (suc n) zero h = let e : i + 0 ≡ i = omega arith in Memᴰ-head e
mem_range i (suc n) (suc t) h =
    let e : i + suc t ≡ suc i + t = omega arith in
    let z : Memᴰ (i + suc t) (range (suc i) n) = rw e (mem_range (suc i) n t (omega arith)) in
    Memᴰ-tail z

pub mem_range_0 : (n t : ℕ) → t < n → Memᴰ t (range 0 n)
mem_range_0 n t h = rw (zero-add t) at (mem_range 0 n t h)

pub range_below : (i n t : ℕ) → Memᴰ t (range i n) → t < i + n
unfolding range
range_below i zero t m = absurd (Memᴰ-not_nil m)
range_below i (suc n) t m = ⊎_elim (λ p. omega arith) (λ k. let z = range_below (suc i) n t k in omega arith) (Memᴰ-cases_cons m)

module _ {A : Type 0} (f : ℕ → A) where
  pub length_table : (i n : ℕ) → length (map f (range i n)) ≡ n
  length_table i n = length-map (range i n) f ∙ length_range i n

  table_from : (i n t : ℕ) (d : A) → t < n → get_or (map f (range i n)) t d ≡ f (i + t)
  unfolding range
  table_from i zero t d h = absurd (omega arith)
  table_from i (suc n) zero d h = rw add-zero
  table_from i (suc n) (suc t) d h = table_from (suc i) n t d (omega arith) ∙ ap f (omega arith)

  pub table_at : (n t : ℕ) (d : A) → t < n → get_or (map f (range 0 n)) t d ≡ f t
  table_at n t d h = table_from 0 n t d h ∙ ap f (zero-add t)

-- ---- a stored place and the others

pub at_set : {A : Type 0} (l : List A) (h : ℕ) (v : A) (t : ℕ) (d : A) → h < length l
    → ((t ≡ h) × (get_or (set l h v) t d ≡ v)) ⊎ ((t ≢ h) × (get_or (set l h v) t d ≡ get_or l t d))
at_set l h v t d b = go (ℕ_discrete t h)
  where
    go : Dec (t ≡ h) → ((t ≡ h) × (get_or (set l h v) t d ≡ v)) ⊎ ((t ≢ h) × (get_or (set l h v) t d ≡ get_or l t d))
    go (yes p) = inl (p, rw (p, get_or-set_same l h v d b))
    go (no n) = inr (n, get_or-set_other l h t v d n)

-- ---- what each step keeps, a fold keeps

pub fold_keeps : {A B : Type 0} (Q : B → Type 0) (f : B → A → B) → ((b : B) (a : A) → Q b → Q (f b a)) → (l : List A) (b : B) → Q b → Q (foldl f b l)
fold_keeps Q f k [] b q = q
fold_keeps Q f k (a ∷ l) b q = fold_keeps Q f k l (f b a) (k b a q)

-- a turn of a loop: where what is left at b comes to z, so does what is left after the first element's step
pub fold_turn : {A B : Type 0} (f : B → A → B) (x : A) {xs ys : List A} {b c z : B} → xs ≡ x ∷ ys → c ≡ f b x → foldl f b xs ≡ z → foldl f c ys ≡ z
fold_turn f x e q h = rw q (rw e at h)

-- its end: nothing is left
pub fold_done : {A B : Type 0} (f : B → A → B) {xs : List A} {b z : B} → xs ≡ [] → foldl f b xs ≡ z → b ≡ z
fold_done f e h = rw e at h

-- ---- within a list, what stands past its end does not matter

pub get_or_within : {A : Type 0} (l : List A) (i : ℕ) (d e : A) → i < length l → get_or l i d ≡ get_or l i e
get_or_within [] i d e h = absurd (omega arith)
get_or_within (x ∷ l) zero d e h = refl
get_or_within (x ∷ l) (suc i) d e h = get_or_within l i d e (omega arith)

pub get_or_mem : {A : Type 0} (l : List A) (k : ℕ) (d : A) → k < length l → Memᴰ (get_or l k d) l
get_or_mem [] k d h = absurd (omega arith)
get_or_mem (x ∷ l) zero d h = Memᴰ-head refl
get_or_mem (x ∷ l) (suc k) d h = Memᴰ-tail (get_or_mem l k d (omega arith))

-- each element stands at some index
pub mem_index : {A : Type 0} (d : A) {x : A} {l : List A} → Memᴰ x l → (k : ℕ) × (k < length l) × (get_or l k d ≡ x)
mem_index d (Memᴰ-head p) = (0, omega arith, sym p)
mem_index d (Memᴰ-tail m) = let (k, h, e) = mem_index d m in (suc k, omega arith, e)

-- ---- lists of one value

pub take_replicate : {A : Type 0} (n m : ℕ) (a : A) → n ≤ m → take n (replicate m a) ≡ replicate n a
take_replicate zero m a h = refl
take_replicate (suc n) zero a h = absurd (omega arith)
take_replicate (suc n) (suc m) a h = ap {B = List _} (λ l. a ∷ l) (take_replicate n m a (omega arith))

pub drop_replicate : {A : Type 0} (n m : ℕ) (a : A) → drop n (replicate m a) ≡ replicate (m - n) a
drop_replicate zero m a = let e : m - 0 ≡ m = omega arith in rw e
drop_replicate (suc n) zero a = let e : 0 - suc n ≡ 0 = omega arith in rw e
drop_replicate (suc n) (suc m) a = let e : suc m - suc n ≡ m - n = omega arith in rw e (drop_replicate n m a)

pub replicate_at : {A : Type 0} (n i : ℕ) (a : A) → get_or (replicate n a) i a ≡ a
replicate_at zero i a = refl
replicate_at (suc n) zero a = refl
replicate_at (suc n) (suc i) a = replicate_at n i a

-- ---- zeros

pub zeros_at : (l : List ℕ) (n : ℕ) → l ≡ replicate n 0 → (u : ℕ) → get_or l u 0 ≡ 0
zeros_at l n e u = rw e (replicate_at n u 0)
