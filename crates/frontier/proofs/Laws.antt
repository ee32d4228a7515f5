-- What a caller uses of the answers: laws on any list of Bool, and on the list that any number of words holds. Assumes nothing.
use Rattle.std.specs.Prelude.{Some, None}
use Rattle.property.proofs.Basics.{◌≡◌, refl, sym, ap, ap₂, ◌∙◌, Bool, true, false, true≢false, false≢true, List, [], ◌∷◌, ◌++◌, ℕ, zero, suc, ◌+◌, ◌-◌, ◌*◌, ◌≤◌, ◌<◌, not-suc-le-zero, le_of_suc-le-suc, suc-mul, zero-mul, arith, eqb-true, not-false, length, get_or, set, drop, replicate, length-drop, replicate-append-replicate, get_or-drop}
use Rattle.property.proofs.Tests.{is_false}
use Rattle.frontier.specs.Waiting.{bits_of, bits_of_all, waiting_of, seek, next_from, any_of, count_of}
use Rattle.frontier.proofs.Words.{bits_all_length}
use Rattle.frontier.proofs.Counts.{any_count}

-- ---- the first that waits

-- v is the first at or after i that waits
pub record First (l : List Bool) (i v : ℕ) : Type 0 where
  pub from : i ≤ v
  pub within : v < length l
  pub waits : get_or l v false ≡ true
  pub before : (k : ℕ) → i ≤ k → k < v → get_or l k false ≡ false

-- the first of a list whose first place is b, by its place p in the list
seek_at : (b : ℕ) (l : List Bool) (v : ℕ) → seek b l ≡ Some v
    → (p : ℕ) × (v ≡ b + p) × (p < length l) × (get_or l p false ≡ true) × ((k : ℕ) → k < p → get_or l k false ≡ false)
unfolding seek
seek_at b [] v e = let z : ◌≡◌ {A = ℕ} 0 1 = cc in absurd (omega arith)
seek_at b (true ∷ l) v e = let q : b ≡ v = cc in (zero, omega arith, omega arith, refl, λ k h. absurd (not-suc-le-zero h))
seek_at b (false ∷ l) v e =
    let r = seek_at (suc b) l v e in
    (suc r.0, omega (arith, r.1), omega (arith, r.2), r.3, below r.0 r.4)
  where
    below : (p : ℕ) → ((k : ℕ) → k < p → get_or l k false ≡ false) → (k : ℕ) → k < suc p → get_or (false ∷ l) k false ≡ false
    below p f zero h = refl
    below p f (suc k) h = f k (le_of_suc-le-suc h)

seek_none : (b : ℕ) (l : List Bool) → seek b l ≡ None → (k : ℕ) → get_or l k false ≡ false
unfolding seek
seek_none b [] e k = refl
seek_none b (true ∷ l) e k = let z : ◌≡◌ {A = ℕ} 0 1 = cc in absurd (omega arith)
seek_none b (false ∷ l) e zero = refl
seek_none b (false ∷ l) e (suc k) = seek_none (suc b) l e k

-- a place at or after i, in what is left from i on
left_at : (l : List Bool) (i k : ℕ) → i ≤ k → get_or (drop i l) (k - i) false ≡ get_or l k false
left_at l i k h = let e : i + (k - i) ≡ k = omega arith in get_or-drop i l (k - i) false ∙ ap (λ (m : ℕ). get_or l m false) e

pub next_first : (l : List Bool) (i v : ℕ) → next_from l i ≡ Some v → First l i v
next_first l i v e =
    let r = seek_at i (drop i l) v e in
    let p : v - i ≡ r.0 = omega (arith, r.1) in
    let f : i ≤ v = omega (arith, r.1) in record {
      from = f;
      within = omega (arith, r.1, r.2, length-drop i l);
      waits = sym (left_at l i v f) ∙ ap (λ (m : ℕ). get_or (drop i l) m false) p ∙ r.3;
      before = λ k a b. sym (left_at l i k a) ∙ r.4 (k - i) (omega (arith, r.1));
    }

pub next_none : (l : List Bool) (i : ℕ) → next_from l i ≡ None → (k : ℕ) → i ≤ k → get_or l k false ≡ false
next_none l i e k h = sym (left_at l i k h) ∙ seek_none i (drop i l) e (k - i)

-- ---- how many wait: what falls as a vertex is taken out

pub count_remove : (l : List Bool) (v : ℕ) → get_or l v false ≡ true → count_of l ≡ suc (count_of (set l v false))
unfolding count_of
count_remove [] v e = absurd (false≢true e)
count_remove (true ∷ l) zero e = refl
count_remove (false ∷ l) zero e = absurd (false≢true e)
count_remove (true ∷ l) (suc v) e = ap suc (count_remove l v e)
count_remove (false ∷ l) (suc v) e = count_remove l v e

pub count_insert : (l : List Bool) (v : ℕ) → v < length l → get_or l v false ≡ false → count_of (set l v true) ≡ suc (count_of l)
unfolding count_of
count_insert [] v h e = absurd (not-suc-le-zero h)
count_insert (true ∷ l) zero h e = absurd (true≢false e)
count_insert (false ∷ l) zero h e = refl
count_insert (true ∷ l) (suc v) h e = ap suc (count_insert l v (le_of_suc-le-suc h) e)
count_insert (false ∷ l) (suc v) h e = count_insert l v (le_of_suc-le-suc h) e

-- ---- whether any waits

pub any_some : (l : List Bool) → any_of l ≡ true → (v : ℕ) × (v < length l) × (get_or l v false ≡ true)
unfolding any_of
any_some [] e = absurd (false≢true e)
any_some (true ∷ l) e = (0, omega arith, refl)
any_some (false ∷ l) e = let r = any_some l e in (suc r.0, omega (arith, r.1), r.2)

pub some_any : (l : List Bool) (v : ℕ) → get_or l v false ≡ true → any_of l ≡ true
unfolding any_of
some_any [] v e = e
some_any (true ∷ l) v e = refl
some_any (false ∷ l) zero e = absurd (false≢true e)
some_any (false ∷ l) (suc v) e = some_any l v e

pub any_none : (l : List Bool) → any_of l ≡ false → (k : ℕ) → get_or l k false ≡ false
any_none l e k = is_false _ (λ q. true≢false (sym (some_any l k q) ∙ e))

pub none_any : (l : List Bool) → ((k : ℕ) → get_or l k false ≡ false) → any_of l ≡ false
none_any l f = is_false _ (λ q. let r = any_some l q in true≢false (sym r.2 ∙ f r.0))

pub count_none : (l : List Bool) → ((k : ℕ) → get_or l k false ≡ false) → count_of l ≡ 0
count_none l f = eqb-true _ _ (not-false _ (any_count l ∙ none_any l f))

-- ---- the words

pub waiting_length : (ws : List ℕ) → length (waiting_of ws) ≡ 64 * length ws
waiting_length ws = omega (arith, bits_all_length 64 ws)

bits_zero : (n : ℕ) → bits_of n 0 ≡ replicate n false
unfolding bits_of
bits_zero zero = refl
bits_zero (suc n) = ap {B = List Bool} (λ l. false ∷ l) (bits_zero n)

bits_all_zero : (n k : ℕ) → bits_of_all n (replicate k 0) ≡ replicate (k * n) false
unfolding bits_of_all
bits_all_zero n zero = ap (λ (m : ℕ). replicate m false) (sym (zero-mul n))
bits_all_zero n (suc k) =
    let e : n + k * n ≡ suc k * n = omega (arith, suc-mul k n) in
    ap₂ {A = List Bool} ◌++◌ (bits_zero n) (bits_all_zero n k)
    ∙ replicate-append-replicate n (k * n) false
    ∙ ap (λ (m : ℕ). replicate m false) e

-- in words that are all 0 nobody waits
pub waiting_zero : (k : ℕ) → waiting_of (replicate k 0) ≡ replicate (k * 64) false
waiting_zero k = bits_all_zero 64 k
