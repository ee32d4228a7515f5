-- Lists of edges: those that pass a test, whether one does, membership by the three words, reversed lists; and pairs. Assumes nothing.
use Rattle.property.proofs.Basics.{◌≡◌, refl, sym, ap, ◌∙◌, ⊎_elim, Bool, true, false≢true, List, [], ◌∷◌, ◌++◌, map, Memᴰ, Memᴰ-head, Memᴰ-tail, Memᴰ-cases_cons, Memᴰ-not_nil, ℕ, eqb, eqb-true, eq-eqb}
use Rattle.property.proofs.Tests.{by_test}
use Rattle.graph.specs.Edge.{Edge, reverse, same, same_pair, keep_if, keep, exists, among, leaving}
use Rattle.graph.proofs.Tests.{both, and_true, or_right}

-- ---- keep

pub keep_in : (f : Edge → Bool) (es : List Edge) (x : Edge) → Memᴰ x (keep f es) → Memᴰ x es × (f x ≡ true)
unfolding keep keep_if
keep_in f [] x m = absurd (Memᴰ-not_nil m)
keep_in f (e ∷ es) x m = by_test (f e)
    (λ q. ⊎_elim (λ p. (Memᴰ-head p, ap f p ∙ q)) (λ k. let z = keep_in f es x k in (Memᴰ-tail z.0, z.1)) (Memᴰ-cases_cons (rw q at m)))
    (λ q. let z = keep_in f es x (rw q at m) in (Memᴰ-tail z.0, z.1))

pub in_keep : (f : Edge → Bool) {x : Edge} {es : List Edge} → Memᴰ x es → f x ≡ true → Memᴰ x (keep f es)
unfolding keep keep_if
in_keep f (Memᴰ-head {x = e} {xs = es} p) q = rw (sym (ap f p) ∙ q) (Memᴰ-head p)
in_keep f {x = x} (Memᴰ-tail {x = e} {xs = es} m) q = by_test (f e) (λ p. rw p (Memᴰ-tail (in_keep f m q))) (λ p. rw p (in_keep f m q))

pub leaving_in : (i : ℕ) (es : List Edge) (x : Edge) → Memᴰ x (leaving i es) → Memᴰ x es × (x.tail ≡ i)
leaving_in i es x m = let z = keep_in (λ e. eqb e.tail i) es x m in (z.0, eqb-true _ _ z.1)

pub in_leaving : (i : ℕ) {es : List Edge} {x : Edge} → Memᴰ x es → x.tail ≡ i → Memᴰ x (leaving i es)
in_leaving i m p = in_keep (λ e. eqb e.tail i) m (eq-eqb _ _ p)

-- ---- exists

pub exists_true : (f : Edge → Bool) (es : List Edge) → exists f es ≡ true → (e : Edge) × Memᴰ e es × (f e ≡ true)
unfolding exists
exists_true f [] h = absurd (false≢true h)
exists_true f (o ∷ es) h = by_test (f o) (λ q. (o, Memᴰ-head refl, q)) (λ q. let (e, m, z) = exists_true f es (rw q at h) in (e, Memᴰ-tail m, z))

pub true_exists : (f : Edge → Bool) {e : Edge} {es : List Edge} → Memᴰ e es → f e ≡ true → exists f es ≡ true
unfolding exists
true_exists f (Memᴰ-head p) q = rw (sym (ap f p) ∙ q)
true_exists f (Memᴰ-tail {x = o} {xs = es} m) q = or_right (f o) (true_exists f m q)

-- ---- pairs

pub pair_ends : (e f : Edge) → same_pair e f ≡ true → (e.tail ≡ f.tail) × (e.head ≡ f.head)
pair_ends e f h = let z = both (eqb e.tail f.tail) _ h in (eqb-true _ _ z.0, eqb-true _ _ z.1)

pub ends_pair : (e f : Edge) → e.tail ≡ f.tail → e.head ≡ f.head → same_pair e f ≡ true
ends_pair e f p q = and_true (eq-eqb _ _ p) (eq-eqb _ _ q)

-- ---- membership by the three words

pub same_eq : (e f : Edge) → same e f ≡ true → e ≡ f
same_eq e f h =
    let a = both (eqb e.tail f.tail) _ h in
    let b = both (eqb e.head f.head) (eqb e.weight f.weight) a.1 in
    let p = eqb-true _ _ a.0 in
    let q = eqb-true _ _ b.0 in
    let r = eqb-true _ _ b.1 in
    λ i. record { tail = p i; head = q i; weight = r i }

pub same_own : (e : Edge) → same e e ≡ true
same_own e = and_true (eq-eqb e.tail _ refl) (and_true (eq-eqb e.head _ refl) (eq-eqb e.weight _ refl))

pub mem_among : {es : List Edge} {e : Edge} → Memᴰ e es → among es e ≡ true
mem_among {e = e} m = true_exists (same e) m (same_own e)

pub among_mem : (es : List Edge) (e : Edge) → among es e ≡ true → Memᴰ e es
among_mem es e h = let (x, m, q) = exists_true (same e) es h in rw (same_eq e x q) m

-- ---- reversed lists

pub mem_reverse : {e : Edge} {es : List Edge} → Memᴰ e es → Memᴰ (reverse e) (map reverse es)
mem_reverse (Memᴰ-head p) = Memᴰ-head (ap reverse p)
mem_reverse (Memᴰ-tail m) = Memᴰ-tail (mem_reverse m)

pub reverse_mem : (es : List Edge) (e : Edge) → Memᴰ e (map reverse es) → Memᴰ (reverse e) es
reverse_mem [] e m = absurd (Memᴰ-not_nil m)
reverse_mem (o ∷ es) e m = ⊎_elim (λ p. Memᴰ-head (ap reverse p)) (λ k. Memᴰ-tail (reverse_mem es e k)) (Memᴰ-cases_cons m)

-- ---- keep, of lists put together and of reversed lists

pub keep_append : (f : Edge → Bool) (xs ys : List Edge) → keep f (xs ++ ys) ≡ keep f xs ++ keep f ys
unfolding keep keep_if
keep_append f [] ys = refl
keep_append f (x ∷ xs) ys = by_test (f x) (λ q. rw q (ap (λ (l : List Edge). x ∷ l) (keep_append f xs ys))) (λ q. rw q (keep_append f xs ys))

pub keep_reverse : (f : Edge → Bool) (es : List Edge) → keep f (map reverse es) ≡ map reverse (keep (λ e. f (reverse e)) es)
unfolding keep keep_if
keep_reverse f [] = refl
keep_reverse f (e ∷ es) = by_test (f (reverse e)) (λ q. rw q (ap (λ (l : List Edge). reverse e ∷ l) (keep_reverse f es))) (λ q. rw q (keep_reverse f es))
