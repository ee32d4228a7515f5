-- Routes with the same vertices differ in their weights alone: place by place their edges are twins. So the one whose edges are the lightest of their pairs
-- has the lowest weight at each place. Assumes nothing.
--
--   Lightest ks e == no edge of ks of the pair of e has a lower weight
--   Light ks ps   == so it is for each edge of ps
use Rattle.property.proofs.Basics.{◌≡◌, refl, sym, ⊎_elim, true, List, ◌∷◌, map, Memᴰ, Memᴰ-head, Memᴰ-tail, Memᴰ-cases_cons, ℕ, zero, suc, ◌≤◌, ◌<◌, arith, get_or}
use mathlib.Core.List.{nil≢cons, cons≢nil, head-eq_of_cons-eq, tail-eq_of_cons-eq}
use Rattle.property.specs.Property.{Property}
use Rattle.graph.specs.Edge.{Edge, precedes}
use Rattle.graph.specs.Leads.{Leads, stop, on, weights_of, Preferred}
use Rattle.graph.proofs.Order.{less_of}
use Rattle.theory.proofs.Leads.{preferred_unique}

-- ---- edges of one tail, and twins, in table order

module _ (e x : Edge) (h : precedes e x ≡ true) (p : e.tail ≡ x.tail) where
  pub precedes_head : e.head ≤ x.head
  precedes_head = ⊎_elim (λ a. absurd (omega arith)) (λ a. ⊎_elim (λ b. omega arith) (λ b. let z = b.0 in omega arith) a.1) (less_of e x h)

  pub precedes_weight : e.head ≡ x.head → e.weight < x.weight
  precedes_weight q = ⊎_elim (λ a. absurd (omega arith)) (λ a. ⊎_elim (λ b. absurd (omega arith)) (λ b. b.1) a.1) (less_of e x h)

-- ---- the lightest of their pairs

abbrev pub Lightest : List Edge → Edge → Type 0
Lightest ks e = (x : Edge) → Memᴰ x ks → e.tail ≡ x.tail → e.head ≡ x.head → e.weight ≤ x.weight

abbrev pub Light : List Edge → List Edge → Type 0
Light ks ps = (e : Edge) → Memᴰ e ps → Lightest ks e

pub light_on : {ks ps : List Edge} {e : Edge} → Lightest ks e → Light ks ps → Light ks (e ∷ ps)
light_on h k o m = ⊎_elim (λ z. rw z h) (λ j. k o j) (Memᴰ-cases_cons m)

-- edges at one place leave the same vertex, where those before them ended, and have the same head
pub light_lowest : {es ks ps qs : List Edge} {s u t w : ℕ} → Leads es s ps t → Leads ks u qs w → s ≡ u → map (λ e. e.head) ps ≡ map (λ e. e.head) qs → Light ks ps
    → (i : ℕ) → get_or (weights_of ps) i 0 ≤ get_or (weights_of qs) i 0
light_lowest stop stop a e h i = omega arith
light_lowest stop (on m k) a e h i = absurd (nil≢cons e)
light_lowest (on m k) stop a e h i = absurd (cons≢nil e)
light_lowest (on {e = b} m k) (on {e = c} l j) a e h zero = h b (Memᴰ-head refl) c l a (head-eq_of_cons-eq e)
light_lowest (on m k) (on l j) a e h (suc i) = light_lowest k j (head-eq_of_cons-eq e) (tail-eq_of_cons-eq e) (λ b d. h b (Memᴰ-tail d)) i

-- ---- one preferred route

same_edges : {es ks ps qs : List Edge} {s u t w : ℕ} → Leads es s ps t → Leads ks u qs w → s ≡ u → map (λ e. e.head) ps ≡ map (λ e. e.head) qs
    → ((i : ℕ) → get_or (weights_of ps) i 0 ≡ get_or (weights_of qs) i 0) → ps ≡ qs
same_edges stop stop a e h = refl
same_edges stop (on m k) a e h = absurd (nil≢cons e)
same_edges (on m k) stop a e h = absurd (cons≢nil e)
same_edges (on m k) (on l j) a e h =
    let p = head-eq_of_cons-eq e in
    let q = h 0 in
    let r = same_edges k j p (tail-eq_of_cons-eq e) (λ i. h (suc i)) in
    λ i. record { tail = a i; head = p i; weight = q i } ∷ r i

-- Two preferred routes have the same vertices, as neither has fewer edges or is lower; and at each place neither has the lower weight.
pub preferred_only : {P : Property} {es ps qs : List Edge} {s t : ℕ} → Preferred P es s t ps → Preferred P es s t qs → ps ≡ qs
preferred_only {ps = ps} {qs = qs} a b =
    let v = preferred_unique a b in
    same_edges a.best.leads b.best.leads refl (tail-eq_of_cons-eq v)
    (λ i. let k = a.lightest qs b.best (sym v) i in let l = b.lightest ps a.best v i in omega arith)
