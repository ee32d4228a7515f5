-- The rules of a table, judged record by record; chains of refusals as the code judges them. Assumes nothing.
use Rattle.property.proofs.Basics.{◌≡◌, sym, ap, ◌∙◌, Bool, true, false, List, ℕ, ◌+◌, ◌-◌, ◌<◌, ◌≤◌, add-one, arith, length, drop, eqb, ltb, ltb-false, eqb-false, lt-ltb, le-ltb}
use Rattle.std.specs.Prelude.{Result, Ok, Err, IsErrAnd}
use Rattle.std.proofs.lemmas.Result.{err_from_is_err_and}
use Rattle.graph.specs.declared.refusal.Refusal.{Refusal}
use Rattle.graph.specs.declared.refusal.Refusal.TheVariants as refusal
use Rattle.graph.specs.Limits.{max_vertices, max_edges}
use Rattle.graph.specs.Refusal.{Verdict, accept, refuse, ◌▷◌, refuse_if}
use Rattle.graph.specs.Edge.{edges}
use Rattle.graph.specs.Table.{Columns, edges_of, is_edge, follow, rules, size, short_table, table, bare_faults}
use Rattle.graph.specs.Sorted as order
use Rattle.graph.specs.Code.{number, place, told, told_with, Room, columns, edge_at, keeps}
use Rattle.graph.proofs.Tests.{neither}
use Rattle.graph.proofs.Verdicts.{then_accept, if_accept}
use Rattle.graph.proofs.Records.{edges_more, edges_none}

module _ (ts hs ws : List ℕ) (m : ℕ) (r : Room m ts hs ws) (n : ℕ) where
  pub rules_none : m ≡ 0 → told (Ok tt) ≡ rules n (edges ts hs ws m)
  unfolding told order.rules
  rules_none e = rw (edges_none ts hs ws m r 0 (omega arith))

  pub rules_broken : 0 < m → is_edge n (edge_at ts hs ws 0) ≡ false → told (Err (refusal.Table 0)) ≡ rules n (edges ts hs ws m)
  unfolding told order.rules refuse_if ◌▷◌
  rules_broken l e = rw (edges_more ts hs ws m r 0 l, e)

  pub rules_first : 0 < m → is_edge n (edge_at ts hs ws 0) ≡ true → follow n 1 (edge_at ts hs ws (1 - 1)) (drop 1 (edges ts hs ws m)) ≡ rules n (edges ts hs ws m)
  unfolding order.rules refuse_if ◌▷◌
  rules_first l e = rw (edges_more ts hs ws m r 0 l, e)

  module _ (k : ℕ) {v : Verdict} (h : follow n k (edge_at ts hs ws (k - 1)) (drop k (edges ts hs ws m)) ≡ v) where
    pub follow_more : k < m → keeps n ts hs ws k ≡ true → follow n (k + 1) (edge_at ts hs ws (k + 1 - 1)) (drop (k + 1) (edges ts hs ws m)) ≡ v
    unfolding order.follow refuse_if ◌▷◌
    follow_more l e = let x : k + 1 - 1 ≡ k = omega arith in rw (x, add-one) (rw (edges_more ts hs ws m r k l, e, add-one) at h)

    pub follow_broken : k < m → keeps n ts hs ws k ≡ false → told (Err (refusal.Table k)) ≡ v
    unfolding told order.follow refuse_if ◌▷◌
    follow_broken l e = rw (edges_more ts hs ws m r k l, e) at h

    pub follow_none : m ≤ k → told (Ok tt) ≡ v
    unfolding told order.follow
    follow_none l = rw (edges_none ts hs ws m r k l) at h

    pub follow_end : m ≤ k → accept ≡ v
    unfolding order.follow
    follow_end l = rw (edges_none ts hs ws m r k l) at h

-- a count in range, judged by its records
pub table_judged : (n m : ℕ) (ts hs ws : List ℕ) {v : Verdict} → m ≤ max_edges → v ≡ rules n (edges ts hs ws m) → v ≡ table n (columns ts hs ws) m
unfolding refuse_if ◌▷◌
table_judged n m ts hs ws l e = rw (le-ltb max_edges m l) e

pub table_crowded : (n m : ℕ) (ts hs ws : List ℕ) → max_edges < m → told (Err (refusal.Table 0)) ≡ table n (columns ts hs ws) m
unfolding told refuse_if ◌▷◌
table_crowded n m ts hs ws l = rw (lt-ltb max_edges m l)

-- ---- chains of refusals: an earlier one is given, a later one only where the earlier is fine

-- what a `?` gives back is the refusal that it met
pub passed_on : {A : Type 0} {e : Refusal} (r : Result A Refusal) → IsErrAnd r (λ d. d ≡ e) → r ≡ Err e
passed_on r h = let p = err_from_is_err_and r h in rw (p.1, p.2)

pub then_refused : (e : Refusal) (v w : Verdict) → told (Err e) ≡ v → told (Err e) ≡ (v ▷ w)
unfolding told ◌▷◌
then_refused e v w h = rw (sym h)

pub then_judged : (b : Result (Unit {0}) Refusal) (v w : Verdict) → told (Ok tt) ≡ v → told b ≡ w → told b ≡ (v ▷ w)
unfolding told ◌▷◌
then_judged b v w h f = rw (sym h) f

-- the same for a test in the code
pub if_refused : (t : Bool) (e : Refusal) (w : Verdict) → t ≡ true → told (Err e) ≡ (refuse_if t (number e) (place e) ▷ w)
unfolding told refuse_if ◌▷◌
if_refused t e w h = rw h

pub if_judged : (t : Bool) (k i : ℕ) (b : Result (Unit {0}) Refusal) (w : Verdict) → t ≡ false → told b ≡ w → told b ≡ (refuse_if t k i ▷ w)
unfolding refuse_if ◌▷◌
if_judged t k i b w e f = rw e f

pub fine_accept : (v : Verdict) → told (Ok tt) ≡ v → v ≡ accept
unfolding told
fine_accept v e = sym e

-- ---- the same of any error that a refusal turns into

-- a refusal by its own number and place
told_alike : (r : Result (Unit {0}) Refusal) → told_with number place r ≡ told r
unfolding told told_with
told_alike (Ok u) = λ i. accept
told_alike (Err e) = λ i. refuse (number e) (place e)

pub as_told : (b d : Result (Unit {0}) Refusal) (f : Verdict → Verdict)
    → ((k i : Refusal → ℕ) → ((r e : Refusal) → e ≡ r → (k e ≡ number r) × (i e ≡ place r)) → told_with k i b ≡ f (told_with k i d)) → told b ≡ f (told d)
as_told b d f h = sym (told_alike b) ∙ h number place (λ r e q. (ap number q, ap place q)) ∙ ap f (told_alike d)

module _ {E : Type 0} (k i : E → ℕ) where
  pub turned_on : {gives : Refusal → E → Type 0} (e : Refusal) (law : (r : Refusal) (d : E) → gives r d → (k d ≡ number r) × (i d ≡ place r)) (r : Result (Unit {0}) E)
      → IsErrAnd r (gives e) → told_with k i r ≡ told (Err e)
  unfolding told told_with
  turned_on e law r h = let p = err_from_is_err_and r h in let q = law _ p.0 p.2 in rw (p.1, q.0, q.1)

  pub handed_on : (d : E) (r : Result (Unit {0}) E) (w : Verdict) → IsErrAnd r (λ e. e ≡ d) → told_with k i r ≡ (told_with k i (Err d) ▷ w)
  unfolding told_with ◌▷◌
  handed_on d r w h = let p = err_from_is_err_and r h in rw (p.1, p.2)

  pub passed : {b : Result (Unit {0}) E} {u : Unit {0}} → b ≡ Ok u → told_with k i b ≡ accept
  unfolding told_with
  passed h = rw h

  pub all_fine : {v : Verdict} → told (Ok tt) ≡ v → told_with k i (Ok tt) ≡ v
  unfolding told told_with
  all_fine h = h

-- ---- what acceptance says of each

pub size_accept : (n : ℕ) → size n ≡ accept → (0 < n) × (n ≤ max_vertices)
size_accept n h =
    let z = neither (eqb n 0) (ltb max_vertices n) (if_accept _ 1 0 h) in
    let a = eqb-false n 0 z.0 in
    let b = ltb-false max_vertices n z.1 in
    (omega arith, b)

pub lengths_accept : (ts hs ws : List ℕ) → short_table (columns ts hs ws) ≡ accept → Room max_edges ts hs ws
lengths_accept ts hs ws h =
    let z = neither (ltb (length ts) max_edges) _ (if_accept _ 2 0 h) in
    let y = neither (ltb (length hs) max_edges) (ltb (length ws) max_edges) z.1 in
    record { tails = ltb-false _ _ z.0; heads = ltb-false _ _ y.0; weights = ltb-false _ _ y.1 }

pub table_accept : (n : ℕ) (cs : Columns) (m : ℕ) → table n cs m ≡ accept → (m ≤ max_edges) × (rules n (edges_of cs m) ≡ accept)
table_accept n cs m h =
    let z = then_accept (refuse_if (ltb max_edges m) 4 0) (rules n (edges_of cs m)) h in
    (ltb-false max_edges m (if_accept _ 4 0 z.0), z.1)

-- of a call that takes a table and no landmarks
pub record Bare (n : ℕ) (cs : Columns) (m : ℕ) (v : Verdict) : Type 0 where
  pub some : 0 < n
  pub few : n ≤ max_vertices
  pub room : Room max_edges cs.tails cs.heads cs.weights
  pub own : v ≡ accept
  pub count : m ≤ max_edges
  pub sound : rules n (edges_of cs m) ≡ accept

pub bare_accept : (n : ℕ) (cs : Columns) (m : ℕ) (v : Verdict) → bare_faults n cs m v ≡ accept → Bare n cs m v
bare_accept n cs m v h =
    let a = then_accept (size n) _ h in
    let b = then_accept (short_table cs) _ a.1 in
    let c = then_accept v (table n cs m) b.1 in
    let s = size_accept n a.0 in
    let t = table_accept n cs m c.1 in
    record { some = s.0; few = s.1; room = lengths_accept cs.tails cs.heads cs.weights b.0; own = c.0; count = t.0; sound = t.1 }
