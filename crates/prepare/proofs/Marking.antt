-- The changes of a batch that lose an edge, and the tails of removed edges from which the hunt for affected vertices starts. Assumes nothing.
use Rattle.property.proofs.Basics.{◌≡◌, sym, ap, ◌∙◌, Bool, true, false, true≢false, false≢true, List, Memᴰ, ℕ, ◌<◌, arith, length, replicate, ltb, ltb-true, lt-ltb, ne_eqb}
use Rattle.property.specs.Property.{Property}
use Rattle.property.specs.Laws.{Laws}
use Rattle.property.proofs.Tests.{by_test}
use Rattle.frontier.specs.Waiting.{capacity}
use Rattle.graph.specs.Edge.{Edge, among}
use Rattle.graph.specs.Index.{Own}
use Rattle.graph.proofs.Edges.{leaving_in}
use Rattle.graph.proofs.Tests.{both, and_true, or_false}
use Rattle.graph.proofs.Lists.{replicate_at}
use Rattle.affected.specs.Net.{counterpart, lost, removed}
use Rattle.affected.specs.Affected.{held, marked}
use Rattle.compare.specs.Code.{before, after, changes_in, Lists}
use Rattle.hunt.specs.Code.{from_end, Shut}
use Rattle.prepare.specs.Code.{edge_lost, Raised, Started}

-- ---- the listed edges that are lost

module _ {P : Property} (L : Laws P) {es fs : List Edge} {g : ℕ} {f : ℕ → Edge} {o : ℕ → ℕ} (d : Lists es fs g f o) where
  -- each that is lost by what the list says is one of es that is
  pub listed_lost : (i : ℕ) → i < g → edge_lost P (f i).weight (o i) ≡ true → Memᴰ (f i) es × (lost P (f i).weight (counterpart es fs (f i)) ≡ true)
  listed_lost i l h =
      let z = both (ltb 0 (f i).weight) (lost P (f i).weight (o i)) h in
      let w = ltb-true _ _ z.0 in
      ((d.lacks.lacked i l w).0, rw (d.other i l w) z.1)

  -- an edge of es that is lost is not in fs, since no weight is worse than itself: so it is listed
  pub lost_listed : (e : Edge) → Memᴰ e es → lost P e.weight (counterpart es fs e) ≡ true → (i : ℕ) × (i < g) × (f i ≡ e) × (edge_lost P (f i).weight (o i) ≡ true)
  unfolding counterpart
  lost_listed e m h =
      let (i, l, q) = d.lacks.all e m (by_test (among fs e) (λ r. absurd (true≢false (sym h ∙ still r))) (λ r. r)) in
      let w : 0 < (f i).weight = rw q (d.lacks.weighs e m) in
      (i, l, q, and_true (lt-ltb _ _ w) (rw (sym (d.other i l w), q) h))
    where
      still : among fs e ≡ true → lost P e.weight (counterpart es fs e) ≡ false
      still r = let l = d.lacks.weighs e m in rw r (or_false (ne_eqb e.weight 0 (λ z. omega arith)) (L.worse_irreflexive e.weight))

-- ---- the start of the hunt

pub unmarked : {bs : List Bool} → bs ≡ replicate capacity false → (t : ℕ) → marked bs t ≡ true → ⊥
unmarked e t q = false≢true (sym (replicate_at capacity t false) ∙ rw e at q)

-- Where no vertex is marked, an edge marks its head if it is held and removed: then it is listed, so that its tail is to do.
pub start_shut : {P : Property} (L : Laws P) {n : ℕ} {es fs : List Edge} {gs gs' : List Bool} (s : ℕ) (vs is xs : List ℕ) {bs : List Bool} → Own n is es
    → Lists es fs (changes_in xs) (before xs) (λ k. (after xs k).weight) → length vs ≡ n → bs ≡ replicate capacity false → Raised gs gs' (Started P s vs xs (changes_in xs)) → Shut P n es fs s vs is bs gs'
start_shut {P} L {n} {es} {fs} s vs is xs o d size clear a u h idle e m q =
    let z = both (held P s vs e) _ q in
    let i = leaving_in u es e (rw (o u h) at m) in
    let y = lost_listed L d e i.0 (by_test (removed P es fs e) (λ r. r) (λ r. absurd (unmarked clear e.tail (rw r at z.1)))) in
    let k : before xs y.0 ≡ e = y.2 in
    let to : from_end (length vs) (before xs y.0).tail ≡ from_end n u = rw size (ap (λ (x : Edge). from_end n x.tail) k ∙ ap (from_end n) i.1) in
    absurd (false≢true (sym idle ∙ a.all _ (y.0, omega arith, y.1, and_true y.3 (ap (λ (x : Edge). held P s vs x) k ∙ z.0), to)))
