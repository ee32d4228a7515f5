-- `search::search` meets its contract. The loop's invariant: the steps that are left, from the search now, come to what `n` steps come to from the
-- search before its first. Assumes nothing.
use Rattle.property.proofs.Basics.{◌≡◌, refl, sym, ap, ◌∙◌, inl, inr, ◌⊎◌, ◌≤◌, false, get_or, eqb, eq-eqb, ne_eqb, not, ◌-◌, length, length-set, arith}
use Rattle.answers.specs.Routing.{eligible}
use Rattle.search.specs.Search.{unfound, is_unfound}
use Rattle.search.proofs.Steps.{searching_begun, search_begins, search_turn, search_ends}
use Rattle.search.proofs.search.Goals.{then-loop-i-test+else-via-t, else-loop-i-test}
use Rattle.search.proofs.search.Goals as goal

pub loop-i-init : goal.loop-i-init
loop-i-init c =
    let g = c.args in
    let n = length g.via.now in
    let qs = g.queue.now in
    let fs = c.fill.new.dst in (
      λ k h es o. search_begins n g.s qs fs c.fill.ensures c.requires.0 c.requires.2.few c.requires.4 k h _ es _,
      refl,
      refl,
      searching_begun n g.s qs fs c.fill.ensures c.requires.0 c.requires.2.few c.requires.4,
    )

pub bounds-queue-i : goal.bounds-queue-i
bounds-queue-i c =
    let f = c.loop-i.invariant.3 in
    omega (arith, f.once, f.room)

pub overflow_cast-u : goal.overflow_cast-u
overflow_cast-u c =
    omega (arith, c.type_inv.queue c.loop-i.i)

pub expand-count-requires : goal.expand-count-requires
expand-count-requires c =
    let size : length c.args.via.now ≡ length c.loop-i.via = sym (c.loop-i.invariant.1 ∙ length-set c.fill.new.dst _ _ ∙ c.fill.auto.dst) in
    let f = c.loop-i.invariant.3 in
    let z = size in
    (f.inside c.loop-i.i (omega arith), rw z at c.requires.2, c.requires.3 ∙ z, f)

pub loop-i-smaller : goal.loop-i-smaller
loop-i-smaller c =
    omega (arith, c.loop-i.invariant.3.once)

pub loop-i-preserved : goal.loop-i-preserved
loop-i-preserved c =
    let g = c.args in
    let at = c.loop-i in (
      λ n h es o.
          let z : n ≡ length at.via = h ∙ c.expand-count.auto.via in
          sym (search_turn (eligible g.p g.row.now g.v) es g.t at.i at.count at.queue at.via at.invariant.3 n _ z c.loop-i-test.true (eq-eqb _ _ c.if-via-t.true)
          (c.expand-count.ensures.via_after es (rw z at o)))
          ∙ at.invariant.0 n z es o,
      c.expand-count.auto.via ∙ at.invariant.1,
      c.expand-count.auto.queue ∙ at.invariant.2,
      c.expand-count.ensures.searching,
    )

pub shape_of-queue : goal.shape_of-queue
shape_of-queue c =
    c.loop-i.invariant.2 ∙ length-set c.args.queue.now _ _

pub shape_of-via : goal.shape_of-via
shape_of-via c =
    let size : length c.args.via.now ≡ length c.loop-i.via = sym (c.loop-i.invariant.1 ∙ length-set c.fill.new.dst _ _ ∙ c.fill.auto.dst) in
    sym (size)

pub returns : goal.returns
returns c =
    let size : length c.args.via.now ≡ length c.loop-i.via = sym (c.loop-i.invariant.1 ∙ length-set c.fill.new.dst _ _ ∙ c.fill.auto.dst) in
    let g = c.args in
    let at = c.loop-i in
    let over : (at.count ≤ at.i) ⊎ (eqb (get_or at.via g.t 0) unfound ≡ false) = elim c.loop-i-test.branch [
      | then-loop-i-test+else-via-t w ↦ inr (ne_eqb _ _ w.if-via-t.false)
      | else-loop-i-test w ↦ inl w.loop-i-test.false
    ] in (
    λ es o.
    let F = eligible g.p g.row.now g.v in
    let e = sym (search_ends F es g.t at.i at.count at.queue at.via at.invariant.3 (length g.via.now - at.i) over) ∙ at.invariant.0 (length g.via.now) size es o in
    (ap (λ st. st.via) e, ap (λ st. not (is_unfound st g.t)) e)
    )
