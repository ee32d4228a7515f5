-- `search::look` meets its contract. Assumes nothing.
use Rattle.property.proofs.Basics.{inl, inr, ◌⊎◌, false, ◌≡◌, ◌∙◌, true, get_or, eqb, eq-eqb, ne_eqb, arith}
use Rattle.search.specs.Search.{unfound}
use Rattle.search.proofs.Steps.{look_keeps, look_finds, queue_room, searching_found}
use Rattle.search.proofs.look.Goals.{else-test-via-then-test+else-via-h, else-test-via-else-test}
use Rattle.search.proofs.look.Goals as goal

pub bounds-queue-count : goal.bounds-queue-count
bounds-queue-count c =
    let z = queue_room _ _ _ _ _ c.requires.0 c.requires.1 c.requires.2 (eq-eqb _ _ c.if-via-h.true) in
    omega (arith, c.requires.2.room)

pub returns-then-via-h : goal.returns-then-via-h
returns-then-via-h c =
    let u : eqb (get_or c.args.via.now c.args.h 0) unfound ≡ true = eq-eqb _ _ c.if-via-h.true in record { via_after = λ f e q p a. look_finds _ _ _ _ _ c.requires.0 c.requires.1 c.requires.2 u f e (q ∙ c.if-test.true) p a; searching = searching_found _ _ _ _ _ c.requires.0 c.requires.1 c.requires.2 u }

pub returns-else-test : goal.returns-else-test
returns-else-test c =
    let g = c.args in
    let kept : (g.test ≡ false) ⊎ (eqb (get_or g.via.now g.h 0) unfound ≡ false) = elim c.else-test.branch [
      | else-test-via-then-test+else-via-h w ↦ inr (ne_eqb _ _ w.if-via-h.false)
      | else-test-via-else-test w ↦ inl w.if-test.false
    ] in
    record { via_after = λ f e q p a. look_keeps g.h g.count g.queue.now g.via.now f e g.test q p kept; searching = c.requires.2 }
