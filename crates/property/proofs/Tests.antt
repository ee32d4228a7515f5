-- Tests as truth values, and the set with which `omega` reads and proves tests on numbers. Assumes nothing.
--
--   tests             == what `ltb`, `leb` and `eqb` say where they are true and where they are false, and back
--   is_true, is_false == a test that can't come out one way comes out the other
--   by_test           == by the two ways that a test can come out
--   always_false, never_true == the same for a test that is always false
use Rattle.property.proofs.Basics.{◌≡◌, refl, Bool, true, false, false≢true, ◌≤◌, arith, ltb-true, ltb-false, lt-ltb, le-ltb, leb-true, leb-false, le-leb, lt-leb, eqb-true, eqb-false, eq-eqb, ne_eqb}

pub always_false : 0 ≤ 0 → false ≡ false
always_false h = refl

pub never_true : false ≡ true → 1 ≤ 0
never_true h = absurd (false≢true h)

pub ruleset tests = (always_false, never_true, ltb-true, ltb-false, lt-ltb, le-ltb, leb-true, leb-false, le-leb, lt-leb, eqb-true, eqb-false, eq-eqb, ne_eqb, arith)

pub is_true : (t : Bool) → (t ≡ false → ⊥) → t ≡ true
is_true true h = refl
is_true false h = absurd (h refl)

pub is_false : (t : Bool) → (t ≡ true → ⊥) → t ≡ false
is_false true h = absurd (h refl)
is_false false h = refl

pub by_test : {C : Type 0} (t : Bool) → (t ≡ true → C) → (t ≡ false → C) → C
by_test true f g = f refl
by_test false f g = g refl
