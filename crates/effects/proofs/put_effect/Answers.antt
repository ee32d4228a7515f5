-- `effects::put_effect` meets its contract, by the variants. Assumes nothing.
use Rattle.property.proofs.Basics.{◌≡◌, refl, sym, ap, ◌∙◌, Bool, true, false, cond, List, ℕ, set}
use lib.IntN.{ℤ, pos}
use mir.Syntax.{w64}
use mir.Val.{SFits, to_z, of_z}
use mir.Facts.{to_z-of_z}
use Rattle.effects.specs.declared.Effect.{Effect}
use Rattle.effects.specs.declared.Effect.TheVariants.{Neither, Gained, Lost, Both}
use Rattle.effects.specs.Code.{is_zero, effect_number, effect_move}
use Rattle.effects.proofs.Differences.{zero_bits, other_bits}
use Rattle.effects.proofs.put_effect.Goals.{then-d-eq0, else-d-eq0}
use Rattle.effects.proofs.put_effect.Goals as goal

-- what is written at i is the effect's
written : (e v : Effect) (i : ℕ) (xs : List ℕ) (ys : List ℤ) (k : ℕ) (d : ℤ) → e ≡ v → effect_number v ≡ k → effect_move v ≡ d → (set xs i k ≡ set xs i (effect_number e)) × (set ys i d ≡ set ys i (effect_move e))
written e v i xs ys k d h p q = (ap (set xs i) (sym (ap effect_number h ∙ p)), ap (set ys i) (sym (ap effect_move h ∙ q)))

moved_number : (d : ℤ) (b : Bool) (k : ℕ) → is_zero d ≡ b → k ≡ cond b 0 3 → effect_number (Both d) ≡ k
unfolding effect_number
moved_number d b k e q = rw e (sym q)

pub returns-in-Neither : goal.returns-in-Neither
unfolding effect_number effect_move
returns-in-Neither c =
    let a = c.args in written a.e Neither a.i a.effects.now a.moves.now 0 (pos 0) c.in-Neither.is refl refl

pub returns-in-Gained : goal.returns-in-Gained
unfolding effect_number effect_move
returns-in-Gained c =
    let a = c.args in written a.e Gained a.i a.effects.now a.moves.now 1 (pos 0) c.in-Gained.is refl refl

pub returns-in-Lost : goal.returns-in-Lost
unfolding effect_number effect_move
returns-in-Lost c =
    let a = c.args in written a.e Lost a.i a.effects.now a.moves.now 2 (pos 0) c.in-Lost.is refl refl

pub returns-after-d-eq0 : goal.returns-after-d-eq0
unfolding effect_move
returns-after-d-eq0 c =
    let a = c.args in
    let d : ℤ = c.in-Both.d in
    let k : ℕ = c.if-d-eq0.effects in
    let s : SFits w64 d = record { sfits = c.in-Both.known_told-1-own.given.0.1 } in
    let n : effect_number (Both d) ≡ k = elim c.if-d-eq0.branch [ then-d-eq0 w ↦ moved_number d true k (zero_bits d s w.if-d-eq0.true) w.effects-is | else-d-eq0 w ↦ moved_number d false k (other_bits d w.if-d-eq0.false) w.effects-is ] in
    written a.e (Both d) a.i a.effects.now a.moves.now k (to_z w64 (of_z w64 d)) c.in-Both.is n (sym (to_z-of_z s))
