-- Laws of verdicts, replies and outcomes. Assumes nothing.
use Rattle.property.proofs.Basics.{◌≡◌, refl, sym, ap, ◌∙◌, Bool, true, false, ℕ, arith}
use Rattle.graph.specs.Refusal.{Verdict, accept, refuse, ◌▷◌, refuse_if, accepted, refused, replied, verdict_of, choose, outcome}

pub not_accept : {k i : ℕ} → refuse k i ≡ accept → ⊥
not_accept e = let z : ◌≡◌ {A = ℕ} 0 1 = cc in omega arith

pub then_accept : (a b : Verdict) → (a ▷ b) ≡ accept → (a ≡ accept) × (b ≡ accept)
unfolding ◌▷◌
then_accept accept b e = (refl, e)
then_accept (refuse k i) b e = absurd (not_accept e)

pub accept_then : {a b : Verdict} → a ≡ accept → (a ▷ b) ≡ b
unfolding ◌▷◌
accept_then e = rw e

pub refuse_then : {k i : ℕ} (v w : Verdict) → v ≡ refuse k i → (v ▷ w) ≡ refuse k i
unfolding ◌▷◌
refuse_then v w e = rw e

pub if_accept : (b : Bool) (k i : ℕ) → refuse_if b k i ≡ accept → b ≡ false
unfolding refuse_if
if_accept true k i e = absurd (not_accept e)
if_accept false k i e = refl

pub accept_if : {b : Bool} (k i : ℕ) → b ≡ false → refuse_if b k i ≡ accept
unfolding refuse_if
accept_if k i e = rw e

-- ---- chains

-- what comes after an accepted verdict may be put otherwise
pub then_same : (a : Verdict) {b c : Verdict} → (a ≡ accept → b ≡ c) → (a ▷ b) ≡ (a ▷ c)
unfolding ◌▷◌
then_same accept h = h refl
then_same (refuse k i) h = refl

-- a last refusal that never comes
pub then_last : (a : Verdict) {b : Verdict} → (a ≡ accept → b ≡ accept) → (a ▷ b) ≡ a
unfolding ◌▷◌
then_last accept h = h refl
then_last (refuse k i) h = refl

pub then_assoc : (u v w : Verdict) → ((u ▷ v) ▷ w) ≡ (u ▷ (v ▷ w))
unfolding ◌▷◌
then_assoc accept v w = refl
then_assoc (refuse k i) v w = refl

-- ---- replies and outcomes

pub verdict_replied : {A : Type 0} (v : Verdict) (a : A) → verdict_of (replied v a) ≡ v
unfolding replied verdict_of
verdict_replied accept a = refl
verdict_replied (refuse k i) a = refl

pub reply_accepted : {A : Type 0} (v : Verdict) (a b : A) → replied v a ≡ accepted b → (v ≡ accept) × (a ≡ b)
unfolding replied verdict_of
reply_accepted accept a b e = (refl, cc)
reply_accepted (refuse k i) a b e = absurd (not_accept (ap verdict_of e))

pub reply_refused : {A : Type 0} (v : Verdict) (a : A) {k i : ℕ} → replied v a ≡ refused k i → v ≡ refuse k i
unfolding verdict_of
reply_refused v a e = sym (verdict_replied v a) ∙ ap verdict_of e

pub choose_accept : {A : Type 0} {v : Verdict} (new old : A) → v ≡ accept → choose v new old ≡ new
unfolding choose
choose_accept new old e = rw e

pub outcome_refused : {A L : Type 0} (v : Verdict) (a : A) (new old : L) {k i : ℕ} → v ≡ refuse k i
    → outcome v a new old ≡ record { reply = refused k i; memory = old }
unfolding replied choose
outcome_refused v a new old e = rw e

pub outcome_accepted : {A L : Type 0} (v : Verdict) (a : A) (new old : L) → v ≡ accept
    → outcome v a new old ≡ record { reply = accepted a; memory = new }
unfolding replied choose
outcome_accepted v a new old e = rw e
