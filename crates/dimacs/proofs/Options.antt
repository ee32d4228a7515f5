-- Answers that may be missing. Assumes nothing.
use Rattle.property.proofs.Basics.{◌≡◌, refl, Bool, true, false, cond, Option, none, some, bind, ℕ, arith}

pub none_some : {A : Type 0} {x : A} → ◌≡◌ {A = Option A} none (some x) → ⊥
none_some h = let z : ◌≡◌ {A = ℕ} 0 1 = cc in omega arith

pub some_same : {A : Type 0} {x y : A} → ◌≡◌ {A = Option A} (some x) (some y) → x ≡ y
some_same h = cc

pub bind_some : {A B : Type 0} (o : Option A) (f : A → Option B) (y : B) → bind o f ≡ some y → (x : A) × (o ≡ some x) × (f x ≡ some y)
unfolding bind
bind_some none f y h = absurd (none_some h)
bind_some (some x) f y h = (x, refl, h)

pub by_option : {A C : Type 0} (o : Option A) → (o ≡ none → C) → ((a : A) → o ≡ some a → C) → C
by_option none f g = f refl
by_option (some a) f g = g a refl

pub bind_bind : {A B C : Type 0} (o : Option A) (f : A → Option B) (g : B → Option C) → bind (bind o f) g ≡ bind o (λ x. bind (f x) g)
unfolding bind
bind_bind none f g = refl
bind_bind (some x) f g = refl

pub bind_cond : {A B : Type 0} (b : Bool) (x : A) (f : A → Option B) (y : B) → bind (cond b (some x) none) f ≡ some y → (b ≡ true) × (f x ≡ some y)
unfolding bind
bind_cond true x f y h = (refl, h)
bind_cond false x f y h = absurd (none_some h)
