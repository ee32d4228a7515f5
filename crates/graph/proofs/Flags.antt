-- The flags of `||` in code: what is known of one where the arms meet. Assumes nothing.
use Rattle.property.proofs.Basics.{◌≡◌, refl, Bool, true, false, ◌||◌}

module _ (a b : Bool) where
  pub or_taken : a ≡ true → a ≡ (a || b)
  or_taken e = rw e

  pub or_left : a ≡ false → b ≡ (a || b)
  or_left e = rw e

-- code nests chains to the left, definitions to the right
pub or_nest : (a b c : Bool) → ((a || b) || c) ≡ (a || (b || c))
or_nest true b c = refl
or_nest false b c = refl
