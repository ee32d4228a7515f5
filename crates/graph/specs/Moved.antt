-- Lists of edges that differ in their weights alone: document 02, One, the drift limit ("one figure moved by d"). Assumes nothing.
--
--   Moved d es fs  == fs is es with the weight of one edge moved by at most d: any other edge of one is an edge of the other, wherever it stands
--   Zone k d es fs == es and fs have the same pairs, record by record (twins by their place), with weights that have moved by at most k in all, and each by
--                        at most d
use Rattle.std.specs.Prelude.{◌≡◌, ◌⊎◌, true, ℕ, ◌+◌, max}
use mathlib.Core.List.{List, [], ◌∷◌, Memᴰ}
use Rattle.property.specs.Drift.{Near}
use Rattle.graph.specs.Edge.{Edge, same_pair}

pub record Moved (d : ℕ) (es fs : List Edge) : Type 0 where
  pub old : Edge
  pub new : Edge
  pub pair : same_pair old new ≡ true
  pub near : Near d old.weight new.weight
  pub gone : Memᴰ old es
  pub come : Memᴰ new fs
  pub kept : (e : Edge) → Memᴰ e es → (e ≡ old) ⊎ Memᴰ e fs
  pub back : (e : Edge) → Memᴰ e fs → (e ≡ new) ⊎ Memᴰ e es

pub data Zone : ℕ → ℕ → List Edge → List Edge → Type 0 where
  ends : Zone 0 0 [] []
  next : {k d : ℕ} {e f : Edge} {es fs : List Edge} (c : ℕ) → same_pair e f ≡ true → Near c e.weight f.weight → Zone k d es fs
      → Zone (c + k) (max c d) (e ∷ es) (f ∷ fs)
