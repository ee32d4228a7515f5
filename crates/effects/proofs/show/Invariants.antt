-- `effects::show` meets its contract: the effects and moves of the vertices below t are written. Assumes nothing.
use Rattle.property.proofs.Basics.{◌≡◌, List, map, ℕ, ◌≤◌, length, get_or}
use lib.IntN.{ℤ}
use Rattle.property.specs.Property.{property}
use Rattle.graph.specs.Refusal.{over}
use Rattle.graph.specs.Edge.{range}
use Rattle.answers.specs.Preview.{effect_of, move_of}
use Rattle.effects.proofs.show.Given as goal

abbrev pub effect_at : ℕ → List ℕ → List ℕ → ℕ → ℕ
effect_at p before after t = effect_of (property p) (get_or before t 0) (get_or after t 0)

abbrev pub move_at : ℕ → List ℕ → List ℕ → ℕ → ℤ
move_at p before after t = move_of (property p) (get_or before t 0) (get_or after t 0)

abbrev pub invariant-loop-t : goal.invariant-loop-t
invariant-loop-t l =
    (l.effects ≡ over (map (effect_at l.p l.before l.after) (range 0 l.t)) l.initial.effects) × (l.moves ≡ over (map (move_at l.p l.before l.after) (range 0 l.t)) l.initial.moves)
    × (l.t ≤ length l.before) × (length l.effects ≡ length l.initial.effects) × (length l.moves ≡ length l.initial.moves)
