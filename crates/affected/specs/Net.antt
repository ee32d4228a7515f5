-- The net effect of a batch on one property: document 01, "Batch"; document 02, One and Five. It compares two tables, not the changes: es is the table
-- before the batch, fs the one after it. Assumes nothing.
--
--   others e es fs      == the edges of es, of the pair of e, that fs lacks
--   sole xs ys          == the weight of the one of ys, where xs and ys have one each; else 0, which is no weight
--   counterpart es fs e == what stands in fs in the place of e, an edge of es: its own weight where it stays; where it is the one other old edge of
--                          its pair, and there is one other new one, the weight of that one ("a retune"); else 0, nothing
--   lost P w c          == for the property, the weight w is lost where c stands in its place: nothing, or a worse weight
--   removed P es fs e   == e, an edge of es, is "removed": fs has nothing in its place, or a worse weight
--   added P es fs e     == e, an edge of fs, is "added": es had nothing in its place, or a worse weight ("it got better")
--   Retuned es fs e f   == e is the one edge of its pair that es has and fs lacks, and f the one that fs has and es lacks
--   Gone P es fs e      == e is not in fs, and where it is retuned, what it became is worse
--   Tells P es fs       == removed are the edges of es that are gone so, and added those of fs, with the tables exchanged
--   NetEffect           == so it is for any two tables that keep the rules, and for the reversed ones: proved as net_effect
--   SimplyTells P es fs == removed and added are what document 02, One, says: what stands in the place of an edge is the weight that its pair has
--   NetConserved        == so it is between two lists of edges in which no pair stands twice, and between the reversed ones: proved as net_conserved
use Rattle.std.specs.Prelude.{◌≡◌, ◌↔◌, Bool, true, not, ◌&&◌, ◌||◌, cond, ℕ, eqb}
use mathlib.Core.List.{List, [], ◌∷◌, map, Memᴰ}
use Rattle.property.specs.Property.{Property}
use Rattle.property.specs.Laws.{Laws}
use Rattle.graph.specs.Refusal.{accept}
use Rattle.graph.specs.Edge.{Edge, reverse, same_pair, among, keep}
use Rattle.graph.specs.Table.{rules}
use Rattle.graph.specs.Simple.{Simple, pair_weight}

abbrev pub others : Edge → List Edge → List Edge → List Edge
others e es fs = keep (λ x. same_pair e x && not (among fs x)) es

unfoldable pub sole : List Edge → List Edge → ℕ
sole [] ys = 0
sole (x ∷ []) [] = 0
sole (x ∷ []) (y ∷ []) = y.weight
sole (x ∷ []) (y ∷ z ∷ ys) = 0
sole (x ∷ z ∷ xs) ys = 0

-- "triples in both old and new table count as neither; where a pair has just one other old and one other new triple they are a retune"
unfoldable pub counterpart : List Edge → List Edge → Edge → ℕ
counterpart es fs e = cond (among fs e) e.weight (sole (others e es fs) (others e fs es))

abbrev pub lost : Property → ℕ → ℕ → Bool
lost P w c = eqb c 0 || P.worse c w

abbrev pub removed : Property → List Edge → List Edge → Edge → Bool
removed P es fs e = lost P e.weight (counterpart es fs e)

abbrev pub added : Property → List Edge → List Edge → Edge → Bool
added P es fs e = lost P e.weight (counterpart fs es e)

-- ---- the claim

pub record Retuned (es fs : List Edge) (e f : Edge) : Type 0 where
  pub pair : same_pair e f ≡ true
  pub old : Memᴰ e es × (Memᴰ e fs → ⊥)
  pub new : Memᴰ f fs × (Memᴰ f es → ⊥)
  pub sole_old : (x : Edge) → Memᴰ x es → same_pair e x ≡ true → (Memᴰ x fs → ⊥) → x ≡ e
  pub sole_new : (y : Edge) → Memᴰ y fs → same_pair e y ≡ true → (Memᴰ y es → ⊥) → y ≡ f

abbrev pub Gone : Property → List Edge → List Edge → Edge → Type 0
Gone P es fs e = (Memᴰ e fs → ⊥) × ((f : Edge) → Retuned es fs e f → P.worse f.weight e.weight ≡ true)

abbrev pub Tells : Property → List Edge → List Edge → Type 0
Tells P es fs = ((e : Edge) → Memᴰ e es → (removed P es fs e ≡ true) ↔ Gone P es fs e)
    × ((f : Edge) → Memᴰ f fs → (added P es fs f ≡ true) ↔ Gone P fs es f)

abbrev pub NetEffect : Type 0
NetEffect = (P : Property) → Laws P → (n : ℕ) (es fs : List Edge) → rules n es ≡ accept → rules n fs ≡ accept
    → Tells P es fs × Tells P (map reverse es) (map reverse fs)

-- ---- tables without twins

-- "a pair whose figure differs counts as removed only for properties where it got worse, as added only where it got better"
abbrev pub SimplyTells : Property → List Edge → List Edge → Type 0
SimplyTells P es fs = ((e : Edge) → Memᴰ e es → removed P es fs e ≡ lost P e.weight (pair_weight fs e))
    × ((f : Edge) → Memᴰ f fs → added P es fs f ≡ lost P f.weight (pair_weight es f))

abbrev pub NetConserved : Type 0
NetConserved = (P : Property) (es fs : List Edge) → Simple es → Simple fs → SimplyTells P es fs × SimplyTells P (map reverse es) (map reverse fs)
