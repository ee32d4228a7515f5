-- What a line of a source file says, from its number and its mark. Assumes nothing.
use Rattle.property.proofs.Basics.{◌≡◌, refl, sym, List, [], ◌∷◌, map, Option, none, some, bind, ℕ, zero, suc, arith, length, get_or}
use Rattle.dimacs.specs.Read.{after}
use Rattle.dimacs.specs.Network.{or_else}
use Rattle.dimacs.specs.Sources.{source, header_from, source_from, item_in}
use Rattle.scanner.specs.Capped.{cap, cap_vertex, cap_fields}
use Rattle.scanner.proofs.Marks.{said_fields, one_value}
use Rattle.sources.specs.Capped.{cap_source, cap_sources}

-- ---- p lines

pub header_read : (o : Option (List ℕ)) → bind (cap_fields o) header_from ≡ cap_sources (bind o header_from)
unfolding bind cap_fields header_from cap_sources cap_source
header_read none = refl
header_read (some []) = refl
header_read (some (x ∷ [])) = refl
header_read (some (x ∷ y ∷ ys)) = refl

-- ---- s lines

pub source_zero : (v : ℕ) → v ≡ 0 → none ≡ source_from (v ∷ [])
unfolding source_from
source_zero v e = rw e

pub source_vertex : (v a : ℕ) → v ≡ suc a → some (source a) ≡ source_from (v ∷ [])
unfolding source_from
source_vertex v a e = rw e

source_many : (v y : ℕ) (ys : List ℕ) → source_from (v ∷ y ∷ ys) ≡ none
unfolding source_from
source_many zero y ys = refl
source_many (suc v) y ys = refl

-- the vertex of a capped number is the capped vertex
pub source_read : (o : Option (List ℕ)) → bind (cap_fields o) source_from ≡ cap_sources (bind o source_from)
unfolding bind cap_fields source_from cap_sources cap_source
source_read none = refl
source_read (some []) = refl
source_read (some (zero ∷ [])) = refl
source_read (some (suc x ∷ [])) = sym (source_vertex (cap (suc x)) (cap_vertex x) (omega arith))
source_read (some (zero ∷ y ∷ ys)) = refl
source_read (some (suc x ∷ y ∷ ys)) = source_many (cap (suc x)) (cap y) (map cap ys)

-- what one number says
pub source_said : (vs : List ℕ) (o : Option (List ℕ)) → length vs ≡ 1 → some vs ≡ cap_fields o → source_from (get_or vs 0 0 ∷ []) ≡ cap_sources (bind o source_from)
unfolding bind
source_said vs o l e = rw (one_value vs l) at (said_fields source_from cap_sources source_read o e)

pub item_empty : item_in [] ≡ none
unfolding item_in after bind or_else
item_empty = refl
