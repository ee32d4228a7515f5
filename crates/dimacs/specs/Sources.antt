-- Source files: document 01, "Text". Assumes nothing.
--
--   Item                           == a line that is no comment: `p aux sp ss COUNT` or `s STATION`; vertices count from 0
--   item_of x                      == its bytes; in the text vertices count from 1
--   max_sources                    == COUNT is at most 256
--   Good n text ss                 == text is a good source file of a network with n vertices, and its sources are ss, in file order
--   IsGood n text                  == text is a good source file of a network with n vertices
--   item_in l                      == the item that a line says
--   State                          == where the reader stands: before the p line, or after it with COUNT and the sources so far
--   read_sources n text            == the state at the end, or the line of the refusal
--   header_mark, source_mark       == the bytes `p aux sp ss` and `s`
--   Vertices n vs                  == each of vs is a vertex below n
--   header_from vs, source_from vs == the item of a line with these numbers; none where there is none
--   act n st x                     == the state after an item; none where no good text can go on with it
--   complete st                    == the state may be the last
use Rattle.std.specs.Prelude.{Bool, false, ◌&&◌, cond, List, [], ◌∷◌, ◌++◌, map, ℕ, zero, suc, ◌≤◌, ◌<◌, ltb, leb, eqb, length}
use Rattle.std.proofs.Math.Option.{Option, none, some, bind}
use Rattle.dimacs.specs.Lines.{Spelled, fields_of}
use Rattle.dimacs.specs.Read.{after, fields, Read, read}
use Rattle.dimacs.specs.Network.{or_else}

abbrev pub max_sources : ℕ
max_sources = 256

-- ---- what a good source file is

pub data Item : Type 0 where
  header : ℕ → Item
  source : ℕ → Item

-- 112 32 97 117 120 32 115 112 32 115 115 is `p aux sp ss`, 115 is `s`
abbrev pub header_mark : List ℕ
header_mark = 112 ∷ 32 ∷ 97 ∷ 117 ∷ 120 ∷ 32 ∷ 115 ∷ 112 ∷ 32 ∷ 115 ∷ 115 ∷ []

abbrev pub source_mark : List ℕ
source_mark = 115 ∷ []

unfoldable pub item_of : Item → List ℕ
item_of (header k) = header_mark ++ fields_of (k ∷ [])
item_of (source v) = source_mark ++ fields_of (suc v ∷ [])

abbrev pub Vertices : ℕ → List ℕ → Type 0
Vertices n [] = Unit {0}
Vertices n (v ∷ vs) = (v < n) × Vertices n vs

pub record Good (n : ℕ) (text : List ℕ) (ss : List ℕ) : Type 0 where
  pub spelled : Spelled item_of text (header (length ss) ∷ map source ss)
  pub few : length ss ≤ max_sources
  pub vertices : Vertices n ss

abbrev pub IsGood : ℕ → List ℕ → Type 0
IsGood n text = (ss : List ℕ) × Good n text ss

-- ---- the reader

unfoldable pub header_from : List ℕ → Option Item
header_from [] = none
header_from (k ∷ []) = some (header k)
header_from (k ∷ x ∷ xs) = none

-- vertices count from 1 in the text
unfoldable pub source_from : List ℕ → Option Item
source_from [] = none
source_from (zero ∷ []) = none
source_from (suc v ∷ []) = some (source v)
source_from (zero ∷ x ∷ xs) = none
source_from (suc v ∷ x ∷ xs) = none

unfoldable pub item_in : List ℕ → Option Item
item_in l = or_else (bind (after header_mark l) (λ r. bind (fields 1 r) header_from)) (bind (after source_mark l) (λ r. bind (fields 1 r) source_from))

pub data State : Type 0 where
  start : State
  within : ℕ → List ℕ → State

unfoldable pub act : ℕ → State → Item → Option State
act n start (header k) = cond (leb k max_sources) (some (within k [])) none
act n start (source v) = none
act n (within k ss) (header k') = none
act n (within k ss) (source v) = cond (ltb (length ss) k && ltb v n) (some (within k (ss ++ (v ∷ [])))) none

unfoldable pub complete : State → Bool
complete start = false
complete (within k ss) = eqb (length ss) k

unfoldable pub read_sources : ℕ → List ℕ → Read State
read_sources n text = read item_in (act n) complete start text
