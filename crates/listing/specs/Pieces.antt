-- The output piece by piece, as the values program writes it: document 01, "Text" ("the values program"). Assumes nothing.
--
--   concat ps      == pieces one after the other
--
-- and the claims, each with its theorem in proofs/Pieces.antt:
--
--   PartsPrinted == the pieces, one after the other, are the whole output                                            parts_printed
--   PrintedCut   == of each file nothing past the first byte over 65,536 changes the output: the program reads no more  printed_cut
use Rattle.std.specs.Prelude.{◌≡◌, List, [], ◌∷◌, ◌++◌, ℕ, suc, take}
use Rattle.listing.specs.Listing.{max_file, printed}
use Rattle.listing.specs.Code.{parts}

unfoldable pub concat : List (List ℕ) → List ℕ
concat [] = []
concat (p ∷ ps) = p ++ concat ps

abbrev pub PartsPrinted : Type 0
PartsPrinted = (gr ss : List ℕ) → concat (parts gr ss) ≡ printed gr ss

abbrev pub PrintedCut : Type 0
PrintedCut = (gr ss : List ℕ) → printed (take (suc max_file) gr) (take (suc max_file) ss) ≡ printed gr ss
