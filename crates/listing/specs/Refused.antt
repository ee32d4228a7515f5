-- What holds of the output where a file is refused: document 01, "Text" ("the values program"). With `PrintedBest` every pair of files is
-- spoken of: a file is too long, or good, or has exactly one place (`NetworkCover`, `SourcesCover`). Assumes nothing.
--
--   RefusedSources n gr ss == deck.gr is good, of n vertices: what is printed where deck.ss is refused
--
-- and the claim, with its theorem in proofs/Refused.antt:
--
--   PrintedRefused         == a file of more than 65,536 bytes prints `refused 2 0`, and one that is not good `refused 14` and the place;
--                             deck.gr first, whatever deck.ss holds                                              printed_refused
use Rattle.std.specs.Prelude.{◌≡◌, List, ℕ, ◌≤◌, ◌<◌, length}
use Rattle.graph.specs.Edge.{Edge}
use Rattle.dimacs.specs.Lines.{Place}
use Rattle.dimacs.specs.Network as net
use Rattle.dimacs.specs.Sources as src
use Rattle.listing.specs.Listing.{max_file, refused_line, printed}

pub record RefusedSources (n : ℕ) (gr ss : List ℕ) : Type 0 where
  pub long : max_file < length ss → printed gr ss ≡ refused_line 2 0
  pub bad : (k : ℕ) → length ss ≤ max_file → Place (src.IsGood n) ss k → printed gr ss ≡ refused_line 14 k

abbrev pub PrintedRefused : Type 0
PrintedRefused = (gr ss : List ℕ)
    → (max_file < length gr → printed gr ss ≡ refused_line 2 0)
    × ((k : ℕ) → length gr ≤ max_file → Place net.IsGood gr k → printed gr ss ≡ refused_line 14 k)
    × ((n : ℕ) (es : List Edge) → length gr ≤ max_file → net.Good gr n es → RefusedSources n gr ss)
