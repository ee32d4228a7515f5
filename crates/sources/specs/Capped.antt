-- Items of a source file as the program knows them: each number itself up to 65,535, and greater beyond. All limits lie below. Assumes nothing.
--
--   cap_source x  == the item with its numbers capped
--   cap_sources o == what a line says, with its numbers capped
use Rattle.std.proofs.Math.Option.{Option, none, some}
use Rattle.dimacs.specs.Sources.{Item, header, source}
use Rattle.scanner.specs.Capped.{cap, cap_vertex}

unfoldable pub cap_source : Item → Item
cap_source (header k) = header (cap k)
cap_source (source v) = source (cap_vertex v)

unfoldable pub cap_sources : Option Item → Option Item
cap_sources none = none
cap_sources (some x) = some (cap_source x)
