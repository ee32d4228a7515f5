-- The program's reply to a settled check, as document 01's. Assumes nothing.
--
--   spotted s  == the spot that the program found, or none, as document 01's answer
--   checking r == the program's reply to a settled check as document 01's
use Rattle.std.specs.Prelude.{Option, None, Some, Result}
use Rattle.graph.specs.declared.refusal.Refusal.{Refusal}
use Rattle.graph.specs.Refusal.{Reply}
use Rattle.graph.specs.Code.{reply_of}
use Rattle.settled_check.specs.declared.Spot.{Spot}
use Rattle.network.specs.Settled.{Check, settled, found}

unfoldable pub spotted : Option Spot → Check
spotted None = settled
spotted (Some s) = found s.side s.row s.record

abbrev pub checking : Result (Option Spot) Refusal → Reply Check
checking r = reply_of spotted r
