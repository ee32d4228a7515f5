-- The starred lines of document 01, computed. Assumes nothing.
use Rattle.property.proofs.Basics.{refl}
use Rattle.worked.specs.Starred.{Starred}
use Rattle.worked.proofs.Calls.{calls}

pub starred_found : Starred
unfolding calls
starred_found = refl
