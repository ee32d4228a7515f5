-- `search::search_by` meets its contract: each arm is the search of its number. Assumes nothing.
use Rattle.property.proofs.Basics.{length}
use Rattle.search.proofs.Steps.{search_rest, told_of}
use Rattle.search.proofs.search_by.Goals as goal

pub returns-in-1 : goal.returns-in-1
returns-in-1 c =
    rw c.in-1.is c.search.ensures

pub returns-in-3 : goal.returns-in-3
returns-in-3 c =
    rw c.in-3.is c.search-in-3.ensures

pub returns-in-4 : goal.returns-in-4
returns-in-4 c =
    rw c.in-4.is c.search-in-4.ensures

pub returns-in_default : goal.returns-in_default
returns-in_default c =
    let g = c.args in
    λ es o. told_of g.t _ _ _ _ (search_rest (length g.via.now) g.s g.t es g.row.now g.p g.v c.requires.0 c.requires.1 c.in_default.in_default-own.rest) (c.search-in_default.ensures es o)
