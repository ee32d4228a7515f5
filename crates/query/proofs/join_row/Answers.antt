-- `query::join_row` meets its contract: each arm is the property of its number. Assumes nothing.
use Rattle.property.specs.Property.{property}
use Rattle.property.proofs.Instances.{property_rest}
use Rattle.query.proofs.join_row.Goals as goal

pub returns-in-1 : goal.returns-in-1
returns-in-1 c =
    rw c.in-1.is c.join_row_of.ensures

pub returns-in-2 : goal.returns-in-2
returns-in-2 c =
    rw c.in-2.is c.join_row_of-in-2.ensures

pub returns-in-3 : goal.returns-in-3
returns-in-3 c =
    rw c.in-3.is c.join_row_of-in-3.ensures

pub returns-in-4 : goal.returns-in-4
returns-in-4 c =
    rw c.in-4.is c.join_row_of-in-4.ensures

pub returns-in_default : goal.returns-in_default
unfolding property
returns-in_default c =
    rw (property_rest _ c.in_default.in_default-own.rest) c.join_row_of-in_default.ensures
