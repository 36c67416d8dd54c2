-- The meaning of the fields of the edges that were read.
use Rattle.nj_statements.specs.declared.building.Building.TheInside.{Inside}
use Rattle.nj_statements.specs.Answers.{BuildingModel}

abbrev pub building_of : Inside → BuildingModel
building_of b = record { table = b.edges; records = b.records; references = b.references.items }
