-- The meaning of the fields of the records of edges.
use Rattle.nj_statements.specs.declared.records.EdgeRecords.TheInside.{Inside}
use Rattle.nj_statements.specs.Records.{RecordsModel}

abbrev pub records_of : Inside → RecordsModel
records_of r = record {
  blocks = r.blocks;
  names = r.names;
  details = r.details.items;
  defaults = r.defaults.items;
  dyndeps = r.dyndeps.items;
}
