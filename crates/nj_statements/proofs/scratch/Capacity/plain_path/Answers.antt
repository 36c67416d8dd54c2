use Rattle.std.proofs.Common.{rules}
use Rattle.nj_statements.specs.Joining.{no_values}
use Rattle.nj_statements.proofs.scratch.Capacity.plain_path.Goals as goal

pub returns-in-Some : goal.returns-in-Some
returns-in-Some c = record {
  path = c.in-Some.ensures.path no_values;
  meant =
      c.in-Some.ensures.meant no_values;
  empty = search rules;
}
