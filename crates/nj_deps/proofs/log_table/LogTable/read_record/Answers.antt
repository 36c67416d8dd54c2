use Rattle.std.proofs.Common.{subst}
use Rattle.nj_deps.specs.Inside.RecordsRead.{AddsAs}
use Rattle.nj_deps.proofs.TableLemmas.{takes, takes-none}
use Rattle.nj_deps.proofs.log_table.LogTable.read_record.Goals as goal

pub returns-then-counts : goal.returns-then-counts
returns-then-counts c =
    let split = c.in-Some.split in
    takes c.args.bytes.now split.0 split.1.now split.2.now c.args.self.now c.read_content.new.self
    c.in-Some.ensures.1
    (subst (AddsAs split.0 split.1.now c.args.self.now c.read_content.new.self) c.if-counts.true
    c.in_ok-counts.ensures)

pub returns-else-counts : goal.returns-else-counts
returns-else-counts c =
    let split = c.in-Some.split in
    takes-none c.args.bytes.now split.0 split.1.now split.2.now c.args.self.now c.read_content.new.self
    c.in-Some.ensures.0 c.in-Some.ensures.1
    (subst (AddsAs split.0 split.1.now c.args.self.now c.read_content.new.self) c.if-counts.false
    c.in_ok-counts.ensures)
