use Rattle.std.proofs.Common.{◌≡◌, false, bytes_eq, sym}
use Rattle.std.specs.List.{list_any}
use Rattle.nj_scope.specs.Sources.{outcome_bytes}
use Rattle.nj_c.proofs.SuppliedLemmas.{if-ok, sets-known, sets-new}
use Rattle.nj_c.proofs.supplied_files.SuppliedFiles.set.Goals as goal

pub returns-in-Some-clause-set : goal.returns-in-Some-clause-set
returns-in-Some-clause-set c =
    sets-known _ _ c.args.path.now c.in-Some.number (outcome_bytes c.args.file) (sym c.in-Some.ensures.index)
    c.in-Some.ensures.there c.replace.ensures

pub returns-in-None-clause-set : goal.returns-in-None-clause-set
returns-in-None-clause-set c =
    let path = c.args.path.now in
    let none : list_any (bytes_eq path) c.args.self.now.paths ≡ false = sym c.in-None.ensures.known in
    if-ok c.add.result (sets-new _ _ path (outcome_bytes c.args.file) none c.add.ensures.aligned)
    c.add.ensures.added
