use Rattle.std.proofs.Common.{◌≡◌, take}
use Rattle.std.specs.List.{flat_map}
use Rattle.nj_ask.specs.Inside.Lent.{change_model, texts}
use Rattle.nj_ask.specs.Inside.Reached.{warning_by}
use Rattle.nj_ask.proofs.report.warnings_about.Given as goal

abbrev pub invariant-paths : goal.invariant-paths
invariant-paths l =
    l.warnings.items
    ≡ flat_map (warning_by l.opened l.tables (change_model l.change))
    (texts (take l.path-index l.change.paths.now))
