use Rattle.std.proofs.Common.{ap, ◌∙◌}
use Rattle.nj_names.specs.NameTables.{with_name}
use Rattle.nj_changes.proofs.NameLemmas.{same-named}
use Rattle.nj_changes.proofs.full_paths.add_all.Goals as goal

pub paths-preserved : goal.paths-preserved
paths-preserved c =
    same-named (λ path. path.items) c.args.paths.now c.paths.path-index c.path-item.result c.paths-test.true
    c.args.names.now c.paths.names c.add.new.self c.paths.invariant
    (c.in_ok-add.ensures.added
    ∙ ap (with_name c.paths.names) (c.deref.ensures.value ∙ ap (λ path. path.items) c.path-item.is))
