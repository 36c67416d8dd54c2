use Rattle.std.proofs.Common.{ap, ◌∙◌}
use Rattle.nj_names.specs.NameTables.{with_name}
use Rattle.nj_changes.specs.FullPaths.{full_path}
use Rattle.nj_reached.proofs.TableLemmas.{has-named}
use Rattle.nj_reached.proofs.full_names.add_path.Goals as goal

pub returns : goal.returns
returns c =
    has-named c.args.names.now c.add.new.self (full_path c.args.folder.now c.args.path.now)
    (c.in_ok-add.ensures.added ∙ ap (with_name c.args.names.now)
    (c.deref.ensures.value ∙ c.in_ok-full.ensures))
