use Rattle.std.proofs.Common.{sym, ap, ◌∙◌}
use Rattle.nj_text.specs.Paths.{is_absolute}
use Rattle.nj_chosen.proofs.FolderLemmas.{below-apart, below-rest}
use Rattle.nj_chosen.proofs.tables.is_below.Goals as goal

pub returns-in-Some : goal.returns-in-Some
returns-in-Some c =
    c.begins_with_slash.ensures ∙ ap is_absolute c.in-Some.ensures.cases.1
    ∙ sym (below-rest c.args.folder.now c.args.path.now c.in-Some.ensures.cases.0)

pub returns-in-None : goal.returns-in-None
returns-in-None c = sym (below-apart c.args.folder.now c.args.path.now c.in-None.ensures.cases)
