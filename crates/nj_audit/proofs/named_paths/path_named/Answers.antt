use Rattle.std.proofs.Common.{Some, sym, ap, ◌∙◌}
use Rattle.nj_audit.proofs.PathLemmas.{clean-named}
use Rattle.nj_audit.proofs.named_paths.path_named.Goals as goal

pub returns-then-is_clean : goal.returns-then-is_clean
returns-then-is_clean c =
    ap Some c.without_folder.ensures
    ∙ sym (clean-named c.args.folder.now c.args.name.now (c.is_clean.ensures.0 c.if-is_clean.true))
