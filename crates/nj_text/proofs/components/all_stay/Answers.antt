use Rattle.std.proofs.Common.{sym, ◌∙◌}
use Rattle.std.specs.List.{slice_split}
use Rattle.nj_text.specs.Paths.{is_slash}
use Rattle.nj_text.proofs.CleanStrings.{stay-names}
use Rattle.nj_text.proofs.components.all_stay.Goals as goal

pub returns-then-are_names : goal.returns-then-are_names
returns-then-are_names c =
    c.if-are_names.true ∙ sym (stay-names c.args.named (slice_split is_slash c.args.text.now)
    c.if-are_names.ensures)
