use Rattle.std.proofs.Common.{ap, ◌∙◌}
use Rattle.std.proofs.lemmas.Result.{IfOk-weaker}
use Rattle.clap.specs.Simple.{app_of_fields}
use Rattle.nj_questions.proofs.command_line.without_subcommands.Goals as goal

pub returns : goal.returns
returns c =
    IfOk-weaker c.bin_name.result _ _ (λ made named. ap app_of_fields named.0 ∙ c.unnamed.ensures)
    c.bin_name.ensures
