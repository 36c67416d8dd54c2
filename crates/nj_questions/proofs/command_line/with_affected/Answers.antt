use Rattle.nj_questions.proofs.command_line.with_affected.Goals as goal

pub returns : goal.returns
returns c = c.with_subcommand.ensures
