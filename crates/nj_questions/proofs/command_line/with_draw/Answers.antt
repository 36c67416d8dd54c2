use Rattle.nj_questions.proofs.command_line.with_draw.Goals as goal

pub returns : goal.returns
returns c = c.with_subcommand.ensures
