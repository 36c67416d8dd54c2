use Rattle.std.proofs.Common.{◌≡◌, map, take}
use Rattle.std.specs.Prelude.{fold}
use Rattle.clap.specs.Words.{app_of, with_rule}
use Rattle.nj_questions.specs.Inside.Held.{rule_at}
use Rattle.nj_questions.proofs.command_line.with_options.Given as goal

abbrev pub invariant-options : goal.invariant-options
invariant-options l = app_of l.made ≡ fold with_rule (app_of l.fn.command)
    (map rule_at (take l.option-index l.options))
