use Rattle.std.proofs.Common.{◌≡◌, ◌∙◌, ap, ap₂, refl, List, take}
use Rattle.std.proofs.lemmas.Result.{IfOk-weaker}
use Rattle.std.specs.Prelude.{fold}
use Rattle.clap.specs.Words.{Rule, with_rule}
use Rattle.nj_args.specs.CommandLine.{command, nothing_yet, arguments}
use Rattle.nj_args.proofs.command.command.Goals as goal

-- without the last option
abbrev options : List Rule
options = take 14 arguments

in_turn : fold with_rule nothing_yet arguments ≡ command
unfolding command
in_turn = refl

pub returns : goal.returns
returns c =
    let given = c.in_ok-with_options.ensures ∙ ap (λ app. fold with_rule app options) c.nothing_yet.ensures in
    IfOk-weaker c.arg.result _ _ (λ made added. added.shape c.all_words.ensures.local
    ∙ ap₂ with_rule given c.all_words.ensures.rule ∙ in_turn) c.arg.ensures
