use Rattle.std.proofs.Common.{◌≡◌, ◌∙◌, ap, map}
use Rattle.std.specs.Prelude.{fold}
use Rattle.std.proofs.lemmas.Result.{IfOk-weaker}
use Rattle.clap.specs.Words.{App, app_of, new_app, with_rule, with_subcommand}
use Rattle.clap.proofs.SimpleLemmas.{plain_fields}
use Rattle.nj_questions.specs.CommandLine.{graph_options}
use Rattle.nj_questions.specs.Inside.Held.{rule_at}
use Rattle.nj_questions.proofs.Commands.{plain_subcommand}
use Rattle.nj_questions.proofs.command_line.with_subcommand.Goals as goal

pub returns : goal.returns
returns c =
    let options = map rule_at c.args.options.now in
    let name = c.args.topic.name.now in
    let own : app_of c.in_ok-subcommand.subcommand ≡ fold with_rule (new_app name) options =
    c.in_ok-subcommand.ensures ∙ ap (λ app. fold with_rule app options) c.about.ensures in
    let whole : app_of c.in_ok-subcommand-2.subcommand
    ≡ fold with_rule (fold with_rule (new_app name) options) graph_options =
    c.in_ok-subcommand-2.ensures ∙ ap (λ app. fold with_rule app graph_options) own in
    let local = (plain_fields c.in_ok-subcommand-2.subcommand
    (ap (λ (app : App). app.top.is_plain) whole ∙ plain_subcommand name options)).globals in
    IfOk-weaker c.subcommand.result _ _ (λ made added. added.shape local
    ∙ ap (λ (app : App). with_subcommand (app_of c.args.command) app.top) whole) c.subcommand.ensures
