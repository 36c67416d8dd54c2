-- How the command line is put together.
use Rattle.std.proofs.Common.{◌≡◌, ◌∙◌, ℕ, true, List, [], ◌∷◌, refl, ap}
use Rattle.std.specs.Prelude.{fold}
use Rattle.clap.specs.Words.{App, Rule, Shape, new_app, with_rule, with_subcommand}
use Rattle.nj_questions.specs.CommandLine.{command, graph_options, subcommands}
use Rattle.nj_questions.specs.Inside.Held.{subcommand_in, without_subcommands}

-- rules leave a command plain
plain_after : (rules : List Rule) (app : App) → app.top.is_plain ≡ true
    → (fold with_rule app rules).top.is_plain ≡ true
plain_after [] app plain = plain
plain_after (rule ∷ rules) app plain = plain_after rules (with_rule app rule) plain

pub plain_subcommand : (name : List ℕ) (options : List Rule) → (subcommand_in name options).is_plain ≡ true
plain_subcommand name options =
    plain_after graph_options (fold with_rule (new_app name) options)
    (plain_after options (new_app name) refl)

-- one more subcommand
pub added : (start made later : App) (shape : Shape) → made ≡ start → later ≡ with_subcommand made shape
    → later ≡ with_subcommand start shape
added start made later shape is then = then ∙ ap (λ app. with_subcommand app shape) is

pub in_turn : fold with_subcommand without_subcommands subcommands ≡ command
unfolding command
in_turn = refl
