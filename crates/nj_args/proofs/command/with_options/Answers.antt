use Rattle.std.proofs.Common.{◌≡◌, ◌<◌, ◌+◌, ◌∙◌, ◌∷◌, [], ℕ, List, ap, get_or, length, map, sym, take}
use Rattle.std.specs.Prelude.{fold}
use Rattle.std.proofs.lemmas.List.{map-append, take_all, take_more}
use Rattle.std.proofs.lemmas.List.Sums.{fold-append}
use Rattle.clap.specs.Words.{App, Rule, app_of, with_rule}
use Rattle.nj_args.specs.Inside.Held.{option_at}
use Rattle.nj_args.proofs.command.with_options.Goals as goal

-- one more option
added : {X : Type 0} (rule : X → Rule) (start app next : App) (options : List X) (i : ℕ) (d : X)
    → i < length options
    → app ≡ fold with_rule start (map rule (take i options))
    → next ≡ with_rule app (rule (get_or options i d))
    → next ≡ fold with_rule start (map rule (take (i + 1) options))
added rule start app next options i d below is then =
    let x = get_or options i d in
    then ∙ ap (λ a. with_rule a (rule x)) is
    ∙ sym (fold-append with_rule start (map rule (take i options)) (rule x ∷ []))
    ∙ ap (fold with_rule start) (sym (map-append rule (take i options) (x ∷ [])))
    ∙ ap (λ os. fold with_rule start (map rule os)) (sym (take_more options i d below))

pub options-preserved : goal.options-preserved
options-preserved c =
    added option_at (app_of c.args.command) (app_of c.options.made) _ c.args.options.now
    c.options.option-index _ c.options-test.true c.options.invariant
    (c.in_ok-made.ensures.shape c.option_in.ensures.local
    ∙ ap (with_rule (app_of c.options.made)) c.option_in.ensures.rule)

pub returns : goal.returns
returns c =
    c.options.invariant
    ∙ ap (λ os. fold with_rule (app_of c.args.command) (map option_at os))
    (take_all c.options.option-index c.args.options.now c.options-test.false)
