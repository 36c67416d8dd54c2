use Rattle.std.proofs.Common.{map}
use Rattle.nj_questions.specs.Questions.{keys_model}
use Rattle.nj_ask.proofs.KeysLemmas.{all-give, targets-give}
use Rattle.nj_ask.proofs.keys.answer_keys.Goals as goal

pub returns-then-options : goal.returns-then-options
returns-then-options c entries graph =
    all-give c.args.known.now entries (keys_model c.args.options.now)
    (map (λ content. content.items) c.args.contents.now) c.args.asked.now.mark c.if-options.true
    c.answer_all_keys.result (c.answer_all_keys.ensures entries graph)

pub returns-else-options : goal.returns-else-options
returns-else-options c entries graph =
    targets-give c.args.known.now entries (keys_model c.args.options.now)
    (map (λ content. content.items) c.args.contents.now) c.args.asked.now.mark c.if-options.false
    c.answer_target_keys.result (c.answer_target_keys.ensures entries graph)
