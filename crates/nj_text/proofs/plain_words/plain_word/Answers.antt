use Rattle.std.proofs.Common.{sym, ◌∙◌}
use Rattle.nj_text.proofs.PlainWords.{none_seen, run_seen}
use Rattle.nj_text.proofs.plain_words.plain_word.Goals as goal

pub returns-then-no_word_begins : goal.returns-then-no_word_begins
returns-then-no_word_begins c =
    let start = c.args.start in
    let here = c.past_space-cursor.result in
    none_seen start.spot here.spot start.rest.now here.rest.now c.past_space-cursor.ensures
    (sym c.no_word_begins.ensures ∙ c.if-no_word_begins.true)

pub returns : goal.returns
returns c =
    let start = c.args.start in
    let here = c.past_space-cursor.result in
    let run = c.run in
    run_seen start.spot here.spot run.result.1.spot start.rest.now here.rest.now run.result.0.now
    run.result.1.rest.now c.past_space-cursor.ensures run.ensures.run run.ensures.after run.ensures.whole
    run.ensures.spot
    (sym c.is_empty.ensures ∙ c.if-is_empty.false) (sym c.word_ends.ensures ∙ c.if-not-word_ends.false)
