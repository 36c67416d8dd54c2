use Rattle.nj_text.proofs.PlainWords.{over_space}
use Rattle.nj_text.proofs.plain_words.past_space.Goals as goal

pub returns : goal.returns
returns c =
    let start = c.args.cursor in
    let space = c.in-Some-eq32-default in
    let after = c.advance in
    over_space start.spot after.result.spot space.field-0-0 start.rest.now after.result.rest.now
    space.field-0-1.now space.ensures space.field-0-0-test after.ensures.rest after.ensures.spot
