use Rattle.std.proofs.Common.{◌<◌, length, arith, rules}
use Rattle.nj_deps.proofs.WordLemmas.{after-word}
use Rattle.nj_deps.proofs.log_table.split_dependencies.Goals as goal

pub returns-in_err-low : goal.returns-in_err-low
returns-in_err-low c =
    let one = after-word c.args.content.now c.in_ok-output.output c.in_ok-output.rest.now
    c.in_ok-output.ensures.1 in
    let two : length c.in_ok-output.rest.now < 4 = c.in_err-low.ensures in
    let short : length c.args.content.now < 12 = omega arith in
    search rules

pub returns-in_err-high : goal.returns-in_err-high
returns-in_err-high c =
    let one = after-word c.args.content.now c.in_ok-output.output c.in_ok-output.rest.now
    c.in_ok-output.ensures.1 in
    let two = after-word c.in_ok-output.rest.now c.in_ok-low.low c.in_ok-low.rest.now c.in_ok-low.ensures.1 in
    let three : length c.in_ok-low.rest.now < 4 = c.in_err-high.ensures in
    let short : length c.args.content.now < 12 = omega arith in
    search rules
