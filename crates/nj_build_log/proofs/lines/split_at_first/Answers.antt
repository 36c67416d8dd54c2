use Rattle.std.proofs.Common.{ap, ◌∙◌, ◌-◌, ◌+◌, ◌==◌, Some, take, drop, length, length-drop, arith}
use Rattle.std.proofs.lemmas.List.{take_all}
use Rattle.nj_build_log.proofs.LineLemmas.{split_none, split_some}
use Rattle.nj_build_log.proofs.lines.split_at_first.Goals as goal

pub returns-in-Some : goal.returns-in-Some
returns-in-Some c =
    let text = c.args.text.now in
    let rest = drop (c.in-Some.end + 1) text in
    ap (λ r. Some (take c.in-Some.end text, r))
    (take_all (length text - (c.in-Some.end + 1)) rest (omega (arith, length-drop (c.in-Some.end + 1) text)))
    ∙ split_some (λ byte. byte == c.args.value) text c.in-Some.end c.in-Some.ensures

pub returns-in-None : goal.returns-in-None
returns-in-None c = split_none (λ byte. byte == c.args.value) c.args.text.now c.in-None.ensures
