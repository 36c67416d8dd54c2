use Rattle.std.proofs.Common.{◌≡◌, ◌++◌, codes, ap, ◌∙◌}
use Rattle.nj_ask.specs.declared.status.Status.TheVariants.{Fault}
use Rattle.nj_ask.specs.Endings.{program_line}
use Rattle.nj_ask.proofs.FailureLemmas.{fails-as}
use Rattle.nj_ask.proofs.StatedLemmas.{words-are}
use Rattle.nj_ask.proofs.missing.of_paths.Goals as goal

pub returns-in-Ok : goal.returns-in-Ok
returns-in-Ok c =
    let words = c.deref.result.now in
    let path = c.args.path.now in
    fails-as Fault (λ line. line ≡ program_line (codes "'" ++ path ++ words))
    (λ line. line ≡ program_line (codes "'" ++ path ++ codes "', needed by '" ++ c.args.output.now
    ++ codes "', missing and no known rule to make it"))
    c.in_words.result
    (λ line said. said ∙ ap (λ w. program_line (codes "'" ++ path ++ w))
    (c.deref.ensures.value ∙ c.in-Ok.ensures)
    ∙ ap program_line (words-are (codes "'") path (codes "', needed by '") c.args.output.now
    (codes "', missing and no known rule to make it")))
    c.in_words.ensures
