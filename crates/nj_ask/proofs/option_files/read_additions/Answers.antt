use Rattle.std.proofs.Common.{IfErr, map, sym, subst, string_bytes}
use Rattle.nj_questions.specs.Questions.{subject_model}
use Rattle.nj_ask.specs.declared.status.Status.TheVariants.{Fault}
use Rattle.nj_ask.specs.OptionFiles.{LacksAdditions, LacksContent}
use Rattle.nj_ask.specs.Inside.Failures.{FailsBy}
use Rattle.nj_ask.proofs.option_files.read_additions.Goals as goal

pub returns-in-Keys-clause-lacks : goal.returns-in-Keys-clause-lacks
returns-in-Keys-clause-lacks g c =
    let before = g.S.FileSource.state c.args.files.now in
    let after = g.S.FileSource.state c.read_contents.new.files in
    let result = c.read_contents.result in
    subst (λ subject. IfErr result (FailsBy Fault (LacksAdditions (subject_model subject) before after)))
    (sym c.in-Keys.is)
    (subst (λ paths. IfErr result (FailsBy Fault (LacksContent (map string_bytes paths) before after)))
    c.deref.ensures.value c.read_contents.ensures.lacks)
