use Rattle.nj_agreement.proofs.NeedsAnswers.{resumes-agree}
use Rattle.nj_one_answer.proofs.needs.needs_resume.Goals as goal

pub returns : goal.returns
returns c = resumes-agree c.args.graph.now c.args.targets.now c.args.mark.now c.resume.result
    c.resume-2.result c.resume.ensures c.resume-2.ensures
