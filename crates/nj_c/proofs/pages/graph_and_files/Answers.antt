use Rattle.std.proofs.Common.{IfErr, sym, subst, rules}
use Rattle.nj_c.specs.Pages.{AreRefused}
use Rattle.nj_c.proofs.pages.graph_and_files.Goals as goal

pub returns-in_err-files-clause-refused : goal.returns-in_err-files-clause-refused
returns-in_err-files-clause-refused c =
    subst (λ graph. IfErr c.from_residual.result (AreRefused graph c.args.numbers.now)) (sym c.in-Some.is)
    (search rules)
