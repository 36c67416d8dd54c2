use Rattle.std.proofs.Common.{ap, sym, ◌∙◌, Ok}
use Rattle.std.proofs.lemmas.Result.{IfOk-weaker, IfErr-weaker}
use Rattle.nj_args.proofs.Given.{of_none, of_some, same_fault}
use Rattle.nj_args.proofs.run_request.read_words.Goals as goal

pub returns-in-empty-clause-ok : goal.returns-in-empty-clause-ok
returns-in-empty-clause-ok c = IfOk-weaker c.wordless.result _ _
    (λ request h. of_none c.args.words.now c.in-empty.len_below ∙ ap Ok (sym h)) c.wordless.ensures.ok

pub returns-in-len1-up : goal.returns-in-len1-up
returns-in-len1-up c =
    let same = of_some c.args.words.now c.in-len1-up.len_at_least in
    record {
      ok = IfOk-weaker c.given_request.result _ _ (λ request meant. same ∙ meant) c.given_request.ensures.ok;
      err = IfErr-weaker c.given_request.result _ _ (λ fault meant. same_fault _ _ fault same meant)
          c.given_request.ensures.err;
    }
