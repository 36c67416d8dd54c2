use Rattle.std.proofs.Common.{◌≡◌, List, ℕ, ◌∙◌, map, string_bytes}
use Rattle.std.proofs.lemmas.Result.{IfOk-weaker, IfErr-weaker}
use Rattle.nj_args.specs.Inside.Held.{given_request, rows_in}
use Rattle.nj_args.specs.Requests.{request_in}
use Rattle.nj_args.proofs.Given.{given, unparsed, same_fault}
use Rattle.nj_args.proofs.run_request.given_request.Goals as goal

pub returns-in-Err-clause-err : goal.returns-in-Err-clause-err
returns-in-Err-clause-err c = unparsed (map string_bytes c.args.words.now) c.in-Err.fault c.in-Err.ensures.err

pub returns-in-Ok : goal.returns-in-Ok
returns-in-Ok c =
    let words : List (List ℕ) = map string_bytes c.args.words.now in
    let same : given_request words ≡ request_in (rows_in c.in-Ok.matches) =
    given words (rows_in c.in-Ok.matches) c.in-Ok.ensures.ok c.in-Ok.ensures.rows in
    record {
      ok = IfOk-weaker c.request_in.result _ _ (λ request meant. same ∙ meant) c.request_in.ensures.ok;
      err = IfErr-weaker c.request_in.result _ _ (λ fault meant. same_fault _ _ fault same meant)
          c.request_in.ensures.err;
    }
