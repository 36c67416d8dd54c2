use Rattle.std.proofs.Common.{Some}
use Rattle.std.proofs.lemmas.Bool.{eq-eqb, eqb-true}
use Rattle.std.proofs.lemmas.Slice.Eq.{strip_prefix_is}
use Rattle.nj_deps.specs.Logs.{first_line}
use Rattle.nj_deps.proofs.WordLemmas.{opening_read}
use Rattle.nj_deps.proofs.records.split_opening.Goals as goal

pub returns-in-Some : goal.returns-in-Some
returns-in-Some c =
    opening_read c.args.bytes.now c.in-Some.rest.now c.split_number.result
    (strip_prefix_is (λ a b. (eqb-true a b, eq-eqb a b)) c.args.bytes.now first_line (Some c.in-Some.rest)
    c.in-Some.ensures.cases)
    c.split_number.ensures
