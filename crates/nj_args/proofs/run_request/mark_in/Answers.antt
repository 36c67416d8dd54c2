use Rattle.std.proofs.Common.{arith}
use Rattle.std.proofs.lemmas.Str.Pattern.{strip_prefix_char}
use Rattle.nj_args.proofs.RunMarks.{no_mark-without_letter}
use Rattle.nj_args.proofs.run_request.mark_in.Goals as goal

pub returns-then-validations-clause-none : goal.returns-then-validations-clause-none
returns-then-validations-clause-none c =
    no_mark-without_letter c.args.validations c.args.text.now c.strip_prefix.result c.if-validations.true
    (strip_prefix_char 118 c.args.text.now c.strip_prefix.result c.strip_prefix.ensures.cases (omega arith))
