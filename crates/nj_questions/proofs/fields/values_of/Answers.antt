use Rattle.std.proofs.Common.{◌∙◌, [], ap}
use Rattle.std.specs.Prelude.{unwrap_or}
use Rattle.clap.specs.Words.{found_of}
use Rattle.clap.proofs.WalkLemmas.{raw_values-rows}
use Rattle.nj_questions.proofs.fields.values_of.Goals as goal

pub returns : goal.returns
returns c =
    ap (λ values. unwrap_or values [])
    (c.get_strs.ensures ∙ raw_values-rows (found_of c.args.matches.now) c.args.name.now)
