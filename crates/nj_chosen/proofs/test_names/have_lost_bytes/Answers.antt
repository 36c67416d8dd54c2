use Rattle.std.proofs.Common.{rules, tests, ◌∙◌, string_bytes}
use Rattle.std.proofs.lemmas.Iterator.{YieldsList-from_slice}
use Rattle.std.proofs.lemmas.Iterator.Search.{any_from_yields_List}
use Rattle.nj_chosen.specs.TestPaths.{has_lost_bytes}
use Rattle.nj_chosen.proofs.NameLemmas.{any-map}
use Rattle.nj_chosen.proofs.test_names.have_lost_bytes.Goals as goal

pub returns : goal.returns
returns c =
    any_from_yields_List (λ text. has_lost_bytes (string_bytes text)) _ _ _ c.any.ensures.ran
    (YieldsList-from_slice c.args.texts.now cc) (λ x b q k. search (rules, tests))
    ∙ any-map has_lost_bytes string_bytes c.args.texts.now
