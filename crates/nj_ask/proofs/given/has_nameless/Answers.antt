use Rattle.std.proofs.Common.{string_bytes, rules, tests, ◌∙◌}
use Rattle.std.proofs.lemmas.Iterator.{YieldsList-from_slice}
use Rattle.std.proofs.lemmas.Iterator.Search.{any_from_yields_List}
use Rattle.nj_text.specs.Calls.{is_empty}
use Rattle.nj_ask.proofs.FlagLemmas.{any-map}
use Rattle.nj_ask.proofs.given.has_nameless.Goals as goal

pub returns : goal.returns
returns c =
    any_from_yields_List (λ folder. is_empty (string_bytes folder)) _ _ _ c.any.ensures.ran
    (YieldsList-from_slice c.args.folders.now cc) (λ x b q k. search (rules, tests))
    ∙ any-map is_empty string_bytes c.args.folders.now
