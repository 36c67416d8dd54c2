use Rattle.std.proofs.Common.{bytes_eq, string_bytes, rules, tests, ◌∙◌}
use Rattle.std.proofs.lemmas.Iterator.{YieldsList-from_slice}
use Rattle.std.proofs.lemmas.Iterator.Search.{any_from_yields_List}
use Rattle.nj_ask.proofs.FlagLemmas.{any-map}
use Rattle.nj_ask.proofs.listing.is_named.Goals as goal

pub returns : goal.returns
returns c =
    let name = c.args.name.now in
    any_from_yields_List (λ word. bytes_eq name (string_bytes word)) _ _ _ c.any.ensures.ran
    (YieldsList-from_slice c.args.words.now cc) (λ x b q k. search (rules, tests))
    ∙ any-map (bytes_eq name) string_bytes c.args.words.now
