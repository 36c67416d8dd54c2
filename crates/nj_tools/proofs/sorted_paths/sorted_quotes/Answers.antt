use Rattle.std.proofs.Common.{◌++◌, map, ap, ◌∙◌}
use Rattle.nj_text.specs.Quotes.{quoted}
use Rattle.nj_tools.specs.Listings.{sorted}
use Rattle.nj_tools.proofs.QuoteLemmas.{two-parts}
use Rattle.nj_tools.proofs.sorted_paths.sorted_quotes.Goals as goal

pub returns : goal.returns
returns c =
    (λ j. (c.in_ok-sort_strings.ensures ∙ ap sorted c.in_ok-quotes.ensures.quoted) j
    ++ (c.in_ok-sort_slices.ensures ∙ ap sorted c.in_ok-quotes.ensures.plain) j)
    ∙ two-parts (map quoted (map (λ file. file.path) c.args.files))
