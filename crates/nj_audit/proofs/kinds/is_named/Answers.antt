use Rattle.std.proofs.Common.{ap, bytes_eq, rules, tests, ◌∙◌}
use Rattle.std.proofs.lemmas.Iterator.{YieldsList-from_slice}
use Rattle.std.proofs.lemmas.Iterator.Search.{any_from_yields_List}
use Rattle.nj_graph.specs.Edges.{is_among}
use Rattle.nj_audit.specs.Kinds.{texts}
use Rattle.nj_audit.proofs.KindLemmas.{any-mapped}
use Rattle.nj_audit.proofs.kinds.is_named.Goals as goal

pub returns : goal.returns
returns c =
    let name = c.name-name.result.now in
    any_from_yields_List (λ word. bytes_eq name word.now) _ _ _ c.any.ensures.ran
    (YieldsList-from_slice c.args.words.now cc) (λ x b q k. search (rules, tests))
    ∙ any-mapped (λ word. word.now) (bytes_eq name) c.args.words.now
    ∙ ap (is_among (texts c.args.words.now)) c.name-name.ensures
