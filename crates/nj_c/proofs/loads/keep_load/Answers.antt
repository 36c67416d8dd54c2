use Rattle.std.proofs.Common.{inr, sym, ◌∙◌}
use Rattle.nj_c.proofs.LoadLemmas.{none-counted}
use Rattle.nj_c.proofs.loads.keep_load.Goals as goal

pub returns-then-is_empty : goal.returns-then-is_empty
returns-then-is_empty c =
    let empty = sym c.as_slice.ensures.value ∙ none-counted c.as_slice.result.now c.if-is_empty.ensures in
    inr (
      c.joined_graph-result.new.files,
      c.joined_graph-result.result,
      empty,
      c.joined_graph-result.ensures,
      c.keep_result.ensures,
    )
