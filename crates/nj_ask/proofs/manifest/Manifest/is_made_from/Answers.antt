use Rattle.std.proofs.Common.{false, map, slice_index_or, sym, ap, ◌∙◌}
use Rattle.std.specs.List.{list_any}
use Rattle.nj_graph.specs.declared.EdgeNo.{EdgeNo}
use Rattle.nj_ask.proofs.ManifestLemmas.{tells-opened, tells-unopened}
use Rattle.nj_ask.proofs.manifest.Manifest.is_made_from.Goals as goal

pub returns-then-is_set : goal.returns-then-is_set
returns-then-is_set c opened entries graph tells =
    tells-opened c.args.graph.now opened entries c.args.self.now c.args.file.0 tells c.is_set.result
    (c.is_set.ensures ∙ ap (λ flags. slice_index_or flags c.args.file.0 false) c.deref.ensures.value)
    c.if-is_set.true

pub returns-else-is_set : goal.returns-else-is_set
returns-else-is_set c opened entries graph tells =
    tells-unopened c.args.graph.now opened entries c.args.self.now c.args.file.0 tells
    (ap (λ flags. slice_index_or flags c.args.file.0 false) (sym c.deref.ensures.value) ∙ sym c.is_set.ensures
    ∙ c.if-is_set.false)
    c.has_flag.result
    (c.has_flag.ensures
    ∙ ap (λ flags. list_any (λ edge. slice_index_or flags edge false)
    (map (λ (e : EdgeNo). e.0) c.users.result.now)) c.deref-else-is_set.ensures.value
    ∙ ap (list_any (λ edge. slice_index_or c.args.self.now.feeds.items edge false))
    (rw c.deref-else-is_set-2.ensures at c.users.ensures.users))
