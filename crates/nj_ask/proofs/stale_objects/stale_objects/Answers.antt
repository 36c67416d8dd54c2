use Rattle.std.proofs.Common.{◌++◌, [], None, get_or, take, ap, sym, ◌∙◌}
use Rattle.std.specs.List.{flat_map}
use Rattle.std.proofs.lemmas.List.{flat_map_more, take_more}
use Rattle.serde_json.specs.Written.{compact_text}
use Rattle.nj_stale.specs.Numbered.{evidence_of}
use Rattle.nj_stale.specs.declared.reason.Reason.TheVariants.{UnknownInputs}
use Rattle.nj_state.specs.declared.commands.StaleEdge.{StaleEdge}
use Rattle.nj_ask.specs.Affected.{line}
use Rattle.nj_ask.specs.StaleObjects.{stale_object}
use Rattle.nj_ask.proofs.stale_objects.stale_objects.Goals as goal

pub edges-preserved : goal.edges-preserved
edges-preserved c = λ facts s judged of.
    let known = evidence_of c.args.graph.now facts c.args.build.now.times.items c.args.log.now.lines in
    let written = λ (item : StaleEdge). line (compact_text (stale_object known s item)) in
    let stale = c.args.stale.now in
    let i = c.edges.item-index in
    let none : StaleEdge = record { edge = record { 0 = 0 }; reason = UnknownInputs; newest = None } in
    c.in_ok-push_object.ensures facts s judged of
    ∙ ap (λ t. t ++ written (get_or stale i none)) (c.edges.invariant facts s judged of)
    ∙ flat_map_more written [] (take i stale) (get_or stale i none)
    ∙ ap (flat_map written) (sym (take_more stale i none c.edges-test.true))
