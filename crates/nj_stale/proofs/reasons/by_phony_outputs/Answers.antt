use Rattle.std.proofs.Common.{[], None, sym, ap, ◌∙◌}
use Rattle.std.specs.Prelude.{if◌then◌else◌}
use Rattle.nj_edges.specs.Edges.{edge_at, outputs_of}
use Rattle.nj_stale.specs.Numbered.{evidence_of}
use Rattle.nj_stale.specs.States.{by_missing, first_reason}
use Rattle.nj_stale.proofs.FoundLemmas.{missing_by_path}
use Rattle.nj_stale.proofs.reasons.by_phony_outputs.Goals as goal

pub returns-then-has_no_input : goal.returns-then-has_no_input
returns-then-has_no_input c =
    let graph = c.args.graph.now in
    let outputs = outputs_of (edge_at graph.edges c.args.edge.0) in
    let known = evidence_of graph [] c.args.times.now [] in
    c.first_missing.ensures
    ∙ missing_by_path graph c.args.times.now c.requires.distinct c.requires.times [] c.outputs.result.now
    outputs
    c.outputs.ensures.files
    ∙ sym (ap (λ b. if b then first_reason (by_missing known) 0 outputs else None)
    (sym c.has_no_input.ensures ∙ c.if-has_no_input.true))
