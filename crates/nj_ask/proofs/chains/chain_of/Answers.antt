use Rattle.std.proofs.Common.{◌≡◌, [], ◌++◌, append-nil, drop, get_or, None, Some, option_map, slice_get, sym}
use Rattle.std.proofs.Common.{ap}
use Rattle.std.proofs.Common.{subst, ◌∙◌}
use Rattle.std.proofs.lemmas.List.{drop_all}
use Rattle.nj_graph.specs.declared.Step.{Step}
use Rattle.nj_graph.specs.Chains.{PathIs}
use Rattle.nj_graph.specs.Graph.{GraphModel, files_of}
use Rattle.nj_graph.specs.Handles.{edge_of, file_in, file_of, number_of}
use Rattle.nj_ask.specs.Chains.{chain_lines}
use Rattle.nj_ask.specs.Inside.ChainTexts.{step_line}
use Rattle.nj_ask.proofs.ChainLemmas.{has-chain, step-more}
use Rattle.nj_ask.proofs.chains.chain_of.Goals as goal

-- what stands for a step past the last one
abbrev no-step : Step
no-step = record { edge = record { 0 = 0 }; index = 0; file = record { 0 = 0 }; kind = None }

pub steps-preserved : goal.steps-preserved
steps-preserved c =
    let g = c.graph-graph.result.now in
    let steps = c.deref-step-items.result.now in
    let ds = c.args.discoveries.now in
    step-more g ds steps c.steps.step-index _ c.steps.lines.items c.push_step.new.lines.items
    (chain_lines g ds (file_of c.args.from).path steps) (file_of c.steps.user).path
    (edge_of c.edge_at-edge.result)
    (file_of c.file_at-input.result) c.steps-test.true c.edge_at-edge.ensures c.file_at-input.ensures
    c.discovery_of.result c.discovery_of.ensures
    (c.in_ok-push_step.ensures ∙ ap (λ found. c.steps.lines.items
    ++ step_line (edge_of c.edge_at-edge.result) (file_of c.steps.user).path
    (file_of c.file_at-input.result).path (get_or steps c.steps.step-index no-step).kind found)
    c.is_discovered-is_discovered.ensures) c.steps.invariant

pub returns : goal.returns
returns c =
    let ds = c.args.discoveries.now in
    let from = file_of c.args.from in
    let to = file_of c.args.to in
    let g = c.graph-graph.result.now in
    let same : g ≡ from.graph = c.graph-graph.ensures in
    let steps = c.deref-step-items.result.now in
    let i = c.steps.step-index in
    let text = c.steps.lines.items in
    let none : drop i steps ≡ [] = drop_all i steps c.steps-test.false in
    let lines = sym (append-nil text)
    ∙ ap (λ left. text ++ chain_lines g ds (file_of c.steps.user).path left) (sym none) ∙ c.steps.invariant
    ∙ ap (λ (h : GraphModel). chain_lines h ds from.path steps) same
    ∙ ap (chain_lines from.graph ds from.path) c.deref-step-items.ensures.value in
    let one = c.number.result in
    let other = c.number-2.result in
    let kinds = c.args.kinds in
    let found = subst (λ h. PathIs h kinds one other (Some c.in-Some.steps.items))
    (c.deref.ensures ∙ ap (λ (h : GraphModel). h.built.graph) same)
    (subst (λ path. PathIs c.deref.result.now kinds one other (option_map (λ steps. steps.items) path))
    c.in-Some.is c.in_ok-steps.ensures.path) in
    has-chain from.graph ds kinds from.path to.path one other c.number.ensures.number
    (subst (λ (h : GraphModel). slice_get (files_of h) other.0 ≡ Some to.path) c.requires
    c.number-2.ensures.number) c.number.ensures.place
    (subst (λ (h : GraphModel). other.0 ≡ number_of (file_in h to.path)) c.requires
    c.number-2.ensures.place) c.in-Some.steps.items text found lines
