use Rattle.std.proofs.Common.{rules, slice_get, sym, w32, ◌∙◌, ◌≡◌}
use Rattle.nj_edges.specs.Edges.{edge_at, inputs_of, kind_at}
use Rattle.nj_graph.specs.Graph.{edges_of, files_of}
use mir.Val.{SFits}
use Rattle.nj_c.proofs.OneAnswerCalls.{input-at-number}
use Rattle.nj_c.proofs.OneAnswerGraphs.{edge_total, graph_in}
use Rattle.nj_c.proofs.OneAnswerLemmas.{passed}
use Rattle.nj_c.specs.Asking.{kind_code}
use Rattle.nj_c.specs.OneAnswer.{SameAnswer}
use Rattle.nj_c.proofs.one_answer.edges.input_twice.Goals as goal

pub returns-clause-same : goal.returns-clause-same
returns-clause-same c =
    let fits : SFits w32 c.nx_input.result = search rules in
    let fits2 : SFits w32 c.nx_input-2.result = search rules in
    passed (λ r s. SameAnswer r s ((c.nx_input.new.file ≡ c.nx_input-2.new.file) × (c.nx_input.new.kind ≡
    c.nx_input-2.new.kind))) fits fits2 (input-at-number graph_in c.graph_is_sound.new.session.kept
    c.args.other.now.kept (c.graph_is_sound.ensures.kept ∙ c.requires) c.nx_input.result c.nx_input-2.result
    files_of c.graph_is_sound.ensures.files edge_total c.args.edge (λ g. slice_get (inputs_of (edge_at
    (edges_of g) c.args.edge)) c.args.index) (λ g. kind_code (kind_at (edge_at (edges_of g) c.args.edge)
    c.args.index)) c.nx_input.new.file c.nx_input-2.new.file c.nx_input.new.kind c.nx_input-2.new.kind
    c.nx_input.ensures.file c.nx_input-2.ensures.file)

pub returns-clause-kept : goal.returns-clause-kept
returns-clause-kept c =
    c.nx_input.ensures.kept ∙ c.graph_is_sound.ensures.kept ∙ c.requires ∙ sym c.nx_input-2.ensures.kept
