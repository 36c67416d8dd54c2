use Rattle.std.proofs.Common.{rules, sym, w32, ◌∙◌, ◌≡◌}
use Rattle.nj_edges.specs.Edges.{edge_at, inputs_of}
use Rattle.nj_graph.specs.Graph.{edges_of, files_of}
use mir.Val.{SFits}
use Rattle.nj_c.proofs.OneAnswerCalls.{inputs-at-number}
use Rattle.nj_c.proofs.OneAnswerGraphs.{edge_total, graph_in}
use Rattle.nj_c.proofs.OneAnswerLemmas.{passed}
use Rattle.nj_c.specs.Buffers.{kinds_of}
use Rattle.nj_c.specs.OneAnswer.{SameBuffer}
use Rattle.nj_c.proofs.one_answer.edges.inputs_twice.Goals as goal

pub returns-clause-same : goal.returns-clause-same
returns-clause-same c =
    let fits : SFits w32 c.nx_inputs.result = search rules in
    let fits2 : SFits w32 c.nx_inputs-2.result = search rules in
    passed (λ r s. SameBuffer r s c.nx_inputs.new.files c.nx_inputs-2.new.files c.nx_inputs.new.count
    c.nx_inputs-2.new.count × (c.nx_inputs.new.kinds ≡ c.nx_inputs-2.new.kinds)) fits fits2
    (inputs-at-number graph_in c.graph_is_sound.new.session.kept
    c.args.other.now.kept (c.graph_is_sound.ensures.kept ∙ c.requires.kept) c.nx_inputs.result
    c.nx_inputs-2.result c.args.from c.args.files.now c.args.files_other.now c.nx_inputs.new.files
    c.nx_inputs-2.new.files c.nx_inputs.new.count c.nx_inputs-2.new.count c.requires.files
    c.nx_inputs.ensures.file_buffer c.nx_inputs-2.ensures.file_buffer files_of c.graph_is_sound.ensures.files
    edge_total c.args.edge (λ g. inputs_of (edge_at (edges_of g) c.args.edge))
    (λ g. kinds_of (edge_at (edges_of g) c.args.edge)) c.args.kinds.now c.args.kinds_other.now
    c.nx_inputs.new.kinds c.nx_inputs-2.new.kinds c.requires.kinds c.nx_inputs.ensures.kind_buffer
    c.nx_inputs-2.ensures.kind_buffer c.nx_inputs.ensures.files c.nx_inputs-2.ensures.files)

pub returns-clause-kept : goal.returns-clause-kept
returns-clause-kept c =
    c.nx_inputs.ensures.kept ∙ c.graph_is_sound.ensures.kept ∙ c.requires.kept
    ∙ sym c.nx_inputs-2.ensures.kept
