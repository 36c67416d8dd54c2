use Rattle.std.proofs.Common.{rules, sym, w32, ◌∙◌}
use Rattle.nj_edges.specs.Edges.{edge_at, outputs_of}
use Rattle.nj_graph.specs.Graph.{edges_of, files_of}
use mir.Val.{SFits}
use Rattle.nj_c.proofs.OneAnswerCalls.{files-at-number}
use Rattle.nj_c.proofs.OneAnswerGraphs.{edge_total, graph_in}
use Rattle.nj_c.proofs.OneAnswerLemmas.{passed}
use Rattle.nj_c.specs.OneAnswer.{SameBuffer}
use Rattle.nj_c.proofs.one_answer.edges.outputs_twice.Goals as goal

pub returns-clause-same : goal.returns-clause-same
returns-clause-same c =
    let fits : SFits w32 c.nx_outputs.result = search rules in
    let fits2 : SFits w32 c.nx_outputs-2.result = search rules in
    passed (λ r s. SameBuffer r s c.nx_outputs.new.files c.nx_outputs-2.new.files c.nx_outputs.new.count
    c.nx_outputs-2.new.count) fits fits2 (files-at-number graph_in c.graph_is_sound.new.session.kept
    c.args.other.now.kept (c.graph_is_sound.ensures.kept ∙ c.requires.kept) c.nx_outputs.result
    c.nx_outputs-2.result c.args.from c.args.files.now c.args.files_other.now c.nx_outputs.new.files
    c.nx_outputs-2.new.files c.nx_outputs.new.count c.nx_outputs-2.new.count c.requires.files
    c.nx_outputs.ensures.buffer c.nx_outputs-2.ensures.buffer files_of c.graph_is_sound.ensures.files
    edge_total c.args.edge (λ g. outputs_of (edge_at (edges_of g) c.args.edge)) c.nx_outputs.ensures.files
    c.nx_outputs-2.ensures.files)

pub returns-clause-kept : goal.returns-clause-kept
returns-clause-kept c =
    c.nx_outputs.ensures.kept ∙ c.graph_is_sound.ensures.kept ∙ c.requires.kept
    ∙ sym c.nx_outputs-2.ensures.kept
