use Rattle.std.proofs.Common.{rules, slice_get, sym, w32, ◌∙◌, ◌≡◌}
use Rattle.nj_edges.specs.Edges.{roots_of}
use Rattle.nj_graph.specs.Graph.{edges_of, files_of}
use mir.Val.{SFits}
use Rattle.nj_c.proofs.OneAnswerCalls.{file-at-graph}
use Rattle.nj_c.proofs.OneAnswerGraphs.{graph_in}
use Rattle.nj_c.proofs.OneAnswerLemmas.{passed}
use Rattle.nj_c.specs.OneAnswer.{SameAnswer}
use Rattle.nj_c.proofs.one_answer.lists.root_twice.Goals as goal

pub returns-clause-same : goal.returns-clause-same
returns-clause-same c =
    let fits : SFits w32 c.nx_root.result = search rules in
    let fits2 : SFits w32 c.nx_root-2.result = search rules in
    passed (λ r s. SameAnswer r s (c.nx_root.new.file ≡ c.nx_root-2.new.file)) fits fits2 (file-at-graph
    graph_in c.graph_is_sound.new.session.kept c.args.other.now.kept (c.graph_is_sound.ensures.kept ∙
    c.requires) c.nx_root.result c.nx_root-2.result files_of c.graph_is_sound.ensures.files (λ g. slice_get
    (roots_of (edges_of g)) c.args.index) c.nx_root.new.file c.nx_root-2.new.file c.nx_root.ensures.file
    c.nx_root-2.ensures.file)

pub returns-clause-kept : goal.returns-clause-kept
returns-clause-kept c =
    c.nx_root.ensures.kept ∙ c.graph_is_sound.ensures.kept ∙ c.requires ∙ sym c.nx_root-2.ensures.kept
