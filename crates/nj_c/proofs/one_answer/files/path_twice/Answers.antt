use Rattle.std.proofs.Common.{rules, sym, w32, ◌∙◌}
use Rattle.nj_graph.specs.Graph.{files_of}
use mir.Val.{SFits}
use Rattle.nj_c.proofs.OneAnswerCalls.{path-at-number}
use Rattle.nj_c.proofs.OneAnswerGraphs.{graph_in}
use Rattle.nj_c.proofs.OneAnswerLemmas.{passed}
use Rattle.nj_c.specs.OneAnswer.{SameBuffer}
use Rattle.nj_c.proofs.one_answer.files.path_twice.Goals as goal

pub returns-clause-same : goal.returns-clause-same
returns-clause-same c =
    let fits : SFits w32 c.nx_path.result = search rules in
    let fits2 : SFits w32 c.nx_path-2.result = search rules in
    passed (λ r s. SameBuffer r s c.nx_path.new.buffer c.nx_path-2.new.buffer c.nx_path.new.needed
    c.nx_path-2.new.needed) fits fits2 (path-at-number graph_in c.args.one.now.kept c.args.other.now.kept
    c.requires.kept c.nx_path.result c.nx_path-2.result c.args.buffer.now c.args.buffer_other.now
    c.nx_path.new.buffer c.nx_path-2.new.buffer c.nx_path.new.needed c.nx_path-2.new.needed
    c.requires.buffer c.nx_path.ensures.buffer c.nx_path-2.ensures.buffer files_of c.args.file
    c.nx_path.ensures.path c.nx_path-2.ensures.path)

pub returns-clause-kept : goal.returns-clause-kept
returns-clause-kept c =
    c.nx_path.ensures.kept ∙ c.requires.kept ∙ sym c.nx_path-2.ensures.kept
