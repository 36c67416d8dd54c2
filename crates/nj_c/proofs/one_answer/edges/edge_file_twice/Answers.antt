use Rattle.std.proofs.Common.{rules, sym, w32, ◌∙◌}
use Rattle.nj_statements.specs.Built.{detail_at}
use mir.Val.{SFits}
use Rattle.nj_c.proofs.OneAnswerCalls.{text-at-number}
use Rattle.nj_c.proofs.OneAnswerGraphs.{graph_in, edge_total}
use Rattle.nj_c.proofs.OneAnswerLemmas.{passed}
use Rattle.nj_c.specs.OneAnswer.{SameBuffer}
use Rattle.nj_c.proofs.one_answer.edges.edge_file_twice.Goals as goal

pub returns-clause-same : goal.returns-clause-same
returns-clause-same c =
    let fits : SFits w32 c.nx_edge_file.result = search rules in
    let fits2 : SFits w32 c.nx_edge_file-2.result = search rules in
    passed (λ r s. SameBuffer r s c.nx_edge_file.new.buffer c.nx_edge_file-2.new.buffer
    c.nx_edge_file.new.needed c.nx_edge_file-2.new.needed) fits fits2 (text-at-number graph_in
    c.args.one.now.kept c.args.other.now.kept c.requires.kept c.nx_edge_file.result c.nx_edge_file-2.result
    c.args.buffer.now c.args.buffer_other.now c.nx_edge_file.new.buffer c.nx_edge_file-2.new.buffer
    c.nx_edge_file.new.needed c.nx_edge_file-2.new.needed c.requires.buffer c.nx_edge_file.ensures.buffer
    c.nx_edge_file-2.ensures.buffer edge_total c.args.edge (λ g. (detail_at g.built.details
    c.args.edge).file) c.nx_edge_file.ensures.file c.nx_edge_file-2.ensures.file)

pub returns-clause-kept : goal.returns-clause-kept
returns-clause-kept c =
    c.nx_edge_file.ensures.kept ∙ c.requires.kept ∙ sym c.nx_edge_file-2.ensures.kept
