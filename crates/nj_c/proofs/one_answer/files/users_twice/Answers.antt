use Rattle.std.proofs.Common.{rules, sym, w32, ◌∙◌}
use Rattle.nj_edges.specs.Edges.{users_of}
use Rattle.nj_graph.specs.Graph.{edges_of, files_of}
use Rattle.nj_names.specs.Files.{path_at}
use mir.Val.{SFits}
use Rattle.nj_c.proofs.OneAnswerCalls.{numbers-at-number}
use Rattle.nj_c.proofs.OneAnswerGraphs.{file_total, graph_in}
use Rattle.nj_c.proofs.OneAnswerLemmas.{passed}
use Rattle.nj_c.specs.OneAnswer.{SameBuffer}
use Rattle.nj_c.proofs.one_answer.files.users_twice.Goals as goal

pub returns-clause-same : goal.returns-clause-same
returns-clause-same c =
    let fits : SFits w32 c.nx_users.result = search rules in
    let fits2 : SFits w32 c.nx_users-2.result = search rules in
    passed (λ r s. SameBuffer r s c.nx_users.new.edges c.nx_users-2.new.edges c.nx_users.new.count
    c.nx_users-2.new.count) fits fits2 (numbers-at-number graph_in c.args.one.now.kept c.args.other.now.kept
    c.requires.kept c.nx_users.result c.nx_users-2.result c.args.from c.args.edges.now
    c.args.edges_other.now c.nx_users.new.edges c.nx_users-2.new.edges c.nx_users.new.count
    c.nx_users-2.new.count c.requires.edges c.nx_users.ensures.buffer c.nx_users-2.ensures.buffer
    file_total c.args.file (λ g. users_of (edges_of g) (path_at (files_of g) (record { 0 = c.args.file })))
    c.nx_users.ensures.edges c.nx_users-2.ensures.edges)

pub returns-clause-kept : goal.returns-clause-kept
returns-clause-kept c =
    c.nx_users.ensures.kept ∙ c.requires.kept ∙ sym c.nx_users-2.ensures.kept
