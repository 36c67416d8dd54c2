use Rattle.std.proofs.Common.{rules, slice_get, sym, w32, ◌∙◌, ◌≡◌}
use Rattle.nj_edges.specs.Edges.{validation_users_of}
use Rattle.nj_graph.specs.Graph.{edges_of, files_of}
use Rattle.nj_names.specs.Files.{path_at}
use mir.Val.{SFits}
use Rattle.nj_c.proofs.OneAnswerCalls.{item-at-number}
use Rattle.nj_c.proofs.OneAnswerGraphs.{file_total, graph_in}
use Rattle.nj_c.proofs.OneAnswerLemmas.{passed}
use Rattle.nj_c.specs.OneAnswer.{SameAnswer}
use Rattle.nj_c.proofs.one_answer.files.validation_user_twice.Goals as goal

pub returns-clause-same : goal.returns-clause-same
returns-clause-same c =
    let fits : SFits w32 c.nx_validation_user.result = search rules in
    let fits2 : SFits w32 c.nx_validation_user-2.result = search rules in
    passed (λ r s. SameAnswer r s (c.nx_validation_user.new.edge ≡ c.nx_validation_user-2.new.edge)) fits
    fits2 (item-at-number graph_in c.args.one.now.kept c.args.other.now.kept c.requires
    c.nx_validation_user.result c.nx_validation_user-2.result file_total c.args.file (λ g. slice_get
    (validation_users_of (edges_of g) (path_at (files_of g) (record { 0 = c.args.file }))) c.args.index)
    c.nx_validation_user.new.edge c.nx_validation_user-2.new.edge c.nx_validation_user.ensures.edge
    c.nx_validation_user-2.ensures.edge)

pub returns-clause-kept : goal.returns-clause-kept
returns-clause-kept c =
    c.nx_validation_user.ensures.kept ∙ c.requires ∙ sym c.nx_validation_user-2.ensures.kept
