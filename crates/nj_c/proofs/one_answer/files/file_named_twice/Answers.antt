use Rattle.std.proofs.Common.{bytes_eq, position, rules, sym, w32, ◌∙◌, ◌≡◌}
use Rattle.nj_graph.specs.Graph.{files_of}
use mir.Val.{SFits}
use Rattle.nj_c.proofs.OneAnswerCalls.{item-at-graph}
use Rattle.nj_c.proofs.OneAnswerGraphs.{graph_in}
use Rattle.nj_c.proofs.OneAnswerLemmas.{passed}
use Rattle.nj_c.specs.OneAnswer.{SameAnswer}
use Rattle.nj_c.proofs.one_answer.files.file_named_twice.Goals as goal

pub returns-clause-same : goal.returns-clause-same
returns-clause-same c =
    let fits : SFits w32 c.nx_file_named.result = search rules in
    let fits2 : SFits w32 c.nx_file_named-2.result = search rules in
    passed (λ r s. SameAnswer r s (c.nx_file_named.new.file ≡ c.nx_file_named-2.new.file)) fits fits2
    (item-at-graph graph_in c.args.one.now.kept c.args.other.now.kept c.requires c.nx_file_named.result
    c.nx_file_named-2.result (λ g. position (bytes_eq c.args.path.now) (files_of g))
    c.nx_file_named.new.file c.nx_file_named-2.new.file c.nx_file_named.ensures.file
    c.nx_file_named-2.ensures.file)

pub returns-clause-kept : goal.returns-clause-kept
returns-clause-kept c =
    c.nx_file_named.ensures.kept ∙ c.requires ∙ sym c.nx_file_named-2.ensures.kept
