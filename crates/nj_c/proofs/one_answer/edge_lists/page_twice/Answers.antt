use Rattle.std.proofs.Common.{rules, w32, length, ◌∙◌}
use mir.Val.{SFits}
use Rattle.nj_cycles.specs.Cycles.{IsAcyclic}
use Rattle.nj_edges.specs.Needs.{makers_of_inputs}
use Rattle.nj_graph.specs.Graph.{edges_of}
use Rattle.nj_c.proofs.OneAnswerChanges.{of-graph, same-change}
use Rattle.nj_c.proofs.OneAnswerLemmas.{passed}
use Rattle.nj_c.proofs.OneAnswerMarks.{pages-agree}
use Rattle.nj_c.specs.OneAnswer.{Equal, SameChange}
use Rattle.nj_c.specs.Pages.{ListsPage}
use Rattle.nj_c.proofs.one_answer.edge_lists.page_twice.Goals as goal

pub returns : goal.returns
returns c =
    let fits : SFits w32 c.nx_page.result = search rules in
    let fits2 : SFits w32 c.nx_page-2.result = search rules in
    let targets = c.args.targets.now in
    let text = c.args.mark.now in
    let before = c.graph_is_sound.new.session.kept in
    passed (λ r s. SameChange Equal Equal r s c.nx_page.new.session.kept c.nx_page-2.new.session.kept) fits
    fits2 (same-change Equal Equal before c.args.other.now.kept c.nx_page.new.session.kept
    c.nx_page-2.new.session.kept c.nx_page.result c.nx_page-2.result
    (c.graph_is_sound.ensures.kept ∙ c.requires)
    (λ kept after. ListsPage kept after targets text c.args.take)
    (λ kept after. ListsPage kept after targets text c.args.take)
    (λ kept new new2 status status2 at memory memory2 is also.
    pages-agree c.given_marks_are_written.ensures kept targets text c.args.take
    (λ g there. of-graph before kept g (λ h. IsAcyclic (makers_of_inputs (edges_of h)) (length (edges_of h)))
    at there c.graph_is_sound.ensures.edges) new new2 status status2 memory memory2 is also)
    c.nx_page.ensures c.nx_page-2.ensures)
