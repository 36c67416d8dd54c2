use Rattle.std.proofs.Common.{map, sym, ap, subst, ◌∙◌}
use Rattle.std.specs.Prelude.{string_bytes}
use Rattle.std.proofs.lemmas.Result.{IfOk-weaker}
use Rattle.nj_chosen.specs.ChangedPaths.{change_by}
use Rattle.nj_chosen.specs.Choices.{AreChosen}
use Rattle.nj_graph.specs.Files.{path_at}
use Rattle.nj_graph.specs.Graph.{files_of}
use Rattle.nj_test_texts.specs.TestTexts.{tests_text, written_from}
use Rattle.nj_tests.specs.Tests.{test_model}
use Rattle.nj_ask.specs.ChosenTests.{roots_of}
use Rattle.nj_ask.specs.Inside.Lent.{change_model}
use Rattle.nj_ask.specs.Inside.Reached.{edge_numbers}
use Rattle.nj_ask.specs.Reports.{changed_paths}
use Rattle.nj_ask.specs.SameFiles.{path_of}
use Rattle.nj_ask.proofs.MadeLemmas.{same-paths}
use Rattle.nj_ask.proofs.TestLemmas.{changes-as, some-mapped}
use Rattle.nj_ask.proofs.chosen_tests.chosen_text.Goals as goal

pub returns : goal.returns
returns c entries graph =
    let g = c.args.known.now.graph in
    let q = change_model c.args.change in
    let reach = c.args.reach in
    let change = change_by q.working c.in_ok-paths.paths in
    let tests = map test_model c.args.tests.now in
    let chosen = c.in_ok-chosen.chosen in
    IfOk-weaker c.tests_text.result _ _ (λ text is. record {
      sought = reach.sought;
      are_sought = c.requires.sought;
      change = change;
      is_change = changes-as g entries change q.working reach.sought _ (roots_of q.working q.folders) _
          (changed_paths g q) _ (edge_numbers reach.touched.items) c.in_ok-roots.ensures
          (ap (map (path_at (files_of g))) c.deref.ensures.value ∙ same-paths g reach.files.items
          ∙ ap (map (path_of g)) c.requires.files.numbers)
          (ap edge_numbers c.deref-2.ensures.value) (c.in_ok-paths.ensures entries graph);
      chosen = chosen;
      are_chosen = subst (λ b. AreChosen change b tests chosen)
          (c.is_some-skips.ensures ∙ sym (some-mapped string_bytes c.args.options.now.unnamed))
          c.in_ok-chosen.ensures;
      text_is = is ∙ ap (λ style. tests_text style (written_from c.args.all chosen 0 tests))
          c.style_asked.ensures;
    }) c.tests_text.ensures
