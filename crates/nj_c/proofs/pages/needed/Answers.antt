use Rattle.std.proofs.Common.{◌≡◌, map, rules}
use Rattle.nj_names.specs.Files.{path_at}
use Rattle.nj_c.specs.Pages.{numbered, AreKnown, IsNeededList}
use Rattle.nj_c.specs.Inside.PagesHeld.{numbers_of}
use Rattle.nj_c.proofs.PageLemmas.{same-files}
use Rattle.nj_c.proofs.pages.needed.Goals as goal

pub returns : goal.returns
returns c =
    let numbers = c.args.numbers.now in let found = c.in_ok-edges in
    let known : AreKnown c.in_ok-graph.graph.now numbers = search rules in
    let are : c.deref-2.result.now ≡ numbered numbers = search rules in
    let list = same-files (λ e fs. IsNeededList e.edges (map (path_at e.files) fs)
    (numbers_of found.edges.items)) c.deref.ensures are record {
      are = found.ensures.needed;
      each_once = found.ensures.each_once;
      nearest_first = found.ensures.nearest_first;
    } in
    (c.in_ok-graph.graph.now, c.in_ok-graph.ensures.found.0, known, (list, c.new-mark.ensures.items))
