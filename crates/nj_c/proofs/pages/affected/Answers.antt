use Rattle.std.proofs.Common.{◌≡◌, ◌↔◌, ℕ, Contains, map, rules}
use Rattle.nj_names.specs.Files.{path_at}
use Rattle.nj_edges.specs.Changes.{IsAffected}
use Rattle.nj_c.specs.Pages.{numbered, AreKnown}
use Rattle.nj_c.specs.Inside.PagesHeld.{numbers_of}
use Rattle.nj_c.proofs.PageLemmas.{same-files}
use Rattle.nj_c.proofs.pages.affected.Goals as goal

pub returns : goal.returns
returns c =
    let numbers = c.args.numbers.now in let found = c.in_ok-edges in
    let edges = numbers_of found.edges.items in
    let known : AreKnown c.in_ok-graph.graph.now numbers = search rules in
    let are : c.deref-2.result.now ≡ numbered numbers = search rules in
    let reached = same-files (λ e fs. (edge : ℕ)
    → Contains edges edge ↔ IsAffected e.edges (map (path_at e.files) fs) edge)
    c.deref.ensures are found.ensures.affected in (
      c.in_ok-graph.graph.now,
      c.in_ok-graph.ensures.found.0,
      known,
      (found.ensures.rises, reached, c.new-mark.ensures.items),
    )
