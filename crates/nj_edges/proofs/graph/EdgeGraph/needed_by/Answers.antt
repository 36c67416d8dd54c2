use Rattle.std.proofs.Common.{◌≡◌, ◌<◌, ◌↔◌, ℕ, map, length, sym, subst, ◌∙◌}
use Rattle.std.specs.Prelude.{Contains}
use Rattle.std.specs.Global.{Vec}
use Rattle.std.specs.List.{All}
use Rattle.std.proofs.lemmas.Result.{IfOk-weaker}
use Rattle.nj_edges.specs.declared.edges.EdgeNo.{EdgeNo}
use Rattle.nj_edges.specs.Distances.{IsNeeded}
use Rattle.nj_names.specs.Files.{path_at}
use Rattle.nj_edges.specs.Inside.UsersHeld.{numbers_of}
use Rattle.nj_edges.proofs.NeededLemmas.{numbered-below}
use Rattle.nj_edges.proofs.graph.EdgeGraph.needed_by.Goals as goal

pub returns-clause-needed : goal.returns-clause-needed
returns-clause-needed c =
    let paths = map (path_at c.args.self.now.files) c.args.files.now in
    IfOk-weaker c.numbered.result
    (λ (found : Vec EdgeNo). numbers_of found.items ≡ c.numbers.result.now)
    (λ (found : Vec EdgeNo). (edge : ℕ) → Contains (numbers_of found.items) edge
    ↔ IsNeeded c.args.self.now.edges paths edge)
    (λ found are. subst (λ ns. (edge : ℕ) → Contains ns edge ↔ IsNeeded c.args.self.now.edges paths edge)
    (sym (are ∙ c.numbers.ensures.numbers)) c.in_ok-found.ensures.needed)
    c.numbered.ensures

pub returns-clause-known : goal.returns-clause-known
returns-clause-known c =
    IfOk-weaker c.numbered.result
    (λ (found : Vec EdgeNo). numbers_of found.items ≡ c.numbers.result.now)
    (λ (found : Vec EdgeNo). All (λ edge. edge.0 < length c.args.self.now.edges) found.items)
    (λ found are. numbered-below found.items c.in_ok-found.found.numbers c.in_ok-found.found.limit
    (length c.args.self.now.edges) (are ∙ c.numbers.ensures.numbers) c.numbers.ensures.below
    c.in_ok-found.ensures.limit)
    c.numbered.ensures
