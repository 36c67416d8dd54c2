use Rattle.std.proofs.Common.{◌≡◌, ◌<◌, ◌↔◌, ℕ, map, length, ◌∙◌}
use Rattle.std.specs.Prelude.{Contains}
use Rattle.std.specs.Global.{Vec}
use Rattle.std.specs.List.{All}
use Rattle.std.specs.List.Sorted.{IsStrictlyIncreasing}
use Rattle.std.proofs.lemmas.Result.{IfOk-weaker}
use Rattle.nj_edges.specs.declared.edges.EdgeNo.{EdgeNo}
use Rattle.nj_edges.specs.Changes.{IsAffected}
use Rattle.nj_edges.specs.Edges.{edges_from}
use Rattle.nj_names.specs.Files.{path_at}
use Rattle.nj_edges.specs.Inside.UsersHeld.{numbers_of}
use Rattle.nj_edges.proofs.ChangeLemmas.{flags-are, found-are, found-below, found-rise}
use Rattle.nj_edges.proofs.graph.EdgeGraph.affected_by.Goals as goal

pub returns-clause-affected : goal.returns-clause-affected
returns-clause-affected c =
    let paths = map (path_at c.args.self.now.files) c.args.files.now in
    let edges = c.args.self.now.edges in
    let flags = c.flags.result.now in
    IfOk-weaker c.flagged.result
    (λ (found : Vec EdgeNo). numbers_of found.items ≡ edges_from 0 (λ flag. flag) flags)
    (λ (found : Vec EdgeNo). (edge : ℕ) → Contains (numbers_of found.items) edge
    ↔ IsAffected edges paths edge)
    (λ found listed. found-are flags found.items listed (IsAffected edges paths)
    (flags-are flags c.in_ok-found.found.numbers (IsAffected edges paths) c.flags.ensures.flags
    c.in_ok-found.ensures.found))
    c.flagged.ensures

pub returns-clause-rises : goal.returns-clause-rises
returns-clause-rises c =
    let flags = c.flags.result.now in
    IfOk-weaker c.flagged.result
    (λ (found : Vec EdgeNo). numbers_of found.items ≡ edges_from 0 (λ flag. flag) flags)
    (λ (found : Vec EdgeNo). IsStrictlyIncreasing (numbers_of found.items))
    (λ found listed. found-rise flags found.items listed)
    c.flagged.ensures

pub returns-clause-known : goal.returns-clause-known
returns-clause-known c =
    let flags = c.flags.result.now in
    IfOk-weaker c.flagged.result
    (λ (found : Vec EdgeNo). numbers_of found.items ≡ edges_from 0 (λ flag. flag) flags)
    (λ (found : Vec EdgeNo). All (λ edge. edge.0 < length c.args.self.now.edges) found.items)
    (λ found listed. found-below flags found.items listed (length c.args.self.now.edges)
    (c.flags.ensures.count ∙ c.in_ok-found.ensures.limit))
    c.flagged.ensures
