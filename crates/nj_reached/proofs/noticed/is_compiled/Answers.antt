use Rattle.std.proofs.Common.{ap, subst, sym, ◌∙◌}
use Rattle.std.specs.List.{list_any}
use Rattle.nj_graph.specs.Edges.{users_of}
use Rattle.nj_graph.specs.Graph.{IsGraphOf, edges_of}
use Rattle.nj_graph.specs.Handles.{GraphEdge, edge_of, file_of}
use Rattle.nj_reached.specs.GraphChanges.{has_deps}
use Rattle.nj_reached.proofs.HandleLemmas.{any-numbered, are-of, first-of, others-of}
use Rattle.nj_reached.proofs.NoticedLemmas.{first-is, first-is-not}
use Rattle.nj_reached.proofs.noticed.is_compiled.Goals as goal

pub users-init : goal.users-init
users-init c =
    let file = file_of c.args.file in
    let g = file.graph in
    let numbers = users_of (edges_of g) file.path in
    let all = c.into_iter-user-iterator.ensures.into_iter_gives ∙ c.users-user-items.ensures in
    record {
      of = are-of g c.into_iter-user-iterator.result numbers all;
      any = λ entries is. ap (list_any (λ (user : GraphEdge). has_deps entries user.number)) all
          ∙ any-numbered (has_deps entries) g numbers;
    }

pub users-preserved : goal.users-preserved
users-preserved c =
    let g = (file_of c.args.file).graph in
    let user = edge_of c.in-Some.user in
    let left = c.users.user-iterator in
    let others = c.next.new.self in
    let next = c.in-Some.ensures.steps in
    let held = c.users.invariant in
    let same = first-of g user left others next held.of in
    record {
      of = others-of g user left others next held.of;
      any = λ entries is. first-is-not (λ (one : GraphEdge). has_deps entries one.number) left others user
          next
          (sym (c.in_ok-has_deps.ensures entries (subst (λ h. IsGraphOf h entries) (sym same) is))
          ∙ c.if-has_deps.false)
          ∙ held.any entries is;
    }

pub returns-then-has_deps : goal.returns-then-has_deps
returns-then-has_deps c entries is =
    let g = (file_of c.args.file).graph in
    let user = edge_of c.in-Some.user in
    let left = c.users.user-iterator in
    let others = c.next.new.self in
    let next = c.in-Some.ensures.steps in
    let held = c.users.invariant in
    let same = first-of g user left others next held.of in
    sym (first-is (λ (one : GraphEdge). has_deps entries one.number) left others user next
    (sym (c.in_ok-has_deps.ensures entries (subst (λ h. IsGraphOf h entries) (sym same) is))
    ∙ c.if-has_deps.true))
    ∙ held.any entries is

pub returns : goal.returns
returns c entries is =
    ap (list_any (λ (one : GraphEdge). has_deps entries one.number)) (sym c.in-None.ensures.steps.0)
    ∙ c.users.invariant.any entries is
