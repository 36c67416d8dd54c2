use Rattle.std.proofs.Common.{◌∙◌, List, refl, subst, sym, true≢false}
use Rattle.nj_edges.specs.Changes.{IsOrNeeds}
use Rattle.nj_edges.specs.Edges.{EdgePaths}
use Rattle.nj_graph.proofs.FoundLemmas.{declared, finds-declared, finds-undeclared, known-added, same-finds}
use Rattle.nj_graph.proofs.found_inputs.FoundInputs.add_made.Goals as goal

pub returns-then-is_declared-clause-added : goal.returns-then-is_declared-clause-added
returns-then-is_declared-clause-added c = λ before paths path made finds.
    let g = c.args.graph.now in
    let edge = c.args.edge.0 in
    let maker = c.args.made.maker.0 in
    let needs = subst (λ (es : List EdgePaths). IsOrNeeds es edge maker) c.requires.found.search
    (c.in_ok-is_declared.ensures.needs.0 c.if-is_declared.true) in
    finds-declared g edge before paths path _
    (same-finds g edge before paths c.args.self.now _ refl refl finds)
    (declared g.edges (record { edge = edge; path = path }) maker made.1 needs)

pub returns-clause-found : goal.returns-clause-found
returns-clause-found c = known-added c.args.graph.now _ _ c.add_undeclared.new.self c.requires.found.limit
    (c.in_ok-is_declared.ensures.edges ∙ c.requires.found.search) c.requires.found.known c.requires.edge
    c.requires.made.0 c.in_ok-add_undeclared.ensures

pub returns-clause-added : goal.returns-clause-added
returns-clause-added c = λ before paths path made finds.
    let g = c.args.graph.now in
    let edge = c.args.edge.0 in
    let maker = c.args.made.maker.0 in
    let apart : IsOrNeeds g.edges edge maker → ⊥ =
    λ needs. true≢false (sym (c.in_ok-is_declared.ensures.needs.1
    (subst (λ (es : List EdgePaths). IsOrNeeds es edge maker) (sym c.requires.found.search) needs))
    ∙ c.if-is_declared.false) in
    finds-undeclared g edge before paths path _
    (same-finds g edge before paths c.args.self.now _ refl refl finds) _ refl made.0
    (record { maker = maker; makes = made.1; not_needed = apart }) c.add_undeclared.new.self
    c.in_ok-add_undeclared.ensures
