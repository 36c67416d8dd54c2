use Rattle.std.proofs.Common.{◌<◌, length, get_or, sym, ap, subst, arith}
use Rattle.std.specs.Prelude.{slice_index_or}
use Rattle.nj_scope.specs.Rules.{phony_rule}
use Rattle.nj_graph.specs.Graph.{GraphModel}
use Rattle.nj_graph.specs.Handles.{edge_of}
use Rattle.nj_audit.specs.Audit.{rule_at}
use Rattle.nj_audit.specs.Inside.References.{HasReferences}
use Rattle.nj_audit.proofs.HandleLemmas.{first-of}
use Rattle.nj_audit.proofs.MarkLemmas.{zip-at, zip-length}
use Rattle.nj_audit.proofs.variables.find_unused_variables.Goals as goal

pub index-requires : goal.index-requires
index-requires c =
    let items = c.in_ok-references.references.items in
    let of = first-of c.args.graph.now (edge_of c.in-Some.edge) c.edges.edge-iterator c.next.new.self
    c.in-Some.ensures.steps c.edges.invariant.of in
    let there = subst (λ (g : GraphModel). c.rule_number.result.0 < length g.declarations.rules) of
    c.rule_number.ensures.there in
    let same = zip-length HasReferences items c.rules.result.now c.in_ok-references.ensures in
    let rules = ap length c.rules.ensures.held in
    omega (arith, same, rules, there, c.in_ok-references.references.ok.0)

pub push_unused_variables-requires : goal.push_unused_variables-requires
push_unused_variables-requires c =
    let items = c.in_ok-references.references.items in
    let d = c.index.result.now in
    let rule = c.rule_number.result.0 in
    let of = first-of c.args.graph.now (edge_of c.in-Some.edge) c.edges.edge-iterator c.next.new.self
    c.in-Some.ensures.steps c.edges.invariant.of in
    let there = subst (λ (g : GraphModel). rule < length g.declarations.rules) of c.rule_number.ensures.there
    in
    let same = zip-length HasReferences items c.rules.result.now c.in_ok-references.ensures in
    let rules = ap length c.rules.ensures.held in
    let below : rule < length items = omega (arith, same, rules, there) in
    subst (λ names. HasReferences names (rule_at c.in-Some.edge.graph.now c.in-Some.edge.number.0))
    (sym c.index.ensures)
    (subst (λ r. HasReferences (get_or items rule d)
    (slice_index_or c.in-Some.edge.graph.now.declarations.rules r phony_rule)) c.rule_number.ensures.held
    (subst (λ (g : GraphModel). HasReferences (get_or items rule d)
    (slice_index_or g.declarations.rules rule phony_rule)) (sym of)
    (subst (λ rs. HasReferences (get_or items rule d) (slice_index_or rs rule phony_rule))
    c.rules.ensures.held
    (zip-at HasReferences items c.rules.result.now rule d phony_rule c.in_ok-references.ensures below))))
