use Rattle.std.proofs.Common.{◌≡◌, ◌++◌, ◌∷◌, sym, ap, subst, ◌∙◌}
use Rattle.std.proofs.lemmas.Option.{get_or_from_slice_get}
use Rattle.nj_scope.specs.Scopes.{IsScope, parent_at}
use Rattle.nj_statements.proofs.Holding.{on-ok}
use Rattle.nj_edges.specs.EdgeGraphs.{EdgeGraph}
use Rattle.nj_edges.specs.Edges.{edge_at}
use Rattle.nj_names.specs.Files.{AreFiles}
use Rattle.nj_scope.specs.Declarations.{DeclarationsModel, DeclaredBy}
use Rattle.nj_statements.specs.Built.{BuiltModel, detail_at}
use Rattle.nj_graph.specs.Graph.{GraphModel}
use Rattle.nj_graph.proofs.EdgeStrings.{edge, edge-open, detail-is, names-same, text-same}
use Rattle.nj_graph.proofs.handles.Edge.append_variable.Goals as goal

pub returns-clause-appended : goal.returns-clause-appended
returns-clause-appended c = λ entries is.
    let g : GraphModel = c.args.self.graph.now in
    let n = c.args.self.number.0 in
    let inside : c.graph.inside.declared.declarations ≡ g.declarations =
    ap (λ (x : GraphModel). x.declarations) c.graph.view_is in
    let built : c.graph.inside.built ≡ g.built = ap (λ (x : GraphModel). x.built) c.graph.view_is in
    let rule = c.rule.result.now in
    let e = edge g entries is n c.args.self.known in
    let edges : c.deref-edges.result.now ≡ g.built.graph = c.deref-edges.ensures in
    let number = c.scope.result.0 in
    let scope = c.scope.ensures ∙ ap (λ (b : BuiltModel). (detail_at b.details n).scope) built in
    let same = names-same g entries is n c.args.self.known c.files.result.now
    c.explicit_input_files.result.now
    c.explicit_output_files.result.now c.blocks-2.result.now rule number
    (c.files.ensures ∙ ap (λ (v : EdgeGraph). v.files) edges)
    (subst (λ (v : EdgeGraph). AreFiles v.files c.explicit_input_files.result.now
    (edge_at v.edges n).explicit_inputs) edges c.explicit_input_files.ensures.files)
    (subst (λ (v : EdgeGraph). AreFiles v.files c.explicit_output_files.result.now
    (edge_at v.edges n).explicit_outputs) edges c.explicit_output_files.ensures.files)
    (c.blocks-2.ensures ∙ ap (λ (b : BuiltModel). b.blocks) built)
    (sym (get_or_from_slice_get g.declarations.rules (detail_at g.built.details n).rule rule rule
    c.rule.ensures.held))
    scope
    in
    on-ok c.append_late_text.result
    (c.append_late_text.ensures.appended entries e.around
    (subst (λ (d : DeclarationsModel). DeclaredBy d entries) (sym inside) is.declares)
    (subst (λ (d : DeclarationsModel). IsScope (parent_at d.scopes) number (number ∷ e.around)) (sym inside)
    (subst (λ s. IsScope (parent_at g.declarations.scopes) s (s ∷ e.around))
    (sym (scope ∙ ap (λ d. d.scope) (detail-is g entries is n c.args.self.known)))
    (edge-open g entries is n c.args.self.known).within)))
    (λ appended. appended ∙ ap (λ t. c.args.out.now.items ++ t)
    (text-same g entries is n c.args.self.known c.args.name.now _ same
    (sym (c.is_dyndep_restat.ensures entries is) ∙ c.if-is_dyndep_restat.false)))
