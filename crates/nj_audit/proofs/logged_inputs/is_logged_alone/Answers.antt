use Rattle.std.proofs.Common.{◌≡◌, true, false, sym, subst, ◌∙◌}
use Rattle.nj_graph.specs.Edges.{maker_of}
use Rattle.nj_graph.specs.Graph.{GraphModel, edges_of}
use Rattle.nj_graph.specs.Handles.{file_of}
use Rattle.nj_audit.specs.Inside.Handles.{input_of}
use Rattle.nj_audit.specs.Roles.{makes_opened}
use Rattle.nj_audit.proofs.LoggedLemmas.{alone-in-manifest, alone-tells, alone-unlooked}
use Rattle.nj_audit.proofs.logged_inputs.is_logged_alone.Goals as goal

pub returns-then-not-branch-clause-alone : goal.returns-then-not-branch-clause-alone
returns-then-not-branch-clause-alone c entries graph =
    alone-unlooked c.args.edge.graph.now entries c.args.folder.now
    (input_of c.args.edge.number.0 (file_of c.args.file))
    (sym (c.in_ok-is_looked_at.ensures entries graph) ∙ c.if-not-branch.true)

pub returns-then-is_of_manifest-clause-alone : goal.returns-then-is_of_manifest-clause-alone
returns-then-is_of_manifest-clause-alone c entries graph =
    let file = file_of c.args.file in
    alone-in-manifest c.args.edge.graph.now entries c.args.folder.now (input_of c.args.edge.number.0 file)
    (subst (λ (h : GraphModel). makes_opened h (maker_of (edges_of h) file.path) ≡ true) c.requires.graph
    (sym c.is_of_manifest.ensures ∙ c.if-is_of_manifest.true))

pub returns-clause-alone : goal.returns-clause-alone
returns-clause-alone c entries graph =
    let file = file_of c.args.file in
    alone-tells c.args.edge.graph.now entries c.args.folder.now (input_of c.args.edge.number.0 file)
    (sym (c.in_ok-is_looked_at.ensures entries graph) ∙ c.if-not-branch.false)
    (subst (λ (h : GraphModel). makes_opened h (maker_of (edges_of h) file.path) ≡ false) c.requires.graph
    (sym c.is_of_manifest.ensures ∙ c.if-is_of_manifest.false))
    c.in_ok-is_named.is_named (c.in_ok-is_named.ensures.named entries graph)
