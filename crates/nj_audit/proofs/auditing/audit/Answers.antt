use Rattle.std.proofs.Common.{subst, sym, ◌∙◌}
use Rattle.std.proofs.lemmas.Result.{IfOk-weaker}
use Rattle.nj_edges.proofs.ChangeLemmas.{flags-are}
use Rattle.nj_graph.specs.Graph.{edges_of}
use Rattle.nj_audit.specs.Serving.{ServesCommand}
use Rattle.nj_audit.specs.Kinds.{contains}
use Rattle.nj_audit.specs.LoggedInputs.{AreFoundIf, AreUndeclaredFindings, inputs_in}
use Rattle.nj_audit.specs.declared.kinds.Kind.TheVariants.{UndeclaredInput}
use Rattle.nj_audit.proofs.KindLemmas.{asked-law}
use Rattle.nj_audit.proofs.LoggedLemmas.{of-undeclared-if}
use Rattle.nj_audit.proofs.auditing.audit.Goals as goal
use Rattle.nj_audit.proofs.auditing.audit.Goals.{then-contains+in_ok-undeclared, else-contains}

pub returns : goal.returns
returns c entries graph =
    let g = c.args.graph.now in
    let missing = c.args.missing.now in
    let folder = c.args.folder.now in
    let logged = inputs_in g c.args.logged.now in
    let kinds = c.args.kinds in
    let serving = c.flags.result.now in
    let undeclared = c.if-contains.undeclared in
    let are : AreFoundIf (contains kinds UndeclaredInput) g entries folder logged undeclared =
    elim c.if-contains.branch [
      | then-contains+in_ok-undeclared w ↦
          subst (λ b. AreFoundIf b g entries folder logged undeclared)
          (sym w.if-contains.true ∙ c.contains.ensures)
          (subst (AreUndeclaredFindings g entries folder logged) (sym w.undeclared-is)
          (w.in_ok-undeclared.ensures entries graph))
      | else-contains w ↦
          subst (λ b. AreFoundIf b g entries folder logged undeclared)
          (sym w.if-contains.false ∙ c.contains.ensures)
          (w.undeclared-is ∙ w.new-undeclared.ensures)
    ] in
    IfOk-weaker c.find_all.result _ _
    (λ found is. record {
      serving = serving;
      are_serving = flags-are serving c.in_ok-edges.edges.numbers (ServesCommand (edges_of g))
          c.flags.ensures.flags c.in_ok-edges.ensures;
      undeclared = undeclared;
      are_undeclared = are;
      finds = is ∙ asked-law g entries missing serving undeclared
          (of-undeclared-if (contains kinds UndeclaredInput) g entries folder logged undeclared are) kinds;
    })
    (c.find_all.ensures entries graph)
