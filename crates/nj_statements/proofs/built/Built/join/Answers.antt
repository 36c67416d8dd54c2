use Rattle.std.proofs.Common.{length, replicate, None, sym, ap, subst, refl, ◌∙◌}
use Rattle.nj_statements.specs.Built.{BuiltModel, IsBuiltOf}
use Rattle.nj_statements.specs.Inside.JoiningSteps.{first_edges, bind_all, count_bound}
use Rattle.nj_statements.proofs.StartLemmas.{start-held, start-keeps}
use Rattle.nj_statements.proofs.built.Built.join.Goals as goal

pub invariant_of-result : goal.invariant_of-result
invariant_of-result c =
    let graph = c.self.inside.graph in
    let is = c.in-Ok.ensures in
    let dyndeps = c.deref.ensures.value ∙ ap (λ r. r.dyndeps) c.records.view_is in
    start-held graph c.self.inside.records c.self.invariant is.once _ is.edges refl
    (is.dyndep_files ∙ ap first_edges dyndeps)
    (is.bound ∙ ap (λ xs. bind_all xs (replicate (length graph.edges) None)) dyndeps)
    is.count (λ file. is.unjoined file ∙ ap (count_bound file) dyndeps)

pub returns-in-Ok : goal.returns-in-Ok
returns-in-Ok c = λ stated is_built.
    let graph = c.self.inside.graph in
    let is = c.in-Ok.ensures in
    let dyndeps = c.deref.ensures.value ∙ ap (λ r. r.dyndeps) c.records.view_is in
    start-keeps graph c.self.inside.records c.self.invariant is.once _ is.edges refl
    (is.dyndep_files ∙ ap first_edges dyndeps)
    (is.bound ∙ ap (λ xs. bind_all xs (replicate (length graph.edges) None)) dyndeps)
    is.count (λ file. is.unjoined file ∙ ap (count_bound file) dyndeps) stated
    (subst (λ (b : BuiltModel). IsBuiltOf b stated) (sym c.self.view_is) is_built)
