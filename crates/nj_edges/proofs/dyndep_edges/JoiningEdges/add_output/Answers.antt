use Rattle.std.proofs.Common.{◌≡◌, ◌∙◌, ap, not, subst}
use Rattle.std.specs.Prelude.{IfOk}
use Rattle.nj_edges.specs.Joining.{is_made_so_far}
use Rattle.nj_edges.proofs.JoiningLemmas.{made-so-far, output-held, output-table}
use Rattle.nj_edges.proofs.dyndep_edges.JoiningEdges.add_output.Goals as goal

pub invariant_of-self : goal.invariant_of-self
invariant_of-self c = output-held _ _ _ _ c.self.invariant _ c.args.path.now c.add_output.result
    c.add_output.ensures.added c.add_output.ensures.refused

pub returns-clause-is_new : goal.returns-clause-is_new
returns-clause-is_new c =
    subst (λ b. IfOk c.add_output.result (λ is_new. is_new ≡ not b))
    (made-so-far _ _ _ _ c.self.invariant c.args.path.now
    ∙ ap (λ u. is_made_so_far u c.args.path.now) c.self.view_is) c.add_output.ensures.is_new

pub returns-clause-added : goal.returns-clause-added
returns-clause-added c = output-table _ _ _ _ c.self.invariant _ c.args.path.now _ c.self.view_is
    c.add_output.result c.add_output.ensures.added
