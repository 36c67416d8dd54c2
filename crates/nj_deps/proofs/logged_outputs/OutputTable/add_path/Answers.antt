use Rattle.std.proofs.Common.{List, ℕ, subst, sym}
use Rattle.nj_deps.specs.Logs.{numbers_of}
use Rattle.nj_deps.specs.Inside.OutputsHeld.{AreOutputsHeld}
use Rattle.nj_deps.proofs.OutputLemmas.{path-held}
use Rattle.nj_deps.proofs.logged_outputs.OutputTable.add_path.Goals as goal

pub invariant_of-self-2 : goal.invariant_of-self-2
invariant_of-self-2 c =
    let held = c.self.inside in
    subst (λ (places : List ℕ). AreOutputsHeld (numbers_of held.inputs.items) held.outputs.items places)
    (sym c.in_ok-push.ensures.items)
    (path-held (numbers_of held.inputs.items) held.outputs.items held.places.items c.self.invariant)
