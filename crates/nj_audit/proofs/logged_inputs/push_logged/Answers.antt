use Rattle.std.proofs.Common.{[], get_or, take, subst, ◌∙◌}
use Rattle.std.specs.List.{cons_option}
use Rattle.std.proofs.lemmas.List.{take_all}
use Rattle.nj_graph.specs.declared.undeclared.UndeclaredInput.{UndeclaredInput as LoggedInput}
use Rattle.nj_audit.specs.LoggedInputs.{input_in, inputs_in}
use Rattle.nj_audit.specs.Inside.LoggedFound.{AddsLogged}
use Rattle.nj_audit.proofs.ListLemmas.{found-more}
use Rattle.nj_audit.proofs.LoggedLemmas.{logged-none, logged-then}
use Rattle.nj_audit.proofs.logged_inputs.push_logged.Goals as goal

pub inputs-init : goal.inputs-init
inputs-init c = record {
  adds = λ entries graph. logged-none c.args.graph.now entries c.args.folder.now c.args.found.now;
  makers = rw c.deref.ensures at c.new-makers.ensures;
  users = rw c.deref-2.ensures at c.new-users.ensures;
}

pub inputs-preserved : goal.inputs-preserved
inputs-preserved c =
    let g = c.args.graph.now in
    let logged = c.args.logged.now in
    let i = c.inputs.input-index in
    let none : LoggedInput = record { edge = record { 0 = 0 }; file = record { 0 = 0 } } in
    let now = c.push_input.new.found in
    record {
      adds = λ entries graph.
          subst (λ is. AddsLogged g entries c.args.folder.now is c.args.found.now now)
          (found-more (input_in g) logged i none c.inputs-test.true)
          (logged-then g entries c.args.folder.now (inputs_in g (take i logged))
          (cons_option (input_in g (get_or logged i none)) []) c.args.found.now c.inputs.found now
          (c.inputs.invariant.adds entries graph) (c.in_ok-push_input.ensures.found entries graph));
      makers = c.in_ok-push_input.ensures.makers ∙ c.inputs.invariant.makers;
      users = c.in_ok-push_input.ensures.users ∙ c.inputs.invariant.users;
    }

pub returns : goal.returns
returns c entries graph =
    let g = c.args.graph.now in
    subst (λ logged. AddsLogged g entries c.args.folder.now (inputs_in g logged) c.args.found.now
    c.inputs.found)
    (take_all c.inputs.input-index c.args.logged.now c.inputs-test.false)
    (c.inputs.invariant.adds entries graph)
