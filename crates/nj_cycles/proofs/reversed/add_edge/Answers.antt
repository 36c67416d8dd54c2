use Rattle.std.proofs.Common.{sym, ◌∙◌, arith}
use Rattle.std.proofs.lemmas.Option.{slice_get_within}
use Rattle.nj_cycles.proofs.Turns.{next_maker, past_inputs}
use Rattle.nj_cycles.proofs.UserLemmas.{passed_input, next_edge}
use Rattle.nj_cycles.proofs.reversed.add_edge.Goals as goal

pub add_user-requires : goal.add_user-requires
add_user-requires g c =
    next_maker (g.I.EdgeInputs.makers c.args.inputs.now) (g.I.EdgeInputs.count c.args.inputs.now)
    c.inputs.users.items c.args.edge c.inputs.index c.in-Some.maker c.requires.edges
    c.inputs.invariant.len (sym c.in-Some.ensures.maker)

pub inputs-smaller : goal.inputs-smaller
inputs-smaller g c = omega (
  arith,
  slice_get_within (g.I.EdgeInputs.makers c.args.inputs.now c.args.edge)
      c.inputs.index c.in-Some.maker (sym c.in-Some.ensures.maker),
)

pub inputs-preserved : goal.inputs-preserved
inputs-preserved g c =
    passed_input (g.I.EdgeInputs.makers c.args.inputs.now) (g.I.EdgeInputs.count c.args.inputs.now)
    c.args.edge c.inputs.index c.in-Some.maker c.inputs.users.items c.add_user.new.users.items
    c.requires.edges (sym c.in-Some.ensures.maker) c.in_ok-add_user.ensures c.inputs.invariant

pub returns : goal.returns
returns g c =
    next_edge (g.I.EdgeInputs.makers c.args.inputs.now) (g.I.EdgeInputs.count c.args.inputs.now) c.args.edge
    c.inputs.index c.inputs.users.items
    (past_inputs (g.I.EdgeInputs.makers c.args.inputs.now c.args.edge) c.inputs.index
    (sym c.maker_at.ensures.maker ∙ c.in_default.is)) c.inputs.invariant
