use Rattle.std.proofs.Common.{◌≡◌, ◌<◌, min, length, arith}
use Rattle.nj_c.specs.UndeclaredInputs.{numbered_input}
use Rattle.nj_c.proofs.BufferLemmas.{made-all, made-more}
use Rattle.nj_c.proofs.undeclared_inputs.write_inputs.Goals as goal

pub inputs-preserved : goal.inputs-preserved
inputs-preserved c =
    let list = c.args.found.now in let before = c.args.inputs.now in let at = c.inputs.at in
    let inside : at < length list = omega arith in
    let room : at < length before = omega arith in
    made-more numbered_input list before c.inputs.inputs at
    (record { edge = record { 0 = 0 }; file = record { 0 = 0 } }) c.numbered_input.result inside room
    c.numbered_input.ensures c.inputs.invariant

pub returns : goal.returns
returns c =
    let fits : c.inputs.at ≡ min (length c.args.found.now) (length c.args.inputs.now) = omega arith in
    made-all numbered_input c.args.found.now c.args.inputs.now c.inputs.inputs c.inputs.at fits
    c.inputs.invariant
