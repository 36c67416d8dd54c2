use Rattle.std.proofs.Common.{◌≡◌, ◌<◌, min, length, arith, None}
use Rattle.nj_c.specs.Paths.{numbered_step}
use Rattle.nj_c.proofs.BufferLemmas.{made-all, made-more}
use Rattle.nj_c.proofs.paths.write_steps.Goals as goal

pub steps-preserved : goal.steps-preserved
steps-preserved c =
    let list = c.args.found.now in let before = c.args.steps.now in let at = c.steps.at in
    let inside : at < length list = omega arith in
    let room : at < length before = omega arith in
    made-more numbered_step list before c.steps.steps at
    (record { edge = record { 0 = 0 }; index = 0; file = record { 0 = 0 }; kind = None })
    c.numbered_step.result inside room c.numbered_step.ensures c.steps.invariant

pub returns : goal.returns
returns c =
    let fits : c.steps.at ≡ min (length c.args.found.now) (length c.args.steps.now) = omega arith in
    made-all numbered_step c.args.found.now c.args.steps.now c.steps.steps c.steps.at fits c.steps.invariant
