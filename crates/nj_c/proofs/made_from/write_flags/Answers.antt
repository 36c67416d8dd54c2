use Rattle.std.proofs.Common.{◌≡◌, ◌<◌, ◌∙◌, min, length, false, arith, rules, to_z, of_z, to_z-of_z, w32}
use mir.Val.{SFits}
use Rattle.nj_c.specs.Asking.{bool_code}
use Rattle.nj_c.proofs.BufferLemmas.{made-all, made-more}
use Rattle.nj_c.proofs.made_from.write_flags.Goals as goal

pub flags-preserved : goal.flags-preserved
flags-preserved c =
    let list = c.args.made.now in let before = c.args.flags.now in let at = c.flags.at in
    let inside : at < length list = omega arith in
    let room : at < length before = omega arith in
    let flag = c.flag_of.result in
    let fits : SFits w32 flag = search rules in
    made-more bool_code list before c.flags.flags at false (to_z w32 (of_z w32 flag)) inside room
    (to_z-of_z fits ∙ c.flag_of.ensures) c.flags.invariant

pub returns : goal.returns
returns c =
    let fits : c.flags.at ≡ min (length c.args.made.now) (length c.args.flags.now) = omega arith in
    made-all bool_code c.args.made.now c.args.flags.now c.flags.flags c.flags.at fits c.flags.invariant
