use Rattle.std.proofs.Common.{◌∙◌, sym, ◌<◌, length, arith}
use Rattle.nj_edge_env.proofs.TextLemmas.{given_by_number, given_plain}
use Rattle.nj_edge_env.proofs.late_strings.given_key.Goals as goal
use Rattle.nj_edge_env.proofs.late_strings.given_key.Goals.{else-is_of_command-via-then-is_of_command+else-len-eq0}
use Rattle.nj_edge_env.proofs.late_strings.given_key.Goals.{else-is_of_command-via-else-is_of_command}

pub returns-clause-given : goal.returns-clause-given
returns-clause-given c = elim c.else-is_of_command.branch [
  | else-is_of_command-via-then-is_of_command+else-len-eq0 w ↦
      let long : 0 < length w.key_value.result.now = omega arith in
      given_by_number c.args.rule.now.lines c.args.key.now c.in_ok-number.number w.key_value.result.now
      c.in_ok-number.ensures.some w.key_value.ensures long
  | else-is_of_command-via-else-is_of_command w ↦
      given_plain c.args.rule.now.lines c.args.key.now c.in_ok-number.number c.in_ok-number.ensures.some
      (sym c.is_of_command.ensures ∙ w.if-is_of_command.false)
]
