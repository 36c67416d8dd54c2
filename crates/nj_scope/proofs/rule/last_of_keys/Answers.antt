use Rattle.std.proofs.Common.{arith}
use Rattle.nj_scope.proofs.KeyLemmas.{none_yet, indexes_within, turn_taken, turn_passed}
use Rattle.nj_scope.proofs.rule.last_of_keys.Goals as goal

pub lines-init : goal.lines-init
lines-init c = none_yet c.args.lines.now c.new-last.result.items c.new-last.ensures.items

pub number_among-requires : goal.number_among-requires
number_among-requires c = rw c.deref.ensures.value
    (indexes_within c.args.lines.now c.lines.last.items _ c.lines.invariant)

pub lines-preserved-in-Continue-1 : goal.lines-preserved-in-Continue-1
lines-preserved-in-Continue-1 c =
    turn_taken c.args.lines.now c.lines.last.items c.deref.result.now c.lines.index c.index-lines-index.result
    c.as_slice.result.now c.number_among.result (omega arith) (omega arith)
    c.index-lines-index.is c.as_slice.ensures.value c.deref.ensures.value c.lines.invariant
    c.push.new.self.items c.if-is_none.ensures c.number_among.ensures.none c.in_ok-push.ensures.items

pub lines-preserved : goal.lines-preserved
lines-preserved c =
    turn_passed c.args.lines.now c.lines.last.items c.deref.result.now c.lines.index
    c.index-lines-index.result c.as_slice.result.now c.number_among.result (omega arith) (omega arith)
    c.index-lines-index.is c.as_slice.ensures.value c.deref.ensures.value c.lines.invariant
    c.if-is_none.ensures c.number_among.ensures.some
