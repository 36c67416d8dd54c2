use Rattle.std.proofs.Common.{◌++◌}
use Rattle.std.specs.Prelude.{codes}
use Rattle.std.specs.Fmt.{decimal}
use Rattle.std.specs.Str.Lossy.{utf8_lossy}
use Rattle.serde_json.specs.Data.{string}
use Rattle.serde_json.specs.Written.{compact_text}
use Rattle.nj_times.specs.Rules.{slowest_members}
use Rattle.std.proofs.lemmas.Result.{on_ok_weaker}
use Rattle.nj_times.proofs.TextLemmas.{more}
use Rattle.nj_times.proofs.rule_reports.push_rule_object.Goals as goal

pub returns : goal.returns
returns c =
    let old = c.args.text.now.items in
    let p0 = codes "{\"rule\":" in
    let n1 = compact_text (string (utf8_lossy c.args.rule.now)) in
    let h1 = more old p0 n1 c.extend_from_slice.new.self.items c.push_string.new.text.items
    c.in_ok-extend_from_slice.ensures.items c.in_ok-push_string.ensures in
    let p1 = p0 ++ n1 in
    let n2 = codes ",\"commands\":" in
    let h2 = more old p1 n2 c.push_string.new.text.items c.extend_from_slice-2.new.self.items h1
    c.in_ok-extend_from_slice-2.ensures.items in
    let p2 = p1 ++ n2 in
    let n3 = decimal c.args.times.commands in
    let h3 = more old p2 n3 c.extend_from_slice-2.new.self.items c.push_decimal.new.text.items h2
    c.in_ok-push_decimal.ensures in
    let p3 = p2 ++ n3 in
    let n4 = codes ",\"sum\":" in
    let h4 = more old p3 n4 c.push_decimal.new.text.items c.extend_from_slice-3.new.self.items h3
    c.in_ok-extend_from_slice-3.ensures.items in
    let p4 = p3 ++ n4 in
    let n5 = decimal c.args.times.sum in
    let h5 = more old p4 n5 c.extend_from_slice-3.new.self.items c.push_decimal-2.new.text.items h4
    c.in_ok-push_decimal-2.ensures in
    let p5 = p4 ++ n5 in
    on_ok_weaker c.push_slowest.result
    (λ is. more old p5 (slowest_members c.args.graph.now.edges c.args.durations.now c.args.times.slowest.0)
    c.push_decimal-2.new.text.items c.push_slowest.new.text.items h5 is) c.push_slowest.ensures
