use Rattle.std.proofs.Common.{◌++◌, false}
use Rattle.std.specs.Prelude.{codes}
use Rattle.std.specs.Fmt.{decimal}
use Rattle.nj_times.specs.Reports.{edge_line, seconds}
use Rattle.std.proofs.lemmas.Result.{on_ok_weaker}
use Rattle.nj_times.proofs.TextLemmas.{more, two_more}
use Rattle.nj_times.proofs.rule_reports.push_rule_words.Goals as goal

pub returns : goal.returns
returns c =
    let old = c.args.text.now.items in
    let p0 = seconds c.args.times.sum in
    let n1 = codes " s " in
    let h1 = more old p0 n1 c.push_seconds.new.text.items c.extend_from_slice.new.self.items
    c.in_ok-push_seconds.ensures c.in_ok-extend_from_slice.ensures.items in
    let p1 = p0 ++ n1 in
    let n2 = c.args.rule.now in
    let h2 = more old p1 n2 c.extend_from_slice.new.self.items c.extend_from_slice-2.new.self.items h1
    c.in_ok-extend_from_slice-2.ensures.items in
    let p2 = p1 ++ n2 in
    let n3 = codes ", commands: " in
    let m3 = decimal c.args.times.commands in
    let h3 = two_more old p2 n3 m3 c.extend_from_slice-2.new.self.items c.push_number.new.text.items h2
    c.in_ok-push_number.ensures in
    let p3 = p2 ++ n3 ++ m3 in
    let n4 = codes ", slowest: " in
    let h4 = more old p3 n4 c.push_number.new.text.items c.extend_from_slice-3.new.self.items h3
    c.in_ok-extend_from_slice-3.ensures.items in
    let p4 = p3 ++ n4 in
    on_ok_weaker c.push_edge.result
    (λ is. more old p4 (edge_line c.args.graph.now.edges c.args.durations.now false c.args.times.slowest.0)
    c.extend_from_slice-3.new.self.items c.push_edge.new.text.items h4 is) c.push_edge.ensures
