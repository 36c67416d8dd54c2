use Rattle.std.proofs.Common.{◌++◌, ◌∙◌, List, ℕ, ap}
use Rattle.std.specs.Prelude.{codes}
use Rattle.std.specs.Str.Lossy.{utf8_lossy}
use Rattle.serde_json.specs.Data.{string}
use Rattle.serde_json.specs.Written.{compact_text}
use Rattle.nj_times.specs.Reports.{duration_value, output_of}
use Rattle.nj_times.specs.Times.{duration_at}
use Rattle.nj_times.proofs.TextLemmas.{more}
use Rattle.nj_times.proofs.rule_reports.push_slowest.Goals as goal

pub returns : goal.returns
returns c =
    let old = c.args.text.now.items in
    let p0 = codes ",\"milliseconds\":" in
    let n1 = duration_value (duration_at c.args.durations.now c.args.slowest.0) in
    let h1 = more old p0 n1 c.extend_from_slice.new.self.items c.push_value.new.text.items
    c.in_ok-extend_from_slice.ensures.items
    (c.in_ok-push_value.ensures
    ∙ ap (λ d. c.extend_from_slice.new.self.items ++ duration_value d) c.duration_at.ensures) in
    let p1 = p0 ++ n1 in
    let n2 = codes ",\"output\":" in
    let h2 = more old p1 n2 c.push_value.new.text.items c.extend_from_slice-2.new.self.items h1
    c.in_ok-extend_from_slice-2.ensures.items in
    let p2 = p1 ++ n2 in
    let n3 = compact_text (string (utf8_lossy (output_of c.args.graph.now.edges c.args.slowest.0))) in
    let h3 = more old p2 n3 c.extend_from_slice-2.new.self.items c.push_string.new.text.items h2
    (c.in_ok-push_string.ensures ∙ ap (λ (t : List ℕ). c.extend_from_slice-2.new.self.items
    ++ compact_text (string (utf8_lossy t))) c.output_of.ensures) in
    let p3 = p2 ++ n3 in
    more old p3 (codes "}\n") c.push_string.new.text.items c.extend_from_slice-3.new.self.items h3
    c.in_ok-extend_from_slice-3.ensures.items
