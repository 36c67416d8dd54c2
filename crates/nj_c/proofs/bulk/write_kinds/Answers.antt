use Rattle.std.proofs.Common.{◌≡◌, ◌<◌, ◌+◌, ◌-◌, min, length, ap, ◌∙◌, arith, rules, to_z, of_z, to_z-of_z}
use Rattle.std.proofs.Common.{w32}
use mir.Val.{SFits}
use Rattle.nj_edges.specs.Edges.{edge_at, inputs_of}
use Rattle.nj_c.specs.Asking.{kind_code}
use Rattle.nj_c.proofs.BufferLemmas.{files-count, kind-more, kinds-all}
use Rattle.nj_c.proofs.bulk.write_kinds.Goals as goal

pub items-preserved : goal.items-preserved
items-preserved c =
    let g = c.args.graph.now in let e = edge_at g.edges c.args.edge.0 in
    let before = c.args.kinds.now in let from = c.args.from in let at = c.items.at in
    let count = files-count g.files c.inputs.result.now (inputs_of e) c.inputs.ensures.files in
    let inside : from + at < length (inputs_of e) = omega arith in
    let room : at < length before = omega arith in
    let kind = c.kind_number.result in
    let fits : SFits w32 kind = search rules in
    kind-more e before c.items.kinds from at (to_z w32 (of_z w32 kind)) inside room
    (to_z-of_z fits ∙ c.kind_number.ensures ∙ ap kind_code c.input_kind.ensures) c.items.invariant

pub returns : goal.returns
returns c =
    let g = c.args.graph.now in let e = edge_at g.edges c.args.edge.0 in
    let count = files-count g.files c.inputs.result.now (inputs_of e) c.inputs.ensures.files in
    let fits : c.items.at ≡ min (length (inputs_of e) - c.args.from) (length c.args.kinds.now) = omega arith
    in
    kinds-all e c.args.kinds.now c.items.kinds c.args.from c.items.at fits c.items.invariant
