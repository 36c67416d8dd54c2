use Rattle.std.proofs.Common.{◌≡◌, cond, [], map, sym, subst}
use Rattle.std.specs.Prelude.{codes, IfOk}
use Rattle.nj_graph.specs.declared.EdgeNo.{EdgeNo}
use Rattle.nj_ask.specs.Inside.Reached.{numbers_of}
use Rattle.nj_ask.specs.Shape.{lines_of_changing}
use Rattle.nj_ask.proofs.shape.remade_lines.Goals as goal

pub returns : goal.returns
returns c =
    let known = c.args.known.now in
    let opened = numbers_of c.args.opened.now in
    let touched = map (λ (e : EdgeNo). e.0) c.args.touched.now in
    let what = codes ": a manifest, may change" in
    subst (λ b. IfOk c.marked_lines.result
    (λ lines. lines.items ≡ cond b (lines_of_changing known.graph what opened [] touched) []))
    (sym c.if-not-known.false) (c.marked_lines.ensures _ _ _ c.in_ok-marks.ensures)
