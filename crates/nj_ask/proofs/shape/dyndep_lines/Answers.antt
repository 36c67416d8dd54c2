use Rattle.std.proofs.Common.{◌≡◌, map, ap, subst, ◌∙◌}
use Rattle.std.specs.Prelude.{codes, IfOk}
use Rattle.nj_graph.specs.declared.EdgeNo.{EdgeNo}
use Rattle.nj_graph.specs.declared.FileNo.{FileNo}
use Rattle.nj_ask.specs.Shape.{dyndep_files, lines_of_changing}
use Rattle.nj_ask.proofs.shape.dyndep_lines.Goals as goal

pub returns : goal.returns
returns c entries graph =
    let g = c.args.graph.now in
    let what = codes ": a dyndep file, may change" in
    let touched = map (λ (e : EdgeNo). e.0) c.args.touched.now in
    let numbers = ap (map (λ (f : FileNo). f.0)) c.deref.ensures.value
    ∙ c.in_ok-files.ensures.files entries graph in
    let uncertain = ap (map (λ (f : FileNo). f.0)) c.deref-2.ensures.value
    ∙ c.in_ok-uncertain.ensures.files entries graph in
    subst (λ changed. IfOk c.marked_lines.result (λ lines. lines.items
    ≡ lines_of_changing g what (dyndep_files g entries) changed touched)) uncertain
    (subst (λ files. IfOk c.marked_lines.result (λ lines. lines.items
    ≡ lines_of_changing g what files (map (λ (f : FileNo). f.0) c.deref-2.result.now) touched)) numbers
    (c.marked_lines.ensures _ _ _ c.in_ok-marks.ensures))
