use Rattle.std.proofs.Common.{◌≡◌, ◌∙◌, length, replicate, bytes_eq, None, ap, subst, sym}
use Rattle.std.specs.List.{IsDistinct}
use Rattle.nj_edges.specs.Joining.{JoinTable}
use Rattle.nj_edges.specs.Inside.MarksHeld.{AreMarked, MarksInputs}
use Rattle.nj_edges.proofs.MarkLemmas.{start-marks}
use Rattle.nj_edges.proofs.graph.EdgeGraph.join_inputs.Goals as goal

pub invariant_of-result : goal.invariant_of-result
invariant_of-result c =
    let once : IsDistinct bytes_eq c.args.self.files =
    subst (λ (t : JoinTable). IsDistinct bytes_eq t.files) c.in_ok-edges.ensures
    c.files.ensures.each_path_once in
    let none : c.in_ok-marks.marks.items ≡ replicate (length c.args.self.files) None =
    c.in_ok-marks.ensures
    ∙ ap (λ n. replicate n None) (c.count.ensures.count ∙ ap length c.files.ensures.files
    ∙ ap (λ (t : JoinTable). length t.files) c.in_ok-edges.ensures) in
    subst (λ (t : JoinTable). AreMarked (record { table = t; edge = 0 }) c.mark_inputs.new.marks.items)
    (sym c.in_ok-edges.ensures)
    (start-marks c.args.self c.in_ok-marks.marks.items c.mark_inputs.new.marks.items once none
    (subst (λ (t : JoinTable). MarksInputs t 0 c.in_ok-marks.marks.items c.mark_inputs.new.marks.items)
    c.in_ok-edges.ensures c.mark_inputs.ensures))
