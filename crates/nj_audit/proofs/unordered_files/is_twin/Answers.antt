use Rattle.std.proofs.Common.{◌≡◌, map, rules, sym, ap, subst, ◌∙◌}
use Rattle.std.specs.Prelude.{bytes_eq}
use Rattle.std.specs.Bool.{Decides}
use Rattle.std.specs.List.{IsDistinct}
use Rattle.std.proofs.lemmas.Slice.Eq.{slice_eq-Decides}
use Rattle.nj_names.specs.Files.{path_at}
use Rattle.nj_edges.specs.EdgeGraphs.{EdgeGraph}
use Rattle.nj_graph.specs.Edges.{inputs_of}
use Rattle.nj_graph.specs.Graph.{GraphModel, files_of}
use Rattle.nj_graph.specs.Handles.{files_in}
use Rattle.nj_audit.specs.Audit.{paths_at, rule_number}
use Rattle.nj_audit.proofs.FileSetLemmas.{same-numbers}
use Rattle.nj_audit.proofs.unordered_files.is_twin.Goals as goal

pub returns : goal.returns
returns c =
    let g = c.args.edge.graph.now in
    let n = c.args.edge.number.0 in
    let m = c.args.other.number.0 in
    let xs = c.numbers.result.now in
    let ys = c.numbers-2.result.now in
    let there = subst (λ (h : GraphModel). c.inputs-2.result ≡ files_in h (inputs_of (paths_at h m)))
    c.requires
    c.inputs-2.ensures in
    let first = c.numbers.ensures.paths g (inputs_of (paths_at g n)) c.inputs.ensures in
    let second = c.numbers-2.ensures.paths g (inputs_of (paths_at g m)) there in
    let once = subst (λ (h : GraphModel). IsDistinct bytes_eq (files_of h)) c.graph.ensures
    (subst (λ (h : EdgeGraph). IsDistinct bytes_eq h.files) c.deref.ensures
    c.file_count-count.ensures.each_path_once) in
    let told : Decides c.eq.result (xs ≡ ys) = slice_eq-Decides (search rules) xs ys c.eq.result c.eq.ensures
    in
    let rule = subst (λ (h : GraphModel). c.rule_number-2.result.0 ≡ rule_number h m) c.requires
    c.rule_number-2.ensures.held in (
      λ is. record {
        rule = sym c.rule_number.ensures.held ∙ c.if-rule_number.false ∙ rule;
        inputs = sym first ∙ ap (map (path_at (files_of g))) (told.0 is) ∙ second;
      },
      λ twin. told.1 (same-numbers (files_of g) once xs ys
          (c.numbers.ensures.known g (inputs_of (paths_at g n)) c.inputs.ensures)
          (c.numbers-2.ensures.known g (inputs_of (paths_at g m)) there)
          (first ∙ twin.inputs ∙ sym second)),
    )
