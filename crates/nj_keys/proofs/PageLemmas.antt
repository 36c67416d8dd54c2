-- Walks to the files of a list.
use Rattle.std.proofs.Common.{◌≡◌, ℕ, Bool, List, map, sym, ap, subst, ◌∙◌}
use Rattle.nj_needs.specs.Graphs.{count_of, is_phony, makers_of, row_of, row_of_paths}
use Rattle.nj_needs.specs.Marks.{is_valid, rest}
use Rattle.nj_needs.specs.Walks.{BeginsAt, WalkState, rest_of}
use Rattle.nj_graph.specs.declared.FileNo.{FileNo}
use Rattle.nj_graph.specs.Files.{path_at}
use Rattle.nj_graph.specs.Graph.{GraphModel, edges_of, files_of}
use Rattle.nj_graph.specs.Handles.{GraphFiles}
use Rattle.nj_keys.specs.Pages.{BeginsAfter, leads, left_at, makers_of_files}

module _ (files : GraphFiles) (graph : GraphModel) (numbers : List FileNo) (of : graph ≡ files.graph)
    (are : map (path_at (files_of files.graph)) numbers ≡ files.paths) where
  pub row-is : row_of files.graph.built.graph numbers ≡ makers_of_files files
  row-is = ap (row_of_paths (edges_of files.graph)) are

  pub leads-is : (mark : List ℕ) (b : Bool)
      → is_valid (makers_of graph.built.graph) (row_of graph.built.graph numbers) mark ≡ b
      → leads files mark ≡ b
  leads-is mark b is =
      sym (ap (λ (g : GraphModel). is_valid (makers_of g.built.graph) (row_of g.built.graph numbers) mark) of
      ∙ ap (λ row. is_valid (makers_of files.graph.built.graph) row mark) row-is)
      ∙ is

  module _ (mark : List ℕ) (walk : WalkState) (begins : BeginsAt graph.built.graph numbers mark walk) where
    pub begins-after : BeginsAfter files mark walk
    begins-after = record {
      numbers = numbers;
      are_files = are;
      begins = subst (λ (g : GraphModel). BeginsAt g.built.graph numbers mark walk) of begins;
    }

    pub left-is : walk.left ≡ left_at files mark
    left-is =
        let g = files.graph.built.graph in
        begins.sound.left
        ∙ ap (λ h. rest_of h walk.targets walk.mark)
        (begins.graph ∙ ap (λ (h : GraphModel). h.built.graph) of)
        ∙ ap (λ (ns : List FileNo). rest_of g ns walk.mark) begins.targets
        ∙ ap (rest_of g numbers) begins.mark
        ∙ ap (λ row. rest (makers_of g) (count_of g) (is_phony g) row mark) row-is
