use Rattle.std.proofs.Common.{◌≡◌, ◌+◌, ◌≤◌, ℕ, Bool, ◌++◌, List, map, length, zero, suc, refl, sym, ap, ◌∙◌}
use Rattle.std.proofs.Common.{arith}
use Rattle.std.specs.Prelude.{bytes_eq}
use Rattle.std.specs.List.{IsDistinct, cons_option, filter_map, range_with_len}
use Rattle.nj_names.specs.NameTables.{name_at}
use Rattle.nj_graph.specs.Graph.{GraphModel, files_of}
use Rattle.nj_graph.specs.Handles.{files_in}
use Rattle.nj_graph.proofs.HandleLemmas.{all-named, number-is}
use Rattle.nj_audit.specs.Audit.{missing_source}
use Rattle.nj_audit.specs.Inside.Handles.{missing_file}
use Rattle.nj_audit.proofs.sources.find_missing_sources.Goals as goal

module _ (g : GraphModel) (missing serving : List Bool) (once : IsDistinct bytes_eq (files_of g)) where
  by-number : (place count : ℕ) → place + count ≤ length (files_of g)
      → filter_map (missing_file missing serving)
      (files_in g (map (name_at (files_of g)) (range_with_len place count)))
      ≡ filter_map (missing_source g missing serving) (range_with_len place count)
  by-number place zero within = refl
  by-number place (suc count) within =
      ap (λ n. cons_option (missing_source g missing serving n) (filter_map (missing_file missing serving)
      (files_in g (map (name_at (files_of g)) (range_with_len (place + 1) count)))))
      (sym (number-is g place once (omega (arith, within))))
      ∙ ap (cons_option (missing_source g missing serving place)) (by-number (place + 1) count
      (omega (arith, within)))

pub files-init : goal.files-init
files-init c =
    let g = c.args.graph.now in
    let missing = missing_file c.args.missing.now c.args.serving.now in
    ap (λ fs. c.args.found.now ++ filter_map missing fs)
    (c.into_iter-file-iterator.ensures.into_iter_gives ∙ c.files-file-items.ensures.files
    ∙ ap (files_in g) (sym (all-named (files_of g))))
    ∙ ap (λ t. c.args.found.now ++ t) (by-number g c.args.missing.now c.args.serving.now
    c.files-file-items.ensures.each_path_once 0 (length (files_of g)) (omega arith))
