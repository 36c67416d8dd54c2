use Rattle.std.proofs.Common.{◌≡◌, ◌++◌, ℕ, List, All, map}
use Rattle.nj_tools.specs.Inside.Collections.{HasExactly, new_paths, with_paths}
use Rattle.nj_tools.specs.Inside.Pieces.{printed_text}
use Rattle.nj_tools.proofs.input_lists.append_new_files.Given as goal

abbrev pub invariant-files : goal.invariant-files
invariant-files l = record {
  graph : l.written.graph ≡ l.fn.written.graph;
  all : All (λ file. file.graph ≡ l.fn.written.graph) l.file-iterator;
  left : (earlier : List (List ℕ)) → HasExactly l.fn.written earlier
      → (now : List (List ℕ)) × HasExactly l.written now
      × (with_paths now (map (λ file. file.path) l.file-iterator)
      ≡ with_paths earlier (map (λ file. file.path) l.fn.files))
      × (l.text.items ++ printed_text l.style (new_paths now (map (λ file. file.path) l.file-iterator))
      ≡ l.fn.text.items ++ printed_text l.style (new_paths earlier (map (λ file. file.path) l.fn.files)));
}
