-- The path that a name is already.
use Rattle.std.proofs.Common.{◌≡◌, ℕ, Some, List, [], ◌∷◌, sym, ap, ◌∙◌}
use Rattle.nj_text.specs.Paths.{clean_path_of}
use Rattle.nj_graph.proofs.LogLemmas.{clean-empty}
use Rattle.nj_audit.specs.NamedPaths.{path_named, without_folder}

pub clean-named : (folder name : List ℕ) → clean_path_of name ≡ name
    → path_named folder name ≡ Some (without_folder folder name)
clean-named folder [] is = let none = sym clean-empty ∙ is in cc
clean-named folder (b ∷ name) is = ap (λ path. Some (without_folder folder path)) is
