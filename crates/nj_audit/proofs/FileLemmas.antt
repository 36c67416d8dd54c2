-- Files that are found one by one.
use Rattle.std.proofs.Common.{◌≡◌, ℕ, Bool, true, false, cond, Some, None, List, [], ◌∷◌, ◌++◌, map}
use Rattle.std.proofs.Common.{sym, ap, ◌∙◌}
use Rattle.std.proofs.Common.{append-nil, append_assoc}
use Rattle.std.specs.Prelude.{option_and_then}
use Rattle.std.specs.List.{cons_option, filter_map, list_any}
use Rattle.std.proofs.lemmas.List.Elements.{filter_map-append}
use Rattle.nj_graph.specs.Graph.{GraphModel, files_of}
use Rattle.nj_graph.specs.Handles.{GraphFile, file_in}
use Rattle.nj_audit.specs.Audit.{path_of}
use Rattle.nj_audit.specs.NamedPaths.{SeenName, number_at, path_seen, seen_from}
use Rattle.nj_audit.specs.WordNames.{after_sign, is_sign, names_in_parts, names_in_text}
use Rattle.nj_audit.specs.ReadWords.{names_in_word}
use Rattle.nj_audit.specs.UnorderedFiles.{file_if_meant, file_named, is_meant}
use Rattle.nj_audit.specs.Inside.FilesNamed.{AddsFiles}
use Rattle.nj_audit.specs.Inside.Handles.{files_numbered}
use Rattle.nj_audit.proofs.ListLemmas.{map-append}

-- ---- the names in a word

pub no-signs : (folder word : List ℕ) → list_any is_sign word ≡ false
    → names_in_word folder word ≡ map (seen_from folder) (names_in_text word)
no-signs folder word none =
    ap (λ b. map (seen_from folder) (names_in_text word
    ++ cond b (cons_option (after_sign word) [] ++ names_in_parts word) [])) none
    ∙ ap (map (seen_from folder)) (append-nil (names_in_text word))

pub with-signs : (folder word : List ℕ) → list_any is_sign word ≡ true
    → names_in_word folder word
    ≡ map (seen_from folder) (names_in_text word)
    ++ (map (seen_from folder) (cons_option (after_sign word) [])
    ++ map (seen_from folder) (names_in_parts word))
with-signs folder word some =
    ap (λ b. map (seen_from folder) (names_in_text word
    ++ cond b (cons_option (after_sign word) [] ++ names_in_parts word) [])) some
    ∙ map-append (seen_from folder) (names_in_text word)
    (cons_option (after_sign word) [] ++ names_in_parts word)
    ∙ ap (λ names. map (seen_from folder) (names_in_text word) ++ names)
    (map-append (seen_from folder) (cons_option (after_sign word) []) (names_in_parts word))

-- ---- files

-- the file at the path of a name, if it is meant
file-if : (g : GraphModel) (folder : List ℕ) (seen : SeenName) (path : List ℕ) (number : ℕ) (b : Bool)
    → path_seen folder seen ≡ Some path → number_at (files_of g) path ≡ Some number
    → is_meant g seen.name (path_of g number) ≡ b → file_named g folder seen ≡ cond b (Some number) None
file-if g folder seen path number b p n m =
    ap (λ o. option_and_then (file_if_meant g seen.name) (option_and_then (number_at (files_of g)) o)) p
    ∙ ap (option_and_then (file_if_meant g seen.name)) n ∙ ap (λ b. cond b (Some number) None) m

pub adds-meant : (g : GraphModel) (folder : List ℕ) (seen : SeenName) (path : List ℕ) (number : ℕ)
    (old new : List GraphFile)
    → path_seen folder seen ≡ Some path → number_at (files_of g) path ≡ Some number
    → is_meant g seen.name (path_of g number) ≡ true → new ≡ old ++ file_in g (path_of g number) ∷ []
    → AddsFiles g folder (seen ∷ []) old new
adds-meant g folder seen path number old new p n m is =
    is ∙ ap (λ o. old ++ files_numbered g (cons_option o []))
    (sym (file-if g folder seen path number true p n m))

pub adds-unmeant : (g : GraphModel) (folder : List ℕ) (seen : SeenName) (path : List ℕ) (number : ℕ)
    (old : List GraphFile)
    → path_seen folder seen ≡ Some path → number_at (files_of g) path ≡ Some number
    → is_meant g seen.name (path_of g number) ≡ false → AddsFiles g folder (seen ∷ []) old old
adds-unmeant g folder seen path number old p n m =
    sym (append-nil old) ∙ ap (λ o. old ++ files_numbered g (cons_option o []))
    (sym (file-if g folder seen path number false p n m))

module _ (g : GraphModel) (folder : List ℕ) where
  -- the files that the given names mean
  abbrev pub files_at : List SeenName → List GraphFile
  files_at names = files_numbered g (filter_map (file_named g folder) names)

  pub files-append : (names more : List SeenName) → files_at (names ++ more) ≡ files_at names ++ files_at more
  files-append names more =
      ap (files_numbered g) (filter_map-append (file_named g folder) names more)
      ∙ map-append (λ n. file_in g (path_of g n)) (filter_map (file_named g folder) names)
      (filter_map (file_named g folder) more)

  pub adds-then : (names more : List SeenName) (first old new : List GraphFile)
      → AddsFiles g folder names first old → AddsFiles g folder more old new
      → AddsFiles g folder (names ++ more) first new
  adds-then names more first old new a b =
      b ∙ ap (λ fs. fs ++ files_at more) a ∙ append_assoc first (files_at names) (files_at more)
      ∙ ap (λ fs. first ++ fs) (sym (files-append names more))
