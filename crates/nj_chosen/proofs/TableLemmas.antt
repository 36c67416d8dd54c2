-- The tables of a change.
use Rattle.std.proofs.Common.{◌≡◌, ℕ, ◌&&◌, List, [], map, ap, subst, ◌∙◌}
use Rattle.std.proofs.Math.Path.{fun_ext}
use Rattle.nj_chosen.specs.declared.tables.PathTables.{PathTables}
use Rattle.nj_chosen.specs.Directories.{is_telling}
use Rattle.nj_tests.specs.Tests.{TestModel}
use Rattle.nj_chosen.specs.Reasons.{counted, has_below, kinds_of, without}
use Rattle.nj_chosen.specs.Inside.Folders.{AreFoldersOf}
use Rattle.nj_chosen.specs.Inside.Tables.{has_folder, kinds_in}
use Rattle.nj_chosen.specs.ChangedPaths.{change_by}
use Rattle.nj_chosen.proofs.NameLemmas.{without-none}

folder-kinds : (roots paths folders : List (List ℕ)) → AreFoldersOf paths folders
    → has_folder roots folders ≡ has_below roots paths
folder-kinds roots paths folders are = fun_ext (λ folder. ap (λ t. is_telling roots folder && t) (are folder))

pub kinds-are : (t : PathTables) (build : List ℕ) (tests : List TestModel)
    → AreFoldersOf (without [] t.paths.made) t.made_folders
    → AreFoldersOf (counted (change_by build t.paths) tests) t.counted_folders
    → kinds_in t ≡ kinds_of (change_by build t.paths) tests
kinds-are t build tests made counts =
    let c = change_by build t.paths in
    let roots = map (λ root. root.items) t.paths.roots.items in
    ap (λ has. record (kinds_in t) { has_outputs = has })
    (folder-kinds roots t.paths.made t.made_folders
    (subst (λ paths. AreFoldersOf paths t.made_folders) (without-none t.paths.made) made))
    ∙ ap (λ has. record (kinds_of c tests) { has_counted = has })
    (folder-kinds roots (counted c tests) t.counted_folders counts)
