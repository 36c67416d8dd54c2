use Rattle.std.proofs.Common.{ℕ, List, map, string_bytes, sym, ap, ◌∙◌}
use Rattle.std.specs.Borrow.{Bor}
use Rattle.std.specs.List.{flat_map}
use Rattle.std.proofs.lemmas.List.{take_all}
use Rattle.std.proofs.lemmas.List.Folds.{flat_map-map}
use Rattle.nj_names.specs.NameTables.{is_among}
use Rattle.nj_changes.specs.FullPaths.{sought}
use Rattle.nj_changes.proofs.full_paths.all_sought.Goals as goal

pub returns : goal.returns
returns c name =
    let paths = c.args.paths.now in
    let at = sought c.args.folder.now (map string_bytes c.args.dirs.now) in
    c.paths.invariant name
    ∙ ap (λ names. is_among names name)
    (ap (flat_map (λ (path : Bor (List ℕ)). at path.now))
    (take_all c.paths.path-index paths c.paths-test.false)
    ∙ sym (flat_map-map at (λ (path : Bor (List ℕ)). path.now) paths))
