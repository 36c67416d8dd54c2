use Rattle.std.proofs.Common.{[], ◌∷◌, ◌++◌, ap, append_assoc, map, subst, sym, ◌∙◌}
use Rattle.nj_text.specs.Paths.{clean_path_of}
use Rattle.nj_discovered.specs.Inside.Numbers.{Appends}
use Rattle.nj_discovered.proofs.FinderLemmas.{appends-then, map-append}
use Rattle.nj_discovered.proofs.by_log.numbers_of_paths.Goals as goal

pub paths-preserved : goal.paths-preserved
paths-preserved c =
    let path = c.in-Some.path.now in
    let so_far = c.paths.invariant in
    let names = c.add_clean.new.names in
    let numbers = c.add_clean.new.numbers.items in (
      so_far.0 ++ path ∷ [],
      append_assoc so_far.0 (path ∷ []) c.next.new.self
          ∙ ap (λ left. so_far.0 ++ left) (sym c.in-Some.ensures.steps) ∙ so_far.1,
      subst (λ paths. Appends paths [] names [] numbers) (sym (map-append clean_path_of so_far.0 (path ∷ [])))
          (appends-then (map clean_path_of so_far.0) (clean_path_of path ∷ []) [] c.paths.names names []
          c.paths.numbers.items numbers so_far.2 c.in_ok-add_clean.ensures),
    )
