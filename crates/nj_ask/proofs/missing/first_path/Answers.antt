use Rattle.std.proofs.Common.{List, ℕ, Option, [], unwrap_or, option_map, ap, sym, ◌∙◌}
use Rattle.nj_names.specs.Files.{path_at}
use Rattle.nj_ask.proofs.ObjectLemmas.{path-at-place}
use Rattle.nj_ask.proofs.missing.first_path.Goals as goal

pub returns-in-Some : goal.returns-in-Some
returns-in-Some c = λ paths are.
    let g = c.args.graph.now in
    let or-none = λ (o : Option (List ℕ)). unwrap_or o [] in
    ap or-none (sym c.path.ensures)
    ∙ ap or-none (ap (option_map (path_at g.files)) (sym c.in-Some.is ∙ c.number_at.ensures)
    ∙ path-at-place g.files c.args.files.now paths 0 are)

pub returns-in-None : goal.returns-in-None
returns-in-None c = λ paths are.
    let g = c.args.graph.now in
    ap (λ (o : Option (List ℕ)). unwrap_or o [])
    (ap (option_map (path_at g.files)) (sym c.in-None.is ∙ c.number_at.ensures)
    ∙ path-at-place g.files c.args.files.now paths 0 are)
