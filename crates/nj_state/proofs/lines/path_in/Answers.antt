use Rattle.std.proofs.Common.{[], List, ℕ, Option, ap, sym, ◌∙◌}
use Rattle.std.specs.Prelude.{unwrap_or}
use Rattle.nj_state.proofs.LineLemmas.{none_at_place, some_at_place}
use Rattle.nj_state.proofs.lines.path_in.Goals as goal

pub returns-in-Some : goal.returns-in-Some
returns-in-Some c = λ paths are.
    ap (λ (o : Option (List ℕ)). unwrap_or o []) (sym c.path.ensures
    ∙ some_at_place c.args.graph.now.files c.args.files.now paths c.args.place c.in-Some.file are
    (sym c.file_in.ensures ∙ c.in-Some.is))

pub returns-in-None : goal.returns-in-None
returns-in-None c = λ paths are.
    ap (λ (o : Option (List ℕ)). unwrap_or o [])
    (sym (none_at_place c.args.graph.now.files c.args.files.now paths
    c.args.place are (sym c.file_in.ensures ∙ c.in-None.is)))
