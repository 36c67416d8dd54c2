use Rattle.std.proofs.Common.{◌≡◌, ◌<◌, ◌+◌, ℕ, List, [], ◌++◌, take, length, get_or, ap, ◌∙◌}
use Rattle.std.specs.Borrow.{Bor}
use Rattle.std.specs.List.{flat_map}
use Rattle.std.proofs.lemmas.List.{flat_map_more, take_all}
use Rattle.nj_ask.specs.Inside.Lent.{change_model, texts}
use Rattle.nj_ask.specs.Inside.Reached.{warning_by}
use Rattle.nj_ask.proofs.LineLemmas.{mapped-more}
use Rattle.nj_ask.proofs.report.warnings_about.Goals as goal

-- the text about one more path
text-more : (warn : List ℕ → List ℕ) (paths : List (Bor (List ℕ))) (i : ℕ) (d : Bor (List ℕ))
    → i < length paths → (text new : List ℕ) → text ≡ flat_map warn (texts (take i paths))
    → new ≡ text ++ warn (get_or paths i d).now → new ≡ flat_map warn (texts (take (i + 1) paths))
text-more warn paths i d below text new held more =
    more ∙ ap (λ t. t ++ warn (get_or paths i d).now) held
    ∙ flat_map_more warn [] (texts (take i paths)) (get_or paths i d).now
    ∙ ap (flat_map warn) (mapped-more (λ (v : Bor (List ℕ)). v.now) paths i d below)

pub paths-preserved : goal.paths-preserved
paths-preserved c =
    let warn = warning_by c.args.opened.now c.args.tables.now (change_model c.args.change) in
    text-more warn c.args.change.paths.now c.paths.path-index _ c.paths-test.true c.paths.warnings.items
    c.push_warning.new.warnings.items c.paths.invariant c.in_ok-push_warning.ensures

pub returns : goal.returns
returns c =
    c.paths.invariant
    ∙ ap (λ paths. flat_map (warning_by c.args.opened.now c.args.tables.now (change_model c.args.change))
    (texts paths)) (take_all c.paths.path-index c.args.change.paths.now c.paths-test.false)
