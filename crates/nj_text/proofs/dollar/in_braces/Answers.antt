use Rattle.std.proofs.Common.{◌∷◌, ◌++◌, ap, ◌∙◌}
use Rattle.nj_text.proofs.Cuts.{braces_land, identifiers_no_feed}
use Rattle.nj_text.proofs.dollar.in_braces.Goals as goal

pub returns-in-Some-eq125-default-clause-lands : goal.returns-in-Some-eq125-default-clause-lands
returns-in-Some-eq125-default-clause-lands c = λ b no_feed spot.
    let name = c.split_run.result.0.now in
    let found = c.in-Some-eq125-default in
    let whole = c.split_run.ensures.whole ∙ ap (λ remainder. name ++ remainder)
    (found.ensures ∙ ap (λ x. x ∷ found.field-0-1.now) found.field-0-0-test) in
    braces_land b name found.field-0-1.now c.args.bytes.now spot no_feed
    (rw c.split_run.ensures.run (identifiers_no_feed c.args.bytes.now)) whole
