use Rattle.std.proofs.Common.{◌++◌, ◌∷◌, [], Bool, true, List, sym, ap, subst, ◌∙◌}
use Rattle.std.proofs.lemmas.List.{map-append}
use Rattle.std.proofs.lemmas.Result.{err_from_is_err_and}
use Rattle.nj_globs.specs.Globs.{GlobPart}
use Rattle.nj_globs.specs.Patterns.{AreParts}
use Rattle.nj_globs.specs.Inside.Fits.{part_model, parts_model}
use Rattle.nj_globs.proofs.ReadingLemmas.{read-more, read-fails}
use Rattle.nj_globs.proofs.reading.read_parts.Goals as goal

pub letters-preserved : goal.letters-preserved
letters-preserved c =
    let letters = c.args.letters.now in
    let items = c.letters.parts.items in
    let part = c.in_ok-part.part in
    let after = c.in_ok-part.after.now in
    let more = read-more (parts_model items) letters c.letters.rest.now c.letters.begins c.in-Some.first.now
    c.in-Some.others.now after (part_model part) c.letters.invariant c.in-Some.ensures.cases.0
    c.in_ok-part.ensures.part in
    let all = ap parts_model c.in_ok-push.ensures.items ∙ map-append part_model items (part ∷ []) in
    subst (λ (ps : List GlobPart). AreParts true ps letters after c.begins_after-begins.result) (sym all)
    (subst (λ (b : Bool). AreParts true (parts_model items ++ part_model part ∷ []) letters after b)
    (sym c.begins_after-begins.ensures) more)

pub returns-in_err-part-clause-fault : goal.returns-in_err-part-clause-fault
returns-in_err-part-clause-fault c =
    let given = read-fails (parts_model c.letters.parts.items) c.args.letters.now c.letters.rest.now
    c.letters.begins
    c.in-Some.first.now c.in-Some.others.now c.in_err-part.field-0.0 c.letters.invariant
    c.in-Some.ensures.cases.0 c.in_err-part.ensures.fault in
    let p = err_from_is_err_and c.from_residual.result c.from_residual.ensures.1 in
    rw (p.1, p.2) given
