use Rattle.std.proofs.Common.{◌≡◌, true, sym, ◌∙◌}
use Rattle.nj_globs.specs.Patterns.{is_lone}
use Rattle.nj_globs.proofs.LetterLemmas.{lone-found}
use Rattle.nj_globs.proofs.letters.read_letters.Goals as goal

pub returns-then-is_sign-clause-fault : goal.returns-then-is_sign-clause-fault
returns-then-is_sign-clause-fault c =
    let letter = c.split_letter.result.0 in
    let lone : is_lone letter ≡ true = sym c.is_sign.ensures ∙ c.if-is_sign.true in
    lone-found c.args.pattern.now c.letters.rest.now c.in-Some.others.now c.split_letter.result.1.now
    c.letters.letters.items letter c.in-Some.first.now _ _ c.letters.invariant.cut c.in-Some.ensures.cases.0
    c.split_letter.ensures.letter c.letters.invariant.fine lone c.split_letter.ensures.at
