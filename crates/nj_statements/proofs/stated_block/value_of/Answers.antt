use Rattle.std.proofs.Common.{◌∷◌, ◌++◌, sym, ap, ◌∙◌}
use Rattle.std.proofs.lemmas.List.{append-nil}
use Rattle.nj_text.specs.Words.{word_model}
use Rattle.nj_scope.specs.Scopes.{expanded}
use Rattle.nj_scope.specs.ReadingList.{value_after}
use Rattle.nj_statements.proofs.stated_block.value_of.Goals as goal

pub returns-in-Some : goal.returns-in-Some
returns-in-Some c = λ entries around declared within.
    sym (ap (expanded (value_after entries (c.args.scope.0 ∷ around))) c.in-Some.ensures
    ∙ append-nil c.in-Some.bytes.now)

pub returns : goal.returns
returns c = λ entries around declared within.
    c.as_slice.ensures.value ∙ c.in_ok-append_expanded.ensures entries around declared within
    ∙ ap (λ front. front ++ expanded (value_after entries (c.args.scope.0 ∷ around))
    (word_model c.args.word.now).parts) c.clear.ensures.items
