use Rattle.std.proofs.Common.{◌≡◌, ◌∷◌, false, true≢false, IsUtf8, ap, sym, ◌∙◌, subst}
use Rattle.nj_text.specs.Words.{word_model}
use Rattle.nj_text.specs.Calls.{is_empty}
use Rattle.nj_faults.specs.Faults.{IsFault}
use Rattle.nj_graph.specs.Reading.{expanded_in}
use Rattle.nj_graph.proofs.Faultless.{empty-by_length, path-whole, path-bad}
use Rattle.nj_graph.proofs.reader.Reader.path.Goals as goal

pub returns-in-Ok : goal.returns-in-Ok
returns-in-Ok c = λ main entries around depth has inside.
    let is = c.in_ok-path.ensures entries around has.declares inside.within in
    let gives = ap (λ v. v.items) c.in-Ok.ensures.ok ∙ is in
    let full = subst (λ v. is_empty v ≡ false) (c.as_slice.ensures.value ∙ is)
    (empty-by_length c.as_slice.result.now false c.if-is_empty.ensures) in (
      path-whole c.args.file.name.now c.args.word.now.spot
          (expanded_in (c.args.file.scope.0 ∷ around) entries (word_model c.args.word.now)) c.in-Ok.path full
          gives,
      gives,
    )

pub returns : goal.returns
returns c = λ main entries around depth has inside.
    let is = c.in_ok-path.ensures entries around has.declares inside.within in
    let full = subst (λ v. is_empty v ≡ false) (c.as_slice.ensures.value ∙ is)
    (empty-by_length c.as_slice.result.now false c.if-is_empty.ensures) in
    let bad = path-bad c.args.file.name.now c.args.word.now.spot
    (expanded_in (c.args.file.scope.0 ∷ around) entries (word_model c.args.word.now)) full
    (λ good. true≢false (sym (c.in-Err.ensures.succeeds (subst IsUtf8 (sym is) good)))) in
    subst (λ f. IsFault f c.fault-in-Err.result) (sym bad) c.fault-in-Err.ensures
