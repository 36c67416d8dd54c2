use Rattle.std.proofs.Common.{◌+◌, ◌∷◌, take, sym, ap, ◌∙◌}
use Rattle.std.specs.List.{slice_split}
use Rattle.nj_audit.specs.WordNames.{is_sign}
use Rattle.nj_audit.proofs.PartLemmas.{split-none, split-some}
use Rattle.nj_audit.proofs.PlainLemmas.{rest-is}
use Rattle.nj_audit.proofs.word_names.split_part.Goals as goal

pub returns-in-Some : goal.returns-in-Some
returns-in-Some c =
    let text = c.args.text.now in
    let index = c.in-Some.index in
    split-some text index (sym c.sign_position.ensures.position ∙ c.in-Some.is)
    ∙ ap (λ t. take index text ∷ slice_split is_sign t) (sym (rest-is (index + 1) text))

pub returns-in-None : goal.returns-in-None
returns-in-None c = split-none c.args.text.now (sym c.sign_position.ensures.position ∙ c.in-None.is)
