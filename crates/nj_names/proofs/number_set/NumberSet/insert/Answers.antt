use Rattle.std.proofs.Common.{◌<◌, false, length, subst, sym, ◌∙◌}
use Rattle.std.proofs.lemmas.List.{get_or_read}
use Rattle.nj_names.specs.NumberSets.{NumberSetModel}
use Rattle.nj_names.proofs.NumberLemmas.{flagged-push}
use Rattle.nj_names.proofs.number_set.NumberSet.insert.Goals as goal

pub invariant_of-self-2 : goal.invariant_of-self-2
invariant_of-self-2 c =
    let flags = c.self.inside.flags.items in
    let below : c.args.number < length flags =
    subst (λ (s : NumberSetModel). c.args.number < s.limit) (sym c.self.view_is) c.requires in
    let unset = sym (get_or_read flags c.args.number c.index.result.now below c.index.ensures false)
    ∙ c.if-index.false in
    rw c.in_ok-push.ensures.items (flagged-push flags c.self.inside.numbers.items c.args.number below
    c.self.invariant unset)
