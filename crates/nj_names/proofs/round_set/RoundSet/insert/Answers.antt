use Rattle.std.proofs.Common.{◌<◌, length, nat_eq, ap, subst, sym, ◌∙◌}
use Rattle.std.proofs.lemmas.List.{get_or_read}
use Rattle.nj_names.specs.NumberSets.{NumberSetModel}
use Rattle.nj_names.proofs.RoundLemmas.{apart-eqb, marked-push}
use Rattle.nj_names.proofs.round_set.RoundSet.insert.Goals as goal

pub invariant_of-self-2 : goal.invariant_of-self-2
invariant_of-self-2 c =
    let marks = c.self.inside.marks.items in
    let round = c.self.inside.round in
    let below : c.args.number < length marks =
    subst (λ (s : NumberSetModel). c.args.number < s.limit) (sym c.self.view_is) c.requires in
    let read = get_or_read marks c.args.number c.index.result.now below c.index.ensures 0 in
    let unset = ap (λ m. nat_eq m round) (sym read) ∙ apart-eqb c.index.result.now round c.if-index-self.false
    in
    rw c.in_ok-push.ensures.items (marked-push marks round c.self.inside.numbers.items c.args.number below
    c.self.invariant unset)
