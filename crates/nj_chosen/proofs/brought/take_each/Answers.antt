use Rattle.std.proofs.Common.{[], ◌<◌, refl, sym, ap, ◌∙◌, subst, string_bytes, map, take, ◌+◌}
use Rattle.nj_chosen.specs.Inside.Bringing.{AnswersOne}
use Rattle.nj_chosen.proofs.FindLemmas.{finds-none}
use Rattle.nj_chosen.proofs.AnswerLemmas.{answers-taken, below-taken, finds-each, finds-name, finds-taken}
use Rattle.nj_chosen.proofs.AnswerLemmas.{names-more}
use Rattle.nj_chosen.proofs.brought.take_each.Goals as goal

pub names-init : goal.names-init
names-init c = record {
  limit = refl;
  below = c.requires;
  answers = λ rows are. are;
  found = λ rows are. finds-none (AnswersOne rows []) c.args.found.now (λ n one. absurd (cc));
}

pub take_all-requires : goal.take_all-requires
take_all-requires c = λ name n has. subst (λ limit. n < limit) (sym c.names.invariant.limit)
    (c.names.invariant.below name n has)

pub names-preserved : goal.names-preserved
names-preserved c =
    let name = c.as_bytes.result.now in
    let left = c.take_all.ensures.left in
    let finds = c.in_ok-take_all.ensures.found in
    let names = c.args.names.now in
    let i = c.names.name-index in
    record {
      limit = finds.limit ∙ c.names.invariant.limit;
      below = below-taken c.names.numbers c.take_all.new.numbers name left c.args.found.now.limit
          c.names.invariant.below;
      answers = λ rows are. answers-taken c.names.numbers c.take_all.new.numbers name left rows c.names.found
          c.take_all.new.found (c.names.invariant.answers rows are) finds;
      found = λ rows are. finds-name rows (map string_bytes (take i names))
          (map string_bytes (take (i + 1) names))
          name c.args.found.now c.names.found c.take_all.new.found
          (names-more names i c.name-item.result name c.names-test.true
          (c.as_bytes.ensures.value ∙ ap string_bytes c.name-item.is))
          (c.names.invariant.found rows are)
          (finds-taken c.names.numbers c.take_all.new.numbers name left rows c.names.found
          c.take_all.new.found
          (c.names.invariant.answers rows are) finds);
    }

pub returns-clause-found : goal.returns-clause-found
returns-clause-found c = λ rows are. finds-each rows c.args.names.now c.names.name-index c.args.found.now
    c.names.found c.names-test.false (c.names.invariant.found rows are)
