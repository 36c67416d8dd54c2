use Rattle.std.proofs.Common.{rules, ◌≡◌, map, take, length, ap, refl, sym, ◌∙◌, arith, Some}
use Rattle.std.specs.Prelude.{slice_get}
use Rattle.std.proofs.Math.Seq.{take-length}
use Rattle.std.proofs.lemmas.Cmp.{nat_list_cmp_total}
use Rattle.std.proofs.lemmas.List.Sorted.{ranks_by}
use Rattle.std.proofs.lemmas.Fn.{answers_by}
use Rattle.nj_scope.specs.Rules.{rules_in}
use Rattle.nj_graph.specs.Graph.{rule_name}
use Rattle.nj_graph.proofs.ListedLemmas.{listed-rule, passed-rule, sorted-held, comes_before}
use Rattle.nj_graph.proofs.graph.rules_of_main.Goals as goal
use Rattle.nj_graph.proofs.graph.rules_of_main.Goals.{then-scope+in_ok-push, else-scope}

pub rules-preserved : goal.rules-preserved
rules-preserved c =
    elim c.if-scope.branch [
      | then-scope+in_ok-push w ↦
          ap (λ v. map (slice_get c.args.rules.now) v.items) w.numbers-is
          ∙ ap (map (slice_get c.args.rules.now)) w.in_ok-push.ensures.items
          ∙ listed-rule c.args.rules.now c.rules.numbers.items c.rules.number c.index-rules-number.result
          c.rules-test.true c.index-rules-number.is c.rules.invariant (sym c.scope.ensures ∙ w.if-scope.true)
      | else-scope w ↦
          ap (λ v. map (slice_get c.args.rules.now) v.items) w.numbers-is
          ∙ passed-rule c.args.rules.now c.rules.numbers.items c.rules.number c.index-rules-number.result
          c.rules-test.true c.index-rules-number.is c.rules.invariant
          (λ h. w.if-scope.false (c.scope.ensures ∙ h))
    ]

pub returns : goal.returns
returns c =
    let all : c.rules.number ≡ length c.args.rules.now = omega arith in
    let every = ranks_by nat_list_cmp_total (rule_name c.args.rules.now) in
    sorted-held c.args.rules.now c.rules.numbers.items c.sort_by.new.self.items
    (c.rules.invariant ∙ ap (λ n. map (λ r. Some r) (rules_in (take n c.args.rules.now) 0)) all
    ∙ ap (λ rs. map (λ r. Some r) (rules_in rs 0)) (take-length c.args.rules.now))
    (c.in_ok-sort_by.ensures.sorted (comes_before c.args.rules.now) every
    (answers_by _ _ (λ f. f.0.now ≡ c.args.rules.now) (λ f a r g h same. (search rules, search rules)) _
    refl))
    (c.in_ok-sort_by.ensures.stable (comes_before c.args.rules.now) every
    (answers_by _ _ (λ f. f.0.now ≡ c.args.rules.now) (λ f a r g h same. (search rules, search rules)) _
    refl))
