use Rattle.std.proofs.Common.{◌≡◌, ◌+◌, ◌==◌, ◌&&◌, if◌then◌else◌, not, is_some, List, [], ◌∷◌, ◌++◌, take}
use Rattle.std.proofs.Common.{drop, Bool, true, false, Some, bytes_eq, arith, refl, sym, ap, subst, ◌∙◌}
use Rattle.std.specs.Option.{option_or}
use Rattle.std.proofs.lemmas.Bool.{ne_eqb}
use Rattle.std.proofs.lemmas.List.{at_drop_all, take_all}
use Rattle.nj_manifest.specs.declared.statement.Line.{Line}
use Rattle.nj_manifest.specs.Contents.{line_model, lines_model}
use Rattle.nj_scope.specs.ReadingList.{value_after}
use Rattle.nj_edge_env.specs.Blocks.{bound_in, names_in}
use Rattle.nj_statements.specs.EdgeList.{Values, block_of}
use Rattle.nj_edges.specs.Repeats.{each_once}
use Rattle.nj_statements.proofs.Lists.{at-next}
use Rattle.nj_statements.proofs.Blocks.{block-turn}
use Rattle.nj_statements.proofs.BlockNames.{AreNamesSoFar, line_names, names-turn, names-next}
use Rattle.nj_statements.proofs.stated_block.bind_block.Goals as goal

pub lines-preserved : goal.lines-preserved
lines-preserved c = record {
  last = let is = c.bind.ensures.last in omega (arith, is);
  others = λ e name below.
      c.in_ok-bind.ensures.bound e name
      ∙ ap (λ b. if b && bytes_eq name c.line-item.result.name.now then Some c.in_ok-value.value.now else
      bound_in c.lines.blocks e name) (ne_eqb e c.args.edge (λ is. omega (arith, is, below)))
      ∙ c.lines.invariant.others e name below;
  names = λ none empty.
      subst (AreNamesSoFar c.bind.new.self c.args.edge)
      (sym (names-next c.args.lines.now c.lines.line-index c.line-item.result c.lines-test.true
      c.line-item.is))
      (names-turn c.lines.blocks c.bind.new.self c.args.edge
      (line_names (take c.lines.line-index c.args.lines.now)) c.line-item.result.name.now
      c.in_ok-value.value.now (c.lines.invariant.names none empty) c.in_ok-bind.ensures.bound
      c.in_ok-bind.ensures.names);
  other_names = λ e other.
      c.in_ok-bind.ensures.names e
      ∙ ap (λ b. if b && not (is_some (bound_in c.lines.blocks c.args.edge c.line-item.result.name.now)) then
      names_in c.lines.blocks e ++ c.line-item.result.name.now ∷ [] else names_in c.lines.blocks e) other
      ∙ c.lines.invariant.other_names e other;
  bound = λ entries around declared within e name.
      let values : Values = value_after entries (c.args.scope.0 ∷ around) in
      let bound = c.in_ok-bind.ensures.bound e name in
      block-turn values c.args.edge e (line_model c.line-item.result)
      (lines_model (drop (c.lines.line-index + 1) c.args.lines.now)) name
      (bound_in c.bind.new.self e name) (bound_in c.lines.blocks e name)
      (bound ∙ ap (λ value. if e == c.args.edge
      && bytes_eq name c.line-item.result.name.now then Some value else bound_in c.lines.blocks e name)
      (c.in_ok-value.ensures entries around declared within))
      ∙ sym (at-next (λ (ls : List Line). if e ==
      c.args.edge then option_or (block_of values (lines_model ls) name) (bound_in c.lines.blocks e name) else
      bound_in c.lines.blocks e name) c.args.lines.now c.lines.line-index c.line-item.result c.lines-test.true
      c.line-item.is)
      ∙ c.lines.invariant.bound entries around declared within e name;
}

pub returns-in_err-bind-clause-others : goal.returns-in_err-bind-clause-others
returns-in_err-bind-clause-others c = λ e name below. c.in_err-bind.ensures.refused e name
    ∙ c.lines.invariant.others e name below

pub returns-in_err-bind-clause-other_names : goal.returns-in_err-bind-clause-other_names
returns-in_err-bind-clause-other_names c =
    λ e other. c.in_err-bind.ensures.same_names e ∙ c.lines.invariant.other_names e other

pub returns-clause-names : goal.returns-clause-names
returns-clause-names c = λ none empty.
    (c.lines.invariant.names none empty).are
    ∙ ap (λ ls. each_once bytes_eq (line_names ls))
    (take_all c.lines.line-index c.args.lines.now c.lines-test.false)

pub returns-clause-bound : goal.returns-clause-bound
returns-clause-bound c = λ entries around declared within e name.
    let values : Values = value_after entries (c.args.scope.0 ∷ around) in
    sym (at_drop_all (λ (ls : List Line). if e ==
    c.args.edge then option_or (block_of values (lines_model ls) name) (bound_in c.lines.blocks e name)
    else bound_in c.lines.blocks e name) c.args.lines.now c.lines.line-index c.lines-test.false
    ∙ by (e == c.args.edge))
    ∙ c.lines.invariant.bound entries around declared within e name
  where
    by : {X : Type 0} {x : X} (b : Bool) → (if b then x else x) ≡ x
    by true = refl
    by false = refl
