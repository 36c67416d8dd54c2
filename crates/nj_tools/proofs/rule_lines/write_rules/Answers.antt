use Rattle.std.proofs.Common.{◌≡◌, ◌&&◌, ◌∷◌, ◌++◌, [], ℕ, List, Bool, true, false, if◌then◌else◌, ap}
use Rattle.std.proofs.Common.{flat_map, refl, rules, sym, ◌∙◌, arith, append_assoc, codes}
use Rattle.std.proofs.lemmas.List.{at_drop_all, at_drop_more}
use Rattle.nj_scope.specs.Rules.{RuleModel, phony_rule}
use Rattle.nj_graph.specs.Graph.{description_text, has_description, main_rule_at, main_rules, main_rules_of}
use Rattle.nj_graph.proofs.Stated.{graph-rules}
use Rattle.nj_tools.specs.Lines.{line}
use Rattle.nj_tools.specs.RuleLists.{rule_line}
use Rattle.nj_tools.proofs.OutputLemmas.{adds_block, leaves_all, leaves_next, leaves_none, stops_block}
use Rattle.nj_tools.proofs.OutputLemmas.{stops_next, text-stopped, text-written}
use Rattle.nj_tools.proofs.rule_lines.write_rules.Goals as goal
use Rattle.nj_tools.proofs.rule_lines.write_rules.Goals.{then-descriptions+then-has_description+in_ok-description+in_ok-append_line}
use Rattle.nj_tools.proofs.rule_lines.write_rules.Goals.{else-descriptions+in_ok-append_line-2}
use Rattle.nj_tools.proofs.rule_lines.write_rules.Goals.{else-descriptions-via-then-descriptions+else-has_description}
use Rattle.nj_tools.proofs.rule_lines.write_rules.Goals.{else-descriptions-via-else-descriptions}

-- a name, and a line with the rest of it
parts-of-line : (before name rest : List ℕ) → (before ++ name) ++ line rest ≡ before ++ line (name ++ rest)
parts-of-line before name rest =
    append_assoc before name (line rest) ∙ ap (λ t. before ++ t) (sym (append_assoc name rest (10 ∷ [])))

-- the line of a rule, by what comes after its name
rest-of-line : (descriptions : Bool) (rule : RuleModel) (before rest : List ℕ)
    → (if descriptions && has_description rule then codes ": " ++ description_text rule else []) ≡ rest
    → (before ++ rule.name) ++ line rest ≡ before ++ rule_line descriptions rule
rest-of-line descriptions rule before rest is =
    parts-of-line before rule.name rest ∙ ap (λ t. before ++ line (rule.name ++ t)) (sym is)

described : (descriptions : Bool) (rule : RuleModel) → descriptions ≡ true → has_description rule ≡ true
    → (if descriptions && has_description rule then codes ": " ++ description_text rule else [])
    ≡ codes ": " ++ description_text rule
described descriptions rule asked has = rw asked rw has refl

not-asked : (descriptions : Bool) (rule : RuleModel) → descriptions ≡ false
    → (if descriptions && has_description rule then codes ": " ++ description_text rule else []) ≡ []
not-asked descriptions rule asked = rw asked refl

not-described : (descriptions : Bool) (rule : RuleModel) → descriptions ≡ true → has_description rule ≡ false
    → (if descriptions && has_description rule then codes ": " ++ description_text rule else []) ≡ []
not-described descriptions rule asked has = rw asked rw has refl

pub rules-init : goal.rules-init
rules-init g c = record {
  same = search rules;
  left = λ entries graph. leaves_all _ _ _
      (ap (λ rules. flat_map (rule_line c.args.descriptions) (main_rules_of rules)) (graph-rules graph));
}

pub rules-preserved : goal.rules-preserved
rules-preserved g c =
    let rule = main_rule_at c.args.graph.now c.rules.index in
    let before = c.rules.output.pending.now.items in
    let named = c.in_ok-extend_from_slice.ensures.items ∙ ap (λ t. before ++ t) c.main_rule.ensures in
    let same : c.if-descriptions.output.sink.now ≡ c.rules.output.sink.now =
    elim c.if-descriptions.branch [
      | then-descriptions+then-has_description+in_ok-description+in_ok-append_line w ↦
          ap (λ o. o.sink.now) w.output-is
      | else-descriptions+in_ok-append_line-2 w ↦ ap (λ o. o.sink.now) w.output-is
    ] in
    let more : c.if-descriptions.output.pending.now.items ≡ before ++ rule_line c.args.descriptions rule =
    elim c.if-descriptions.branch [
      | then-descriptions+then-has_description+in_ok-description+in_ok-append_line w ↦
          ap (λ o. o.pending.now.items) w.output-is ∙ w.in_ok-append_line.ensures
          ∙ ap (λ t. t ++ line (codes ": " ++ w.deref.result.now)) named
          ∙ rest-of-line c.args.descriptions rule before _ (described c.args.descriptions rule
          w.if-descriptions.true (sym w.has_description.ensures ∙ w.if-has_description.true)
          ∙ ap (λ t. codes ": " ++ t) (sym (w.deref.ensures.value ∙ w.in_ok-description.ensures)))
      | else-descriptions+in_ok-append_line-2 w ↦
          ap (λ o. o.pending.now.items) w.output-is ∙ w.in_ok-append_line-2.ensures
          ∙ ap (λ t. t ++ line []) named
          ∙ rest-of-line c.args.descriptions rule before [] (elim w.else-descriptions.branch [
            | else-descriptions-via-then-descriptions+else-has_description v ↦
                not-described c.args.descriptions rule v.if-descriptions.true
                (sym v.has_description.ensures ∙ v.if-has_description.false)
            | else-descriptions-via-else-descriptions v ↦
                not-asked c.args.descriptions rule v.if-descriptions.false
          ])
    ] in
    record {
      same = search rules;
      left = λ entries graph.
          leaves_next _ _ (c.rules.invariant.left entries graph)
          (at_drop_more (flat_map (rule_line c.args.descriptions)) (main_rules c.args.graph.now) c.rules.index
          phony_rule (omega arith))
          (adds_block _ same more c.in_ok-write_block.ensures.text);
    }

pub returns-in_err-write_block : goal.returns-in_err-write_block
returns-in_err-write_block g c entries graph =
    let rule = main_rule_at c.args.graph.now c.rules.index in
    let before = c.rules.output.pending.now.items in
    let named = c.in_ok-extend_from_slice.ensures.items ∙ ap (λ t. before ++ t) c.main_rule.ensures in
    let same : c.if-descriptions.output.sink.now ≡ c.rules.output.sink.now =
    elim c.if-descriptions.branch [
      | then-descriptions+then-has_description+in_ok-description+in_ok-append_line w ↦
          ap (λ o. o.sink.now) w.output-is
      | else-descriptions+in_ok-append_line-2 w ↦ ap (λ o. o.sink.now) w.output-is
    ] in
    let more : c.if-descriptions.output.pending.now.items ≡ before ++ rule_line c.args.descriptions rule =
    elim c.if-descriptions.branch [
      | then-descriptions+then-has_description+in_ok-description+in_ok-append_line w ↦
          ap (λ o. o.pending.now.items) w.output-is ∙ w.in_ok-append_line.ensures
          ∙ ap (λ t. t ++ line (codes ": " ++ w.deref.result.now)) named
          ∙ rest-of-line c.args.descriptions rule before _ (described c.args.descriptions rule
          w.if-descriptions.true (sym w.has_description.ensures ∙ w.if-has_description.true)
          ∙ ap (λ t. codes ": " ++ t) (sym (w.deref.ensures.value ∙ w.in_ok-description.ensures)))
      | else-descriptions+in_ok-append_line-2 w ↦
          ap (λ o. o.pending.now.items) w.output-is ∙ w.in_ok-append_line-2.ensures
          ∙ ap (λ t. t ++ line []) named
          ∙ rest-of-line c.args.descriptions rule before [] (elim w.else-descriptions.branch [
            | else-descriptions-via-then-descriptions+else-has_description v ↦
                not-described c.args.descriptions rule v.if-descriptions.true
                (sym v.has_description.ensures ∙ v.if-has_description.false)
            | else-descriptions-via-else-descriptions v ↦
                not-asked c.args.descriptions rule v.if-descriptions.false
          ])
    ] in
    text-stopped c.args.out.now _ c.from_residual-in_err-write_block.result (search rules)
    c.from_residual-in_err-write_block.ensures.1
    (stops_next _ _ (c.rules.invariant.left entries graph)
    (at_drop_more (flat_map (rule_line c.args.descriptions)) (main_rules c.args.graph.now) c.rules.index
    phony_rule (omega arith))
    (stops_block _ same more c.in_err-write_block.ensures.text))

pub returns : goal.returns
returns g c entries graph =
    text-written c.args.out.now _ _ c.flush.result (search rules)
    (leaves_none (c.rules.invariant.left entries graph)
    (at_drop_all (flat_map (rule_line c.args.descriptions))
    (main_rules c.args.graph.now) c.rules.index (omega arith))) c.flush.ensures.writes
