use Rattle.std.proofs.Common.{◌≡◌, ◌<◌, ◌++◌, [], ℕ, List, true, false, None, Some, refl, length, get_or, sym}
use Rattle.std.proofs.Common.{ap, ◌∙◌, arith, option_map}
use Rattle.std.specs.List.{filter_map, cons_option}
use Rattle.std.proofs.lemmas.List.Elements.{filter_map-append}
use Rattle.std.proofs.lemmas.List.{get_or_read}
use Rattle.nj_scope.specs.Rules.{phony_rule}
use Rattle.nj_graph.specs.Graph.{GraphModel}
use Rattle.nj_graph.specs.Origins.{place_text, rule_place_at}
use Rattle.nj_faults.specs.declared.fault.Place.{Place}
use Rattle.nj_audit.specs.Audit.{is_used_rule, rule_of_number, unused_rule}
use Rattle.nj_audit.specs.declared.kinds.Kind.TheVariants.{UnusedRule}
use Rattle.nj_audit.proofs.ListLemmas.{all-numbers, more-numbers, none-found, same}
use Rattle.nj_audit.proofs.rules.find_unused_rules.Goals as goal
use Rattle.nj_audit.proofs.rules.find_unused_rules.Goals.{then-not-index+in-Some+in_ok-push}
use Rattle.nj_audit.proofs.rules.find_unused_rules.Goals.{then-not-index+in_default, else-not-index}

used-none : (g : GraphModel) (n : ℕ) → is_used_rule g n ≡ true → unused_rule g n ≡ None
used-none g n used = rw used refl

unplaced-none : (g : GraphModel) (n : ℕ) → is_used_rule g n ≡ false → rule_place_at g.origins.rules n ≡ None
    → unused_rule g n ≡ None
unplaced-none g n unused at = rw unused rw at refl

placed-some : (g : GraphModel) (n : ℕ) (place : Place) (name : List ℕ) → is_used_rule g n ≡ false
    → rule_place_at g.origins.rules n ≡ Some place → (rule_of_number g n).name ≡ name
    → unused_rule g n ≡ Some (record { place = place; kind = UnusedRule; name = name })
placed-some g n place name unused at named =
    let same-name = ap (λ name. Some (record { place = place; kind = UnusedRule; name = name })) named in
    rw unused rw at same-name

pub rules-preserved : goal.rules-preserved
rules-preserved c =
    let g = c.args.graph.now in
    let h = unused_rule g in
    let n = c.rules.rule in
    let old = c.rules.found in
    let held = ap length c.rules-declared-items.ensures.held in
    let below : n < length g.declarations.rules = omega (arith, held) in
    let within : n < length c.in_ok-used.used.items = omega (arith, held, c.in_ok-used.ensures.len) in
    let flag : c.index.result.now ≡ get_or c.in_ok-used.used.items n false =
    get_or_read c.in_ok-used.used.items n c.index.result.now within c.index.ensures false in
    let used = sym (c.in_ok-used.ensures.used n below) ∙ sym flag in
    elim c.if-not-index.branch [
      | then-not-index+in-Some+in_ok-push w ↦
          let at = sym w.rule_place.ensures.held ∙ ap (option_map place_text) w.in-Some.is in
          let item = get_or_read c.rules-declared-items.result.now n c.declared-item.result c.rules-test.true
          c.declared-item.is phony_rule ∙ ap (λ rules. get_or rules n phony_rule)
          c.rules-declared-items.ensures.held in
          let named = ap (λ r. r.name) (sym item) ∙ sym w.name.ensures in
          w.found-is ∙ more-numbers (filter_map h) (filter_map-append h) c.args.found.now old w.push.new.self
          n
          c.rules.invariant (w.in_ok-push.ensures ∙ ap (λ f. old ++ cons_option f [])
          (sym (placed-some g n (place_text w.in-Some.place) w.name.result.now (used ∙ w.if-not-index.true) at
          named)))
      | then-not-index+in_default w ↦
          let at = sym w.rule_place.ensures.held ∙ ap (option_map place_text) w.in_default.is in
          w.found-is ∙ more-numbers (filter_map h) (filter_map-append h) c.args.found.now old old n
          c.rules.invariant (same (filter_map h) n old
          (none-found h n (unplaced-none g n (used ∙ w.if-not-index.true) at)))
      | else-not-index w ↦
          w.found-is ∙ more-numbers (filter_map h) (filter_map-append h) c.args.found.now old old n
          c.rules.invariant (same (filter_map h) n old
          (none-found h n (used-none g n (used ∙ w.if-not-index.false))))
    ]

pub returns : goal.returns
returns c =
    let held = ap length c.rules-declared-items.ensures.held in
    let h = unused_rule c.args.graph.now in
    all-numbers (filter_map h) (filter_map-append h) c.args.found.now c.rules.found c.rules.found c.rules.rule
    (length c.args.graph.now.declarations.rules)
    (omega (arith, held)) (omega (arith, held)) c.rules.invariant
