-- A rule that is in force under a name was declared under it.
use Rattle.std.proofs.Common.{◌≡◌, ◌⊎◌, ℕ, suc, ◌<◌, Bool, true, false, ◌&&◌, ◌==◌, if◌then◌else◌, List, []}
use Rattle.std.proofs.Common.{◌∷◌, ◌++◌, map, length, Option, Some, None, unwrap_or, is_some, slice_get}
use Rattle.std.proofs.Common.{bytes_eq, refl, sym, ap, ◌∙◌, true≢false, inl, inr, arith, eqb-true, IfSome}
use Rattle.std.proofs.Common.{subst}
use Rattle.std.specs.Option.{option_or}
use Rattle.std.specs.List.{Contains}
use Rattle.std.proofs.lemmas.Option.{slice_get_within}
use Rattle.std.proofs.lemmas.Slice.Eq.{bytes_eq-Decides}
use Rattle.nj_manifest.specs.Statements.{StatementModel, BindingModel, RuleModel, PoolModel, BuildModel}
use Rattle.nj_manifest.specs.Statements.{DefaultModel, IncludeModel, SubninjaModel}
use Rattle.nj_scope.specs.Rules as kept
use Rattle.nj_scope.specs.Rules.{line_kept, phony, phony_rule}
use Rattle.nj_scope.specs.Scopes.{first_given, rule_at}
use Rattle.nj_scope.specs.Declarations.{DeclarationsModel, DeclaredBy}
use Rattle.nj_scope.specs.Laws.{InForceIsDeclared}
use Rattle.nj_scope.specs.ReadingList.{ReadStatement, rules_read, rules}
use Rattle.nj_scope.proofs.DeclarationLemmas.{rules-kept, rule-listed}
use Rattle.nj_scope.proofs.Gathering.{get-old, get-last}

some_same : {X : Type 0} {x y : X} → Some x ≡ Some y → x ≡ y
some_same {x = x} h = ap (λ o. unwrap_or o x) h

none_some : {X P : Type 0} {x : X} → None ≡ Some x → P
none_some h = absurd (true≢false (ap is_some (sym h)))

-- ---- the declarations of a scope itself

pub record Found (strings : List kept.RuleModel) (scope : ℕ) (name : List ℕ) (number : ℕ) : Type 0 where
  pub rule : kept.RuleModel
  pub there : slice_get strings number ≡ Some rule
  pub its_scope : rule.scope ≡ scope
  pub its_name : rule.name ≡ name

found-old : (strings : List kept.RuleModel) (more : kept.RuleModel) (scope : ℕ) (name : List ℕ) (number : ℕ)
    → Found strings scope name number → Found (strings ++ more ∷ []) scope name number
found-old strings more scope name number f =
    record {
      rule = f.rule;
      there = get-old strings more number f.rule f.there;
      its_scope = f.its_scope;
      its_name = f.its_name;
    }

found-more : (before : List ReadStatement) (e : ReadStatement) (item : StatementModel) (scope : ℕ)
    (name : List ℕ) (number : ℕ) → (rules before scope name ≡ Some number
    → Found (rules_read before) scope name number)
    → rules (record e { item = item } ∷ before) scope name ≡ Some number
    → Found (rules_read (record e { item = item } ∷ before)) scope name number
found-more before e (RuleModel declared lines) scope name number rest h =
    by (scope == e.scope) (bytes_eq name declared.name) (eqb-true scope e.scope)
    (bytes_eq-Decides name declared.name).0 h
  where
    by : (a b : Bool) → (a ≡ true → scope ≡ e.scope) → (b ≡ true → name ≡ declared.name)
        → option_or (if a && b then Some (length (rules_read before)) else None) (rules before scope name)
        ≡ Some number
        → Found (rules_read before ++ record
        { scope = e.scope; name = declared.name; lines = map line_kept lines } ∷ []) scope name number
    by true true at named h = record {
      rule = record { scope = e.scope; name = declared.name; lines = map line_kept lines };
      there = ap (slice_get (rules_read before
          ++ record { scope = e.scope; name = declared.name; lines = map line_kept lines } ∷ []))
          (sym (some_same h))
          ∙ get-last (rules_read before) (record
          { scope = e.scope; name = declared.name; lines = map line_kept lines });
      its_scope = sym (at refl);
      its_name = sym (named refl);
    }
    by true false at named h = found-old (rules_read before)
        (record { scope = e.scope; name = declared.name; lines = map line_kept lines }) scope name number
        (rest h)
    by false b at named h = found-old (rules_read before)
        (record { scope = e.scope; name = declared.name; lines = map line_kept lines }) scope name number
        (rest h)
found-more before e (BindingModel bound word) scope name number rest h =
    rest (sym (rules-kept (record e { item = BindingModel bound word }) before (λ x. refl) scope name) ∙ h)
found-more before e (PoolModel declared lines) scope name number rest h =
    rest (sym (rules-kept (record e { item = PoolModel declared lines }) before (λ x. refl) scope name) ∙ h)
found-more before e (BuildModel outputs rule inputs lines) scope name number rest h =
    rest (sym (rules-kept (record e { item = BuildModel outputs rule inputs lines }) before (λ x. refl) scope
    name) ∙ h)
found-more before e (DefaultModel words) scope name number rest h =
    rest (sym (rules-kept (record e { item = DefaultModel words }) before (λ x. refl) scope name) ∙ h)
found-more before e (IncludeModel word) scope name number rest h =
    rest (sym (rules-kept (record e { item = IncludeModel word }) before (λ x. refl) scope name) ∙ h)
found-more before e (SubninjaModel word) scope name number rest h =
    rest (sym (rules-kept (record e { item = SubninjaModel word }) before (λ x. refl) scope name) ∙ h)

pub found : (entries : List ReadStatement) (scope : ℕ) (name : List ℕ) (number : ℕ)
    → rules entries scope name ≡ Some number → Found (rules_read entries) scope name number
found [] scope name number h = none_some h
found (e ∷ before) scope name number h =
    found-more before e e.item scope name number (found before scope name number) h

-- ---- the nearest

nearest-own : (own : ℕ → Option ℕ) (scope : List ℕ) (number : ℕ) → first_given own scope ≡ Some number
    → (s : ℕ) × Contains scope s × (own s ≡ Some number)
nearest-own own [] number h = none_some h
nearest-own own (s ∷ around) number h = by (own s) (nearest-own own around number) refl h
  where
    farther : (t : ℕ) × Contains around t × (own t ≡ Some number)
        → (t : ℕ) × Contains (s ∷ around) t × (own t ≡ Some number)
    farther (t, (k, within, is), owns) = (t, (suc k, omega arith, is), owns)

    by : (o : Option ℕ) → (first_given own around ≡ Some number
        → (t : ℕ) × Contains around t × (own t ≡ Some number)) → own s ≡ o
        → option_or o (first_given own around) ≡ Some number
        → (t : ℕ) × Contains (s ∷ around) t × (own t ≡ Some number)
    by None rest is h = farther (rest h)
    by (Some n) rest is h = (s, (0, omega arith, refl), is ∙ h)

pub phony-there : (entries : List ReadStatement) → slice_get (rules_read entries) 0 ≡ Some phony_rule
phony-there entries = refl

pub in_force : InForceIsDeclared
in_force entries scope name number h = by (bytes_eq name phony) (bytes_eq-Decides name phony).0 h
  where
    of_scope : (s : ℕ) × Contains scope s × (rules entries s name ≡ Some number)
        → (rule : kept.RuleModel) × (slice_get (rules_read entries) number ≡ Some rule) × (rule.name ≡ name)
        × ((rule ≡ phony_rule) ⊎ Contains scope rule.scope)
    of_scope (s, among, owns) =
        let f : Found (rules_read entries) s name number = found entries s name number owns in
        (f.rule, f.there, f.its_name, inr (subst (λ t. Contains scope t) (sym f.its_scope) among))

    by : (b : Bool) → (b ≡ true → name ≡ phony)
        → (if b then Some 0 else first_given (λ s. rules entries s name) scope) ≡ Some number
        → (rule : kept.RuleModel) × (slice_get (rules_read entries) number ≡ Some rule) × (rule.name ≡ name)
        × ((rule ≡ phony_rule) ⊎ Contains scope rule.scope)
    by true named h = (
      phony_rule,
      ap (slice_get (rules_read entries)) (sym (some_same h))
          ∙ phony-there entries,
      sym (named refl),
      inl refl,
    )
    by false named h = of_scope (nearest-own (λ s. rules entries s name) scope number h)

-- ---- its number

pub phony-within : (held : DeclarationsModel) (entries : List ReadStatement) → DeclaredBy held entries
    → 0 < length held.rules
phony-within held entries by = subst (λ rs. 0 < length rs) (sym by.rules)
    (slice_get_within (rules_read entries) 0 phony_rule (phony-there entries))

pub nearest-within : (held : DeclarationsModel) (entries : List ReadStatement) → DeclaredBy held entries
    → (scope name : List ℕ) → IfSome (first_given (λ s. rule_at held.scopes s name) scope)
    (λ n. n < length held.rules)
nearest-within held entries by scope name =
    at (first_given (λ s. rule_at held.scopes s name) scope) (sym (rule-listed held entries by scope name))
  where
    found-within : (number : ℕ) → (s : ℕ) × Contains scope s × (rules entries s name ≡ Some number)
        → number < length held.rules
    found-within number (s, among, owns) =
        let f : Found (rules_read entries) s name number = found entries s name number owns in
        subst (λ rs. number < length rs) (sym by.rules)
        (slice_get_within (rules_read entries) number f.rule f.there)

    at : (o : Option ℕ) → first_given (λ s. rules entries s name) scope ≡ o
        → IfSome o (λ n. n < length held.rules)
    at None is = tt
    at (Some n) is = found-within n (nearest-own (λ s. rules entries s name) scope n is)
