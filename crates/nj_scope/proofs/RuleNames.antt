-- The names of a scope's rules, where each rule was new as it was declared.
use Rattle.std.proofs.Common.{◌≡◌, ℕ, Bool, true, false, cond, ◌&&◌, ◌||◌, ◌==◌, if◌then◌else◌, List, [], ◌∷◌}
use Rattle.std.proofs.Common.{◌++◌, map, length, Option, Some, None, is_some, bytes_eq, refl, sym, ap, subst}
use Rattle.std.proofs.Common.{◌∙◌, eqb-true}
use Rattle.std.specs.Option.{option_or}
use Rattle.std.specs.List.{filter, list_any, IsDistinct}
use Rattle.std.proofs.lemmas.Cmp.{nat_list_eq_equiv}
use Rattle.std.proofs.lemmas.List.{map-append, append-nil}
use Rattle.std.proofs.lemmas.List.Elements.{filter-append}
use Rattle.std.proofs.lemmas.List.Folds.{list_any-append}
use Rattle.std.proofs.lemmas.Map.Keys.{IsDistinct-push}
use Rattle.nj_manifest.specs.Statements.{StatementModel, BindingModel, RuleModel, PoolModel, BuildModel}
use Rattle.nj_manifest.specs.Statements.{DefaultModel, IncludeModel, SubninjaModel}
use Rattle.nj_scope.specs.Rules as kept
use Rattle.nj_scope.specs.Rules.{rule_names, line_kept, phony, phony_rule}
use Rattle.nj_scope.specs.ReadingList.{ReadStatement, rules_read, declares, rules, is_declared}
use Rattle.nj_scope.proofs.NewRules.{RuleIsNew, EachRuleIsNew}
use Rattle.nj_scope.proofs.DeclarationLemmas.{rules-kept}
use Rattle.nj_scope.proofs.RuleLemmas.{or_false}

-- the name of a rule, if the rule belongs to the scope
abbrev one_name : (own : Bool) → (name : List ℕ) → List (List ℕ)
one_name true name = name ∷ []
one_name false name = []

-- the names, with the names of one more rule
names-push : (before : List kept.RuleModel) (r : kept.RuleModel) (scope : ℕ)
    → rule_names (before ++ r ∷ []) scope ≡ rule_names before scope ++ one_name (scope == r.scope) r.name
names-push before r scope =
    ap (λ rs. map (λ x. x.name) rs) (filter-append (λ x. scope == x.scope) before (r ∷ []))
    ∙ map-append (λ x. x.name) (filter (λ x. scope == x.scope) before)
    (filter (λ x. scope == x.scope) (r ∷ []))
    ∙ by (scope == r.scope)
  where
    by : (own : Bool) → map (λ x. x.name) (filter (λ x. scope == x.scope) before)
        ++ map (λ x. x.name) (cond own (r ∷ []) []) ≡ rule_names before scope ++ one_name own r.name
    by true = refl
    by false = refl

-- ---- which names are taken

-- whether a rule of the scope has the name, or it is `phony`
abbrev names_have : List kept.RuleModel → (number : ℕ) → (name : List ℕ) → Bool
names_have rules number name = bytes_eq name phony || list_any (bytes_eq name) (rule_names rules number)

or_among : (a b d : Bool) → ((a || b) || d) ≡ (a || (b || d))
or_among true b d = refl
or_among false b d = refl

any_one : (name other : List ℕ) (own : Bool)
    → list_any (bytes_eq name) (one_name own other) ≡ (own && bytes_eq name other)
any_one name other true = by (bytes_eq name other)
  where
    by : (b : Bool) → (b || false) ≡ b
    by true = refl
    by false = refl
any_one name other false = refl

taken-push : (phony hit : Bool) (k : ℕ) (o : Option ℕ)
    → (phony || is_some (option_or (if hit then Some k else None) o)) ≡ ((phony || is_some o) || hit)
taken-push true hit k o = refl
taken-push false true k None = refl
taken-push false true k (Some x) = refl
taken-push false false k None = refl
taken-push false false k (Some x) = refl

module _ (before : List ReadStatement) (e : ReadStatement) (number : ℕ) (name : List ℕ)
    (rest : is_declared (rules before number name) name ≡ names_have (rules_read before) number name) where
  no_rule : ((x : List ℕ) → declares e.item x ≡ false)
      → is_declared (rules (e ∷ before) number name) name ≡ names_have (rules_read before) number name
  no_rule nothing = ap (λ o. is_declared o name) (rules-kept e before nothing number name) ∙ rest

listed-more : (before : List ReadStatement) (number : ℕ) (e : ReadStatement) (item : StatementModel)
    (name : List ℕ)
    → is_declared (rules before number name) name ≡ names_have (rules_read before) number name
    → is_declared (rules (record e { item = item } ∷ before) number name) name
    ≡ names_have (rules_read (record e { item = item } ∷ before)) number name
listed-more before number e (RuleModel declared lines) name rest =
    taken-push (bytes_eq name phony) (number == e.scope && bytes_eq name declared.name)
    (length (rules_read before)) (rules before number name)
    ∙ ap (λ b. b || (number == e.scope && bytes_eq name declared.name)) rest
    ∙ ap (λ b. (bytes_eq name phony || list_any (bytes_eq name) (rule_names (rules_read before) number)) || b)
    (sym (any_one name declared.name (number == e.scope)))
    ∙ or_among (bytes_eq name phony) (list_any (bytes_eq name) (rule_names (rules_read before) number))
    (list_any (bytes_eq name) (one_name (number == e.scope) declared.name))
    ∙ ap (λ b. bytes_eq name phony || b) (sym
    (list_any-append (bytes_eq name) (rule_names (rules_read before) number)
    (one_name (number == e.scope) declared.name)))
    ∙ ap (λ names. bytes_eq name phony || list_any (bytes_eq name) names)
    (sym (names-push (rules_read before) (record
    { scope = e.scope; name = declared.name; lines = map line_kept lines }) number))
listed-more before number e (BindingModel bound word) name rest =
    no_rule before (record e { item = BindingModel bound word }) number name rest (λ x. refl)
listed-more before number e (PoolModel declared lines) name rest =
    no_rule before (record e { item = PoolModel declared lines }) number name rest (λ x. refl)
listed-more before number e (BuildModel outputs rule inputs lines) name rest =
    no_rule before (record e { item = BuildModel outputs rule inputs lines }) number name rest (λ x. refl)
listed-more before number e (DefaultModel words) name rest =
    no_rule before (record e { item = DefaultModel words }) number name rest (λ x. refl)
listed-more before number e (IncludeModel word) name rest =
    no_rule before (record e { item = IncludeModel word }) number name rest (λ x. refl)
listed-more before number e (SubninjaModel word) name rest =
    no_rule before (record e { item = SubninjaModel word }) number name rest (λ x. refl)

-- a name is taken in a scope if it is one of the scope's names
pub is_declared-listed : (entries : List ReadStatement) (number : ℕ) (name : List ℕ)
    → is_declared (rules entries number name) name ≡ names_have (rules_read entries) number name
is_declared-listed [] number name = by (number == 0)
  where
    has : (b : Bool) → (b || false) ≡ (b || (b || false))
    has true = refl
    has false = refl

    by : (own : Bool) → (bytes_eq name phony || false)
        ≡ (bytes_eq name phony || list_any (bytes_eq name)
        (map (λ r. r.name) (cond own (phony_rule ∷ []) [])))
    by true = has (bytes_eq name phony)
    by false = refl
is_declared-listed (e ∷ before) number name =
    listed-more before number e e.item name (is_declared-listed before number name)

-- ---- the names differ

-- the names of a scope, with the name of a rule that was new in its scope
distinct-more : (before : List kept.RuleModel) (r : kept.RuleModel) (number : ℕ)
    → (number ≡ r.scope → list_any (bytes_eq r.name) (rule_names before number) ≡ false)
    → IsDistinct bytes_eq (rule_names before number)
    → IsDistinct bytes_eq (rule_names (before ++ r ∷ []) number)
distinct-more before r number new distinct =
    subst (IsDistinct bytes_eq) (sym (names-push before r number))
    (by (number == r.scope) (eqb-true number r.scope))
  where
    by : (own : Bool) → (own ≡ true → number ≡ r.scope)
        → IsDistinct bytes_eq (rule_names before number ++ one_name own r.name)
    by true same = IsDistinct-push nat_list_eq_equiv (rule_names before number) r.name distinct
        (new (same refl))
    by false same = subst (IsDistinct bytes_eq) (sym (append-nil (rule_names before number))) distinct

distinct-with : (before : List ReadStatement) (number : ℕ) (e : ReadStatement) (item : StatementModel)
    → RuleIsNew before e.scope item → IsDistinct bytes_eq (rule_names (rules_read before) number)
    → IsDistinct bytes_eq (rule_names (rules_read (record e { item = item } ∷ before)) number)
distinct-with before number e (RuleModel declared lines) is_new rest =
    distinct-more (rules_read before) (record
    { scope = e.scope; name = declared.name; lines = map line_kept lines }) number
    (λ same. or_false (bytes_eq declared.name phony)
    (list_any (bytes_eq declared.name) (rule_names (rules_read before) number))
    (sym (is_declared-listed before number declared.name)
    ∙ ap (λ n. is_declared (rules before n declared.name) declared.name) same ∙ is_new)) rest
distinct-with before number e (BindingModel bound word) is_new rest = rest
distinct-with before number e (PoolModel declared lines) is_new rest = rest
distinct-with before number e (BuildModel outputs rule inputs lines) is_new rest = rest
distinct-with before number e (DefaultModel words) is_new rest = rest
distinct-with before number e (IncludeModel word) is_new rest = rest
distinct-with before number e (SubninjaModel word) is_new rest = rest

-- If each rule was new, no two rules of a scope have the same name, and no rule is called `phony`.
pub names-distinct : (entries : List ReadStatement) → EachRuleIsNew entries → (number : ℕ)
    → IsDistinct bytes_eq (rule_names (rules_read entries) number)
unfolding IsDistinct
names-distinct [] new number = by (number == 0)
  where
    by : (own : Bool) → IsDistinct bytes_eq (map (λ r. r.name) (cond own (phony_rule ∷ []) []))
    by true = (tt, tt)
    by false = tt
names-distinct (e ∷ before) new number =
    distinct-with before number e e.item new.0 (names-distinct before new.1 number)
