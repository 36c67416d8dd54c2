-- The declarations after one more statement.
use Rattle.std.proofs.Common.{◌≡◌, ℕ, ◌+◌, Bool, true, false, ◌&&◌, ◌==◌, if◌then◌else◌, List, [], ◌∷◌, ◌++◌}
use Rattle.std.proofs.Common.{map, length, Option, Some, None, unwrap_or, bytes_eq, Result, Ok, Err, OnOk}
use Rattle.std.proofs.Common.{OnErr, IfOk, refl, sym, ap, ◌∙◌, true≢false}
use Rattle.std.specs.Option.{option_or, option_map_or}
use Rattle.std.specs.List.{push}
use Rattle.std.proofs.lemmas.List.{length_push}
use Rattle.nj_text.specs.Words.{PartModel, Text, Name, WordModel}
use Rattle.nj_manifest.specs.LineSteps.{NameModel}
use Rattle.nj_manifest.specs.Statements.{LineModel, OutputsModel, InputsModel, StatementModel, BindingModel}
use Rattle.nj_manifest.specs.Statements.{RuleModel, PoolModel, BuildModel, DefaultModel, IncludeModel}
use Rattle.nj_manifest.specs.Statements.{SubninjaModel}
use Rattle.nj_scope.specs.Rules.{line_kept, phony_rule}
use Rattle.nj_scope.specs.Scopes.{first_given, Bounds, value_in, expanded, bound_at, rule_at}
use Rattle.nj_scope.specs.Declarations.{DeclarationsModel, DeclaredBy, TakesIn}
use Rattle.nj_scope.specs.ReadingList.{ReadStatement, scope_of, binds, declares, bounds, rules, rule_given}
use Rattle.nj_scope.specs.ReadingList.{rules_read, pool_given, pools, scope_given, gathered, value_after}
use Rattle.nj_scope.specs.ReadingList.{value_if_bound}

pub at_ok : {X Y P Q : Type 0} (r : Result X Y) → OnOk r P → (P → Q) → OnOk r Q
at_ok (Ok x) h then_so = then_so h
at_ok (Err e) h then_so = tt

pub at_err : {X Y P Q : Type 0} (r : Result X Y) → OnErr r P → (P → Q) → OnErr r Q
at_err (Ok x) h then_so = tt
at_err (Err e) h then_so = then_so h

pub if_ok : {X Y : Type 0} {P Q : X → Type 0} (r : Result X Y) → IfOk r P → ((x : X) → P x → Q x) → IfOk r Q
if_ok (Ok x) h then_so = then_so x h
if_ok (Err e) h then_so = tt

-- ---- the same values from the same bindings

nearest-same : {X : Type 0} (f g : ℕ → Option X) → ((n : ℕ) → f n ≡ g n) → (scope : List ℕ)
    → first_given f scope ≡ first_given g scope
nearest-same f g same [] = refl
nearest-same f g same (s ∷ around) = ap (λ o. option_or o (first_given f around)) (same s)
    ∙ ap (option_or (g s)) (nearest-same f g same around)

value-same : (f g : Bounds) → ((n : ℕ) (name : List ℕ) → f n name ≡ g n name) → (scope name : List ℕ)
    → value_in f scope name ≡ value_in g scope name
value-same f g same scope name = ap (λ o. unwrap_or o [])
    (nearest-same (λ s. f s name) (λ s. g s name) (λ s. same s name) scope)

expanded-same : (f g : List ℕ → List ℕ) → ((name : List ℕ) → f name ≡ g name) → (parts : List PartModel)
    → expanded f parts ≡ expanded g parts
expanded-same f g same [] = refl
expanded-same f g same (Text bytes ∷ parts) = ap (λ more. bytes ++ more) (expanded-same f g same parts)
expanded-same f g same (Name name ∷ parts) =
    ap (λ v. v ++ expanded f parts) (same name) ∙ ap (λ more. g name ++ more) (expanded-same f g same parts)

-- ---- a binding

module _ (held after : DeclarationsModel) (entries : List ReadStatement) (e : ReadStatement)
    (name value : List ℕ) (word : WordModel) (follows : DeclaredBy held entries) where
  abbrev pub binding : ReadStatement
  binding = record e { item = BindingModel name word }

  -- the value is that of the list
  listed : value ≡ expanded (value_in (bound_at held.scopes) (scope_of e)) word.parts
      → value ≡ expanded (value_after entries (scope_of e)) word.parts
  listed is = is ∙ expanded-same (value_in (bound_at held.scopes) (scope_of e))
      (value_after entries (scope_of e)) (value-same (bound_at held.scopes) (bounds entries) follows.bound
      (scope_of e)) word.parts

  bound-after : value ≡ expanded (value_in (bound_at held.scopes) (scope_of e)) word.parts
      → ((n : ℕ) (x : List ℕ) → bound_at after.scopes n x
      ≡ (if n == e.scope && bytes_eq x name then Some value else bound_at held.scopes n x))
      → (n : ℕ) (x : List ℕ) → bound_at after.scopes n x ≡ bounds (binding ∷ entries) n x
  unfolding bounds
  bound-after is bound n x =
      bound n x ∙ ap (λ o. if n == e.scope && bytes_eq x name then Some value else o) (follows.bound n x)
      ∙ ap (λ v. if n == e.scope && bytes_eq x name then Some v else bounds entries n x) (listed is)
      ∙ by (n == e.scope) (bytes_eq x name)
    where
      by : (a b : Bool) → (if a && b then Some (expanded (value_after entries (scope_of e)) word.parts) else
          bounds entries n x) ≡ option_or (if a then
          (if b then Some (expanded (value_after entries (scope_of e)) word.parts) else None) else None)
          (bounds entries n x)
      by true true = refl
      by true false = refl
      by false b = refl

  declared-after : ((n : ℕ) (x : List ℕ) → rule_at after.scopes n x ≡ rule_at held.scopes n x)
      → (n : ℕ) (x : List ℕ) → rule_at after.scopes n x ≡ rules (binding ∷ entries) n x
  declared-after same n x = same n x ∙ follows.declared n x ∙ by (n == e.scope)
    where
      by : (a : Bool) → rules entries n x ≡ option_or
          (if a && false then Some (length (rules_read entries)) else None) (rules entries n x)
      by true = refl
      by false = refl

  pub with-binding : value ≡ expanded (value_in (bound_at held.scopes) (scope_of e)) word.parts
      → ((n : ℕ) (x : List ℕ) → bound_at after.scopes n x
      ≡ (if n == e.scope && bytes_eq x name then Some value else bound_at held.scopes n x))
      → ((n : ℕ) (x : List ℕ) → rule_at after.scopes n x ≡ rule_at held.scopes n x)
      → length after.scopes ≡ length held.scopes → after.rules ≡ held.rules → after.pools ≡ held.pools
      → DeclaredBy after (binding ∷ entries)
  with-binding is bound declared count same_rules same_pools = record {
    bound = bound-after is bound;
    declared = declared-after declared;
    scopes = count ∙ follows.scopes;
    rules = same_rules ∙ follows.rules;
    pools = same_pools ∙ follows.pools;
  }

-- ---- statements that bind nothing

-- a statement that is neither a binding nor a rule leaves the scopes' own names unchanged
bounds-kept : (e : ReadStatement) (entries : List ReadStatement)
    → ((value : List ℕ → List ℕ) (x : List ℕ) → binds value e.item x ≡ None) → (n : ℕ) (x : List ℕ)
    → bounds (e ∷ entries) n x ≡ bounds entries n x
unfolding bounds
bounds-kept e entries nothing n x = by (n == e.scope)
  where
    by : (a : Bool) → option_or (if a then binds (value_in (bounds entries) (scope_of e)) e.item x else None)
        (bounds entries n x) ≡ bounds entries n x
    by true = ap (λ o. option_or o (bounds entries n x)) (nothing (value_in (bounds entries) (scope_of e)) x)
    by false = refl

pub rules-kept : (e : ReadStatement) (entries : List ReadStatement)
    → ((x : List ℕ) → declares e.item x ≡ false) → (n : ℕ) (x : List ℕ)
    → rules (e ∷ entries) n x ≡ rules entries n x
rules-kept e entries nothing n x = by (n == e.scope) (declares e.item x) (nothing x)
  where
    by : (a b : Bool) → b ≡ false → option_or (if a && b then Some (length (rules_read entries)) else None)
        (rules entries n x) ≡ rules entries n x
    by true true h = absurd (true≢false h)
    by true false h = refl
    by false b h = refl

-- ---- a rule

module _ (held after : DeclarationsModel) (entries : List ReadStatement) (e : ReadStatement)
    (name : NameModel) (lines : List LineModel) (follows : DeclaredBy held entries) where
  pub with-rule : ((n : ℕ) (x : List ℕ) → rule_at after.scopes n x
      ≡ (if n == e.scope && bytes_eq x name.name then Some (length held.rules) else rule_at held.scopes n x))
      → ((n : ℕ) (x : List ℕ) → bound_at after.scopes n x ≡ bound_at held.scopes n x)
      → length after.scopes ≡ length held.scopes
      → after.rules ≡ held.rules ++ record { scope = e.scope; name = name.name; lines = map line_kept lines }
      ∷ [] → after.pools ≡ held.pools
      → DeclaredBy after (record e { item = RuleModel name lines } ∷ entries)
  with-rule declared bound count one_more same_pools = record {
    bound = λ n x. bound n x ∙ follows.bound n x
        ∙ sym (bounds-kept (record e { item = RuleModel name lines }) entries (λ value y. refl) n x);
    declared = λ n x. declared n x ∙ ap (λ o. if n ==
        e.scope && bytes_eq x name.name then Some (length held.rules) else o) (follows.declared n x)
        ∙ ap (λ r. if n == e.scope && bytes_eq x name.name then Some (length r) else rules entries n x)
        follows.rules ∙ by n x (n == e.scope && bytes_eq x name.name);
    scopes = count ∙ follows.scopes;
    rules = one_more ∙ ap (λ r. r ++ record { scope = e.scope; name = name.name; lines = map line_kept lines }
        ∷ []) follows.rules;
    pools = same_pools ∙ follows.pools;
  }
    where
      by : (n : ℕ) (x : List ℕ) (a : Bool) → (if a then Some (length (rules_read entries)) else rules entries
          n x) ≡ option_or (if a then Some (length (rules_read entries)) else None) (rules entries n x)
      by n x true = refl
      by n x false = refl

-- ---- a pool

module _ (held after : DeclarationsModel) (entries : List ReadStatement) (e : ReadStatement)
    (name : NameModel) (lines : List LineModel) (follows : DeclaredBy held entries) where
  pub with-pool : after.scopes ≡ held.scopes → after.rules ≡ held.rules
      → after.pools ≡ held.pools ++ name.name ∷ []
      → DeclaredBy after (record e { item = PoolModel name lines } ∷ entries)
  with-pool same_scopes same_rules one_more = record {
    bound = λ n x. ap (λ ss. bound_at ss n x) same_scopes ∙ follows.bound n x
        ∙ sym (bounds-kept (record e { item = PoolModel name lines }) entries (λ value y. refl) n x);
    declared = λ n x. ap (λ ss. rule_at ss n x) same_scopes ∙ follows.declared n x
        ∙ sym (rules-kept (record e { item = PoolModel name lines }) entries (λ y. refl) n x);
    scopes = ap length same_scopes ∙ follows.scopes;
    rules = same_rules ∙ follows.rules;
    pools = one_more ∙ ap (λ ps. ps ++ name.name ∷ []) follows.pools;
  }

-- ---- a scope

module _ (held after : DeclarationsModel) (entries : List ReadStatement) (e : ReadStatement)
    (word : WordModel) (follows : DeclaredBy held entries) where
  pub with-subninja : ((n : ℕ) (x : List ℕ) → bound_at after.scopes n x ≡ bound_at held.scopes n x)
      → ((n : ℕ) (x : List ℕ) → rule_at after.scopes n x ≡ rule_at held.scopes n x)
      → length after.scopes ≡ length held.scopes + 1 → after.rules ≡ held.rules → after.pools ≡ held.pools
      → DeclaredBy after (record e { item = SubninjaModel word } ∷ entries)
  with-subninja bound declared count same_rules same_pools = record {
    bound = λ n x. bound n x ∙ follows.bound n x
        ∙ sym (bounds-kept (record e { item = SubninjaModel word }) entries (λ value y. refl) n x);
    declared = λ n x. declared n x ∙ follows.declared n x
        ∙ sym (rules-kept (record e { item = SubninjaModel word }) entries (λ y. refl) n x);
    scopes = count ∙ ap (λ n. n + 1) (follows.scopes
        ∙ sym (length_push (gathered scope_given entries) e.scope));
    rules = same_rules ∙ follows.rules;
    pools = same_pools ∙ follows.pools;
  }

-- ---- statements that declare nothing

abbrev with_item : ReadStatement → StatementModel → ReadStatement
with_item e item = record e { item = item }

nothing-more : (held : DeclarationsModel) (entries : List ReadStatement) (e : ReadStatement)
    (item : StatementModel) → ((value : List ℕ → List ℕ) (x : List ℕ) → binds value item x ≡ None)
    → ((x : List ℕ) → declares item x ≡ false)
    → scope_given e entries item ≡ None → rule_given e entries item ≡ None → pool_given e entries item ≡ None
    → DeclaredBy held entries → DeclaredBy held (record e { item = item } ∷ entries)
nothing-more held entries e item no_value no_rule no_scope none_given no_pool by = record {
  bound = λ n x. by.bound n x ∙ sym (bounds-kept (with_item e item) entries no_value n x);
  declared = λ n x. by.declared n x ∙ sym (rules-kept (with_item e item) entries no_rule n x);
  scopes = by.scopes ∙ ap (λ o. length (option_map_or (push (gathered scope_given entries)) o
      (gathered scope_given entries)) + 1) (sym no_scope);
  rules = by.rules ∙ ap (λ o. phony_rule ∷ option_map_or (push (gathered rule_given entries)) o
      (gathered rule_given entries)) (sym none_given);
  pools = by.pools ∙ ap (λ o. option_map_or (push (pools entries)) o (pools entries)) (sym no_pool);
}

module _ (held : DeclarationsModel) (number : ℕ) (around : List ℕ) where
  pub takes-include : (word : WordModel) → TakesIn held held number around (IncludeModel word)
  takes-include word entries file spot depth by =
      nothing-more held entries (record {
        file = file;
        spot = spot;
        depth = depth;
        scope = number;
        around =
            around;
        item = IncludeModel word;
        was_joined = false;
        discovered = None;
      }) (IncludeModel word)
      (λ value x. refl) (λ x. refl) refl refl refl by

  pub takes-build : (outputs : OutputsModel) (rule : NameModel) (inputs : InputsModel)
      (lines : List LineModel) → TakesIn held held number around (BuildModel outputs rule inputs lines)
  takes-build outputs rule inputs lines entries file spot depth by =
      nothing-more held entries (record {
        file = file;
        spot = spot;
        depth = depth;
        scope = number;
        around =
            around;
        item = BuildModel outputs rule inputs lines;
        was_joined = false;
        discovered = None;
      })
      (BuildModel outputs rule inputs lines) (λ value x. refl) (λ x. refl) refl refl refl by

  pub takes-default : (words : List WordModel) → TakesIn held held number around (DefaultModel words)
  takes-default words entries file spot depth by =
      nothing-more held entries (record {
        file = file;
        spot = spot;
        depth = depth;
        scope = number;
        around =
            around;
        item = DefaultModel words;
        was_joined = false;
        discovered = None;
      }) (DefaultModel words)
      (λ value x. refl) (λ x. refl) refl refl refl by

-- ---- look-ups

pub value-listed : (held : DeclarationsModel) (entries : List ReadStatement) → DeclaredBy held entries
    → (scope : List ℕ) (parts : List PartModel)
    → expanded (value_in (bound_at held.scopes) scope) parts ≡ expanded (value_after entries scope) parts
value-listed held entries follows scope parts =
    expanded-same (value_in (bound_at held.scopes) scope) (value_after entries scope)
    (value-same (bound_at held.scopes) (bounds entries) follows.bound scope) parts

pub name-listed : (held : DeclarationsModel) (entries : List ReadStatement) → DeclaredBy held entries
    → (scope name : List ℕ)
    → value_in (bound_at held.scopes) scope name ≡ value_after entries scope name
name-listed held entries follows scope name =
    value-same (bound_at held.scopes) (bounds entries) follows.bound scope name

pub name-seen : (held : DeclarationsModel) (entries : List ReadStatement) → DeclaredBy held entries
    → (scope name : List ℕ)
    → first_given (λ s. bound_at held.scopes s name) scope ≡ value_if_bound entries scope name
name-seen held entries follows scope name =
    nearest-same (λ s. bound_at held.scopes s name) (λ s. bounds entries s name) (λ s. follows.bound s name)
    scope

pub rule-listed : (held : DeclarationsModel) (entries : List ReadStatement) → DeclaredBy held entries
    → (scope name : List ℕ)
    → first_given (λ s. rule_at held.scopes s name) scope ≡ first_given (λ s. rules entries s name) scope
rule-listed held entries follows scope name =
    nearest-same (λ s. rule_at held.scopes s name) (λ s. rules entries s name) (λ s. follows.declared s name)
    scope

-- ---- at the front

pub declared_by-nothing : (held : DeclarationsModel)
    → ((n : ℕ) (x : List ℕ) → bound_at held.scopes n x ≡ None)
    → ((n : ℕ) (x : List ℕ) → rule_at held.scopes n x ≡ None) → length held.scopes ≡ 1
    → held.rules ≡ phony_rule ∷ [] → held.pools ≡ [] → DeclaredBy held []
unfolding bounds
declared_by-nothing held nothing no_rule count no_rules no_pools =
    record { bound = nothing; declared = no_rule; scopes = count; rules = no_rules; pools = no_pools }
