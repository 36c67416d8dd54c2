-- Lemmas on the contents of scopes.
use Rattle.std.proofs.lemmas.Grind.{common_steps}
use Rattle.std.proofs.Common.{arith, ◌≡◌, ℕ, zero, suc, ◌<◌, nat_eq, Bool, true, false, cond, ◌&&◌, ◌⊎◌, inl}
use Rattle.std.proofs.Common.{inr}
use Rattle.std.proofs.Common.{◌≢◌, List, [], ◌∷◌, ◌++◌, map, length, get_or, slice_set, slice_get, Option}
use Rattle.std.proofs.Common.{Some, None, is_some, option_map, option_and_then, IfSome, bytes_eq, refl, sym}
use Rattle.std.proofs.Common.{ap, subst, ◌∙◌, true≢false}
use Rattle.std.specs.Global.{Vec}
use Rattle.std.specs.Map.{lookup}
use Rattle.std.proofs.lemmas.Bool.Decides.{eqb_tells}
use Rattle.std.proofs.lemmas.List.{map-set, length-map}
use Rattle.std.proofs.lemmas.Option.{slice_get-map, slice_get_read}
use Rattle.std.proofs.lemmas.Slice.Eq.{bytes_eq-Decides}
use Rattle.std.proofs.Math.Nat.{lt_irrefl}
use Rattle.indexmap.specs.IndexMap.{insert_entry}
use Rattle.nj_scope.specs.declared.rule.RuleNo.{RuleNo}
use Rattle.nj_scope.specs.declared.scopes.Scope.{Scope}
use Rattle.nj_scope.specs.declared.scopes.ScopeNo.{ScopeNo}
use Rattle.nj_scope.specs.Scopes.{ScopeModel, at_scope, parent_at, bound_at, rule_at}
use Rattle.nj_scope.specs.Inside.ScopesHeld.{scope_model, values_text, ParentsAreEarlier}

-- ---- lists

suc_apart : {n m : ℕ} → (suc n ≡ suc m → ⊥) → n ≡ m → ⊥
suc_apart apart h = apart (ap suc h)

get-set_same : {X : Type 0} (xs : List X) (i : ℕ) (x y : X) → slice_get xs i ≡ Some x
    → slice_get (slice_set xs i y) i ≡ Some y
get-set_same [] i x y h = absurd (true≢false (sym (ap is_some h)))
get-set_same (x' ∷ xs) zero x y h = refl
get-set_same (x' ∷ xs) (suc i) x y h = get-set_same xs i x y h

get-set_other : {X : Type 0} (xs : List X) (i : ℕ) (y : X) (j : ℕ) → (j ≡ i → ⊥)
    → slice_get (slice_set xs i y) j ≡ slice_get xs j
get-set_other [] i y j apart = refl
get-set_other (x' ∷ xs) zero y zero apart = absurd (apart refl)
get-set_other (x' ∷ xs) zero y (suc j) apart = refl
get-set_other (x' ∷ xs) (suc i) y zero apart = refl
get-set_other (x' ∷ xs) (suc i) y (suc j) apart = get-set_other xs i y j (suc_apart apart)

-- an element that was set
pub get-set : {X : Type 0} (xs : List X) (i : ℕ) (x y : X) (j : ℕ) → slice_get xs i ≡ Some x
    → slice_get (slice_set xs i y) j ≡ cond (nat_eq j i) (Some y) (slice_get xs j)
get-set {X = X} xs i x y j h = grind (
  arith,
  eqb_tells,
  nat_eq,
  slice_get,
  slice_set,
  get-set_same,
  get-set_other,
)

get-push_same : {X : Type 0} (xs : List X) (y : X) → slice_get (xs ++ y ∷ []) (length xs) ≡ Some y
get-push_same [] y = refl
get-push_same (x ∷ xs) y = get-push_same xs y

get-push_other : {X : Type 0} (xs : List X) (y : X) (j : ℕ) → (j ≡ length xs → ⊥)
    → slice_get (xs ++ y ∷ []) j ≡ slice_get xs j
get-push_other [] y zero apart = absurd (apart refl)
get-push_other [] y (suc j) apart = refl
get-push_other (x ∷ xs) y zero apart = refl
get-push_other (x ∷ xs) y (suc j) apart = get-push_other xs y j (suc_apart apart)

past : {X : Type 0} (xs : List X) → slice_get xs (length xs) ≡ None
past [] = refl
past (x ∷ xs) = past xs

-- what is known of the number in it
pub if_some-of_map : {X Y : Type 0} (f : X → Y) (P : Y → Type 0) (o : Option X) → IfSome (option_map f o) P
    → IfSome o (λ x. P (f x))
if_some-of_map f h o h1 = grind arith

-- the meaning of a comparison of numbers
abbrev Compared : ℕ → ℕ → Type 0
Compared n m = ((nat_eq n m ≡ true) × (n ≡ m)) ⊎ ((nat_eq n m ≡ false) × (n ≢ m))

-- ---- a scope more

abbrev pub opened : List ScopeModel → ℕ → List ScopeModel
opened scopes p = scopes ++ record { parent = Some p; values = []; rules = [] } ∷ []

module _ (scopes : List ScopeModel) (p : ℕ) where
  pub parent_at-number : parent_at (opened scopes p) (length scopes) ≡ Some p
  parent_at-number = ap (option_and_then (λ s. s.parent))
      (get-push_same scopes (record { parent = Some p; values = []; rules = [] }))

  pub parent_at-other : (n : ℕ) → n < length scopes → parent_at (opened scopes p) n ≡ parent_at scopes n
  parent_at-other n h = ap (option_and_then (λ s. s.parent))
      (get-push_other scopes (record { parent = Some p; values = []; rules = [] }) n
      (λ e. lt_irrefl n (subst (λ m. n < m) (sym e) h)))

  -- a value that a new scope lacks is where it was
  at_scope-opened : {X : Type 0} (f : ScopeModel → Option X)
      → f (record { parent = Some p; values = []; rules = [] }) ≡ None → (n : ℕ)
      → at_scope f (opened scopes p) n ≡ at_scope f scopes n
  at_scope-opened f nothing n = by (eqb_tells n (length scopes))
    where
      by : Compared n (length scopes) → at_scope f (opened scopes p) n ≡ at_scope f scopes n
      by (inl (t, e)) =
          ap (at_scope f (opened scopes p)) e
          ∙ ap (option_and_then f) (get-push_same scopes
          (record { parent = Some p; values = []; rules = [] })) ∙ nothing
          ∙ sym (ap (at_scope f scopes) e ∙ ap (option_and_then f) (past scopes))
      by (inr (f', apart)) = ap (option_and_then f)
          (get-push_other scopes (record { parent = Some p; values = []; rules = [] }) n apart)

  pub bound_at-opened : (n : ℕ) (name : List ℕ) → bound_at (opened scopes p) n name ≡ bound_at scopes n name
  bound_at-opened n name = at_scope-opened (λ s. lookup (bytes_eq name) s.values) refl n

  pub rule_at-opened : (n : ℕ) (name : List ℕ) → rule_at (opened scopes p) n name ≡ rule_at scopes n name
  rule_at-opened n name = at_scope-opened (λ s. lookup (bytes_eq name) s.rules) refl n

  pub earlier-opened : p < length scopes → ParentsAreEarlier scopes → ParentsAreEarlier (opened scopes p)
  earlier-opened h earlier n = by (eqb_tells n (length scopes))
    where
      by : Compared n (length scopes) → IfSome (parent_at (opened scopes p) n) (λ q. q < n)
      by (inl (t, e)) = subst (λ m. IfSome (parent_at (opened scopes p) m) (λ q. q < m)) (sym e)
          (subst (λ o. IfSome o (λ q. q < length scopes)) (sym parent_at-number) h)
      by (inr (f, apart)) = subst (λ o. IfSome o (λ q. q < n))
          (sym (ap (option_and_then (λ s. s.parent))
          (get-push_other scopes (record { parent = Some p; values = []; rules = [] }) n apart))) (earlier n)

-- ---- a scope that was changed

module _ (scopes : List ScopeModel) (i : ℕ) (s t : ScopeModel) (here : slice_get scopes i ≡ Some s) where
  at_scope-set : {X : Type 0} (f : ScopeModel → Option X) (n : ℕ)
      → at_scope f (slice_set scopes i t) n ≡ cond (nat_eq n i) (f t) (at_scope f scopes n)
  at_scope-set {X = X} f n = ap (option_and_then f) (get-set scopes i s t n here) ∙ split (nat_eq n i)
    where
      split : (b : Bool) → option_and_then f (cond b (Some t) (slice_get scopes n))
          ≡ cond b (f t) (at_scope f scopes n)
      split true = refl
      split false = refl

  pub at_scope-kept : {X : Type 0} (f : ScopeModel → Option X) → f t ≡ f s → (n : ℕ)
      → at_scope f (slice_set scopes i t) n ≡ at_scope f scopes n
  at_scope-kept f same n = at_scope-set f n ∙ by (eqb_tells n i)
    where
      by : Compared n i → cond (nat_eq n i) (f t) (at_scope f scopes n) ≡ at_scope f scopes n
      by (inl (p, e)) = ap (λ b. cond b (f t) (at_scope f scopes n)) p ∙ same
          ∙ sym (ap (at_scope f scopes) e ∙ ap (option_and_then f) here)
      by (inr (f', apart)) = ap (λ b. cond b (f t) (at_scope f scopes n)) f'

  -- one more name, or another meaning of it
  pub at_scope-bound : {X : Type 0} (f : ScopeModel → Option X) (b : Bool) (x : Option X)
      → f t ≡ cond b x (f s) → (n : ℕ) → at_scope f (slice_set scopes i t) n
      ≡ cond (nat_eq n i && b) x (at_scope f scopes n)
  at_scope-bound f b x bound n = at_scope-set f n ∙ by (eqb_tells n i)
    where
      by : Compared n i → cond (nat_eq n i) (f t) (at_scope f scopes n)
          ≡ cond (nat_eq n i && b) x (at_scope f scopes n)
      by (inl (p, e)) =
          ap (λ c. cond c (f t) (at_scope f scopes n)) p ∙ bound
          ∙ ap (cond b x) (sym (ap (at_scope f scopes) e ∙ ap (option_and_then f) here))
          ∙ sym (ap (λ c. cond (c && b) x (at_scope f scopes n)) p)
      by (inr (f', apart)) = ap (λ c. cond c (f t) (at_scope f scopes n)) f'
          ∙ sym (ap (λ c. cond (c && b) x (at_scope f scopes n)) f')

  pub earlier-set : t.parent ≡ s.parent → ParentsAreEarlier scopes → ParentsAreEarlier (slice_set scopes i t)
  earlier-set within earlier n = subst (λ o. IfSome o (λ q. q < n))
      (sym (at_scope-kept (λ u. u.parent) within n)) (earlier n)

-- ---- maps, seen as lists

module _ {V X : Type 0} (g : V → X) where
  abbrev pub entries_text : List (Vec ℕ × V) → List (List ℕ × X)
  entries_text es = map (λ e. (e.0.items, g e.1)) es

  abbrev pub same_key : Vec ℕ → Vec ℕ → Bool
  same_key k q = bytes_eq k.items q.items

  pub lookup-inserted : (es : List (Vec ℕ × V)) (k : Vec ℕ) (v : V) (x : List ℕ)
      → lookup (bytes_eq x) (entries_text (insert_entry same_key es k v))
      ≡ cond (bytes_eq x k.items) (Some (g v)) (lookup (bytes_eq x) (entries_text es))
  lookup-inserted [] k v x = refl
  lookup-inserted (e ∷ es) k v x = by (bytes_eq k.items e.0.items) (bytes_eq-Decides k.items e.0.items).0
      (bytes_eq-Decides k.items e.0.items).1 (lookup-inserted es k v x)
    where
      taken : (a b : Bool) → a ≡ b → cond a (Some (g v)) (lookup (bytes_eq x) (entries_text es))
          ≡ cond a (Some (g v)) (cond b (Some (g e.1)) (lookup (bytes_eq x) (entries_text es)))
      taken true b same = refl
      taken false true same = absurd (true≢false (sym same))
      taken false false same = refl

      among : (a b : Bool) → (a ≡ true → b ≡ true → ⊥) → (rest : Option X)
          → cond b (Some (g e.1)) (cond a (Some (g v)) rest)
          ≡ cond a (Some (g v)) (cond b (Some (g e.1)) rest)
      among true true apart rest = absurd (apart refl refl)
      among true false apart rest = refl
      among false b apart rest = refl

      by : (b : Bool) → (b ≡ true → k.items ≡ e.0.items) → (k.items ≡ e.0.items → b ≡ true)
          → lookup (bytes_eq x) (entries_text (insert_entry same_key es k v))
          ≡ cond (bytes_eq x k.items) (Some (g v)) (lookup (bytes_eq x) (entries_text es))
          → lookup (bytes_eq x) (entries_text (cond b ((e.0, v) ∷ es) (e ∷ insert_entry same_key es k v)))
          ≡ cond (bytes_eq x k.items) (Some (g v))
          (cond (bytes_eq x e.0.items) (Some (g e.1)) (lookup (bytes_eq x) (entries_text es)))
      by true same differ rest = ap (λ q. cond (bytes_eq x q) (Some (g v))
          (lookup (bytes_eq x) (entries_text es))) (sym (same refl))
          ∙ taken (bytes_eq x k.items) (bytes_eq x e.0.items) (ap (bytes_eq x) (same refl))
      by false same differ rest = ap (cond (bytes_eq x e.0.items) (Some (g e.1))) rest
          ∙ among (bytes_eq x k.items) (bytes_eq x e.0.items)
          (λ p q. true≢false (sym (differ (sym ((bytes_eq-Decides x k.items).0 p)
          ∙ (bytes_eq-Decides x e.0.items).0 q)))) (lookup (bytes_eq x) (entries_text es))

  pub lookup-text : (es : List (Vec ℕ × V)) (x : List ℕ)
      → lookup (bytes_eq x) (entries_text es) ≡ option_map g (lookup (λ k. bytes_eq x k.items) es)
  lookup-text [] x = refl
  lookup-text (e ∷ es) x = by (bytes_eq x e.0.items) (lookup-text es x)
    where
      by : (b : Bool) → lookup (bytes_eq x) (entries_text es)
          ≡ option_map g (lookup (λ k. bytes_eq x k.items) es)
          → cond b (Some (g e.1)) (lookup (bytes_eq x) (entries_text es))
          ≡ option_map g (cond b (Some e.1) (lookup (λ k. bytes_eq x k.items) es))
      by true rest = refl
      by false rest = rest

-- ---- the same of a program's scopes

pub pushed-text : (scopes items : List Scope) (p : ScopeNo) (new : Scope) → new.parent ≡ Some p
    → new.values.entries ≡ [] → new.rules.entries ≡ [] → items ≡ scopes ++ new ∷ []
    → map scope_model items ≡ opened (map scope_model scopes) p.0
pushed-text scopes items p new within no_values no_rules is = grind (arith, common_steps)

module _ (items : List Scope) (i : ℕ) (s t : Scope) (inside : i < length (map scope_model items))
    (read : s ≡ get_or items i s) where
  here-text : slice_get (map scope_model items) i ≡ Some (scope_model s)
  here-text = slice_get-map scope_model items i
      ∙ ap (option_map scope_model) (slice_get_read items (length items) i s refl
      (subst (λ n. i < n) (length-map items scope_model) inside) read)

  pub at_scope-text : {X : Type 0} (f : ScopeModel → Option X)
      → at_scope f (map scope_model items) i ≡ f (scope_model s)
  at_scope-text f = ap (option_and_then f) here-text

  -- another scope in place of the given one
  pub earlier-set_text : t.parent ≡ s.parent → ParentsAreEarlier (map scope_model items)
      → ParentsAreEarlier (map scope_model (slice_set items i t))
  earlier-set_text within earlier =
      subst ParentsAreEarlier (sym (map-set scope_model items i t))
      (earlier-set (map scope_model items) i (scope_model s) (scope_model t) here-text
      (ap (option_map (λ p. p.0)) within) earlier)

  pub kept-text : {X : Type 0} (f : ScopeModel → Option X) → f (scope_model t) ≡ f (scope_model s) → (n : ℕ)
      → at_scope f (map scope_model (slice_set items i t)) n ≡ at_scope f (map scope_model items) n
  kept-text f same n =
      ap (λ ss. at_scope f ss n) (map-set scope_model items i t)
      ∙ at_scope-kept (map scope_model items) i (scope_model s) (scope_model t) here-text f same n

  pub bound-text : (name v : List ℕ) → ((x : List ℕ)
      → lookup (bytes_eq x) (values_text t.values.entries)
      ≡ cond (bytes_eq x name) (Some v) (lookup (bytes_eq x) (values_text s.values.entries)))
      → (n : ℕ) (x : List ℕ) → bound_at (map scope_model (slice_set items i t)) n x
      ≡ cond (nat_eq n i && bytes_eq x name) (Some v) (bound_at (map scope_model items) n x)
  bound-text name v set n x =
      ap (λ ss. bound_at ss n x) (map-set scope_model items i t)
      ∙ at_scope-bound (map scope_model items) i (scope_model s) (scope_model t) here-text
      (λ u. lookup (bytes_eq x) u.values) (bytes_eq x name) (Some v) (set x) n

  pub declared-text : (k : Vec ℕ) (v : RuleNo)
      → t.rules.entries ≡ insert_entry (same_key (λ (v : RuleNo). v)) s.rules.entries k v
      → (n : ℕ) (x : List ℕ) → rule_at (map scope_model (slice_set items i t)) n x
      ≡ cond (nat_eq n i && bytes_eq x k.items) (Some v.0) (rule_at (map scope_model items) n x)
  declared-text k v entries n x =
      ap (λ ss. rule_at ss n x) (map-set scope_model items i t)
      ∙ at_scope-bound (map scope_model items) i (scope_model s) (scope_model t) here-text
      (λ u. lookup (bytes_eq x) u.rules) (bytes_eq x k.items) (Some v.0)
      (ap (λ es. lookup (bytes_eq x) (entries_text (λ w. w.0) es)) entries
      ∙ lookup-inserted (λ w. w.0) s.rules.entries k v x) n
