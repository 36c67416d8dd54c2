-- The computed cycle is the specified cycle.
use Rattle.std.proofs.Common.{◌≡◌, ◌≢◌, ◌<◌, ◌≤◌, ◌⊎◌, inl, inr, ℕ, zero, suc, Bool, true, false, ◌||◌, cond}
use Rattle.std.proofs.Common.{List, [], ◌∷◌, length, Option, Some, None, unwrap_or, bytes_eq, refl, sym, ap}
use Rattle.std.proofs.Common.{subst, ◌∙◌, true≢false, arith, Ordering, Less, Equal, Greater}
use Rattle.nj_names.specs.NameTables.{is_among}
use Rattle.std.specs.Prelude.{filter}
use Rattle.std.specs.List.{list_any, fold, reduce}
use Rattle.std.specs.Ordering.{nat_cmp, ordering_reverse, min_by_ordering, is_eq}
use Rattle.std.specs.Cmp.Lexicographic.{slice_cmp, texts_ties}
use Rattle.std.proofs.lemmas.Cmp.{nat_list_cmp_total}
use Rattle.std.proofs.lemmas.List.{length-map}
use Rattle.nj_text.specs.Words.{PartModel}
use Rattle.nj_scope.specs.Rules.{RuleLineModel}
use Rattle.nj_scope.specs.RulesHeld.{has_key}
use Rattle.nj_edge_env.specs.LateStrings.{rule_value, refers}
use Rattle.nj_edge_env.specs.VariableCycles.{RefersTo, Reaches, IsOnCycle, IsCycleFound, keys_of, referring}
use Rattle.nj_edge_env.specs.VariableCycles.{reaching, keys_on_cycles, variable_cycle_of}
use Rattle.nj_cycles.specs.Cycles.Chain.{one, more}
use Rattle.nj_edge_env.proofs.GivenLemmas.{same_name, own_name, counts_in_line}

-- ---- names in lists

abbrev Within : (names others : List (List ℕ)) → Type 0
Within names others = (name : List ℕ) → is_among names name ≡ true → is_among others name ≡ true

first : (b c : Bool) → b ≡ true → (b || c) ≡ true
first b c h = grind arith

second : (b c : Bool) → c ≡ true → (b || c) ≡ true
second b c h = grind arith

either : (b c : Bool) → (b || c) ≡ true → (b ≡ true) ⊎ (c ≡ true)
either b c h = grind arith

any_at : (p : List ℕ → Bool) (names : List (List ℕ)) (name : List ℕ) → is_among names name ≡ true
    → p name ≡ true → list_any p names ≡ true
any_at p [] name among h = absurd (true≢false (sym among))
any_at p (n ∷ names) name among h = elim (either (bytes_eq name n) (is_among names name) among) [
  | inl e ↦ first (p n) (list_any p names) (subst (λ x. p x ≡ true) (same_name name n e) h)
  | inr rest ↦ second (p n) (list_any p names) (any_at p names name rest h)
]

any_of : (p : List ℕ → Bool) (names : List (List ℕ)) → list_any p names ≡ true
    → (name : List ℕ) × (is_among names name ≡ true) × (p name ≡ true)
any_of p [] h = absurd (true≢false (sym h))
any_of p (n ∷ names) h = elim (either (p n) (list_any p names) h) [
  | inl e ↦ (n, first (bytes_eq n n) (is_among names n) (own_name n), e)
  | inr rest ↦ let r = any_of p names rest in (r.0, second (bytes_eq r.0 n) (is_among names r.0) r.1, r.2)
]

filtered : (p : List ℕ → Bool) (keys : List (List ℕ)) (key : List ℕ) → is_among keys key ≡ true → p key ≡ true
    → is_among (filter p keys) key ≡ true
filtered p [] key among h = among
filtered p (k ∷ keys) key among h = by (p k) refl (λ rest. filtered p keys key rest h)
    (either (bytes_eq key k) (is_among keys key) among)
  where
    by : (b : Bool) → p k ≡ b → (is_among keys key ≡ true → is_among (filter p keys) key ≡ true)
        → (bytes_eq key k ≡ true) ⊎ (is_among keys key ≡ true)
        → is_among (cond b (k ∷ filter p keys) (filter p keys)) key ≡ true
    by true e go (inl same) = first (bytes_eq key k) (is_among (filter p keys) key) same
    by true e go (inr rest) = second (bytes_eq key k) (is_among (filter p keys) key) (go rest)
    by false e go (inl same) = absurd (true≢false (sym h ∙ ap p (same_name key k same) ∙ e))
    by false e go (inr rest) = go rest

unfiltered : (p : List ℕ → Bool) (keys : List (List ℕ)) (key : List ℕ) → is_among (filter p keys) key ≡ true
    → (is_among keys key ≡ true) × (p key ≡ true)
unfiltered p [] key among = absurd (true≢false (sym among))
unfiltered p (k ∷ keys) key among = by (p k) refl (unfiltered p keys key) among
  where
    later : (is_among keys key ≡ true) × (p key ≡ true) → (is_among (k ∷ keys) key ≡ true) × (p key ≡ true)
    later r = (second (bytes_eq key k) (is_among keys key) r.0, r.1)

    here : p k ≡ true → (is_among (filter p keys) key ≡ true → (is_among keys key ≡ true) × (p key ≡ true))
        → (bytes_eq key k ≡ true) ⊎ (is_among (filter p keys) key ≡ true)
        → (is_among (k ∷ keys) key ≡ true) × (p key ≡ true)
    here e go (inl same) = (first (bytes_eq key k) (is_among keys key) same, ap p (same_name key k same) ∙ e)
    here e go (inr rest) = later (go rest)

    by : (b : Bool) → p k ≡ b → (is_among (filter p keys) key ≡ true
        → (is_among keys key ≡ true) × (p key ≡ true))
        → is_among (cond b (k ∷ filter p keys) (filter p keys)) key ≡ true
        → (is_among (k ∷ keys) key ≡ true) × (p key ≡ true)
    by true e go h = here e go (either (bytes_eq key k) (is_among (filter p keys) key) h)
    by false e go h = later (go h)

length_filtered : (p : List ℕ → Bool) (keys : List (List ℕ)) → length (filter p keys) ≤ length keys
length_filtered p [] = omega arith
length_filtered p (k ∷ keys) = by (p k) (length_filtered p keys)
  where
    by : (b : Bool) → length (filter p keys) ≤ length keys
        → length (cond b (k ∷ filter p keys) (filter p keys)) ≤ suc (length keys)
    by true le = omega arith
    by false le = omega arith

no_shorter : (p q : List ℕ → Bool) (keys : List (List ℕ)) → ((key : List ℕ) → p key ≡ true → q key ≡ true)
    → length (filter p keys) ≤ length (filter q keys)
no_shorter p q [] wider = omega arith
no_shorter p q (k ∷ keys) wider = by (p k) (q k) (wider k) (no_shorter p q keys wider)
  where
    by : (b c : Bool) → (b ≡ true → c ≡ true) → length (filter p keys) ≤ length (filter q keys)
        → length (cond b (k ∷ filter p keys) (filter p keys)) ≤ length
        (cond c (k ∷ filter q keys) (filter q keys))
    by true true w le = omega arith
    by true false w le = absurd (true≢false (sym (w refl)))
    by false true w le = omega arith
    by false false w le = le

-- a wider test passes the same keys, or more keys
same_or_longer : (p q : List ℕ → Bool) (keys : List (List ℕ)) → ((key : List ℕ) → p key ≡ true → q key ≡ true)
    → ((key : List ℕ) → is_among keys key ≡ true → q key ≡ true → p key ≡ true)
    ⊎ (length (filter p keys) < length (filter q keys))
same_or_longer p q [] wider = inl (λ key among h. absurd (true≢false (sym among)))
same_or_longer p q (k ∷ keys) wider = by (p k) (q k) refl refl (same_or_longer p q keys wider)
  where
    same : (p k ≡ true) ⊎ (q k ≡ false) → ((key : List ℕ) → is_among keys key ≡ true → q key ≡ true
        → p key ≡ true)
        → (key : List ℕ) → is_among (k ∷ keys) key ≡ true → q key ≡ true → p key ≡ true
    same here rest key among h = elim (either (bytes_eq key k) (is_among keys key) among) [
      | inl e ↦ elim here [
        | inl yes_p ↦ ap p (same_name key k e) ∙ yes_p
        | inr no_q ↦ absurd (true≢false (sym h ∙ ap q (same_name key k e) ∙ no_q))
      ]
      | inr later ↦ rest key later h
    ]

    by : (b c : Bool) → p k ≡ b → q k ≡ c → ((key : List ℕ) → is_among keys key ≡ true → q key ≡ true
        → p key ≡ true) ⊎ (length (filter p keys) < length (filter q keys))
        → ((key : List ℕ) → is_among (k ∷ keys) key ≡ true → q key ≡ true → p key ≡ true)
        ⊎ (length (cond b (k ∷ filter p keys) (filter p keys)) < length
        (cond c (k ∷ filter q keys) (filter q keys)))
    by true true e f (inl rest) = inl (same (inl e) rest)
    by true true e f (inr lt) = inr (omega arith)
    by true false e f r = absurd (true≢false (sym (wider k e) ∙ f))
    by false true e f r = let le = no_shorter p q keys wider in inr (omega arith)
    by false false e f (inl rest) = inl (same (inr f) rest)
    by false false e f (inr lt) = inr lt

-- ---- keys that reach a name

module _ (block : List ℕ → Option (List ℕ)) (lines : List RuleLineModel) where
  -- whether the key's value refers to one of the names
  abbrev leads : (names : List (List ℕ)) → (key : List ℕ) → Bool
  leads names key = list_any (refers (unwrap_or (rule_value block lines key) [])) names

  leads_wider : (names others : List (List ℕ)) → Within names others → (key : List ℕ) → leads names key ≡ true
      → leads others key ≡ true
  leads_wider names others wider key h =
      let r = any_of (refers (unwrap_or (rule_value block lines key) [])) names h in
      any_at (refers (unwrap_or (rule_value block lines key) [])) others r.0 (wider r.0 r.1) r.2

  also : (name : List ℕ) (names others : List (List ℕ)) → Within names others
      → Within (name ∷ names) (name ∷ others)
  also name names others wider n among = elim (either (bytes_eq n name) (is_among names n) among) [
    | inl e ↦ first (bytes_eq n name) (is_among others n) e
    | inr rest ↦ second (bytes_eq n name) (is_among others n) (wider n rest)
  ]

  referring_wider : (names others : List (List ℕ)) → Within names others
      → Within (referring block lines names) (referring block lines others)
  referring_wider names others wider key among =
      let r = unfiltered (leads names) (keys_of lines) key among in
      filtered (leads others) (keys_of lines) key r.0 (leads_wider names others wider key r.1)

  reaching_wider : (steps : ℕ) (name : List ℕ)
      → Within (reaching steps block lines name) (reaching (suc steps) block lines name)
  reaching_wider zero name = λ key among. absurd (true≢false (sym among))
  reaching_wider (suc steps) name =
      referring_wider (name ∷ reaching steps block lines name) (name ∷ reaching (suc steps) block lines name)
      (also name (reaching steps block lines name) (reaching (suc steps) block lines name)
      (reaching_wider steps name))

  -- one more step finds no other key
  abbrev IsFull : (steps : ℕ) → (name : List ℕ) → Type 0
  IsFull steps name = Within (reaching (suc steps) block lines name) (reaching steps block lines name)

  full_or_longer : (steps : ℕ) (name : List ℕ)
      → IsFull steps name ⊎ (steps < length (reaching (suc steps) block lines name))
  full_or_longer zero name = by (reaching 1 block lines name) refl
    where
      by : (keys : List (List ℕ)) → reaching 1 block lines name ≡ keys
          → IsFull 0 name ⊎ (0 < length (reaching 1 block lines name))
      by [] e = inl (λ key among. absurd (true≢false (sym among ∙ ap (λ keys. is_among keys key) e)))
      by (k ∷ keys) e = inr (subst (λ keys. 0 < length keys) (sym e) (omega arith))
  full_or_longer (suc steps) name = by (full_or_longer steps name)
    where
      wider : Within (name ∷ reaching steps block lines name) (name ∷ reaching (suc steps) block lines name)
      wider = also name (reaching steps block lines name) (reaching (suc steps) block lines name)
          (reaching_wider steps name)

      by : IsFull steps name ⊎ (steps < length (reaching (suc steps) block lines name))
          → IsFull (suc steps) name ⊎ (suc steps < length (reaching (suc (suc steps)) block lines name))
      by (inl full) = inl (referring_wider (name ∷ reaching (suc steps) block lines name)
          (name ∷ reaching steps block lines name)
          (also name (reaching (suc steps) block lines name) (reaching steps block lines name) full))
      by (inr lt) = elim (same_or_longer (leads (name ∷ reaching steps block lines name))
          (leads (name ∷ reaching (suc steps) block lines name)) (keys_of lines)
          (leads_wider (name ∷ reaching steps block lines name) (name ∷ reaching (suc steps) block lines name)
          wider)) [
            | inl same ↦ inl (λ key among. let r =
                unfiltered (leads (name ∷ reaching (suc steps) block lines name)) (keys_of lines) key among in
                filtered (leads (name ∷ reaching steps block lines name)) (keys_of lines) key r.0
                (same key r.0 r.1))
            | inr more_keys ↦ inr (omega arith)
          ]

  -- as many steps as there are lines find each key
  full : (name : List ℕ) → IsFull (length lines) name
  full name = by (full_or_longer (length lines) name)
    where
      by : IsFull (length lines) name ⊎ (length lines < length
          (reaching (suc (length lines)) block lines name)) → IsFull (length lines) name
      by (inl is) = is
      by (inr lt) =
          let within = length_filtered (leads (name ∷ reaching (length lines) block lines name))
          (keys_of lines) in
          let as_many : length (keys_of lines) ≡ length lines =
          length-map lines (λ (l : RuleLineModel). l.key) in
          absurd (omega arith)

  key_of_line : (ls : List RuleLineModel) (key : List ℕ) → has_key ls key ≡ true
      → is_among (keys_of ls) key ≡ true
  key_of_line [] key h = h
  key_of_line (l ∷ ls) key h = elim (either (bytes_eq key l.key) (has_key ls key) h) [
    | inl e ↦ first (bytes_eq key l.key) (is_among (keys_of ls) key) e
    | inr rest ↦ second (bytes_eq key l.key) (is_among (keys_of ls) key) (key_of_line ls key rest)
  ]

  refers_among : (names : List (List ℕ)) (key other : List ℕ) → RefersTo block lines key other
      → is_among names other ≡ true → is_among (referring block lines names) key ≡ true
  refers_among names key other r among =
      filtered (leads names) (keys_of lines) key
      (key_of_line lines key (counts_in_line block lines key r.0 r.1))
      (any_at (refers (unwrap_or (rule_value block lines key) [])) names other among
      (ap (λ value. refers (unwrap_or value []) other) r.1 ∙ r.2))

  -- each key that reaches the name is found
  found : (key name : List ℕ) → Reaches block lines key name
      → is_among (reaching (length lines) block lines name) key ≡ true
  found key name (one r) =
      full name key (refers_among (name ∷ reaching (length lines) block lines name) key name r
      (first (bytes_eq name name) (is_among (reaching (length lines) block lines name) name)
      (own_name name)))
  found key name (more {g = next} r c) =
      full name key (refers_among (name ∷ reaching (length lines) block lines name) key next r
      (second (bytes_eq next name) (is_among (reaching (length lines) block lines name) next)
      (found next name c)))

  refers_to : (key other : List ℕ) → refers (unwrap_or (rule_value block lines key) []) other ≡ true
      → RefersTo block lines key other
  refers_to key other h = by (rule_value block lines key) refl h
    where
      by : (value : Option (List PartModel)) → rule_value block lines key ≡ value
          → refers (unwrap_or value []) other ≡ true → RefersTo block lines key other
      by None e r = absurd (true≢false (sym r))
      by (Some parts) e r = (parts, e, r)

  -- each key that is found reaches the name
  reaches : (steps : ℕ) (key name : List ℕ) → is_among (reaching steps block lines name) key ≡ true
      → Reaches block lines key name
  reaches zero key name among = absurd (true≢false (sym among))
  reaches (suc steps) key name among =
      let r = any_of (refers (unwrap_or (rule_value block lines key) []))
      (name ∷ reaching steps block lines name)
      (unfiltered (leads (name ∷ reaching steps block lines name)) (keys_of lines) key among).1 in
      elim (either (bytes_eq r.0 name) (is_among (reaching steps block lines name) r.0) r.1) [
        | inl e ↦ subst (Reaches block lines key) (same_name r.0 name e) (one (refers_to key r.0 r.2))
        | inr rest ↦ more (refers_to key r.0 r.2) (reaches steps r.0 name rest)
      ]

  among_cycles : (key : List ℕ) → IsOnCycle block lines key → is_among (keys_on_cycles block lines) key ≡ true
  among_cycles key on =
      let f = found key key on in
      filtered (λ k. is_among (reaching (length lines) block lines k) k) (keys_of lines) key
      (unfiltered (leads (key ∷ reaching (length lines) block lines key)) (keys_of lines) key
      (reaching_wider (length lines) key key f)).0 f

  on_cycle : (key : List ℕ) → is_among (keys_on_cycles block lines) key ≡ true → IsOnCycle block lines key
  on_cycle key among = reaches (length lines) key key
      (unfiltered (λ k. is_among (reaching (length lines) block lines k) k) (keys_of lines) key among).1

-- ---- the least key

abbrev order : (x y : List ℕ) → Ordering
order x y = slice_cmp nat_cmp x y

abbrev lesser : (x y : List ℕ) → List ℕ
lesser x y = min_by_ordering (order x y) x y

-- an order and its reverse
turned : (x y : List ℕ) (o : Ordering) → order x y ≡ o → order y x ≡ ordering_reverse o
turned x y o e = nat_list_cmp_total.antisymm y x ∙ ap ordering_reverse e

pub not_less_own : (x : List ℕ) → order x x ≢ Less
not_less_own x h = let e = turned x x Less h in cc

lesser_at : (x y : List ℕ) → (order x (lesser x y) ≢ Less) × (order y (lesser x y) ≢ Less)
lesser_at x y = grind (arith, not_less_own, turned)

-- a name that is not below another is not below a name that is not greater
pub no_less : (x y z : List ℕ) → order x y ≢ Less → order y z ≢ Less → order x z ≢ Less
no_less x y z p q h = by (order z y) refl
  where
    by : (o : Ordering) → order z y ≡ o → ⊥
    by Less e = p (nat_list_cmp_total.trans x z y h e)
    by Equal e = let r = turned x z Less h in let s = nat_list_cmp_total.congr z y x e in
        p (let t = turned y x Greater (sym s ∙ r) in t)
    by Greater e = q (turned z y Greater e)

among_two : (x y : List ℕ) → (lesser x y ≡ x) ⊎ (lesser x y ≡ y)
among_two x y = grind arith

least_among : (x : List ℕ) (xs : List (List ℕ)) → is_among (x ∷ xs) (fold lesser x xs) ≡ true
least_among x [] = first (bytes_eq x x) false (own_name x)
least_among x (y ∷ ys) = elim (either (bytes_eq (fold lesser (lesser x y) ys) (lesser x y))
    (is_among ys (fold lesser (lesser x y) ys)) (least_among (lesser x y) ys)) [
      | inl e ↦ elim (among_two x y) [
        | inl t ↦ first (bytes_eq (fold lesser (lesser x y) ys) x)
            (is_among (y ∷ ys) (fold lesser (lesser x y) ys))
            (subst (λ k. bytes_eq (fold lesser (lesser x y) ys) k ≡ true) t e)
        | inr t ↦ second (bytes_eq (fold lesser (lesser x y) ys) x)
            (is_among (y ∷ ys) (fold lesser (lesser x y) ys))
            (first (bytes_eq (fold lesser (lesser x y) ys) y) (is_among ys (fold lesser (lesser x y) ys))
            (subst (λ k. bytes_eq (fold lesser (lesser x y) ys) k ≡ true) t e))
      ]
      | inr rest ↦ second (bytes_eq (fold lesser (lesser x y) ys) x)
          (is_among (y ∷ ys) (fold lesser (lesser x y) ys))
          (second (bytes_eq (fold lesser (lesser x y) ys) y) (is_among ys (fold lesser (lesser x y) ys)) rest)
    ]

none_less : (x : List ℕ) (xs : List (List ℕ)) (key : List ℕ) → is_among (x ∷ xs) key ≡ true
    → order key (fold lesser x xs) ≢ Less
none_less x [] key among = λ h. elim (either (bytes_eq key x) false among) [
  | inl e ↦ not_less_own x (subst (λ k. order k x ≡ Less) (same_name key x e) h)
  | inr no_more ↦ true≢false (sym no_more)
]
none_less x (y ∷ ys) key among =
    let m = fold lesser (lesser x y) ys in
    let own = first (bytes_eq (lesser x y) (lesser x y)) (is_among ys (lesser x y)) (own_name (lesser x y)) in
    let above = none_less (lesser x y) ys (lesser x y) own in
    elim (either (bytes_eq key x) (is_among (y ∷ ys) key) among) [
      | inl e ↦ subst (λ k. order k m ≢ Less) (sym (same_name key x e))
          (no_less x (lesser x y) m (lesser_at x y).0 above)
      | inr later ↦ elim (either (bytes_eq key y) (is_among ys key) later) [
        | inl e ↦ subst (λ k. order k m ≢ Less) (sym (same_name key y e))
            (no_less y (lesser x y) m (lesser_at x y).1 above)
        | inr rest ↦ none_less (lesser x y) ys key (second (bytes_eq key (lesser x y)) (is_among ys key) rest)
      ]
    ]

-- ---- the law

pub computed_found : (block : List ℕ → Option (List ℕ)) (lines : List RuleLineModel)
    → IsCycleFound block lines (variable_cycle_of block lines)
unfolding variable_cycle_of
computed_found block lines = by (keys_on_cycles block lines) refl
  where
    by : (keys : List (List ℕ)) → keys_on_cycles block lines ≡ keys
        → IsCycleFound block lines (reduce lesser keys)
    by [] e = λ key on. true≢false (sym (among_cycles block lines key on) ∙ ap (λ keys. is_among keys key) e)
    by (x ∷ xs) e = (
      on_cycle block lines (fold lesser x xs)
          (ap (λ keys. is_among keys (fold lesser x xs)) e ∙ least_among x xs),
      λ other on. none_less x xs other (sym (ap (λ keys. is_among keys other) e)
          ∙ among_cycles block lines other on),
    )

same_text : (x y : List ℕ) → order x y ≡ Equal → x ≡ y
same_text x y e = same_name x y (texts_ties x y ∙ ap is_eq e)

-- there is only one result
one_found : (block : List ℕ → Option (List ℕ)) (lines : List RuleLineModel) (outcome other : Option (List ℕ))
    → IsCycleFound block lines outcome → IsCycleFound block lines other → outcome ≡ other
one_found block lines outcome other p q = grind (arith, same_text, turned)

-- so the key found is the computed one
pub is_computed : (block : List ℕ → Option (List ℕ)) (lines : List RuleLineModel) (outcome : Option (List ℕ))
    → IsCycleFound block lines outcome → outcome ≡ variable_cycle_of block lines
is_computed block lines outcome found = grind (arith, one_found, computed_found)
