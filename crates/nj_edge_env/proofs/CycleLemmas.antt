-- Lemmas on cycles of a rule's variables: a key lies on a cycle if its number leads back to itself.
use Rattle.std.proofs.lemmas.Grind.{common_steps}
use Rattle.std.proofs.Common.{inl, inr, ◌≡◌, ◌≢◌, ◌<◌, ◌≤◌, ◌+◌, ℕ, zero, suc, Bool, true, false, not, ◌&&◌}
use Rattle.std.proofs.Common.{if◌then◌else◌, List, [], ◌∷◌, ◌++◌, length, replicate, slice_get}
use Rattle.std.proofs.Common.{get_or, Option, Some, None, Result, Ok, Err, is_some, option_map, unwrap_or}
use Rattle.std.proofs.Common.{Less, refl, sym, ap, subst, ◌∙◌, true≢false, arith}
use Rattle.std.specs.Prelude.{slice_index_or, IfOk, IfSome}
use Rattle.std.specs.Ordering.{nat_cmp}
use Rattle.std.specs.Cmp.Lexicographic.{slice_cmp}
use Rattle.std.proofs.lemmas.Bool.{cases_lt}
use Rattle.std.proofs.lemmas.List.FromFn.{length-map-range_with_len, get_or-map-range_with_len}
use Rattle.std.proofs.lemmas.Option.{slice_get-get_or, slice_get_past}
use Rattle.nj_text.specs.Words.{PartModel}
use Rattle.nj_scope.specs.Rules.{RuleLineModel}
use Rattle.nj_edge_env.specs.LateStrings.{rule_value, refers}
use Rattle.nj_edge_env.specs.VariableCycles.{RefersTo, Reaches, IsOnCycle, IsCycleFound, variable_cycle_of}
use Rattle.nj_edge_env.specs.ReferencesHeld.{ReferringKeyModel, AreReferences, TellsCycles, name_at, row_at}
use Rattle.nj_edge_env.specs.ReferencesHeld.{unbound}
use Rattle.nj_edge_env.specs.Inside.CyclesHeld.{AreCounted, refers_counted, makers_counted}
use Rattle.nj_cycles.specs.Cycles.{Needs, NeedsByChain, AreEdges, IsFirstOnCycle}
use Rattle.nj_cycles.specs.Cycles.Chain.{one, more}
use Rattle.nj_cycles.proofs.Ranks.{falling_ranks_leave_no_cycle}
use Rattle.nj_edge_env.proofs.GivenLemmas.{rule_value_is, rule_value_of, given_at}
use Rattle.nj_edge_env.proofs.CycleLaws.{is_computed, not_less_own}

-- ---- which keys count

counted_none : {X : Type 0} (o : Option X) → not (is_some o) ≡ true → o ≡ None
counted_none o h = grind arith

get_front : (xs : List Bool) (b : Bool) (n : ℕ) → n < length xs
    → get_or (xs ++ b ∷ []) n false ≡ get_or xs n false
get_front xs b n below = grind (arith, common_steps)

get_end : (xs : List Bool) (b : Bool) → get_or (xs ++ b ∷ []) (length xs) false ≡ b
get_end xs b = grind (arith, common_steps)

-- the keys with numbers below i
pub record CountedBelow (block : List ℕ → Option (List ℕ)) (keys : List ReferringKeyModel) (i : ℕ)
    (counts : List Bool) : Type 0 where
  pub len : length counts ≡ i
  pub are : (n : ℕ) → n < i → slice_index_or counts n false ≡ not (is_some (block (name_at keys n)))

pub counted_more : (block : List ℕ → Option (List ℕ)) (keys : List ReferringKeyModel) (i : ℕ)
    (counts pushed : List Bool) (b : Bool) → CountedBelow block keys i counts → pushed ≡ counts ++ b ∷ []
    → b ≡ not (is_some (block (name_at keys i))) → CountedBelow block keys (i + 1) pushed
counted_more block keys i counts pushed b so is e = grind (arith, common_steps)

pub all_counted : (block : List ℕ → Option (List ℕ)) (keys : List ReferringKeyModel) (i : ℕ)
    (counts held : List Bool) → CountedBelow block keys i counts → length keys ≤ i → held ≡ counts
    → AreCounted block keys held
all_counted block keys i counts held so le e n below = grind arith

-- if nothing is bound, every key counts
pub unbound_counted : (keys : List ReferringKeyModel) (count : ℕ) (counts : List Bool)
    → counts ≡ replicate count true → count ≡ length keys → AreCounted unbound keys counts
unbound_counted keys count counts is same n below = grind (arith, common_steps)

-- ---- the graph of the keys

pub row_within : (keys : List ReferringKeyModel) (key other : ℕ)
    → slice_index_or (row_at keys key) other false ≡ true → key < length keys
row_within [] key other m = absurd (true≢false (sym m))
row_within (k ∷ keys) zero other m = omega arith
row_within (k ∷ keys) (suc key) other m = let lt = row_within keys key other m in omega arith

module _ (keys : List ReferringKeyModel) (counts : List Bool) where
  abbrev makers : ℕ → List (Option ℕ)
  makers = makers_counted keys counts

  abbrev maker : (key other : ℕ) → Option ℕ
  maker key other = if refers_counted keys counts key other then Some other else None

  pub maker-at : (key other : ℕ) → other < length keys → slice_get (makers key) other ≡ Some (maker key other)
  maker-at key other below =
      slice_get-get_or (makers key) other None
      (subst (λ n. other < n) (sym (length-map-range_with_len (maker key) 0 (length keys))) below)
      ∙ ap Some (get_or-map-range_with_len (maker key) 0 (length keys) other other None below (omega arith))

  pub maker-past : (key other : ℕ) → length keys ≤ other → slice_get (makers key) other ≡ None
  maker-past key other past = slice_get_past (makers key) other
      (subst (λ n. n ≤ other) (sym (length-map-range_with_len (maker key) 0 (length keys))) past)

  pub maker-some : (key other : ℕ) → slice_index_or counts key false ≡ true
      → slice_index_or (row_at keys key) other false ≡ true → maker key other ≡ Some other
  maker-some key other e f = ap (λ x. if x then Some other else None)
      (ap (λ x. x && slice_index_or (row_at keys key) other false) e ∙ f)

  pub maker-uncounted : (key other : ℕ) → slice_index_or counts key false ≡ false → maker key other ≡ None
  maker-uncounted key other e = ap (λ x. if x then Some other else None)
      (ap (λ x. x && slice_index_or (row_at keys key) other false) e)

  pub maker-unreferred : (key other : ℕ) → slice_index_or (row_at keys key) other false ≡ false
      → maker key other ≡ None
  maker-unreferred key other e = ap (λ x. if slice_index_or counts key false && x then Some other else None) e
      ∙ by (slice_index_or counts key false)
    where
      by : (b : Bool) → (if b && false then Some other else None) ≡ None
      by true = refl
      by false = refl

  -- a key that needs another counts, and its value refers to the other
  pub record IsNeed (key other : ℕ) : Type 0 where
    pub counted : slice_index_or counts key false ≡ true
    pub refers : slice_index_or (row_at keys key) other false ≡ true
    pub within : other < length keys

  need_is : (key other : ℕ) → Needs makers key other → IsNeed key other
  need_is key other (k, within, at) =
      let below : k < length keys = subst (λ n. k < n) (length-map-range_with_len (maker key) 0 (length keys))
      within in
      by k below (slice_index_or counts key false) (slice_index_or (row_at keys key) k false) refl refl
      (sym (get_or-map-range_with_len (maker key) 0 (length keys) k k (Some other) below (omega arith))
      ∙ at)
    where
      by : (k : ℕ) → k < length keys → (b c : Bool) → slice_index_or counts key false ≡ b
          → slice_index_or (row_at keys key) k false ≡ c
          → (if slice_index_or counts key false
          && slice_index_or (row_at keys key) k false then Some k else None) ≡ Some other → IsNeed key other
      by k below true true e f h =
          let same : k ≡ other = ap (λ o. unwrap_or o k)
          (sym (ap (λ x. if x then Some k else None)
          (ap (λ x. x && slice_index_or (row_at keys key) k false) e ∙ f)) ∙ h) in
          subst (IsNeed key) same (record { counted = e; refers = f; within = below })
      by k below true false e f h = absurd (true≢false
          (sym (ap is_some (sym (ap (λ x. if x then Some k else None)
          (ap (λ x. x && slice_index_or (row_at keys key) k false) e ∙ f)) ∙ h))))
      by k below false c e f h = absurd (true≢false
          (sym (ap is_some (sym (ap (λ x. if x then Some k else None)
          (ap (λ x. x && slice_index_or (row_at keys key) k false) e)) ∙ h))))

  is_need : (key other : ℕ) → IsNeed key other → Needs makers key other
  is_need key other need = (
    other,
    subst (λ n. other < n) (sym (length-map-range_with_len (maker key) 0 (length keys))) need.within,
    get_or-map-range_with_len (maker key) 0 (length keys) other other (Some other) need.within (omega arith)
        ∙ ap (λ x. if x then Some other else None)
        (ap (λ x. x && slice_index_or (row_at keys key) other false) need.counted ∙ need.refers),
  )

  pub known_edges : AreEdges makers (length keys)
  known_edges key other needs = let need = need_is key other needs in
      (row_within keys key other need.refers, need.within)

  starts_within : (key other : ℕ) → NeedsByChain makers key other → key < length keys
  starts_within key other (one needs) = (known_edges key other needs).0
  starts_within key other (more {g = g} needs chain) = (known_edges key g needs).0

  pub first_within : {E : Type 0} (result : Result (Option ℕ) E)
      → IfOk result (IsFirstOnCycle makers (length keys))
      → IfOk result (λ first. IfSome first (λ n. n < length keys))
  first_within (Ok None) is = search
  first_within (Ok (Some n)) is = starts_within n n is.0
  first_within (Err fault) is = search

  -- without keys there is no cycle
  pub none_first : length keys ≡ 0 → IsFirstOnCycle makers (length keys) None
  none_first empty = (
    λ key. 0,
    record {
      falls = λ key other needs. let within = (known_edges key other needs).0 in
          absurd (omega (arith, within, empty));
      bounded = λ key within. absurd (omega (arith, within, empty));
      within = λ key other needs. (known_edges key other needs).1;
    },
  )

module _ (block : List ℕ → Option (List ℕ)) (lines : List RuleLineModel) (keys : List ReferringKeyModel)
    (counts : List Bool) (are : AreReferences lines keys) (counted : AreCounted block keys counts) where
  value_of : (key : List ℕ) (other : List ℕ) → block key ≡ None
      → refers (unwrap_or (rule_value unbound lines key) []) other ≡ true → RefersTo block lines key other
  value_of key other free h = of (rule_value unbound lines key) refl h
    where
      of : (o : Option (List PartModel)) → rule_value unbound lines key ≡ o
          → refers (unwrap_or o []) other ≡ true → RefersTo block lines key other
      of None e h = absurd (true≢false (sym h))
      of (Some parts) e h = let is = rule_value_is unbound lines key parts e in
          (parts, rule_value_of block lines key is.no_paths free ∙ is.given, h)

  -- a key that needs another refers to it
  refers_to : (a b : ℕ) → Needs (makers_counted keys counts) a b
      → RefersTo block lines (name_at keys a) (name_at keys b)
  refers_to a b needs =
      let need = need_is keys counts a b needs in
      let within = row_within keys a b need.refers in
      let free : block (name_at keys a) ≡ None =
      counted_none (block (name_at keys a)) (sym (counted a within) ∙ need.counted) in
      value_of (name_at keys a) (name_at keys b) free (sym (are.rows a b within need.within) ∙ need.refers)

  refers_back : (a b : ℕ) → a < length keys → b < length keys
      → RefersTo block lines (name_at keys a) (name_at keys b) → Needs (makers_counted keys counts) a b
  refers_back a b below inside (parts, is, r) =
      let value = rule_value_is block lines (name_at keys a) parts is in
      is_need keys counts a b (record {
        counted = counted a below ∙ ap (λ o. not (is_some o)) value.unbound;
        refers = are.rows a b below inside ∙ ap (λ o. refers (unwrap_or o []) (name_at keys b))
            (rule_value_of unbound lines (name_at keys a) value.no_paths refl ∙ value.given) ∙ r;
        within = inside;
      })

  reaches : (a b : ℕ) → NeedsByChain (makers_counted keys counts) a b
      → Reaches block lines (name_at keys a) (name_at keys b)
  reaches a b (one r) = one (refers_to a b r)
  reaches a b (more {g = n} r c) = more (refers_to a n r) (reaches n b c)

  -- a key that reaches another has a number
  numbered : (x y : List ℕ) → Reaches block lines x y → (n : ℕ) × (n < length keys) × (name_at keys n ≡ x)
  numbered x y (one s) = are.all x s.0 (given_at lines x s.0 (rule_value_is block lines x s.0 s.1).given)
  numbered x y (more s d) = are.all x s.0 (given_at lines x s.0 (rule_value_is block lines x s.0 s.1).given)

  leads : (x y : List ℕ) → Reaches block lines x y → (a b : ℕ) → a < length keys → b < length keys
      → name_at keys a ≡ x → name_at keys b ≡ y → NeedsByChain (makers_counted keys counts) a b
  leads x y (one r) a b below inside p q =
      one (refers_back a b below inside (subst (λ k. RefersTo block lines k (name_at keys b)) (sym p)
      (subst (RefersTo block lines x) (sym q) r)))
  leads x y (more {g = z} r c) a b below inside p q =
      let k = numbered z y c in
      more (refers_back a k.0 below k.1 (subst (λ n. RefersTo block lines n (name_at keys k.0)) (sym p)
      (subst (RefersTo block lines x) (sym k.2) r)))
      (leads z y c k.0 b k.1 inside k.2 q)

  loop_of : (x : List ℕ) → IsOnCycle block lines x
      → (n : ℕ) × (n < length keys) × (name_at keys n ≡ x) × NeedsByChain (makers_counted keys counts) n n
  loop_of x on = let k = numbered x x on in (k.0, k.1, k.2, leads x x on k.0 k.0 k.1 k.1 k.2 k.2)

  first_found : (first : Option ℕ) → IsFirstOnCycle (makers_counted keys counts) (length keys) first
      → IsCycleFound block lines (option_map (name_at keys) first)
  first_found None (rank, is) = λ x on. let k = loop_of x on in
      falling_ranks_leave_no_cycle (makers_counted keys counts) rank is.falls k.0 k.3
  first_found (Some m) (on, lowest) = (
    reaches m m on,
    λ x there less. let k = loop_of x there in
        by k.0 k.1 k.3 (subst (λ y. slice_cmp nat_cmp y (name_at keys m) ≡ Less) (sym k.2) less),
  )
    where
      by : (n : ℕ) → n < length keys → NeedsByChain (makers_counted keys counts) n n
          → slice_cmp nat_cmp (name_at keys n) (name_at keys m) ≢ Less
      by n below loop less = elim (cases_lt n m) [
        | inl lower ↦ lowest n lower loop
        | inr no_lower ↦ elim (cases_lt m n) [
          | inl lt ↦ are.rise m n lt below less
          | inr le ↦ let same : n ≡ m = omega (arith, no_lower, le) in
              not_less_own (name_at keys m) (subst
              (λ k. slice_cmp nat_cmp (name_at keys k) (name_at keys m) ≡ Less) same less)
        ]
      ]

  -- so the lowest number is the number of the key that is computed
  first_computed : (first : Option ℕ) → IsFirstOnCycle (makers_counted keys counts) (length keys) first
      → option_map (name_at keys) first ≡ variable_cycle_of block lines
  first_computed first is = is_computed block lines (option_map (name_at keys) first) (first_found first is)

-- ---- if nothing is bound

-- fewer keys count if a block binds some
unbound_refers : (block : List ℕ → Option (List ℕ)) (lines : List RuleLineModel) (a b : List ℕ)
    → RefersTo block lines a b → RefersTo unbound lines a b
unbound_refers block lines a b r = grind arith

unbound_reaches : (block : List ℕ → Option (List ℕ)) (lines : List RuleLineModel) (a b : List ℕ)
    → Reaches block lines a b → Reaches unbound lines a b
unbound_reaches block lines a b (one r) = one (unbound_refers block lines a b r)
unbound_reaches block lines a b (more {g = c} r d) =
    more (unbound_refers block lines a c r) (unbound_reaches block lines c b d)

pub never_cycle : (lines : List RuleLineModel) (keys : List ReferringKeyModel) (counts : List Bool)
    (first : Option ℕ) → AreReferences lines keys → AreCounted unbound keys counts
    → IsFirstOnCycle (makers_counted keys counts) (length keys) first → is_some first ≡ false
    → (block : List ℕ → Option (List ℕ)) → variable_cycle_of block lines ≡ None
never_cycle lines keys counts None are counted is none block =
    sym (is_computed block lines None (λ key on. first_found unbound lines keys counts are counted None is key
    (unbound_reaches block lines key key on)))
never_cycle lines keys counts (Some n) are counted is none block = absurd (true≢false none)

-- the references held of a rule determine the computed key
pub reported : (block : List ℕ → Option (List ℕ)) (lines : List RuleLineModel) (keys : List ReferringKeyModel)
    (counts : List Bool) (first : Option ℕ) → TellsCycles lines keys → AreCounted block keys counts
    → IsFirstOnCycle (makers_counted keys counts) (length keys) first
    → option_map (name_at keys) first ≡ variable_cycle_of block lines
reported block lines keys counts first (inl are) counted is =
    first_computed block lines keys counts are counted first is
reported block lines keys counts None (inr (none, never)) counted is = sym (never block)
reported block lines keys counts (Some n) (inr (none, never)) counted is = let below =
    starts_within keys counts n n is.0 in absurd (let empty = ap length none in omega (arith, below, empty))
