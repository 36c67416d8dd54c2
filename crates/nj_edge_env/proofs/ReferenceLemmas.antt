-- Lemmas on which keys of a rule refer to which.
use Rattle.std.proofs.Common.{◌≡◌, ◌≢◌, ◌<◌, ◌≤◌, ◌+◌, inl, inr, ℕ, zero, suc, true, false, ◌||◌, List}
use Rattle.std.proofs.Common.{[], ◌∷◌, ◌++◌, length, map, take, slice_get, get_or, Option, Some, None}
use Rattle.std.proofs.Common.{option_map, unwrap_or, Less, refl, sym, ap, subst, ◌∙◌, true≢false, arith}
use Rattle.std.proofs.Common.{add-one, below_more, Bor}
use Rattle.std.specs.Prelude.{slice_index_or, Contains}
use Rattle.std.specs.List.Sorted.{IsPermutation}
use Rattle.std.specs.Ordering.{nat_cmp, is_lt}
use Rattle.std.specs.Cmp.Lexicographic.{slice_cmp}
use Rattle.std.proofs.lemmas.Bool.{cases_lt}
use Rattle.std.proofs.lemmas.List.{get_or-map, length-map, map_push}
use Rattle.std.proofs.lemmas.List.Elements.{Contains-append_left, Contains-push}
use Rattle.std.proofs.lemmas.List.Folds.{list_any-append}
use Rattle.std.proofs.lemmas.List.Sorted.{Contains-permutation, IsPermutation-map}
use Rattle.std.proofs.lemmas.Option.{slice_get-map, slice_get_within, slice_get-get_or, get_or_from_slice_get}
use Rattle.std.proofs.Math.Seq.{take-suc}
use Rattle.nj_text.specs.Words.{PartModel}
use Rattle.nj_scope.specs.Rules.{RuleLineModel, given}
use Rattle.nj_scope.specs.RulesHeld.{last_lines, key_count, key_at}
use Rattle.nj_scope.proofs.KeyLemmas.{keys_are_numbered, given_of_line}
use Rattle.nj_edge_env.specs.LateStrings.{refers, refers_in}
use Rattle.nj_edge_env.specs.ReferencesHeld.{ReferringKeyModel, AreReferences, name_at, row_at}
use Rattle.nj_edge_env.specs.ReferencesHeld.{refers_unbound}
use Rattle.nj_edge_env.specs.Inside.CyclesHeld.{AreSortedKeys, referring_key}
use Rattle.nj_edge_env.proofs.CycleLaws.{no_less}

-- the value of a number's key
pub value_at : (lines : List RuleLineModel) (n : ℕ) → n < key_count lines
    → (value : List PartModel) × (given lines (key_at lines n) ≡ Some value)
value_at lines n below =
    let m = get_or (last_lines lines) n (record { key = []; value = [] }) in (
      m.value,
      given_of_line lines n m (slice_get-get_or (last_lines lines) n (record { key = []; value = [] })
          below),
    )

-- ---- references among parts

one_more : (parts : List PartModel) (i : ℕ) (part : PartModel) (name : List ℕ) → slice_get parts i ≡ Some part
    → refers (take (i + 1) parts) name ≡ (refers (take i parts) name || (refers_in part name || false))
one_more parts i part name here =
    let t : take (i + 1) parts ≡ take i parts ++ part ∷ [] =
    ap (λ k. take k parts) (add-one i) ∙ take-suc parts i part (slice_get_within parts i part here)
    ∙ ap (λ q. take i parts ++ q ∷ []) (get_or_from_slice_get parts i part part here) in
    ap (λ ps. refers ps name) t ∙ list_any-append (λ p. refers_in p name) (take i parts) (part ∷ [])

-- no part up to here refers to the name
pub none_refers : (parts : List PartModel) (i : ℕ) (part : PartModel) (name : List ℕ)
    → slice_get parts i ≡ Some part → refers (take i parts) name ≡ false → refers_in part name ≡ false
    → refers (take (i + 1) parts) name ≡ false
none_refers parts i part name here before off = grind (arith, one_more)

-- one part that refers to the name is enough
pub one_refers : (parts : List PartModel) (i : ℕ) (part : PartModel) (name : List ℕ)
    → slice_get parts i ≡ Some part → refers_in part name ≡ true → refers parts name ≡ true
one_refers [] i part name here is = grind arith
one_refers (p ∷ parts) zero part name here is = grind arith
one_refers (p ∷ parts) (suc i) part name here is = grind (arith, one_refers parts i part name here is)

-- ---- keys in byte order

-- the keys with numbers below i are among the given keys
abbrev pub KeysBelow : List RuleLineModel → (i : ℕ) → (names : List (Bor (List ℕ))) → Type 0
KeysBelow lines i names = (n : ℕ) → n < i → Contains (map (λ name. name.now) names) (key_at lines n)

pub keys_more : (lines : List RuleLineModel) (i : ℕ) (names pushed : List (Bor (List ℕ))) (key : Bor (List ℕ))
    → KeysBelow lines i names → pushed ≡ names ++ key ∷ [] → key.now ≡ key_at lines i
    → KeysBelow lines (i + 1) pushed
keys_more lines i names pushed key are is same = subst (KeysBelow lines (i + 1)) (sym is)
    (below_more (λ n. Contains (map (λ name. name.now) (names ++ key ∷ [])) (key_at lines n)) i
    (λ n lt. subst (λ l. Contains l (key_at lines n)) (sym (map_push (λ name. name.now) names key))
    (Contains-append_left (map (λ name. name.now) names) (key.now ∷ []) (key_at lines n) (are n lt)))
    (subst (λ l. Contains l (key_at lines i)) (sym (map_push (λ name. name.now) names key))
    (subst (Contains (map (λ name. name.now) names ++ key.now ∷ [])) same
    (Contains-push (map (λ name. name.now) names) key.now))))

pub all_sorted : (lines : List RuleLineModel) (i : ℕ) (names others : List (Bor (List ℕ)))
    → KeysBelow lines i names → key_count lines ≤ i → IsPermutation names others
    → (key : List ℕ) (value : List PartModel) → given lines key ≡ Some value
    → Contains (map (λ name. name.now) others) key
all_sorted lines i names others are le same key value is =
    let n = keys_are_numbered lines key value is in
    let below = n.1 in
    Contains-permutation (map (λ name. name.now) names) (map (λ name. name.now) others) key
    (IsPermutation-map (λ name. name.now) names others same)
    (subst (Contains (map (λ name. name.now) names)) n.2 (are n.0 (omega (arith, below, le))))

-- ---- keys with their rows

some_at : {X : Type 0} (xs : List X) (n : ℕ) → n < length xs → (x : X) × (slice_get xs n ≡ Some x)
some_at [] n below = absurd (omega (arith, below))
some_at (x ∷ xs) zero below = (x, refl)
some_at (x ∷ xs) (suc n) below = some_at xs n (omega (arith, below))

module _ (lines : List RuleLineModel) (slices : List (Bor (List ℕ))) (sorted : AreSortedKeys lines slices)
  where
    abbrev text : Bor (List ℕ) → List ℕ
    text name = name.now

    abbrev name : ℕ → List ℕ
    name n = unwrap_or (slice_get (map text slices) n) []

    abbrev key_of : Bor (List ℕ) → ReferringKeyModel
    key_of slice = referring_key lines slices slice.now

    name_is : (n : ℕ) → name_at (map key_of slices) n ≡ name n
    name_is n =
        ap (λ o. unwrap_or (option_map (λ (k : ReferringKeyModel). k.name) o) [])
        (slice_get-map key_of slices n) ∙ by (slice_get slices n)
        ∙ sym (ap (λ o. unwrap_or o []) (slice_get-map text slices n))
      where
        by : (o : Option (Bor (List ℕ))) → unwrap_or
            (option_map (λ (k : ReferringKeyModel). k.name) (option_map key_of o)) []
            ≡ unwrap_or (option_map text o) []
        by None = refl
        by (Some slice) = refl

    at : (n : ℕ) (slice : Bor (List ℕ)) → slice_get slices n ≡ Some slice → name n ≡ slice.now
    at n slice e = ap (λ o. unwrap_or o []) (slice_get-map text slices n ∙ ap (option_map text) e)

    -- each name after another name
    next-by : (n : ℕ) (one other : Bor (List ℕ)) → n + 1 < length slices → slice_get slices n ≡ Some one
        → slice_get slices (n + 1) ≡ Some other → slice_cmp nat_cmp (name (n + 1)) (name n) ≢ Less
    next-by n one other below here there less =
        let less' : slice_cmp nat_cmp other.now one.now ≡ Less =
        sym (ap (λ x. slice_cmp nat_cmp x (name n)) (at (n + 1) other there)
        ∙ ap (slice_cmp nat_cmp other.now) (at n one here)) ∙ less in
        let rise = sorted.rise n one (omega arith) below in
        let rise' : is_lt (slice_cmp nat_cmp other.now one.now) ≡ false =
        sym (ap (λ x. is_lt (slice_cmp nat_cmp x.now (get_or slices n one).now))
        (get_or_from_slice_get slices (n + 1) other one there)
        ∙ ap (λ x. is_lt (slice_cmp nat_cmp other.now x.now)) (get_or_from_slice_get slices n one one here))
        ∙ rise in
        true≢false (sym (ap is_lt less') ∙ rise')

    next : (n : ℕ) → n + 1 < length slices → slice_cmp nat_cmp (name (n + 1)) (name n) ≢ Less
    next n below = let one = some_at slices n (omega (arith, below)) in let other =
        some_at slices (n + 1) below
        in next-by n one.0 other.0 below one.1 other.1

    rises : (number other : ℕ) → number < other → other < length slices
        → slice_cmp nat_cmp (name other) (name number) ≢ Less
    rises number zero lt below = absurd (omega (arith, lt))
    rises number (suc other) lt below =
        let step : slice_cmp nat_cmp (name (suc other)) (name other) ≢ Less =
        subst (λ k. slice_cmp nat_cmp (name k) (name other) ≢ Less) (add-one other)
        (next other (omega (arith, below))) in
        elim (cases_lt number other) [
          | inl less ↦ no_less (name (suc other)) (name other) (name number) step
              (rises number other less (omega (arith, below)))
          | inr most ↦ let same : other ≡ number = omega (arith, lt, most) in
              subst (λ k. slice_cmp nat_cmp (name (suc other)) (name k) ≢ Less) same step
        ]

    -- the row of a key
    row_is : (number other : ℕ) (one two : Bor (List ℕ)) → slice_get slices number ≡ Some one
        → slice_get slices other ≡ Some two → other < length slices
        → slice_index_or (row_at (map key_of slices) number) other false
        ≡ refers_unbound lines (name number) (name other)
    row_is number other one two here there below =
        ap (λ o. slice_index_or (unwrap_or (option_map (λ (k : ReferringKeyModel). k.refers) o) []) other
        false)
        (slice_get-map key_of slices number ∙ ap (option_map key_of) here)
        ∙ get_or-map (λ (x : Bor (List ℕ)). refers_unbound lines one.now x.now) slices other two false below
        ∙ ap (λ (x : Bor (List ℕ)). refers_unbound lines one.now x.now)
        (get_or_from_slice_get slices other two two there)
        ∙ ap (λ x. refers_unbound lines x two.now) (sym (at number one here))
        ∙ ap (refers_unbound lines (name number)) (sym (at other two there))

    pub are_references : (keys : List ReferringKeyModel) → keys ≡ map key_of slices → AreReferences lines keys
    are_references keys is = subst (AreReferences lines) (sym is) (record {
      all = λ key value given. let k = sorted.all key value given in (
        k.0,
        subst (λ n. k.0 < n) (length-map slices text ∙ sym (length-map slices key_of)) k.1,
        name_is k.0 ∙ ap (λ o. unwrap_or o []) (slice_get-get_or (map text slices) k.0 key k.1) ∙ k.2,
      );
      rise = λ number other lt below.
          subst (λ x. slice_cmp nat_cmp x (name_at (map key_of slices) number) ≢ Less) (sym (name_is other))
          (subst (λ x. slice_cmp nat_cmp (name other) x ≢ Less) (sym (name_is number))
          (rises number other lt (subst (λ n. other < n) (length-map slices key_of) below)));
      rows = λ number other here there.
          let below = subst (λ n. other < n) (length-map slices key_of) there in
          let one = some_at slices number (subst (λ n. number < n) (length-map slices key_of) here) in
          let two = some_at slices other below in
          row_is number other one.0 two.0 one.1 two.1 below
          ∙ ap (λ x. refers_unbound lines x (name other)) (sym (name_is number))
          ∙ ap (refers_unbound lines (name_at (map key_of slices) number)) (sym (name_is other));
    })
