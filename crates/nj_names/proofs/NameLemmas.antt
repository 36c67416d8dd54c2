-- Lemmas on names without duplicates.
use Rattle.std.proofs.Common.{◌≡◌, ◌≢◌, ◌<◌, ◌≤◌, ◌+◌, ◌-◌, ◌==◌, ◌||◌, ◌⊎◌, inl, inr, ℕ, zero, suc, Bool}
use Rattle.std.proofs.Common.{true, false, cond, not, List, [], ◌∷◌, ◌++◌, length, get_or, slice_get}
use Rattle.std.proofs.Common.{slice_range, Option, Some, None, is_some, unwrap_or, bytes_eq, nat_eq, refl}
use Rattle.std.proofs.Common.{sym, ap, subst, ◌∙◌, true≢false, arith, length-append, add-one}
use Rattle.std.specs.List.{IsDistinct, list_any, position, prefix_len}
use Rattle.std.proofs.lemmas.Bool.{cases_eq, cases_lt, lt-ltb, le-ltb}
use Rattle.std.proofs.lemmas.Bool.Decides.{eqb_tells}
use Rattle.std.proofs.lemmas.List.{get_or_append_left}
use Rattle.std.proofs.lemmas.List.Quantifiers.{position-Some}
use Rattle.std.proofs.lemmas.Cmp.{nat_list_eq_equiv}
use Rattle.std.proofs.lemmas.Map.Keys.{IsDistinct-push, IsDistinct-tail, apart_from_distinct}
use Rattle.std.proofs.lemmas.Option.{slice_get-get_or, slice_get_within, get_or_from_slice_get}
use Rattle.std.proofs.lemmas.Slice.Eq.{bytes_eq-Decides}
use Rattle.std.proofs.Math.Seq.{get_or-append_seam, drop-append_seam}
use Rattle.indexmap.specs.IndexMap.{IndexMap, Updates, get}
use Rattle.nj_names.specs.NameTables.{with_name}
use Rattle.nj_names.specs.Inside.NamesHeld.{AreChained, AreHeld, EndsRise, Hash, IsFound, IsStart, held_names}
use Rattle.nj_names.specs.Inside.NamesHeld.{newest_below, newest_in, name_of, names_in, start_in}
use Rattle.nj_names.proofs.ListLemmas.{among-get, get-last, slice_range-append, slice_range-rest}

-- ---- the index of a name

-- a name that has an index is found there
pub found-at : (name : List ℕ) (names : List (List ℕ)) (i : ℕ) → position (bytes_eq name) names ≡ Some i
    → slice_get names i ≡ Some name
found-at name names i h =
    let p = position-Some (bytes_eq name) names i [] h in
    slice_get-get_or names i [] p.0 ∙ ap Some (sym ((bytes_eq-Decides name (get_or names i [])).0 p.1))

-- a new name is the last one
pub named-last : (name : List ℕ) (names : List (List ℕ)) → list_any (bytes_eq name) names ≡ false
    → slice_get (with_name names name) (length names) ≡ Some name
named-last name names absent = grind (arith, slice_get, length, get-last)

prefix-here : (name : List ℕ) (names : List (List ℕ)) (n : ℕ) → IsDistinct bytes_eq names
    → slice_get names n ≡ Some name → prefix_len (λ k. not (bytes_eq name k)) names ≡ n
prefix-here name [] n apart h = absurd (true≢false (sym (ap is_some h)))
prefix-here name (k ∷ ks) zero apart h =
    let same : bytes_eq name k ≡ true = (bytes_eq-Decides name k).1 (sym (ap (λ o. unwrap_or o []) h)) in
    ap (λ b. cond (not b) (1 + prefix_len (λ k. not (bytes_eq name k)) ks) 0) same
prefix-here name (k ∷ ks) (suc n) apart h =
    by (prefix-here name ks n (IsDistinct-tail bytes_eq k ks apart) h) (bytes_eq name k) refl
  where
    inside : n < length ks
    inside = slice_get_within ks n name h

    differ : bytes_eq k name ≡ false
    differ = ap (bytes_eq k) (sym (get_or_from_slice_get ks n name [] h))
        ∙ apart_from_distinct bytes_eq (k ∷ ks) 0 (suc n) [] apart (omega arith) (omega (arith, inside))

    by : prefix_len (λ k. not (bytes_eq name k)) ks ≡ n → (b : Bool) → bytes_eq name k ≡ b
        → cond (not (bytes_eq name k)) (1 + prefix_len (λ k. not (bytes_eq name k)) ks) 0 ≡ suc n
    by rest true same =
        let is : name ≡ k = (bytes_eq-Decides name k).0 same in
        absurd (true≢false (sym same ∙ ap (λ p. bytes_eq p k) is ∙ ap (bytes_eq k) (sym is) ∙ differ))
    by rest false other =
        let more : 1 + prefix_len (λ k. not (bytes_eq name k)) ks ≡ suc n = omega (arith, rest) in
        ap (λ b. cond (not b) (1 + prefix_len (λ k. not (bytes_eq name k)) ks) 0) other ∙ more

prefix-all : (name : List ℕ) (names : List (List ℕ)) → list_any (bytes_eq name) names ≡ false
    → prefix_len (λ k. not (bytes_eq name k)) names ≡ length names
prefix-all name [] absent = refl
prefix-all name (k ∷ ks) absent = by (prefix-all name ks) (bytes_eq name k) refl absent
  where
    by : (list_any (bytes_eq name) ks ≡ false → prefix_len (λ k. not (bytes_eq name k)) ks ≡ length ks)
        → (b : Bool) → bytes_eq name k ≡ b → (b || list_any (bytes_eq name) ks) ≡ false
        → cond (not (bytes_eq name k)) (1 + prefix_len (λ k. not (bytes_eq name k)) ks) 0 ≡ suc (length ks)
    by rest true same none = absurd (true≢false none)
    by rest false other none =
        let all = rest none in
        let more : 1 + prefix_len (λ k. not (bytes_eq name k)) ks ≡ suc (length ks) = omega (arith, all) in
        ap (λ b. cond (not b) (1 + prefix_len (λ k. not (bytes_eq name k)) ks) 0) other ∙ more

-- the found number is the index
pub found-index : (name : List ℕ) (names : List (List ℕ)) (found : Option ℕ) → IsDistinct bytes_eq names
    → IsFound names name found → found ≡ position (bytes_eq name) names
found-index name names None apart absent =
    rw (prefix-all name names absent, le-ltb (length names) (length names) (omega arith)) refl
found-index name names (Some n) apart here =
    rw (prefix-here name names n apart here, lt-ltb n (length names) (slice_get_within names n name here))
    refl

pub found-known : (name : List ℕ) (names : List (List ℕ)) (found : Option ℕ) → IsFound names name found
    → is_some found ≡ list_any (bytes_eq name) names
found-known name names found absent = grind (arith, among-get)

-- ---- the text

pub length-names : (text : List ℕ) (start : ℕ) (ends : List ℕ)
    → length (names_in text start ends) ≡ length ends
length-names text start [] = refl
length-names text start (end ∷ ends) = ap suc (length-names text end ends)

ends-within : (start : ℕ) (ends : List ℕ) (size : ℕ) → EndsRise start ends size → start ≤ size
ends-within start [] size rise = let end : start ≡ size = rise in omega arith
ends-within start (end ∷ ends) size rise = grind (arith, ends-within end ends size rise.1)

-- a name lies between its ends
pub name-within : (start : ℕ) (ends : List ℕ) (size n end : ℕ) → EndsRise start ends size
    → slice_get ends n ≡ Some end → (start_in start ends n ≤ end) × (end ≤ size)
name-within start [] size n end rise here = absurd (true≢false (sym (ap is_some here)))
name-within start (e ∷ ends) size zero end rise here =
    let is : e ≡ end = ap (λ o. unwrap_or o end) here in
    (subst (λ k. start ≤ k) is rise.0, subst (λ k. k ≤ size) is (ends-within e ends size rise.1))
name-within start (e ∷ ends) size (suc n) end rise here = name-within e ends size n end rise.1 here

pub name-between : (text : List ℕ) (start : ℕ) (ends : List ℕ) (n end : ℕ) → slice_get ends n ≡ Some end
    → slice_get (names_in text start ends) n ≡ Some (slice_range text (start_in start ends n) end)
name-between text start [] n end here = absurd (true≢false (sym (ap is_some here)))
name-between text start (e ∷ ends) zero end here = grind arith
name-between text start (e ∷ ends) (suc n) end here = name-between text e ends n end here

pub start-after : (start : ℕ) (ends : List ℕ) (n d : ℕ) → n < length ends
    → start_in start ends (suc n) ≡ get_or ends n d
start-after start [] n d below = absurd (omega arith)
start-after start (end ∷ ends) zero d below = refl
start-after start (end ∷ ends) (suc n) d below = start-after end ends n d (omega arith)

-- the end of the name before is where a name starts
pub start-before : (start : ℕ) (ends : List ℕ) (n d : ℕ) → 0 < n → n < length ends
    → get_or ends (n - 1) d ≡ start_in start ends n
start-before start ends n d after below = grind (arith, start-after)

-- a name more
pub rise-push : (start : ℕ) (ends : List ℕ) (size more : ℕ) → EndsRise start ends size
    → EndsRise start (ends ++ (size + more) ∷ []) (size + more)
rise-push start [] size more rise = let end : start ≡ size = rise in (omega arith, refl)
rise-push start (end ∷ ends) size more rise = (rise.0, rise-push end ends size more rise.1)

pub names-push : (text name : List ℕ) (start : ℕ) (ends : List ℕ) → EndsRise start ends (length text)
    → names_in (text ++ name) start (ends ++ (length text + length name) ∷ [])
    ≡ names_in text start ends ++ name ∷ []
names-push text name start [] rise =
    let whole : slice_range (text ++ name) (length text) (length (text ++ name)) ≡ name =
    slice_range-rest (text ++ name) (length text) (simp length-append (omega arith))
    ∙ drop-append_seam text name in
    ap (λ p. p ∷ []) (ap (λ k. slice_range (text ++ name) k (length text + length name)) rise
    ∙ ap (slice_range (text ++ name) (length text)) (sym (length-append text name)) ∙ whole)
names-push text name start (end ∷ ends) rise =
    ap (λ p. p ∷ names_in (text ++ name) end (ends ++ (length text + length name) ∷ []))
    (slice_range-append text name start end rise.0 (ends-within end ends (length text) rise.1))
    ∙ ap (λ ps. slice_range text start end ∷ ps) (names-push text name end ends rise.1)

-- ---- hashes

pub record IsNewest (hash : Hash) (names : List (List ℕ)) (wanted count n : ℕ) : Type 0 where
  pub within : n < count
  pub same : hash (name_of names n) ≡ wanted
  pub others : (m : ℕ) → n < m → m < count → hash (name_of names m) ≢ wanted

pub newest-is : (hash : Hash) (names : List (List ℕ)) (wanted count n : ℕ)
    → newest_below hash names wanted count ≡ suc n → IsNewest hash names wanted count n
newest-is hash names wanted zero n h = absurd (omega arith)
newest-is hash names wanted (suc c) n h = grind (
  arith,
  newest-is hash names wanted c n,
  eqb_tells (hash (name_of names c)) wanted,
)

pub newest-none : (hash : Hash) (names : List (List ℕ)) (wanted count : ℕ)
    → newest_below hash names wanted count ≡ 0 → (m : ℕ) → m < count → hash (name_of names m) ≢ wanted
newest-none hash names wanted zero h m below = absurd (omega arith)
newest-none hash names wanted (suc c) h m below =
    by (λ none. newest-none hash names wanted c none m) (eqb_tells (hash (name_of names c)) wanted)
  where
    down : ℕ
    down = newest_below hash names wanted c

    late : hash (name_of names c) ≢ wanted → (m < c → hash (name_of names m) ≢ wanted) → (m ≡ c) ⊎ (m ≡ c → ⊥)
        → hash (name_of names m) ≢ wanted
    late apart rest (inl last) = λ same. apart (ap (λ k. hash (name_of names k)) (sym last) ∙ same)
    late apart rest (inr other) = rest (omega arith)

    by : (down ≡ 0 → m < c → hash (name_of names m) ≢ wanted)
        → ((hash (name_of names c) == wanted) ≡ true × (hash (name_of names c) ≡ wanted))
        ⊎ ((hash (name_of names c) == wanted) ≡ false × (hash (name_of names c) ≢ wanted))
        → hash (name_of names m) ≢ wanted
    by rest (inl same) = let top : suc c ≡ 0 = ap (λ b. cond b (suc c) down) (sym same.0) ∙ h in
        absurd (omega arith)
    by rest (inr apart) = late apart.1 (rest (ap (λ b. cond b (suc c) down) (sym apart.0) ∙ h)) (cases_eq m c)

-- the found name is among the first `count` names
newest-below : (hash : Hash) (names : List (List ℕ)) (wanted count : ℕ)
    → newest_below hash names wanted count ≤ count
newest-below hash names wanted zero = omega arith
newest-below hash names wanted (suc c) = grind (arith, newest-below hash names wanted c)

name_of-more : (names others : List (List ℕ)) (n : ℕ) → n < length names
    → name_of (names ++ others) n ≡ name_of names n
name_of-more names others n below = get_or_append_left names others [] n below

-- names after the first `count` change nothing
newest-more : (hash : Hash) (names others : List (List ℕ)) (wanted count : ℕ) → count ≤ length names
    → newest_below hash (names ++ others) wanted count ≡ newest_below hash names wanted count
newest-more hash names others wanted zero within = refl
newest-more hash names others wanted (suc c) within = grind (
  arith,
  name_of-more names others c (omega arith),
  newest-more hash names others wanted c (omega arith),
)

module _ (hash : Hash) (names : List (List ℕ)) (name : List ℕ) where
  abbrev longer : List (List ℕ)
  longer = names ++ name ∷ []

  longer-count : length longer ≡ suc (length names)
  longer-count = length-append names (name ∷ []) ∙ add-one (length names)

  name_of-last : name_of longer (length names) ≡ name
  name_of-last = get_or-append_seam names name [] []

  -- the name leads to the previous newest name with its hash
  pub chained-push : (earlier : List ℕ) (before : ℕ)
      → before ≡ newest_below hash names (hash name) (length names) → AreChained hash names earlier
      → AreChained hash longer (earlier ++ before ∷ [])
  chained-push earlier before newest chained = record {
    count = length-append earlier (before ∷ []) ∙ ap (λ n. n + 1) chained.count ∙ add-one (length names)
        ∙ sym longer-count;
    leads = λ n below. leads n (subst (λ k. n < k) longer-count below) (cases_eq n (length names));
  }
    where
      leads : (n : ℕ) → n < suc (length names) → (n ≡ length names) ⊎ (n ≡ length names → ⊥)
          → get_or (earlier ++ before ∷ []) n 0 ≡ newest_below hash longer (hash (name_of longer n)) n
      leads n below (inl last) =
          ap (λ k. get_or (earlier ++ before ∷ []) k 0) (last ∙ sym chained.count)
          ∙ get_or-append_seam earlier before [] 0 ∙ newest
          ∙ sym (newest-more hash names (name ∷ []) (hash name) (length names) (omega arith))
          ∙ ap (λ p. newest_below hash longer (hash p) (length names)) (sym name_of-last)
          ∙ ap (λ k. newest_below hash longer (hash (name_of longer k)) k) (sym last)
      leads n below (inr other) =
          let within : n < length names = omega arith in
          let count = chained.count in
          get_or_append_left earlier (before ∷ []) 0 n (omega arith) ∙ chained.leads n within
          ∙ sym (newest-more hash names (name ∷ []) (hash (name_of names n)) n (omega arith))
          ∙ ap (λ p. newest_below hash longer (hash p) n) (sym (name_of-more names (name ∷ []) n within))

  -- the name is the newest with its hash, and the newest names of other hashes stay
  pub newest-push : (wanted : ℕ) → newest_below hash longer wanted (length longer)
      ≡ cond (hash name == wanted) (length names + 1) (newest_below hash names wanted (length names))
  newest-push wanted =
      ap (newest_below hash longer wanted) longer-count
      ∙ ap (λ p. cond (hash p == wanted) (suc (length names))
      (newest_below hash longer wanted (length names))) name_of-last
      ∙ ap (cond (hash name == wanted) (suc (length names)))
      (newest-more hash names (name ∷ []) wanted (length names) (omega arith))
      ∙ ap (λ n. cond (hash name == wanted) n (newest_below hash names wanted (length names)))
      (sym (add-one (length names)))

-- ---- a search

-- no name from `count` on is the sought name, and `at` is the newest of the names before `count` with its
-- hash
pub record IsSought (hash : Hash) (names : List (List ℕ)) (name : List ℕ) (at : ℕ) : Type 0 where
  pub count : ℕ
  pub within : count ≤ length names
  pub newest : at ≡ newest_below hash names (hash name) count
  pub absent : (m : ℕ) → count ≤ m → m < length names → name_of names m ≢ name

abbrev pub Searched : (names : List (List ℕ)) → (earlier : List ℕ) → (name : List ℕ) → (at : ℕ) → Type 0
Searched names earlier name at = (hash : Hash) × AreChained hash names earlier × IsSought hash names name at

pub sought-start : (hash : Hash) (names : List (List ℕ)) (name : List ℕ) (at : ℕ) → IsStart hash names name at
    → IsSought hash names name at
sought-start hash names name h start = grind arith

pub searched-within : (names : List (List ℕ)) (earlier name : List ℕ) (n : ℕ)
    → Searched names earlier name (suc n) → n < length names
searched-within names earlier name n s = grind (
  arith,
  newest-is s.0 names (s.0 name) s.2.count n (sym s.2.newest),
  length names,
)

-- a different name leads to an earlier name
pub searched-next : (names : List (List ℕ)) (earlier name : List ℕ) (n : ℕ)
    → Searched names earlier name (suc n) → name_of names n ≢ name
    → Searched names earlier name (get_or earlier n 0)
searched-next names earlier name n s other = (
  s.0,
  s.1,
  record {
    count = n;
    within = omega (arith, inside);
    newest = s.1.leads n inside ∙ ap (λ w. newest_below hash names w n) is.same;
    absent = λ m from below. absent m from below (cases_eq m n);
  },
)
  where
    hash : Hash
    hash = s.0

    is : IsNewest hash names (hash name) s.2.count n
    is = newest-is hash names (hash name) s.2.count n (sym s.2.newest)

    inside : n < length names
    inside = searched-within names earlier name n s

    absent-late : (m : ℕ) → n < m → m < length names → (m < s.2.count) ⊎ (s.2.count ≤ m)
        → name_of names m ≢ name
    absent-late m above below (inl before) = λ same. is.others m above before (ap hash same)
    absent-late m above below (inr after) = s.2.absent m after below

    absent : (m : ℕ) → n ≤ m → m < length names → (m ≡ n) ⊎ (m ≡ n → ⊥) → name_of names m ≢ name
    absent m from below (inl here) = λ same. other (ap (name_of names) (sym here) ∙ same)
    absent m from below (inr apart) = absent-late m (omega arith) below (cases_lt m s.2.count)

pub searched-falls : (names : List (List ℕ)) (earlier name : List ℕ) (n : ℕ)
    → Searched names earlier name (suc n) → get_or earlier n 0 < suc n
searched-falls names earlier name n s = grind (arith, searched-within, newest-below)

any-none : (name : List ℕ) (names : List (List ℕ)) → ((m : ℕ) → m < length names → name_of names m ≢ name)
    → list_any (bytes_eq name) names ≡ false
any-none name [] absent = refl
any-none name (p ∷ names) absent = by (any-none name names (λ m below. absent (suc m) (omega arith)))
    (bytes_eq name p) refl
  where
    by : list_any (bytes_eq name) names ≡ false → (b : Bool) → bytes_eq name p ≡ b
        → (bytes_eq name p || list_any (bytes_eq name) names) ≡ false
    by rest true same = absurd (absent 0 (omega arith) (sym ((bytes_eq-Decides name p).0 same)))
    by rest false other = ap (λ b. b || list_any (bytes_eq name) names) other ∙ rest

-- ---- a turn of it

module _ (names : List (List ℕ)) (earlier name : List ℕ) where
  pub turn-within : (at : ℕ) → 0 < at → Searched names earlier name at → at - 1 < length names
  turn-within zero after s = absurd (omega arith)
  turn-within (suc n) after s = let e : suc n - 1 ≡ n = omega arith in
      rw e (searched-within names earlier name n s)

  pub turn-falls : (at : ℕ) → 0 < at → Searched names earlier name at → get_or earlier (at - 1) 0 < at
  turn-falls zero after s = absurd (omega arith)
  turn-falls (suc n) after s = let e : suc n - 1 ≡ n = omega arith in
      rw e (searched-falls names earlier name n s)

  pub turn-next : (at : ℕ) (there : List ℕ) → 0 < at → Searched names earlier name at
      → slice_get names (at - 1) ≡ Some there → bytes_eq there name ≡ false
      → Searched names earlier name (get_or earlier (at - 1) 0)
  turn-next zero there after s here other = absurd (omega arith)
  turn-next (suc n) there after s here other =
      let e : suc n - 1 ≡ n = omega arith in
      rw e (searched-next names earlier name n s (apart (ap (slice_get names) (sym e) ∙ here)))
    where
      apart : slice_get names n ≡ Some there → name_of names n ≢ name
      apart is same =
          let equal : there ≡ name = sym (get_or_from_slice_get names n there [] is) ∙ same in
          true≢false (sym ((bytes_eq-Decides there name).1 equal) ∙ other)

-- at the end of the chain the name is absent
pub searched-all : (names : List (List ℕ)) (earlier name : List ℕ) → Searched names earlier name 0
    → list_any (bytes_eq name) names ≡ false
searched-all names earlier name s = grind (arith, any-none, cases_lt, length, newest-none)

-- a new name comes last
pub push-named : (text name ends : List ℕ) → EndsRise 0 ends (length text)
    → list_any (bytes_eq name) (held_names text ends) ≡ false
    → held_names (text ++ name) (ends ++ (length text + length name) ∷ [])
    ≡ with_name (held_names text ends) name
push-named text name ends rise absent = grind (arith, names-push)

-- ---- all together

-- no names are held
pub none-held : {S : Type 0} (hash : Hash) (newest : IndexMap ℕ ℕ S) → newest.entries ≡ []
    → AreHeld hash [] [] [] newest
unfolding IsDistinct
none-held hash newest none = grind arith

-- a new name is held too
pub push-held : {S : Type 0} (hash : Hash) (text ends earlier : List ℕ) (newest newest' : IndexMap ℕ ℕ S)
    (name : List ℕ) → AreHeld hash text ends earlier newest
    → list_any (bytes_eq name) (held_names text ends) ≡ false
    → Updates nat_eq newest newest' (hash name) (Some (length ends + 1))
    → AreHeld hash (text ++ name) (ends ++ (length text + length name) ∷ [])
    (earlier ++ newest_in newest (hash name) ∷ []) newest'
push-held hash text ends earlier newest newest' name held absent updates = record {
  rise = subst (EndsRise 0 (ends ++ (length text + length name) ∷ [])) (sym (length-append text name))
      (rise-push 0 ends (length text) (length name) held.rise);
  distinct = subst (IsDistinct bytes_eq) (sym grown)
      (IsDistinct-push nat_list_eq_equiv names name held.distinct absent);
  chained = subst (λ ps. AreChained hash ps (earlier ++ newest_in newest (hash name) ∷ [])) (sym grown)
      (chained-push hash names name earlier (newest_in newest (hash name)) (held.are_newest (hash name))
      held.chained);
  are_newest = λ wanted. here wanted ∙ sym (newest-push hash names name wanted)
      ∙ ap (λ ps. newest_below hash ps wanted (length ps)) (sym grown);
}
  where
    names : List (List ℕ)
    names = held_names text ends

    grown : held_names (text ++ name) (ends ++ (length text + length name) ∷ []) ≡ names ++ name ∷ []
    grown = names-push text name 0 ends held.rise

    either : (b : Bool) (n : ℕ) (old : Option ℕ)
        → unwrap_or (cond b (Some n) old) 0 ≡ cond b n (unwrap_or old 0)
    either true n old = refl
    either false n old = refl

    here : (wanted : ℕ) → newest_in newest' wanted
        ≡ cond (hash name == wanted) (length names + 1) (newest_below hash names wanted (length names))
    here wanted =
        ap (λ o. unwrap_or o 0) (updates.0 wanted)
        ∙ either (hash name == wanted) (length ends + 1) (get nat_eq newest wanted)
        ∙ ap (λ n. cond (hash name == wanted) (n + 1) (newest_in newest wanted))
        (sym (length-names text 0 ends))
        ∙ ap (cond (hash name == wanted) (length names + 1)) (held.are_newest wanted)
