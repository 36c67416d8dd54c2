-- Lemmas on the last lines of the keys of a rule.
use Rattle.std.proofs.lemmas.Grind.{common_steps}
use Rattle.std.proofs.Common.{rules, ◌≡◌, ◌<◌, ◌≤◌, ◌+◌, ◌-◌, ◌⊎◌, inl, inr, ℕ, zero, suc, Bool, true, false}
use Rattle.std.proofs.Common.{◌||◌}
use Rattle.std.proofs.Common.{if◌then◌else◌, List, [], ◌∷◌, ◌++◌, map, length, drop, slice_get, get_or}
use Rattle.std.proofs.Common.{Option, Some, None, is_some, option_map, unwrap_or, bytes_eq, refl, sym, ap}
use Rattle.std.proofs.Common.{subst, ◌∙◌, true≢false, arith}
use Rattle.std.specs.Prelude.{find, reverse, slice_index, All, IfSome, IfNone}
use Rattle.std.proofs.lemmas.List.{reverse-append, length-map, drop_more}
use Rattle.std.proofs.lemmas.List.Elements.{All-get_or, All-from_get_or}
use Rattle.std.proofs.lemmas.List.Folds.{find-append}
use Rattle.std.specs.Option.{option_or}
use Rattle.std.proofs.lemmas.Option.{slice_get_within, slice_get-get_or, slice_get-map, get_or_from_slice_get}
use Rattle.std.proofs.lemmas.Option.{slice_get_read}
use Rattle.std.proofs.lemmas.Slice.Eq.{bytes_eq-Decides}
use Rattle.nj_scope.specs.declared.rule.RuleLine.{RuleLine}
use Rattle.nj_scope.specs.Rules.{RuleLineModel, given}
use Rattle.nj_scope.specs.RulesHeld.{has_key, last_lines, key_count, key_at, KeysAreNumbered, NumbersDiffer}
use Rattle.nj_scope.specs.RulesHeld.{IsNumber}
use Rattle.nj_scope.specs.Inside.KeysHeld.{line_held, AreIndexes, HasKeyAt}

same_key : (x y : List ℕ) → bytes_eq x y ≡ true → x ≡ y
same_key x y h = (bytes_eq-Decides x y).0 h

own_key : (x : List ℕ) → bytes_eq x x ≡ true
own_key x = (bytes_eq-Decides x x).1 refl

-- ---- lists

get-append : {X : Type 0} (xs ys : List X) (i : ℕ) (x : X) → slice_get xs i ≡ Some x
    → slice_get (xs ++ ys) i ≡ Some x
get-append [] ys i x h = absurd (true≢false (sym (ap is_some h)))
get-append (y ∷ xs) ys zero x h = h
get-append (y ∷ xs) ys (suc i) x h = get-append xs ys i x h

get-last : {X : Type 0} (xs : List X) (x : X) → slice_get (xs ++ x ∷ []) (length xs) ≡ Some x
get-last [] x = refl
get-last (y ∷ xs) x = get-last xs x

get-push : {X : Type 0} (xs : List X) (x y : X) (n : ℕ) → slice_get (xs ++ x ∷ []) n ≡ Some y
    → ((n ≡ length xs) × (x ≡ y)) ⊎ (slice_get xs n ≡ Some y)
get-push [] x y zero h = inl (refl, cc)
get-push [] x y (suc n) h = absurd (true≢false (sym (ap is_some h)))
get-push (z ∷ xs) x y zero h = inr h
get-push (z ∷ xs) x y (suc n) h = grind (arith, get-push xs x y n h, length xs, slice_get xs n)

-- ---- the last line of a key

abbrev last_of : List RuleLineModel → (key : List ℕ) → Option RuleLineModel
last_of lines key = find (λ l. bytes_eq key l.key) (reverse lines)

abbrev here : RuleLineModel → (key : List ℕ) → Option RuleLineModel
here l key = if bytes_eq key l.key then Some l else None

last_of-cons : (l : RuleLineModel) (lines : List RuleLineModel) (key : List ℕ)
    → last_of (l ∷ lines) key ≡ option_or (last_of lines key) (here l key)
last_of-cons l lines key = ap (find (λ m. bytes_eq key m.key)) (reverse-append (l ∷ []) lines)
    ∙ find-append (λ m. bytes_eq key m.key) (reverse lines) (l ∷ [])

no_last : (lines : List RuleLineModel) (key : List ℕ) → has_key lines key ≡ false → last_of lines key ≡ None
no_last [] key h = refl
no_last (l ∷ lines) key h = last_of-cons l lines key ∙ by (bytes_eq key l.key) (no_last lines key) h
  where
    by : (b : Bool) → (has_key lines key ≡ false → last_of lines key ≡ None)
        → (b || has_key lines key) ≡ false → option_or (last_of lines key) (if b then Some l else None) ≡ None
    by true rest h = absurd (true≢false h)
    by false rest h = ap (λ o. option_or o None) (rest h)

some_last : (lines : List RuleLineModel) (key : List ℕ) → has_key lines key ≡ true
    → is_some (last_of lines key) ≡ true
some_last [] key h = absurd (true≢false (sym h))
some_last (l ∷ lines) key h = ap is_some (last_of-cons l lines key)
    ∙ by (last_of lines key) (bytes_eq key l.key) (some_last lines key) h
  where
    by : (o : Option RuleLineModel) (b : Bool) → (has_key lines key ≡ true → is_some o ≡ true)
        → (b || has_key lines key) ≡ true → is_some (option_or o (if b then Some l else None)) ≡ true
    by (Some m) b rest h = refl
    by None true rest h = refl
    by None false rest h = rest h

-- the line of each number is the last one of its key
last_at : (lines : List RuleLineModel) (n : ℕ) (m : RuleLineModel) → slice_get (last_lines lines) n ≡ Some m
    → last_of lines m.key ≡ Some m
unfolding last_lines
last_at [] n m h = absurd (true≢false (sym (ap is_some h)))
last_at (l ∷ lines) n m h = last_of-cons l lines m.key ∙ by (has_key lines l.key) refl (last_at lines n m) h
  where
    at_end : has_key lines l.key ≡ false → l ≡ m → option_or (last_of lines m.key) (here l m.key) ≡ Some m
    at_end none e =
        subst (λ x. option_or (last_of lines x.key) (here l x.key) ≡ Some x) e
        (ap (λ o. option_or o (here l l.key)) (no_last lines l.key none)
        ∙ ap (λ b. option_or None (if b then Some l else None)) (own_key l.key))

    pushed : has_key lines l.key ≡ false → (slice_get (last_lines lines) n ≡ Some m
        → last_of lines m.key ≡ Some m)
        → ((n ≡ length (last_lines lines)) × (l ≡ m)) ⊎ (slice_get (last_lines lines) n ≡ Some m)
        → option_or (last_of lines m.key) (here l m.key) ≡ Some m
    pushed none rest (inl e) = at_end none e.1
    pushed none rest (inr e) = ap (λ o. option_or o (here l m.key)) (rest e)

    by : (b : Bool) → has_key lines l.key ≡ b
        → (slice_get (last_lines lines) n ≡ Some m → last_of lines m.key ≡ Some m)
        → slice_get (if b then last_lines lines else last_lines lines ++ l ∷ []) n ≡ Some m
        → option_or (last_of lines m.key) (here l m.key) ≡ Some m
    by true has rest h = ap (λ o. option_or o (here l m.key)) (rest h)
    by false none rest h = pushed none rest (get-push (last_lines lines) l m n h)

-- a key that is given has a number
numbered : (lines : List RuleLineModel) (key : List ℕ) (m : RuleLineModel) → last_of lines key ≡ Some m
    → (n : ℕ) × (slice_get (last_lines lines) n ≡ Some m) × (m.key ≡ key)
unfolding last_lines
numbered [] key m h = absurd (true≢false (sym (ap is_some h)))
numbered (l ∷ lines) key m h = by (last_of lines key) refl (numbered lines key)
    (sym (last_of-cons l lines key) ∙ h)
  where
    longer : (n : ℕ) → slice_get (last_lines lines) n ≡ Some m → (b : Bool)
        → slice_get (if b then last_lines lines else last_lines lines ++ l ∷ []) n ≡ Some m
    longer n e true = e
    longer n e false = get-append (last_lines lines) (l ∷ []) n m e

    new : last_of lines key ≡ None → bytes_eq key l.key ≡ true → (b : Bool) → has_key lines l.key ≡ b → l ≡ m
        → (n : ℕ) × (slice_get (if b then last_lines lines else last_lines lines ++ l ∷ []) n ≡ Some m)
        × (m.key ≡ key)
    new none same true has e =
        absurd (true≢false (sym (some_last lines key
        (subst (λ k. has_key lines k ≡ true) (sym (same_key key l.key same)) has)) ∙ ap is_some none))
    new none same false has e = (
      length (last_lines lines),
      get-last (last_lines lines) l ∙ ap Some e,
      ap (λ x. x.key) (sym e) ∙ sym (same_key key l.key same),
    )

    last : last_of lines key ≡ None → (b : Bool) → bytes_eq key l.key ≡ b
        → (if b then Some l else None) ≡ Some m
        → (n : ℕ) × (slice_get (if has_key lines l.key then last_lines lines else last_lines lines ++ l ∷ [])
        n ≡ Some m) × (m.key ≡ key)
    last none true same e = new none same (has_key lines l.key) refl cc
    last none false same e = absurd (true≢false (sym (ap is_some e)))

    by : (o : Option RuleLineModel) → last_of lines key ≡ o
        → ((x : RuleLineModel) → last_of lines key ≡ Some x
        → (n : ℕ) × (slice_get (last_lines lines) n ≡ Some x) × (x.key ≡ key))
        → option_or o (here l key) ≡ Some m
        → (n : ℕ) × (slice_get (if has_key lines l.key then last_lines lines else last_lines lines ++ l ∷ [])
        n ≡ Some m) × (m.key ≡ key)
    by None none rest e = last none (bytes_eq key l.key) refl e
    by (Some x) is rest e = let r = rest m (is ∙ e) in (r.0, longer r.0 r.1 (has_key lines l.key), r.2)

-- and only one number
apart : (lines : List RuleLineModel) (i j : ℕ) (m o : RuleLineModel) → slice_get (last_lines lines) i ≡ Some m
    → slice_get (last_lines lines) j ≡ Some o → m.key ≡ o.key → i ≡ j
unfolding last_lines
apart [] i j m o h k same = absurd (true≢false (sym (ap is_some h)))
apart (l ∷ lines) i j m o h k same = by (has_key lines l.key) refl (apart lines i j m o) h k
  where
    clash : has_key lines l.key ≡ false → (n : ℕ) (x : RuleLineModel)
        → slice_get (last_lines lines) n ≡ Some x → l.key ≡ x.key → ⊥
    clash none n x e same = true≢false (sym
        (ap is_some (sym (no_last lines l.key none) ∙ ap (last_of lines) same ∙ last_at lines n x e)))

    pushed : has_key lines l.key ≡ false → (slice_get (last_lines lines) i ≡ Some m
        → slice_get (last_lines lines) j ≡ Some o → m.key ≡ o.key → i ≡ j)
        → ((i ≡ length (last_lines lines)) × (l ≡ m)) ⊎ (slice_get (last_lines lines) i ≡ Some m)
        → ((j ≡ length (last_lines lines)) × (l ≡ o)) ⊎ (slice_get (last_lines lines) j ≡ Some o) → i ≡ j
    pushed none rest (inl a) (inl b) = a.0 ∙ sym b.0
    pushed none rest (inl a) (inr b) = absurd (clash none j o b (ap (λ x. x.key) a.1 ∙ same))
    pushed none rest (inr a) (inl b) = absurd (clash none i m a (ap (λ x. x.key) b.1 ∙ sym same))
    pushed none rest (inr a) (inr b) = rest a b same

    by : (b : Bool) → has_key lines l.key ≡ b
        → (slice_get (last_lines lines) i ≡ Some m → slice_get (last_lines lines) j ≡ Some o → m.key ≡ o.key
        → i ≡ j)
        → slice_get (if b then last_lines lines else last_lines lines ++ l ∷ []) i ≡ Some m
        → slice_get (if b then last_lines lines else last_lines lines ++ l ∷ []) j ≡ Some o → i ≡ j
    by true has rest h k = rest h k same
    by false none rest h k = pushed none rest (get-push (last_lines lines) l m i h)
        (get-push (last_lines lines) l o j k)

-- ---- numbers

-- the line of a number
line_of_number : (lines : List RuleLineModel) (n : ℕ) → n < key_count lines
    → (m : RuleLineModel) × (slice_get (last_lines lines) n ≡ Some m) × (key_at lines n ≡ m.key)
line_of_number lines n below =
    let m = get_or (last_lines lines) n (record { key = []; value = [] }) in
    let e : slice_get (last_lines lines) n ≡ Some m =
    slice_get-get_or (last_lines lines) n (record { key = []; value = [] }) below in
    (m, e, ap (λ o. unwrap_or (option_map (λ (l : RuleLineModel). l.key) o) []) e)

pub key_of_line : (lines : List RuleLineModel) (n : ℕ) (m : RuleLineModel)
    → slice_get (last_lines lines) n ≡ Some m → key_at lines n ≡ m.key
key_of_line lines n m e = ap (λ o. unwrap_or (option_map (λ (l : RuleLineModel). l.key) o) []) e

pub given_of_line : (lines : List RuleLineModel) (n : ℕ) (m : RuleLineModel)
    → slice_get (last_lines lines) n ≡ Some m → given lines (key_at lines n) ≡ Some m.value
given_of_line lines n m e = ap (given lines) (key_of_line lines n m e)
    ∙ ap (option_map (λ (l : RuleLineModel). l.value)) (last_at lines n m e)

pub keys_are_numbered : (lines : List RuleLineModel) → KeysAreNumbered lines
keys_are_numbered lines key value h = by (last_of lines key) refl h
  where
    by : (o : Option RuleLineModel) → last_of lines key ≡ o
        → option_map (λ (l : RuleLineModel). l.value) o ≡ Some value
        → (n : ℕ) × (n < key_count lines) × (key_at lines n ≡ key)
    by None is e = absurd (true≢false (sym (ap is_some e)))
    by (Some m) is e = let r = numbered lines key m is in
        (r.0, slice_get_within (last_lines lines) r.0 m r.1, key_of_line lines r.0 m r.1 ∙ r.2)

pub numbers_differ : (lines : List RuleLineModel) → NumbersDiffer lines
numbers_differ lines i j below under same =
    let m = line_of_number lines i below in
    let o = line_of_number lines j under in
    apart lines i j m.0 o.0 m.1 o.1 (sym m.2 ∙ same ∙ o.2)

pub not_given : (lines : List RuleLineModel) (key : List ℕ)
    → ((n : ℕ) → n < key_count lines → ¬ (key_at lines n ≡ key)) → given lines key ≡ None
not_given lines key none = grind (arith, keys_are_numbered)

-- ---- how they are held

-- the line at the index that is at a place
at_place : (all : List RuleLineModel) (indexes : List ℕ) (held : List RuleLineModel) (n : ℕ)
    → AreIndexes all indexes held → n < length indexes
    → slice_get all (slice_index indexes n) ≡ slice_get held n
at_place all indexes held n are below =
    by (slice_get held n)
    (sym (slice_get-map Some held n) ∙ sym (ap (λ os. slice_get os n) are)
    ∙ slice_get-map (slice_get all) indexes n
    ∙ ap (option_map (slice_get all)) (slice_get-get_or indexes n 0 below))
  where
    by : (o : Option RuleLineModel) → option_map Some o ≡ Some (slice_get all (slice_index indexes n))
        → slice_get all (slice_index indexes n) ≡ o
    by None h = absurd (true≢false (sym (ap is_some h)))
    by (Some m) h = cc

pub length_held : (all : List RuleLineModel) (indexes : List ℕ) (held : List RuleLineModel)
    → AreIndexes all indexes held → length indexes ≡ length held
length_held all indexes held are = grind (arith, common_steps)

pub held_at : (lines : List RuleLine) (indexes : List ℕ) (held : List RuleLineModel) (n : ℕ) (line : RuleLine)
    → AreIndexes (map line_held lines) indexes held → n < length indexes
    → slice_get lines (slice_index indexes n) ≡ Some line → slice_get held n ≡ Some (line_held line)
held_at lines indexes held n line are below here =
    sym (at_place (map line_held lines) indexes held n are below)
    ∙ slice_get-map line_held lines (slice_index indexes n) ∙ ap (option_map line_held) here

pub indexes_within : (lines : List RuleLine) (indexes : List ℕ) (held : List RuleLineModel)
    → AreIndexes (map line_held lines) indexes held → All (λ i. i < length lines) indexes
indexes_within lines indexes held are = All-from_get_or (λ i. i < length lines) indexes 0 (λ n below.
    let long = length_held (map line_held lines) indexes held are in
    let m = get_or held n (record { key = []; value = [] }) in
    let e = at_place (map line_held lines) indexes held n are below
    ∙ slice_get-get_or held n (record { key = []; value = [] }) (omega arith) in
    subst (λ k. slice_index indexes n < k) (length-map lines line_held)
    (slice_get_within (map line_held lines) (slice_index indexes n) m e))

-- the key of a rule's number
pub key_held : (lines : List RuleLine) (indexes : List ℕ) (n : ℕ) (line : RuleLine)
    → AreIndexes (map line_held lines) indexes (last_lines (map line_held lines)) → n < length indexes
    → slice_get lines (slice_index indexes n) ≡ Some line → line.key.items ≡ key_at (map line_held lines) n
key_held lines indexes n line are below here = grind (arith, key_of_line, map, held_at)

pub value_held : (lines : List RuleLine) (indexes : List ℕ) (n : ℕ) (line : RuleLine)
    → AreIndexes (map line_held lines) indexes (last_lines (map line_held lines)) → n < length indexes
    → slice_get lines (slice_index indexes n) ≡ Some line
    → given (map line_held lines) (key_at (map line_held lines) n) ≡ Some line.value
value_held lines indexes n line are below here = grind (arith, given_of_line, map, held_at)

pub number_held : (lines : List RuleLine) (indexes : List ℕ) (n : ℕ) (key : List ℕ)
    → AreIndexes (map line_held lines) indexes (last_lines (map line_held lines)) → n < length indexes
    → HasKeyAt lines (slice_index indexes n) key → IsNumber (map line_held lines) key n
number_held lines indexes n key are below h = grind (arith, length_held, map, key_held)

-- no line at the given indexes has the key
abbrev pub NoneHas : List RuleLine → List ℕ → List ℕ → Type 0
NoneHas lines indexes key = (n : ℕ) → n < length indexes → ¬ HasKeyAt lines (slice_index indexes n) key

slice_get-some : (xs : List RuleLine) (i : ℕ) → i < length xs → (x : RuleLine) × (slice_get xs i ≡ Some x)
slice_get-some [] i lt = absurd (omega arith)
slice_get-some (x ∷ xs) zero lt = (x, refl)
slice_get-some (x ∷ xs) (suc i) lt = slice_get-some xs i (omega arith)

pub has_here : (lines : List RuleLine) (i : ℕ) (line : RuleLine) (key : List ℕ)
    → slice_get lines i ≡ Some line → bytes_eq key line.key.items ≡ true → HasKeyAt lines i key
has_here lines i line key is same = (line, is, sym (same_key key line.key.items same))

pub has_not_here : (lines : List RuleLine) (i : ℕ) (line : RuleLine) (key : List ℕ)
    → slice_get lines i ≡ Some line → bytes_eq key line.key.items ≡ false → ¬ HasKeyAt lines i key
has_not_here lines i line key is other h = search rules

line_there : (lines : List RuleLine) (indexes : List ℕ) (held : List RuleLineModel)
    → AreIndexes (map line_held lines) indexes held → (n : ℕ) → n < length indexes
    → (line : RuleLine) × (slice_get lines (slice_index indexes n) ≡ Some line)
line_there lines indexes held are n below = grind (
  arith,
  slice_get,
  length,
  indexes_within,
  true≢false,
  is_some,
  slice_get-some,
)

pub none_held : (lines : List RuleLine) (indexes : List ℕ) (key : List ℕ)
    → AreIndexes (map line_held lines) indexes (last_lines (map line_held lines)) → NoneHas lines indexes key
    → given (map line_held lines) key ≡ None
none_held lines indexes key are none = not_given (map line_held lines) key (λ n below is.
    let inside : n < length indexes = subst (λ k. n < k)
    (sym (length_held (map line_held lines) indexes (last_lines (map line_held lines)) are)) below in
    let l = line_there lines indexes (last_lines (map line_held lines)) are n inside in
    none n inside (l.0, l.1, key_held lines indexes n l.0 are inside l.1 ∙ is))

-- ---- the last line of each key, from the end

pub pushed_index : (all : List RuleLineModel) (indexes : List ℕ) (held : List RuleLineModel) (i : ℕ)
    (m : RuleLineModel) → AreIndexes all indexes held → slice_get all i ≡ Some m
    → AreIndexes all (indexes ++ i ∷ []) (held ++ m ∷ [])
pushed_index all indexes held i m are is = grind (arith, common_steps)

-- whether a line has the key is whether a last line has it
has_number : (lines : List RuleLineModel) (key : List ℕ) → has_key lines key ≡ true
    → (n : ℕ) × (m : RuleLineModel) × (slice_get (last_lines lines) n ≡ Some m) × (m.key ≡ key)
has_number lines key has = by (last_of lines key) refl
  where
    by : (o : Option RuleLineModel) → last_of lines key ≡ o
        → (n : ℕ) × (m : RuleLineModel) × (slice_get (last_lines lines) n ≡ Some m) × (m.key ≡ key)
    by None is = absurd (true≢false (sym (some_last lines key has) ∙ ap is_some is))
    by (Some m) is = let r = numbered lines key m is in (r.0, m, r.1, r.2)

has_not : (lines : List RuleLineModel) (n : ℕ) (m : RuleLineModel) → slice_get (last_lines lines) n ≡ Some m
    → has_key lines m.key ≡ true
has_not lines n m e = by (has_key lines m.key) refl
  where
    by : (b : Bool) → has_key lines m.key ≡ b → has_key lines m.key ≡ true
    by true is = is
    by false is = absurd (true≢false (sym (ap is_some (sym (no_last lines m.key is) ∙ last_at lines n m e))))

-- the line at an index, seen from the lines after it
pub line_next : (lines : List RuleLine) (i : ℕ) (line : RuleLine) → slice_get lines i ≡ Some line
    → drop i (map line_held lines) ≡ line_held line ∷ drop (i + 1) (map line_held lines)
line_next lines i line is =
    let e : slice_get (map line_held lines) i ≡ Some (line_held line) =
    slice_get-map line_held lines i ∙ ap (option_map line_held) is in
    drop_more (map line_held lines) i (line_held line)
    (slice_get_within (map line_held lines) i (line_held line) e)
    ∙ ap (λ m. m ∷ drop (i + 1) (map line_held lines))
    (get_or_from_slice_get (map line_held lines) i (line_held line) (line_held line) e)

-- one line further to the front, whose key no later line has
pub line_taken : (lines : List RuleLine) (last : List ℕ) (i : ℕ) (line : RuleLine)
    → slice_get lines i ≡ Some line
    → AreIndexes (map line_held lines) last (last_lines (drop (i + 1) (map line_held lines)))
    → NoneHas lines last line.key.items
    → AreIndexes (map line_held lines) (last ++ i ∷ []) (last_lines (drop i (map line_held lines)))
unfolding last_lines
line_taken lines last i line is are none =
    let rest = drop (i + 1) (map line_held lines) in
    subst (λ ls. AreIndexes (map line_held lines) (last ++ i ∷ []) (last_lines ls))
    (sym (line_next lines i line is))
    (by (has_key rest line.key.items) refl)
  where
    by : (b : Bool) → has_key (drop (i + 1) (map line_held lines)) line.key.items ≡ b
        → AreIndexes (map line_held lines) (last ++ i ∷ [])
        (if b then last_lines (drop (i + 1) (map line_held lines)) else last_lines
        (drop (i + 1) (map line_held lines)) ++ line_held line ∷ [])
    by true has =
        let r = has_number (drop (i + 1) (map line_held lines)) line.key.items has in
        let long = length_held (map line_held lines) last (last_lines (drop (i + 1) (map line_held lines)))
        are in
        let below = slice_get_within (last_lines (drop (i + 1) (map line_held lines))) r.0 r.1 r.2 in
        let inside : r.0 < length last = omega arith in
        let l = line_there lines last (last_lines (drop (i + 1) (map line_held lines))) are r.0 inside in
        let same = held_at lines last (last_lines (drop (i + 1) (map line_held lines))) r.0 l.0 are inside l.1
        in
        let m : r.1 ≡ line_held l.0 = cc in
        absurd (none r.0 inside (l.0, l.1, sym (ap (λ (x : RuleLineModel). x.key) m) ∙ r.3))
    by false has = pushed_index (map line_held lines) last (last_lines (drop (i + 1) (map line_held lines))) i
        (line_held line) are (slice_get-map line_held lines i ∙ ap (option_map line_held) is)

-- the same, where a line after it has its key
pub line_passed : (lines : List RuleLine) (last : List ℕ) (i n : ℕ) (line : RuleLine)
    → slice_get lines i ≡ Some line
    → AreIndexes (map line_held lines) last (last_lines (drop (i + 1) (map line_held lines)))
    → n < length last → HasKeyAt lines (slice_index last n) line.key.items
    → AreIndexes (map line_held lines) last (last_lines (drop i (map line_held lines)))
unfolding last_lines
line_passed lines last i n line is are below at =
    let rest = drop (i + 1) (map line_held lines) in
    let here = held_at lines last (last_lines rest) n at.0 are below at.1 in
    let has : has_key rest line.key.items ≡ true =
    subst (λ k. has_key rest k ≡ true) at.2 (has_not rest n (line_held at.0) here) in
    subst (λ ls. AreIndexes (map line_held lines) last (last_lines ls)) (sym (line_next lines i line is))
    (subst (λ b. AreIndexes (map line_held lines) last
    (if b then last_lines rest else last_lines rest ++ line_held line ∷ [])) (sym has) are)

-- ---- the same for the fields of a rule, where ls and is are read from it

module _ (lines : List RuleLine) (last : List ℕ) (held : List RuleLineModel)
    (same : map line_held lines ≡ held) (are : AreIndexes (map line_held lines) last
    (last_lines (map line_held lines)))
    (ls : List RuleLine) (is : List ℕ) (e : ls ≡ lines) (f : is ≡ last) where
  place_reported : (n : ℕ) → n < key_count held → n < length last
  place_reported n below = subst (λ k. n < k)
      (ap key_count (sym same) ∙ sym (length_held (map line_held lines) last
      (last_lines (map line_held lines)) are)) below

  pub all_reported : All (λ i. i < length ls) is
  all_reported = subst (λ xs. All (λ i. i < length ls) xs) (sym f)
      (subst (λ xs. All (λ i. i < length xs) last) (sym e)
      (indexes_within lines last (last_lines (map line_held lines)) are))

  pub index_reported : (n : ℕ) → n < key_count held → slice_index is n < length ls
  index_reported n below = All-get_or (λ i. i < length ls) is n 0
      (subst (λ xs. n < length xs) (sym f) (place_reported n below)) all_reported

  at_reported : (n : ℕ) (line : RuleLine) → slice_get ls (slice_index is n) ≡ Some line
      → slice_get lines (slice_index last n) ≡ Some line
  at_reported n line h = sym (ap (λ xs. slice_get xs (slice_index is n)) e
      ∙ ap (λ xs. slice_get lines (slice_index xs n)) f) ∙ h

  pub key_reported : (n : ℕ) (line : RuleLine) → n < key_count held
      → slice_get ls (slice_index is n) ≡ Some line → line.key.items ≡ key_at held n
  key_reported n line below h = key_held lines last n line are (place_reported n below) (at_reported n line h)
      ∙ ap (λ xs. key_at xs n) same

  pub value_reported : (n : ℕ) (line : RuleLine) → n < key_count held
      → slice_get ls (slice_index is n) ≡ Some line → given held (key_at held n) ≡ Some line.value
  value_reported n line below h =
      subst (λ xs. given xs (key_at xs n) ≡ Some line.value) same
      (value_held lines last n line are (place_reported n below) (at_reported n line h))

  pub number_reported : (n : ℕ) (key : List ℕ) → n < length is → HasKeyAt ls (slice_index is n) key
      → IsNumber held key n
  number_reported n key below at =
      subst (λ xs. IsNumber xs key n) same (number_held lines last n key are
      (subst (λ xs. n < length xs) f below) (at.0, at_reported n at.0 at.1, at.2))

  pub none_reported : (key : List ℕ) → ((n : ℕ) → n < length is → ¬ HasKeyAt ls (slice_index is n) key)
      → given held key ≡ None
  none_reported key none =
      subst (λ xs. given xs key ≡ None) same
      (none_held lines last key are (λ n below at. none n (subst (λ xs. n < length xs) (sym f) below) (
        at.0,
        ap (λ xs. slice_get xs (slice_index is n)) e
            ∙ ap (λ xs. slice_get lines (slice_index xs n)) f ∙ at.1,
        at.2,
      )))

-- ---- results

pub some_weaker : (o : Option ℕ) (P Q : ℕ → Type 0) → ((n : ℕ) → P n → Q n) → IfSome o P → IfSome o Q
some_weaker o h h1 f h2 = grind arith

pub none_weaker : (o : Option ℕ) (P Q : Type 0) → (P → Q) → IfNone o P → IfNone o Q
none_weaker o h h1 f h2 = grind arith

pub none_yet : (lines : List RuleLine) (last : List ℕ) → last ≡ []
    → AreIndexes (map line_held lines) last (last_lines (drop (length lines) (map line_held lines)))
unfolding last_lines
none_yet lines last empty = grind (arith, common_steps)

-- a turn from the end, at the line before index i
module _ (lines : List RuleLine) (last ds : List ℕ) (i : ℕ) (line : RuleLine) (key : List ℕ) (o : Option ℕ)
    (low : 0 < i) (high : i ≤ length lines)
    (at : line ≡ get_or lines (i - 1) line) (of : key ≡ (get_or lines (i - 1) line).key.items) (d : ds ≡ last)
    (are : AreIndexes (map line_held lines) last (last_lines (drop i (map line_held lines)))) where
  there : slice_get lines (i - 1) ≡ Some line
  there = slice_get_read lines (length lines) (i - 1) line refl (omega arith) at

  its_key : key ≡ line.key.items
  its_key = of ∙ ap (λ (l : RuleLine). l.key.items) (sym at)

  later : AreIndexes (map line_held lines) last (last_lines (drop ((i - 1) + 1) (map line_held lines)))
  later = let next : i ≡ (i - 1) + 1 = omega arith in
      subst (λ n. AreIndexes (map line_held lines) last (last_lines (drop n (map line_held lines)))) next are

  pub turn_taken : (pushed : List ℕ) → is_some o ≡ false
      → IfNone o ((n : ℕ) → n < length ds → ¬ HasKeyAt lines (slice_index ds n) key)
      → pushed ≡ last ++ (i - 1) ∷ []
      → AreIndexes (map line_held lines) pushed (last_lines (drop (i - 1) (map line_held lines)))
  turn_taken pushed none outcome more =
      subst (λ xs. AreIndexes (map line_held lines) xs (last_lines (drop (i - 1) (map line_held lines))))
      (sym more)
      (line_taken lines last (i - 1) line there later (by o none outcome))
    where
      by : (o : Option ℕ) → is_some o ≡ false
          → IfNone o ((n : ℕ) → n < length ds → ¬ HasKeyAt lines (slice_index ds n) key)
          → NoneHas lines last line.key.items
      by None none outcome = subst (λ xs. NoneHas lines xs line.key.items) d
          (subst (NoneHas lines ds) its_key outcome)
      by (Some n) none outcome = absurd (true≢false none)

  pub turn_passed : is_some o ≡ true → IfSome o (λ n. (n < length ds) × HasKeyAt lines (slice_index ds n) key)
      → AreIndexes (map line_held lines) last (last_lines (drop (i - 1) (map line_held lines)))
  turn_passed some outcome = by o some outcome
    where
      by : (o : Option ℕ) → is_some o ≡ true
          → IfSome o (λ n. (n < length ds) × HasKeyAt lines (slice_index ds n) key)
          → AreIndexes (map line_held lines) last (last_lines (drop (i - 1) (map line_held lines)))
      by None some outcome = absurd (true≢false (sym some))
      by (Some n) some outcome =
          line_passed lines last (i - 1) n line there later (subst (λ xs. n < length xs) d outcome.0)
          (subst (λ xs. HasKeyAt lines (slice_index xs n) line.key.items) d
          (subst (HasKeyAt lines (slice_index ds n)) its_key outcome.1))
