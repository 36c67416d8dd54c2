-- The keys that the lines of a block give.
use Rattle.std.proofs.Common.{◌≡◌, ℕ, ◌+◌, ◌<◌, Bool, true, false, true≢false, cond, if◌then◌else◌, ◌&&◌}
use Rattle.std.proofs.Common.{◌||◌, not, ◌==◌, Option, Some, None, is_some, option_map, unwrap_or, List, []}
use Rattle.std.proofs.Common.{◌∷◌, ◌++◌, length, take, get_or, map, refl, sym, ap, ◌∙◌, arith}
use Rattle.std.specs.Prelude.{find, reverse}
use Rattle.std.specs.Option.{option_or}
use Rattle.std.specs.List.{list_any}
use Rattle.std.specs.Str.{bytes_eq}
use Rattle.std.proofs.lemmas.List.{map-append, reverse-append, take_more}
use Rattle.std.proofs.lemmas.List.Folds.{find-append}
use Rattle.std.proofs.lemmas.Slice.Eq.{bytes_eq-Decides}
use Rattle.std.proofs.lemmas.Grind.{common_steps}
use Rattle.nj_text.specs.declared.word.Part.{Part}
use Rattle.nj_text.specs.Words.{part_model}
use Rattle.nj_text.specs.Calls.{is_empty}
use Rattle.nj_manifest.specs.declared.statement.Line.{Line}
use Rattle.nj_manifest.specs.Statements.{LineModel, last_line, gives}
use Rattle.nj_manifest.specs.Contents.{line_model, lines_model}
use Rattle.nj_manifest.specs.Inside.Heads.{names}

-- ---- the last line of a key

bytes_eq-swap : (a b : List ℕ) → bytes_eq a b ≡ bytes_eq b a
bytes_eq-swap a b = by_tests (bytes_eq a b) (bytes_eq b a) refl refl
  where
    by_tests : (t u : Bool) → bytes_eq a b ≡ t → bytes_eq b a ≡ u → t ≡ u
    by_tests true true e f = refl
    by_tests false false e f = refl
    by_tests true false e f = absurd (true≢false
        (sym ((bytes_eq-Decides b a).1 (sym ((bytes_eq-Decides a b).0 e))) ∙ f))
    by_tests false true e f = absurd (true≢false
        (sym ((bytes_eq-Decides a b).1 (sym ((bytes_eq-Decides b a).0 f))) ∙ e))

abbrev last : (key : List ℕ) → List LineModel → Option LineModel
last key lines = last_line (λ l. l.name) lines key

-- whether there is a line, and its value has a part
abbrev has_part : Option LineModel → Bool
has_part line = unwrap_or (option_map (λ (l : LineModel). not (is_empty l.value.parts)) line) false

last-cons : (key : List ℕ) (l : LineModel) (ls : List LineModel)
    → last key (l ∷ ls) ≡ option_or (last key ls) (if bytes_eq key l.name then Some l else None)
last-cons key l ls = ap (find (λ (m : LineModel). bytes_eq key m.name)) (reverse-append (l ∷ []) ls)
    ∙ find-append (λ (m : LineModel). bytes_eq key m.name) (reverse ls) (l ∷ [])

last-named : (key : List ℕ) (ls : List LineModel)
    → is_some (last key ls) ≡ list_any (λ (m : LineModel). bytes_eq m.name key) ls
last-named key [] = refl
last-named key (l ∷ ls) = ap is_some (last-cons key l ls)
    ∙ by_test (last key ls) (bytes_eq key l.name) (bytes_eq l.name key)
    (list_any (λ (m : LineModel). bytes_eq m.name key) ls) (bytes_eq-swap key l.name) (last-named key ls)
  where
    by_test : (found : Option LineModel) (t u a : Bool) → t ≡ u → is_some found ≡ a
        → is_some (option_or found (if t then Some l else None)) ≡ (u || a)
    by_test (Some m) true true true e h = refl
    by_test (Some m) false false true e h = refl
    by_test (Some m) t u false e h = absurd (true≢false h)
    by_test None true true a e h = refl
    by_test None false false a e h = h
    by_test found true false a e h = absurd (true≢false e)
    by_test found false true a e h = absurd (true≢false (sym e))

-- the first line matters only if no later line has the key
pub gives-cons : (key : List ℕ) (l : LineModel) (ls : List LineModel)
    → gives key (l ∷ ls) ≡ cond (bytes_eq l.name key
    && not (list_any (λ (m : LineModel). bytes_eq m.name key) ls)) (not (is_empty l.value.parts))
    (gives key ls)
gives-cons key l ls = ap has_part (last-cons key l ls)
    ∙ by_tests (last key ls) (bytes_eq key l.name) (bytes_eq l.name key)
    (list_any (λ (m : LineModel). bytes_eq m.name key) ls) (bytes_eq-swap key l.name) (last-named key ls)
  where
    by_tests : (found : Option LineModel) (t u a : Bool) → t ≡ u → is_some found ≡ a
        → has_part (option_or found (if t then Some l else None))
        ≡ cond (u && not a) (not (is_empty l.value.parts)) (has_part found)
    by_tests (Some m) true true true e h = refl
    by_tests (Some m) false false true e h = refl
    by_tests (Some m) t u false e h = absurd (true≢false h)
    by_tests None t u true e h = absurd (true≢false (sym h))
    by_tests None true true false e h = refl
    by_tests None false false false e h = refl
    by_tests found true false a e h = absurd (true≢false e)
    by_tests found false true a e h = absurd (true≢false (sym e))

-- the last line of the key decides
gives-more : (key : List ℕ) (ls : List LineModel) (l : LineModel)
    → gives key (ls ++ l ∷ []) ≡ cond (bytes_eq l.name key) (not (is_empty l.value.parts)) (gives key ls)
gives-more key ls l = ap (λ found. has_part (find (λ (m : LineModel). bytes_eq key m.name) found))
    (reverse-append ls (l ∷ [])) ∙ by_test (bytes_eq key l.name) (bytes_eq l.name key)
    (bytes_eq-swap key l.name)
  where
    by_test : (t u : Bool) → t ≡ u → has_part (if t then Some l else last key ls)
        ≡ cond u (not (is_empty l.value.parts)) (gives key ls)
    by_test true true e = refl
    by_test false false e = refl
    by_test true false e = absurd (true≢false e)
    by_test false true e = absurd (true≢false (sym e))

-- ---- a turn of the loop

is_empty-length : {A : Type 0} (xs : List A) → is_empty xs ≡ (length xs == 0)
is_empty-length [] = refl
is_empty-length (x ∷ xs) = grind (arith, common_steps)

no_parts : (ps : List Part) → is_empty (map part_model ps) ≡ is_empty ps
no_parts [] = refl
no_parts (p ∷ ps) = refl

given : (key : List ℕ) (ls : List Line) (i : ℕ) (l : Line) (before after : Bool) → i < length ls
    → l ≡ get_or ls i l → before ≡ gives key (lines_model (take i ls))
    → after ≡ cond (bytes_eq l.name.now key) (not (is_empty l.value.parts.items)) before
    → after ≡ gives key (lines_model (take (i + 1) ls))
given key ls i l before after h is b a =
    let more : take (i + 1) ls ≡ take i ls ++ l ∷ [] =
    take_more ls i l h ∙ ap (λ (m : Line). take i ls ++ m ∷ []) (sym is) in
    let strings : lines_model (take (i + 1) ls) ≡ lines_model (take i ls) ++ line_model l ∷ [] =
    ap lines_model more ∙ map-append line_model (take i ls) (l ∷ []) in
    let turned = gives-more key (lines_model (take i ls)) (line_model l) in
    let parts = no_parts l.value.parts.items in
    rw (strings, turned, parts, ← b) a

pub given-so : (key : List ℕ) (ls : List Line) (i : ℕ) (l : Line) (before after : Bool) → i < length ls
    → l ≡ get_or ls i l → before ≡ gives key (lines_model (take i ls)) → bytes_eq l.name.now key ≡ true
    → after ≡ not (length l.value.parts.items == 0)
    → after ≡ gives key (lines_model (take (i + 1) ls))
given-so key ls i l before after h is b t a =
    given key ls i l before after h is b (rw t (a ∙ ap not (sym (is_empty-length l.value.parts.items))))

pub given-before : (key : List ℕ) (ls : List Line) (i : ℕ) (l : Line) (before after : Bool) → i < length ls
    → l ≡ get_or ls i l → before ≡ gives key (lines_model (take i ls)) → bytes_eq l.name.now key ≡ false
    → after ≡ before
    → after ≡ gives key (lines_model (take (i + 1) ls))
given-before key ls i l before after h is b t a = given key ls i l before after h is b (rw t a)

-- ---- whether a line has a key

pub names-lines : (key : List ℕ) (ls : List Line)
    → names key (lines_model ls) ≡ list_any (λ (l : Line). bytes_eq l.name.now key) ls
names-lines key [] = refl
names-lines key (l ∷ ls) = ap (λ (t : Bool). bytes_eq l.name.now key || t) (names-lines key ls)
