-- The values of names: late strings, if no variable of a rule refers back to itself.
use Rattle.std.proofs.Common.{◌≡◌, ℕ, zero, suc, ◌<◌, ◌≤◌, Bool, true, false, ◌||◌, if◌then◌else◌, List, []}
use Rattle.std.proofs.Common.{◌∷◌, ◌++◌, length, Option, None, Some, unwrap_or, option_map, bytes_eq, refl}
use Rattle.std.proofs.Common.{sym, ap, subst, ◌∙◌, true≢false, arith}
use Rattle.nj_names.specs.NameTables.{is_among}
use Rattle.std.specs.Option.{option_or}
use Rattle.std.specs.Prelude.{is_some, codes, find, reverse, ◌⊎◌}
use Rattle.std.proofs.Common.{inl, inr}
use Rattle.std.proofs.lemmas.Slice.Eq.{bytes_eq-Decides}
use Rattle.std.proofs.lemmas.List.{reverse-append}
use Rattle.std.proofs.lemmas.List.Folds.{list_any-append}
use Rattle.nj_text.specs.Words.{PartModel, Text, Name}
use Rattle.nj_scope.specs.Rules.{RuleLineModel, given}
use Rattle.nj_scope.specs.RulesHeld.{has_key}
use Rattle.nj_scope.specs.Scopes.{expanded}
use Rattle.nj_edge_env.specs.LateStrings.{LateNames, text_of_paths, paths_text, names_paths, value_given}
use Rattle.nj_edge_env.specs.LateStrings.{rule_value, file_value, refers}
use Rattle.nj_edge_env.specs.LateStrings.{Denotes, late_in, late_text}
use Rattle.nj_edge_env.specs.LateStrings.Denotes.{by_paths, by_block, by_rule, by_file}
use Rattle.nj_edge_env.specs.VariableCycles.{RefersTo, Reaches, IsOnCycle, HasNoCycle}
use Rattle.nj_cycles.specs.Cycles.Chain.{one, more}
use Rattle.nj_edge_env.specs.Inside.StringsHeld.{Settles}
use Rattle.nj_edge_env.specs.Laws.{LateTextIsGiven, OneTextIsGiven, CycleGivesNothing, RuleWins}

-- ---- names

pub same_name : (x y : List ℕ) → bytes_eq x y ≡ true → x ≡ y
same_name x y h = (bytes_eq-Decides x y).0 h

pub own_name : (x : List ℕ) → bytes_eq x x ≡ true
own_name x = (bytes_eq-Decides x x).1 refl

-- a name that does not stand for paths has no text of paths
no_paths : (a b c : Bool) (s t u : List ℕ) → (a || (b || (c || false))) ≡ false
    → (if a then Some s else (if b then Some t else (if c then Some u else None))) ≡ None
no_paths a b c s t u h = grind arith

pub without_paths : (quoting : Bool) (inputs outputs : List (List ℕ)) (name : List ℕ)
    → names_paths name ≡ false → text_of_paths quoting inputs outputs name ≡ None
without_paths quoting inputs outputs name h = grind arith

some_paths : (a b c : Bool) (s t u : List ℕ) → (a || (b || (c || false))) ≡ true
    → (text : List ℕ) × ((if a then Some s else (if b then Some t else (if c then Some u else None)))
    ≡ Some text)
some_paths true b c s t u h = (s, refl)
some_paths false true c s t u h = (t, refl)
some_paths false false true s t u h = (u, refl)
some_paths false false false s t u h = absurd (true≢false (sym h))

pub with_paths : (quoting : Bool) (inputs outputs : List (List ℕ)) (name : List ℕ) → names_paths name ≡ true
    → (text : List ℕ) × (text_of_paths quoting inputs outputs name ≡ Some text)
with_paths quoting inputs outputs name h =
    some_paths (bytes_eq name (codes "in")) (bytes_eq name (codes "in_newline")) (bytes_eq name (codes "out"))
    (paths_text quoting 32 inputs) (paths_text quoting 10 inputs) (paths_text quoting 32 outputs) h

-- the facts about the rule's value of a name
pub record IsRuleValue (block : List ℕ → Option (List ℕ)) (lines : List RuleLineModel) (name : List ℕ)
    (parts : List PartModel) : Type 0 where
  pub no_paths : names_paths name ≡ false
  pub unbound : block name ≡ None
  pub given : value_given lines name ≡ Some parts

pub rule_value_is : (block : List ℕ → Option (List ℕ)) (lines : List RuleLineModel) (name : List ℕ)
    (parts : List PartModel) → rule_value block lines name ≡ Some parts → IsRuleValue block lines name parts
rule_value_is block lines name parts h = grind arith

pub rule_value_of : (block : List ℕ → Option (List ℕ)) (lines : List RuleLineModel) (name : List ℕ)
    → names_paths name ≡ false → block name ≡ None → rule_value block lines name ≡ value_given lines name
rule_value_of block lines name p q = grind arith

-- ---- values

pub expanded_same : (f g : List ℕ → List ℕ) (parts : List PartModel)
    → ((name : List ℕ) → refers parts name ≡ true → f name ≡ g name) → expanded f parts ≡ expanded g parts
expanded_same f g [] same = refl
expanded_same f g (Text bytes ∷ parts) same = ap (λ text. bytes ++ text) (expanded_same f g parts same)
expanded_same f g (Name name ∷ parts) same =
    ap (λ text. text ++ expanded f parts) (same name (ap (λ b. b || refers parts name) (own_name name)))
    ∙ ap (λ text. g name ++ text) (expanded_same f g parts
    (λ other r. same other (either (bytes_eq other name) (refers parts other) r)))
  where
    either : (b c : Bool) → c ≡ true → (b || c) ≡ true
    either true c h = refl
    either false c h = h

-- ---- ways in which a name gets its text

pub data Way (quoting : Bool) (n : LateNames) (name : List ℕ) : Type 0 where
  of_paths : (text : List ℕ) → text_of_paths quoting n.inputs n.outputs name ≡ Some text → Way quoting n name
  of_block : names_paths name ≡ false → (value : List ℕ) → n.block name ≡ Some value → Way quoting n name
  of_rule : (parts : List PartModel) → rule_value n.block n.lines name ≡ Some parts → Way quoting n name
  of_file : names_paths name ≡ false → n.block name ≡ None → value_given n.lines name ≡ None
      → Way quoting n name

pub way : (quoting : Bool) (n : LateNames) (name : List ℕ) → Way quoting n name
way quoting n name = by (names_paths name) (n.block name) (value_given n.lines name) refl refl refl
  where
    by : (b : Bool) (o : Option (List ℕ)) (v : Option (List PartModel)) → names_paths name ≡ b
        → n.block name ≡ o → value_given n.lines name ≡ v → Way quoting n name
    by true o v p q r = let t = with_paths quoting n.inputs n.outputs name p in of_paths t.0 t.1
    by false (Some value) v p q r = of_block p value q
    by false None (Some parts) p q r = of_rule parts (rule_value_of n.block n.lines name p q ∙ r)
    by false None None p q r = of_file p q r

-- one line further
abbrev pub once : (value : List ℕ → List ℕ) → Bool → LateNames → List ℕ → List ℕ
once value quoting n name =
    unwrap_or (option_or (text_of_paths quoting n.inputs n.outputs name)
    (option_or (n.block name) (option_map (expanded value) (rule_value n.block n.lines name))))
    (file_value n name)

pub once_paths : (value : List ℕ → List ℕ) (quoting : Bool) (n : LateNames) (name text : List ℕ)
    → text_of_paths quoting n.inputs n.outputs name ≡ Some text → once value quoting n name ≡ text
once_paths value quoting n name text h = grind arith

after_paths : (value : List ℕ → List ℕ) (quoting : Bool) (n : LateNames) (name : List ℕ)
    → names_paths name ≡ false → once value quoting n name
    ≡ unwrap_or (option_or (n.block name) (option_map (expanded value) (rule_value n.block n.lines name)))
    (file_value n name)
after_paths value quoting n name p = grind arith

pub once_block : (value : List ℕ → List ℕ) (quoting : Bool) (n : LateNames) (name text : List ℕ)
    → names_paths name ≡ false → n.block name ≡ Some text → once value quoting n name ≡ text
once_block value quoting n name text p h = grind arith

after_block : (value : List ℕ → List ℕ) (quoting : Bool) (n : LateNames) (name : List ℕ)
    → names_paths name ≡ false → n.block name ≡ None
    → once value quoting n name ≡ unwrap_or (option_map (expanded value) (rule_value n.block n.lines name))
    (file_value n name)
after_block value quoting n name p h = grind arith

pub once_rule : (value : List ℕ → List ℕ) (quoting : Bool) (n : LateNames) (name : List ℕ)
    (parts : List PartModel) → rule_value n.block n.lines name ≡ Some parts
    → once value quoting n name ≡ expanded value parts
once_rule value quoting n name parts h = grind arith

pub once_file : (value : List ℕ → List ℕ) (quoting : Bool) (n : LateNames) (name : List ℕ)
    → names_paths name ≡ false → n.block name ≡ None → value_given n.lines name ≡ None
    → once value quoting n name ≡ file_value n name
once_file value quoting n name p q h = grind arith

-- ---- depth

pub given_within : (quoting : Bool) (n : LateNames) (depth : ℕ) (name : List ℕ)
    → Settles n.block n.lines depth name → Denotes quoting n name (late_in depth quoting n name)
given_within quoting n zero name s = absurd s
given_within quoting n (suc depth) name s = elim (way quoting n name) [
  | of_paths text e ↦ subst (Denotes quoting n name)
      (sym (once_paths (late_in depth quoting n) quoting n name text e)) (by_paths e)
  | of_block p value e ↦ subst (Denotes quoting n name)
      (sym (once_block (late_in depth quoting n) quoting n name value p e)) (by_block p e)
  | of_rule parts e ↦ subst (Denotes quoting n name)
      (sym (once_rule (late_in depth quoting n) quoting n name parts e))
      (by_rule parts (late_in depth quoting n) e
      (λ other r. given_within quoting n depth other (s other (parts, e, r))))
  | of_file p q e ↦ subst (Denotes quoting n name)
      (sym (once_file (late_in depth quoting n) quoting n name p q e)) (by_file p q e)
]

-- the lines with keys other than the given keys
pub unseen : (seen : List (List ℕ)) → List RuleLineModel → ℕ
unseen seen [] = zero
unseen seen (l ∷ lines) = if is_among seen l.key then unseen seen lines else suc (unseen seen lines)

unseen_all : (lines : List RuleLineModel) → unseen [] lines ≡ length lines
unfolding unseen
unseen_all lines = grind arith

unseen_longer : (seen : List (List ℕ)) (name : List ℕ) (lines : List RuleLineModel)
    → unseen (name ∷ seen) lines ≤ unseen seen lines
unfolding unseen
unseen_longer seen name [] = omega arith
unseen_longer seen name (l ∷ lines) = by (bytes_eq l.key name) (is_among seen l.key)
    (unseen_longer seen name lines)
  where
    by : (a b : Bool) → unseen (name ∷ seen) lines ≤ unseen seen lines
        → (if a || b then unseen (name ∷ seen) lines else suc (unseen (name ∷ seen) lines)) ≤
        (if b then unseen seen lines else suc (unseen seen lines))
    by true true h = h
    by true false h = omega arith
    by false true h = h
    by false false h = omega arith

unseen_fewer : (seen : List (List ℕ)) (name : List ℕ) (lines : List RuleLineModel)
    → is_among seen name ≡ false → has_key lines name ≡ true → unseen (name ∷ seen) lines < unseen seen lines
unfolding unseen
unseen_fewer seen name [] new has = absurd (true≢false (sym has))
unseen_fewer seen name (l ∷ lines) new has =
    by (bytes_eq name l.key) (unseen_fewer seen name lines new) refl has
  where
    at : (a b : Bool) → unseen (name ∷ seen) lines < unseen seen lines
        → (if a || b then unseen (name ∷ seen) lines else suc (unseen (name ∷ seen) lines)) <
        (if b then unseen seen lines else suc (unseen seen lines))
    at true true h = h
    at true false h = omega arith
    at false true h = h
    at false false h = omega arith

    by : (c : Bool) → (has_key lines name ≡ true → unseen (name ∷ seen) lines < unseen seen lines)
        → bytes_eq name l.key ≡ c → (c || has_key lines name) ≡ true
        → (if bytes_eq l.key name || is_among seen l.key then unseen (name ∷ seen) lines else suc
        (unseen (name ∷ seen) lines)) < (if is_among seen l.key then unseen seen lines else suc
        (unseen seen lines))
    by true rest e h =
        let k : l.key ≡ name = sym (same_name name l.key e) in
        subst (λ x. (if bytes_eq x name || is_among seen x then unseen (name ∷ seen) lines else suc
        (unseen (name ∷ seen) lines)) < (if is_among seen x then unseen seen lines else suc
        (unseen seen lines))) (sym k)
        (here (bytes_eq name name) (is_among seen name) (own_name name) new (unseen_longer seen name lines))
      where
        here : (a b : Bool) → a ≡ true → b ≡ false → unseen (name ∷ seen) lines ≤ unseen seen lines
            → (if a || b then unseen (name ∷ seen) lines else suc (unseen (name ∷ seen) lines)) <
            (if b then unseen seen lines else suc (unseen seen lines))
        here true false p q h = omega arith
        here true true p q h = absurd (true≢false q)
        here false b p q h = absurd (true≢false (sym p))
    by false rest e h = at (bytes_eq l.key name) (is_among seen l.key) (rest h)

pub given_at : (lines : List RuleLineModel) (key : List ℕ) (parts : List PartModel)
    → value_given lines key ≡ Some parts → given lines key ≡ Some parts
given_at lines key parts h = grind arith

found_last : (lines : List RuleLineModel) (key : List ℕ) (parts : List PartModel)
    → option_map (λ l. l.value) (find (λ l. bytes_eq key l.key) lines) ≡ Some parts → has_key lines key ≡ true
found_last [] key parts h = cc
found_last (l ∷ lines) key parts h = by (bytes_eq key l.key) (found_last lines key parts) h
  where
    by : (b : Bool) → (option_map (λ (m : RuleLineModel). m.value) (find (λ m. bytes_eq key m.key) lines)
        ≡ Some parts → has_key lines key ≡ true)
        → option_map (λ (m : RuleLineModel). m.value)
        (if b then Some l else find (λ m. bytes_eq key m.key) lines) ≡ Some parts
        → (b || has_key lines key) ≡ true
    by true rest h = refl
    by false rest h = rest h

has_reversed : (lines : List RuleLineModel) (key : List ℕ) → has_key (reverse lines) key ≡ has_key lines key
has_reversed [] key = refl
has_reversed (l ∷ lines) key =
    ap (λ ls. has_key ls key) (reverse-append (l ∷ []) lines)
    ∙ list_any-append (λ m. bytes_eq key m.key) (reverse lines) (l ∷ [])
    ∙ ap (λ b. b || (bytes_eq key l.key || false)) (has_reversed lines key)
    ∙ swapped (has_key lines key) (bytes_eq key l.key)
  where
    swapped : (a b : Bool) → (a || (b || false)) ≡ (b || a)
    swapped true true = refl
    swapped true false = refl
    swapped false true = refl
    swapped false false = refl

reached_push : (block : List ℕ → Option (List ℕ)) (lines : List RuleLineModel) (key next other : List ℕ)
    → Reaches block lines key next → RefersTo block lines next other → Reaches block lines key other
reached_push block lines key next other (one r) s = more r (one s)
reached_push block lines key next other (more {g = middle} r c) s =
    more r (reached_push block lines middle next other c s)

-- a value of the rule that counts comes from a line
pub counts_in_line : (block : List ℕ → Option (List ℕ)) (lines : List RuleLineModel) (name : List ℕ)
    (parts : List PartModel) → rule_value block lines name ≡ Some parts → has_key lines name ≡ true
counts_in_line block lines name parts h =
    sym (has_reversed lines name) ∙ found_last (reverse lines) name parts
    (given_at lines name parts (rule_value_is block lines name parts h).given)

pub settled : (block : List ℕ → Option (List ℕ)) (lines : List RuleLineModel) → HasNoCycle block lines
    → (depth : ℕ) (seen : List (List ℕ)) (name : List ℕ)
    → ((s : List ℕ) → is_among seen s ≡ true → Reaches block lines s name) → unseen seen lines < depth
    → Settles block lines depth name
settled block lines none zero seen name comes lt = absurd (omega arith)
settled block lines none (suc depth) seen name comes lt = λ other r.
    let fewer = unseen_fewer seen name lines (new (is_among seen name) refl)
    (counts_in_line block lines name r.0 r.1) in
    settled block lines none depth (name ∷ seen) other
    (λ s among. onward other r s (bytes_eq s name) refl among) (omega arith)
  where
    new : (b : Bool) → is_among seen name ≡ b → is_among seen name ≡ false
    new true h = absurd (none name (comes name h))
    new false h = h

    onward : (other : List ℕ) → RefersTo block lines name other → (s : List ℕ) (b : Bool)
        → bytes_eq s name ≡ b → (b || is_among seen s) ≡ true → Reaches block lines s other
    onward other r s true e h = subst (λ x. Reaches block lines x other) (sym (same_name s name e)) (one r)
    onward other r s false e h = reached_push block lines s name other (comes s h) r

-- without a cycle, lines do not nest deeper than their number
pub settled_all : (block : List ℕ → Option (List ℕ)) (lines : List RuleLineModel) → HasNoCycle block lines
    → (name : List ℕ) → Settles block lines (suc (length lines)) name
settled_all block lines none name = settled block lines none (suc (length lines)) [] name
    (λ s h. absurd (true≢false (sym h))) (let e = unseen_all lines in omega arith)

pub meant : LateTextIsGiven
meant quoting n name none = given_within quoting n (suc (length n.lines)) name
    (settled_all n.block n.lines none name)

-- ---- one text

from_paths : (quoting : Bool) (n : LateNames) (name text u : List ℕ)
    → text_of_paths quoting n.inputs n.outputs name ≡ Some text → Denotes quoting n name u → u ≡ text
from_paths quoting n name text u h h1 = grind arith

from_block : (quoting : Bool) (n : LateNames) (name value u : List ℕ) → names_paths name ≡ false
    → n.block name ≡ Some value → Denotes quoting n name u → u ≡ value
from_block quoting n name value u p h h1 = grind arith

-- the value of a name that the rule gives
from_rule : (quoting : Bool) (n : LateNames) (name u : List ℕ) (parts : List PartModel)
    → rule_value n.block n.lines name ≡ Some parts → Denotes quoting n name u
    → (value : List ℕ → List ℕ) × ((other : List ℕ) → refers parts other ≡ true
    → Denotes quoting n other (value other)) × (u ≡ expanded value parts)
from_rule quoting n name u parts h (by_paths e) = grind arith
from_rule quoting n name u parts h (by_block q e) = grind arith
from_rule quoting n name u parts h (by_rule others value e f) =
    let t : others ≡ parts = cc (sym e ∙ h) in
    (value, λ other r. f other (subst (λ ps. refers ps other ≡ true) (sym t) r), ap (expanded value) t)
from_rule quoting n name u parts h (by_file p q e) = grind arith

from_file : (quoting : Bool) (n : LateNames) (name u : List ℕ) → names_paths name ≡ false
    → n.block name ≡ None → value_given n.lines name ≡ None → Denotes quoting n name u → u ≡ file_value n name
from_file quoting n name u p q h h1 = grind arith

pub one_text : OneTextIsGiven
one_text quoting n name text other (by_paths e) s = sym (from_paths quoting n name text other e s)
one_text quoting n name text other (by_block p e) s = sym (from_block quoting n name text other p e s)
one_text quoting n name text other (by_rule parts value e f) s =
    let r = from_rule quoting n name other parts e s in
    expanded_same value r.0 parts (λ m h. one_text quoting n m (value m) (r.0 m) (f m h) (r.1 m h)) ∙ sym r.2
one_text quoting n name text other (by_file p q e) s = sym (from_file quoting n name other p q e s)

-- ---- cycles

not_a_rule_s : (block : List ℕ → Option (List ℕ)) (lines : List RuleLineModel) (key other : List ℕ)
    → rule_value block lines key ≡ None → ¬ Reaches block lines key other
not_a_rule_s block lines key other h h1 = grind arith

rule_value_none : (b : Bool) (o : Option (List ℕ)) (v : Option (List PartModel))
    → ((b ≡ true) ⊎ ((value : List ℕ) × (o ≡ Some value))) → (if b || is_some o then None else v) ≡ None
rule_value_none b o v h = grind arith

has_paths : (quoting : Bool) (n : LateNames) (name text : List ℕ)
    → text_of_paths quoting n.inputs n.outputs name ≡ Some text → names_paths name ≡ true
has_paths quoting n name text h = grind arith

first_step : (block : List ℕ → Option (List ℕ)) (lines : List RuleLineModel) (key other : List ℕ)
    → Reaches block lines key other
    → (next : List ℕ) × RefersTo block lines key next × ((next ≡ other) ⊎ Reaches block lines next other)
first_step block lines key other (one r) = (other, r, inl refl)
first_step block lines key other (more {g = next} r d) = (next, r, inr d)

-- the next key on a cycle is on it too
turned : (block : List ℕ → Option (List ℕ)) (lines : List RuleLineModel) (key : List ℕ)
    → IsOnCycle block lines key → (next : List ℕ) × RefersTo block lines key next × IsOnCycle block lines next
turned block lines key c = grind (arith, first_step, reached_push)

pub cycle_gives_nothing : (quoting : Bool) (n : LateNames) (key text : List ℕ) → Denotes quoting n key text
    → ¬ IsOnCycle n.block n.lines key
cycle_gives_nothing quoting n key text (by_paths e) c =
    not_a_rule_s n.block n.lines key key (rule_value_none (names_paths key) (n.block key)
    (value_given n.lines key) (inl (has_paths quoting n key text e))) c
cycle_gives_nothing quoting n key text (by_block p e) c =
    not_a_rule_s n.block n.lines key key (rule_value_none (names_paths key) (n.block key)
    (value_given n.lines key) (inr (text, e))) c
cycle_gives_nothing quoting n key text (by_rule parts value e f) c =
    let r = turned n.block n.lines key c in
    cycle_gives_nothing quoting n r.0 (value r.0) (f r.0 (same_refers r.1)) r.2
  where
    same_refers : {other : List ℕ} → RefersTo n.block n.lines key other → refers parts other ≡ true
    same_refers {other} r = let t : r.0 ≡ parts = cc (sym r.1 ∙ e) in
        subst (λ ps. refers ps other ≡ true) t r.2
cycle_gives_nothing quoting n key text (by_file p q e) c =
    not_a_rule_s n.block n.lines key key (rule_value_of n.block n.lines key p q ∙ e) c

pub cycle_silent : CycleGivesNothing
cycle_silent quoting n key text c s = cycle_gives_nothing quoting n key text s c

pub rule_wins : RuleWins
rule_wins quoting n name parts none p q g =
    one_text quoting n name (late_text quoting n name) (expanded (late_text quoting n) parts)
    (meant quoting n name none)
    (by_rule parts (late_text quoting n) (rule_value_of n.block n.lines name p q ∙ g)
    (λ other r. meant quoting n other none))
