-- Lemmas on copied strings of keys.
use Rattle.std.proofs.lemmas.Grind.{common_steps}
use Rattle.std.proofs.Common.{◌≡◌, ◌<◌, ◌≤◌, ◌+◌, ◌-◌, ◌⊎◌, inl, inr, ℕ, zero, suc, Bool, true, false, ◌||◌}
use Rattle.std.proofs.Common.{if◌then◌else◌, List, [], ◌∷◌, ◌++◌, take, length, slice_get, max, Option}
use Rattle.std.proofs.Common.{None, Some, is_some, refl, sym, ap, subst, ◌∙◌, true≢false, arith}
use Rattle.std.proofs.Common.{length-append}
use Rattle.std.specs.Prelude.{slice_range, slice_set, nat_le, IfSome}
use Rattle.std.proofs.lemmas.Bool.{leb-true}
use Rattle.std.proofs.lemmas.List.Folds.{list_any_more}
use Rattle.std.proofs.lemmas.Option.{slice_get_within, get_or_from_slice_get}
use Rattle.nj_text.specs.Words.{PartModel, Text, Name}
use Rattle.nj_scope.specs.Readings.{IsPrefix}
use Rattle.nj_scope.specs.Rules.{RuleLineModel, given}
use Rattle.nj_scope.specs.RulesHeld.{key_at, IsNumber}
use Rattle.nj_edge_env.specs.Blocks.{bound_in}
use Rattle.nj_edge_env.specs.declared.late_edge.LateEdge.{LateEdge}
use Rattle.nj_edge_env.specs.declared.key_memo.KeyText.{KeyText}
use Rattle.nj_scope.specs.ReadingList.{value_after}
use Rattle.nj_edge_env.specs.LateEdges.{late_names}
use Rattle.nj_edge_env.specs.LateStrings.{LateNames, late_in, rule_value, refers, refers_in}
use Rattle.nj_edge_env.specs.Inside.StringsHeld.{Settles, ForEdge, SettlesIn, IsKeyText, AreKeyStrings}
use Rattle.nj_edge_env.specs.Inside.StringsHeld.{no_higher, text_known, taller, with_text, AppendsPlain}
use Rattle.nj_edge_env.specs.Inside.StringsHeld.{AppendsLate, AppendsParts}
use Rattle.nj_edge_env.proofs.GivenLemmas.{same_name, rule_value_is, given_at, of_paths, of_block, of_rule}
use Rattle.nj_edge_env.proofs.GivenLemmas.{of_file, way, once_paths, once_block, once_rule, once_file}
use Rattle.nj_edge_env.proofs.GivenLemmas.{expanded_same}
use Rattle.nj_edge_env.proofs.TextLemmas.{text_turn, name_turn}

-- ---- depth

pub settles_longer : (block : List ℕ → Option (List ℕ)) (lines : List RuleLineModel) (depth more : ℕ)
    (name : List ℕ) → depth ≤ more → Settles block lines depth name → Settles block lines more name
settles_longer block lines zero more name le s = absurd s
settles_longer block lines (suc depth) zero name le s = absurd (omega arith)
settles_longer block lines (suc depth) (suc more) name le s =
    λ other r. settles_longer block lines depth more other (omega arith) (s other r)

-- a name that settles is the same at each greater depth
pub late_settled : (quoting : Bool) (n : LateNames) (depth more : ℕ) (name : List ℕ) → depth ≤ more
    → Settles n.block n.lines depth name → late_in more quoting n name ≡ late_in depth quoting n name
late_settled quoting n zero more name le s = absurd s
late_settled quoting n (suc depth) zero name le s = absurd (omega arith)
late_settled quoting n (suc depth) (suc more) name le s = elim (way quoting n name) [
  | of_paths text e ↦ once_paths (late_in more quoting n) quoting n name text e
      ∙ sym (once_paths (late_in depth quoting n) quoting n name text e)
  | of_block p value e ↦ once_block (late_in more quoting n) quoting n name value p e
      ∙ sym (once_block (late_in depth quoting n) quoting n name value p e)
  | of_rule parts e ↦
      once_rule (late_in more quoting n) quoting n name parts e
      ∙ expanded_same (late_in more quoting n) (late_in depth quoting n) parts
      (λ other r. late_settled quoting n depth more other (omega arith) (s other (parts, e, r)))
      ∙ sym (once_rule (late_in depth quoting n) quoting n name parts e)
  | of_file p q e ↦ once_file (late_in more quoting n) quoting n name p q e
      ∙ sym (once_file (late_in depth quoting n) quoting n name p q e)
]

-- ---- parts of a text

range_kept : (text more : List ℕ) (start end : ℕ) → start ≤ end → end ≤ length text
    → slice_range (text ++ more) start end ≡ slice_range text start end
range_kept text more start end from to = grind (arith, common_steps)

range_appended : (text more : List ℕ) → slice_range (text ++ more) (length text) (length (text ++ more))
    ≡ more
range_appended text more = grind (arith, common_steps)

pub grows_on : (old middle new : List ℕ) → IsPrefix old middle → IsPrefix middle new → IsPrefix old new
grows_on old middle new h h1 = grind (arith, common_steps)

grows_longer : (old new : List ℕ) → IsPrefix old new → length old ≤ length new
grows_longer old new (more, e) = let n = ap length e ∙ length-append old more in omega arith

-- ---- the strings of keys

module _ (quoting : Bool) (e : LateEdge) where
  key_text_kept : (number : ℕ) (t : KeyText) (old new : List ℕ) → IsPrefix old new
      → IsKeyText quoting e number t old → IsKeyText quoting e number t new
  key_text_kept number t old new (more, same) is = record {
    from = is.from;
    to = let n = ap length same ∙ length-append old more in let h = is.to in omega arith;
    settles = is.settles;
    text = λ entries around by scope. ap (λ bytes. slice_range bytes t.start t.end) same
        ∙ range_kept old more t.start t.end is.from is.to ∙ is.text entries around by scope;
  }

  pub key_strings_kept : (known : List (Option KeyText)) (old new : List ℕ) → IsPrefix old new
      → AreKeyStrings quoting e known old → AreKeyStrings quoting e known new
  key_strings_kept known old new grows are number t at =
      key_text_kept number t old new grows (are number t at)

  -- a text that is known
  known_at : (known : List (Option KeyText)) (number depth : ℕ) (t : KeyText)
      → text_known known number depth ≡ Some t → (slice_get known number ≡ Some (Some t)) × (t.height ≤ depth)
  known_at known number depth t h = by (slice_get known number) refl h
    where
      within : (b : Bool) (u : KeyText) → nat_le u.height depth ≡ b → (if b then Some u else None) ≡ Some t
          → (u ≡ t) × (u.height ≤ depth)
      within true u le is = (cc, leb-true u.height depth le)
      within false u le is = cc

      by : (o : Option (Option KeyText)) → slice_get known number ≡ o → no_higher o depth ≡ Some t
          → (slice_get known number ≡ Some (Some t)) × (t.height ≤ depth)
      by None is g = cc
      by (Some None) is g = cc
      by (Some (Some u)) is g =
          let w = within (nat_le u.height depth) u refl g in
          (is ∙ ap (λ v. Some (Some v)) w.0, subst (λ v. v.height ≤ depth) w.0 w.1)

-- ---- the parts of a value

set_at : {X : Type 0} (xs : List X) (i j : ℕ) (x y : X) → slice_get (slice_set xs i x) j ≡ Some y
    → ((j ≡ i) × (x ≡ y)) ⊎ (slice_get xs j ≡ Some y)
set_at [] i j x y h = inr h
set_at (z ∷ xs) zero zero x y h = inl (refl, cc)
set_at (z ∷ xs) zero (suc j) x y h = inr h
set_at (z ∷ xs) (suc i) zero x y h = inr h
set_at (z ∷ xs) (suc i) (suc j) x y h = grind (arith, set_at xs i j x y h)

module _ (quoting : Bool) (e : LateEdge) (depth : ℕ) (old : List ℕ) where
  -- ---- a name that no line of the rule binds, and a name whose string is known

  none_settles : (name : List ℕ) → rule_value (bound_in e.blocks.now e.edge) e.rule.now.lines name ≡ None
      → (d : ℕ) → SettlesIn e (suc d) name
  none_settles name none d = λ other r. let h = sym none ∙ r.1 in absurd cc

  pub plain_appended : (name : List ℕ) (known : List (Option KeyText)) (new : List ℕ)
      → AreKeyStrings quoting e known old → AppendsPlain quoting e name old new None
      → AppendsLate quoting e (suc depth) name old known new (Some 0)
  plain_appended name known new are plain = record {
    grows = plain.1;
    text = λ entries around by scope. plain.2 entries around by scope depth;
    strings = key_strings_kept quoting e known old new plain.1 are;
    settles = (omega arith, none_settles name plain.0 0);
  }

  pub known_appended : (name : List ℕ) (known : List (Option KeyText)) (number : ℕ) (t : KeyText)
      (bytes new : List ℕ) → bytes ≡ old → AreKeyStrings quoting e known old
      → IsNumber e.rule.now.lines name number
      → text_known known number depth ≡ Some t → new ≡ bytes ++ slice_range bytes t.start t.end
      → AppendsLate quoting e (suc depth) name old known new (Some t.height)
  known_appended name known number t bytes new same are is at more =
      let k = known_at quoting e known number depth t at in
      let text = are number t k.0 in
      let now : new ≡ old ++ slice_range old t.start t.end =
      more ∙ ap (λ xs. xs ++ slice_range xs t.start t.end) same in
      let settled = subst (SettlesIn e (suc t.height)) is.is text.settles in
      record {
        grows = (slice_range old t.start t.end, now);
        text = λ entries around by scope.
            let n = late_names e (value_after entries (e.scope.0 ∷ around)) in
            now ∙ ap (λ xs. old ++ xs) (text.text entries around by scope
            ∙ ap (late_in (suc t.height) quoting n) is.is
            ∙ sym (late_settled quoting n (suc t.height) (suc depth) name (omega (arith, k.1)) settled));
        strings = key_strings_kept quoting e known old new (slice_range old t.start t.end, now) are;
        settles = (let low = k.1 in omega arith, settled);
      }

  -- ---- a line of the rule

  refers_turn : (value : List PartModel) (i : ℕ) (part : PartModel) (other : List ℕ)
      → slice_get value i ≡ Some part → refers (take (i + 1) value) other
      ≡ (refers (take i value) other || refers_in part other)
  refers_turn value i part other here =
      list_any_more (λ p. refers_in p other) value i part (slice_get_within value i part here)
      ∙ ap (λ p. refers (take i value) other || refers_in p other)
      (get_or_from_slice_get value i part part here)

  pub parts_bytes : (value : List PartModel) (i : ℕ) (part : PartModel) (bytes : List ℕ)
      (known : List (Option KeyText)) (before after : List ℕ) (height : Option ℕ)
      → slice_get value i ≡ Some part → part ≡ Text bytes
      → AppendsParts quoting e depth (take i value) old known before height → after ≡ before ++ bytes
      → AppendsParts quoting e depth (take (i + 1) value) old known after height
  parts_bytes value i part bytes known before after height here is so more = record {
    grows = grows_on old before after so.grows (bytes, more);
    text = λ entries around by scope.
        let n = late_names e (value_after entries (e.scope.0 ∷ around)) in
        text_turn (late_in depth quoting n) value i part bytes old before after here is
        (so.text entries around by scope) more;
    strings = key_strings_kept quoting e known before after (bytes, more) so.strings;
    settles = by height so.settles;
  }
    where
      earlier : (other : List ℕ) → refers (take (i + 1) value) other ≡ true
          → refers (take i value) other ≡ true
      earlier other r = first (refers (take i value) other)
          (sym (ap (λ p. refers (take i value) other || refers_in p other) is)
          ∙ sym (refers_turn value i part other here) ∙ r)
        where
          first : (b : Bool) → (b || false) ≡ true → b ≡ true
          first true h = refl
          first false h = h

      by : (height : Option ℕ) → IfSome height
          (λ d. (d ≤ depth) × ((other : List ℕ) → refers (take i value) other ≡ true → SettlesIn e d other))
          → IfSome height (λ d. (d ≤ depth) × ((other : List ℕ) → refers (take (i + 1) value) other ≡ true
          → SettlesIn e d other))
      by None s = tt
      by (Some d) s = (s.0, λ other r. s.1 other (earlier other r))

  pub parts_name : (value : List PartModel) (i : ℕ) (part : PartModel) (name : List ℕ)
      (known more_known : List (Option KeyText)) (before after : List ℕ) (height below : Option ℕ)
      → slice_get value i ≡ Some part → part ≡ Name name
      → AppendsParts quoting e depth (take i value) old known before height
      → AppendsLate quoting e depth name before more_known after below
      → AppendsParts quoting e depth (take (i + 1) value) old more_known after (taller height below)
  parts_name value i part name known more_known before after height below here is so more = record {
    grows = grows_on old before after so.grows more.grows;
    text = λ entries around by scope.
        let n = late_names e (value_after entries (e.scope.0 ∷ around)) in
        name_turn (late_in depth quoting n) value i part name old before after here is
        (so.text entries around by scope) (more.text entries around by scope);
    strings = more.strings;
    settles = by height below so.settles more.settles;
  }
    where
      either : (b c : Bool) → (b || c) ≡ true → (b ≡ true) ⊎ (c ≡ true)
      either true c h = inl refl
      either false c h = inr h

      by : (height below : Option ℕ) → IfSome height
          (λ d. (d ≤ depth) × ((other : List ℕ) → refers (take i value) other ≡ true → SettlesIn e d other))
          → IfSome below (λ d. (d < depth) × SettlesIn e (suc d) name)
          → IfSome (taller height below) (λ d. (d ≤ depth)
          × ((other : List ℕ) → refers (take (i + 1) value) other ≡ true → SettlesIn e d other))
      by None below s r = tt
      by (Some a) None s r = tt
      by (Some a) (Some b) s r =
          let block = bound_in e.blocks.now e.edge in
          let lines = e.rule.now.lines in
          let low_a = s.0 in
          let low_b = r.0 in (
            omega arith,
            λ other refers_now. elim (either (refers (take i value) other) (refers_in (Name name) other)
                (sym (ap (λ p. refers (take i value) other || refers_in p other) is)
                ∙ sym (refers_turn value i part other here) ∙ refers_now)) [
                  | inl earlier ↦ settles_longer block lines a (max a (b + 1)) other (omega arith)
                      (s.1 other earlier)
                  | inr now ↦ subst (SettlesIn e (max a (b + 1))) (sym (same_name other name now))
                      (settles_longer block lines (suc b) (max a (b + 1)) name (omega arith) r.1)
                ],
          )

  rule_gives : (name : List ℕ) (number : ℕ) (value : List PartModel) → IsNumber e.rule.now.lines name number
      → is_some (rule_value (bound_in e.blocks.now e.edge) e.rule.now.lines name) ≡ true
      → given e.rule.now.lines (key_at e.rule.now.lines number) ≡ Some value
      → rule_value (bound_in e.blocks.now e.edge) e.rule.now.lines name ≡ Some value
  rule_gives name number value is counts at =
      by (rule_value (bound_in e.blocks.now e.edge) e.rule.now.lines name) refl counts
    where
      by : (o : Option (List PartModel)) → rule_value (bound_in e.blocks.now e.edge) e.rule.now.lines name ≡ o
          → is_some o ≡ true → rule_value (bound_in e.blocks.now e.edge) e.rule.now.lines name ≡ Some value
      by None h s = absurd (true≢false (sym s))
      by (Some others) h s =
          let lines = e.rule.now.lines in
          let there = given_at lines name others
          (rule_value_is (bound_in e.blocks.now e.edge) lines name others h).given in
          h ∙ sym there ∙ ap (given lines) (sym is.is) ∙ at

  pub line_appended : (name : List ℕ) (number : ℕ) (value : List PartModel) (plain : List ℕ)
      (known : List (Option KeyText)) (new : List ℕ) (height : Option ℕ) (start end : ℕ)
      (kept : List (Option KeyText))
      → AppendsPlain quoting e name old plain (Some number)
      → given e.rule.now.lines (key_at e.rule.now.lines number) ≡ Some value
      → AppendsParts quoting e depth value plain known new height → start ≡ length plain → end ≡ length new
      → kept ≡ with_text known number start end height
      → AppendsLate quoting e (suc depth) name old kept new height
  line_appended name number value plain known new height start end kept called at parts starts ends is =
      record {
        grows = so.grows;
        text = text;
        strings = subst (λ known. AreKeyStrings quoting e known new) (sym is) (strings height refl);
        settles = settles height so.settles;
      }
    where
      gives : rule_value (bound_in e.blocks.now e.edge) e.rule.now.lines name ≡ Some value
      gives = rule_gives name number value called.1 called.2 at

      so : AppendsParts quoting e depth value old known new height
      so = subst (λ bytes. AppendsParts quoting e depth value bytes known new height) called.0 parts

      text : ForEdge e (λ n. new ≡ old ++ late_in (suc depth) quoting n name)
      text = λ entries around by scope.
          let n = late_names e (value_after entries (e.scope.0 ∷ around)) in
          so.text entries around by scope ∙ ap (λ bytes. old ++ bytes)
          (sym (once_rule (late_in depth quoting n) quoting n name value gives))

      settles : (height : Option ℕ) → IfSome height
          (λ d. (d ≤ depth) × ((other : List ℕ) → refers value other ≡ true → SettlesIn e d other))
          → IfSome height (λ d. (d < suc depth) × SettlesIn e (suc d) name)
      settles None s = tt
      settles (Some d) s = (
        (let low = s.0 in omega arith),
        λ other r.
            let same : r.0 ≡ value = cc (sym r.1 ∙ gives) in
            s.1 other (ap (λ parts. refers parts other) (sym same) ∙ r.2),
      )

      its_text : (d : ℕ) → height ≡ Some d → IsKeyText quoting e number
          (record { start = start; end = end; height = d }) new
      its_text d u =
          let settled = subst (λ o. IfSome o (λ d. (d < suc depth) × SettlesIn e (suc d) name)) u
          (settles height so.settles) in
          let before : start ≡ length old = starts ∙ ap length called.0 in
          let longer = grows_longer old new so.grows in
          record {
            from = omega arith;
            to = omega arith;
            settles = subst (SettlesIn e (suc d)) (sym called.1.is) settled.1;
            text = λ entries around by scope.
                let n = late_names e (value_after entries (e.scope.0 ∷ around)) in
                let t = text entries around by scope in
                ap (λ k. slice_range new k end) before ∙ ap (λ k. slice_range new (length old) k) ends
                ∙ ap (λ bytes. slice_range bytes (length old) (length bytes)) t
                ∙ range_appended old (late_in (suc depth) quoting n name)
                ∙ late_settled quoting n (suc d) (suc depth) name (omega (arith, settled.0)) settled.1
                ∙ ap (late_in (suc d) quoting n) (sym called.1.is);
          }

      strings : (o : Option ℕ) → height ≡ o → AreKeyStrings quoting e (with_text known number start end o) new
      strings None u = so.strings
      strings (Some d) u = λ k t there. elim
          (set_at known number k (Some (record { start = start; end = end; height = d })) (Some t) there) [
            | inl here ↦
                let same : record { start = start; end = end; height = d } ≡ t = cc in
                subst (λ v. IsKeyText quoting e k v new) same
                (subst (λ m. IsKeyText quoting e m (record { start = start; end = end; height = d }) new)
                (sym here.0) (its_text d u))
            | inr before ↦ so.strings k t before
          ]
