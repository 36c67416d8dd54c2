-- Which edges have something to do.
use Rattle.std.proofs.Common.{◌≡◌, ◌≢◌, ◌↔◌, ℕ, zero, suc, ◌<◌, ◌+◌, Bool, true, false, Option, Some, None}
use Rattle.std.proofs.Common.{◌⊎◌, inl, inr, List, [], ◌∷◌, length, set, drop, refl, sym, ap, ◌∙◌}
use Rattle.std.proofs.Common.{subst, arith, true≢false}
use Rattle.std.specs.Prelude.{Contains, slice_get, slice_index, slice_index_or, is_some, not, ◌&&◌, ◌||◌}
use Rattle.std.specs.Prelude.{option_map, unwrap_or}
use Rattle.std.specs.List.{list_any}
use Rattle.std.proofs.lemmas.Bool.{cases_lt}
use Rattle.std.proofs.lemmas.List.{get_or-set_same, get_or-set_other, get_or_default, length-set, length-map}
use Rattle.std.proofs.lemmas.List.Folds.{list_any_at}
use Rattle.nj_names.specs.Files.{AreFiles}
use Rattle.nj_names.specs.declared.files.FileNo.{FileNo}
use Rattle.nj_cycles.specs.Cycles.{AreAfterNeeds, Needs}
use Rattle.nj_edges.specs.declared.edges.EdgeNo.{EdgeNo}
use Rattle.nj_edges.specs.Edges.{EdgePaths, edge_at, inputs_of, maker_of}
use Rattle.nj_edges.specs.Needs.{makers_of_inputs}
use Rattle.nj_stale.specs.States.{State}
use Rattle.nj_stale.specs.Work.{AreWorkFlags, HasReasons, HasWork, is_idle, is_working}
use Rattle.nj_stale.specs.Work.HasWork.{by_itself, by_input}
use Rattle.nj_stale.specs.Inside.WorkHeld.{AreFlagged, has_flag, has_flagged_maker, work_held, works_held}
use Rattle.nj_stale.specs.declared.reason.Reason.{Reason}
use Rattle.nj_stale.proofs.FileLemmas.{length_files}
use Rattle.nj_stale.proofs.PathLemmas.{two_ways}

-- ---- makers with a flag

-- one more maker without a flag
pub next_maker : (flags : List Bool) (makers : List (Option ℕ)) (index : ℕ) (maker : Option ℕ)
    → slice_get makers index ≡ Some maker → has_flag flags maker ≡ false
    → list_any (has_flag flags) (drop (index + 1) makers) ≡ list_any (has_flag flags) (drop index makers)
next_maker flags [] index maker at none = absurd (cc)
next_maker flags (first ∷ makers) zero maker at none =
    let same : first ≡ maker = cc in
    sym (ap (λ b. b || list_any (has_flag flags) makers) (ap (has_flag flags) same ∙ none))
next_maker flags (first ∷ makers) (suc index) maker at none =
    subst (λ n. list_any (has_flag flags) (drop n (first ∷ makers))
    ≡ list_any (has_flag flags) (drop index makers))
    (let e : suc (index + 1) ≡ suc index + 1 = omega arith in e)
    (next_maker flags makers index maker at none)

-- a maker with a flag
pub flagged_at : (flags : List Bool) (makers : List (Option ℕ)) (index : ℕ) (maker : Option ℕ)
    → slice_get makers index ≡ Some maker → has_flag flags maker ≡ true
    → list_any (has_flag flags) makers ≡ true
flagged_at flags [] index maker at is = absurd (cc)
flagged_at flags (first ∷ makers) zero maker at is =
    let same : first ≡ maker = cc in
    ap (λ b. b || list_any (has_flag flags) makers) (ap (has_flag flags) same ∙ is)
flagged_at flags (first ∷ makers) (suc index) maker at is = by (has_flag flags first)
    (flagged_at flags makers index maker at is)
  where
    by : (b : Bool) → list_any (has_flag flags) makers ≡ true
        → (b || list_any (has_flag flags) makers) ≡ true
    by true later = refl
    by false later = later

-- there is a maker at each place of an input
pub maker_there : (makers : List (Option ℕ)) (index : ℕ) (found : Option (Option ℕ))
    → index < length makers → found ≡ slice_get makers index
    → slice_get makers index ≡ Some (unwrap_or found None)
maker_there [] index found lt is = absurd (omega arith)
maker_there (first ∷ makers) zero found lt is = sym (ap (λ o. Some (unwrap_or o None)) is)
maker_there (first ∷ makers) (suc index) found lt is = maker_there makers index found (omega arith) is

abbrev number_of : Option (Option EdgeNo) → Option (Option ℕ)
number_of found = option_map (λ (m : Option EdgeNo). option_map (λ (e : EdgeNo). e.0) m) found

number_or_none : (found : Option (Option EdgeNo))
    → unwrap_or (number_of found) None ≡ option_map (λ (e : EdgeNo). e.0) (unwrap_or found None)
number_or_none None = refl
number_or_none (Some maker) = refl

pub maker_number : (makers : List (Option ℕ)) (index : ℕ) (found : Option (Option EdgeNo))
    (maker : Option EdgeNo) → index < length makers → number_of found ≡ slice_get makers index
    → maker ≡ unwrap_or found None → slice_get makers index ≡ Some (option_map (λ (e : EdgeNo). e.0) maker)
maker_number makers index found maker lt at is =
    maker_there makers index (number_of found) lt at
    ∙ ap (λ (m : Option ℕ). Some m) (number_or_none found ∙ sym (ap (option_map (λ (e : EdgeNo). e.0)) is))

pub maker_count : (edges : List EdgePaths) (files : List (List ℕ)) (numbers : List FileNo) (edge : ℕ)
    → AreFiles files numbers (inputs_of (edge_at edges edge))
    → length numbers ≡ length (makers_of_inputs edges edge)
maker_count edges files numbers edge are =
    length_files files numbers (inputs_of (edge_at edges edge)) are
    ∙ sym (length-map (inputs_of (edge_at edges edge)) (maker_of edges))

-- no maker is left
pub all_dropped : (flags : List Bool) (makers : List (Option ℕ)) (index : ℕ) → length makers ≡ index
    → list_any (has_flag flags) (drop index makers) ≡ false
all_dropped flags [] zero is = refl
all_dropped flags [] (suc index) is = absurd (omega arith)
all_dropped flags (first ∷ makers) zero is = absurd (omega arith)
all_dropped flags (first ∷ makers) (suc index) is = all_dropped flags makers index (omega arith)

-- ---- edges

flagged_maker : (flags : List Bool) (makers : List (Option ℕ)) → list_any (has_flag flags) makers ≡ true
    → (maker : ℕ) × Contains makers (Some maker) × (slice_index_or flags maker false ≡ true)
flagged_maker flags [] none = absurd (true≢false (sym none))
flagged_maker flags (None ∷ makers) some =
    let found = flagged_maker flags makers some in
    (found.0, (suc found.1.0, omega (arith, found.1.1), found.1.2), found.2)
flagged_maker flags (Some maker ∷ makers) some =
    by (two_ways (slice_index_or flags maker false)) (flagged_maker flags makers)
  where
    by : (slice_index_or flags maker false ≡ true) ⊎ (slice_index_or flags maker false ≡ false)
        → (list_any (has_flag flags) makers ≡ true
        → (f : ℕ) × Contains makers (Some f) × (slice_index_or flags f false ≡ true))
        → (f : ℕ) × Contains (Some maker ∷ makers) (Some f) × (slice_index_or flags f false ≡ true)
    by (inl is) later = (maker, (0, omega arith, refl), is)
    by (inr not) later =
        let found = later (sym (ap (λ b. b || list_any (has_flag flags) makers) not) ∙ some) in
        (found.0, (suc found.1.0, omega (arith, found.1.1), found.1.2), found.2)

either : (a b : Bool) → (a || b) ≡ true → (a ≡ true) ⊎ (b ≡ true)
either true b is = inl refl
either false b is = inr is

left_true : (a b : Bool) → a ≡ true → (a || b) ≡ true
left_true true b is = refl
left_true false b is = absurd (true≢false (sym is))

right_true : (a b : Bool) → b ≡ true → (a || b) ≡ true
right_true true b is = refl
right_true false b is = is

module _ (edges : List EdgePaths) (reasons : List (Option Reason)) (order : List ℕ) (turn : ℕ)
    (flags : List Bool) (after : AreAfterNeeds (makers_of_inputs edges) (length edges) order)
    (within : turn < length order) (held : AreFlagged edges reasons order turn flags) (s : State)
    (has : HasReasons edges s reasons) where
  abbrev next : ℕ
  next = slice_index order turn

  works_is : works_held edges reasons next ≡ is_working edges s next
  works_is = ap (λ (r : Option Reason). is_some r && not (is_idle (edge_at edges next)))
      (has next (after.within turn within))

  -- the makers come earlier in the order, so they have their flags
  maker_flag : (maker : ℕ) → Needs (makers_of_inputs edges) next maker
      → (slice_index_or flags maker false ≡ true) ↔ HasWork edges s maker
  maker_flag maker needs =
      let k = after.after turn maker within needs in
      subst (λ e. (slice_index_or flags e false ≡ true) ↔ HasWork edges s e) k.2 (held.are s has k.0 k.1)

  work_if_held : work_held edges reasons flags next ≡ true → HasWork edges s next
  work_if_held is = elim (either (works_held edges reasons next) (has_flagged_maker edges flags next) is) [
    | inl works ↦ by_itself (sym works_is ∙ works)
    | inr some ↦
        (let found = flagged_maker flags (makers_of_inputs edges next) some in
        by_input found.1 ((maker_flag found.0 found.1).0 found.2))
  ]

  held_if_work : HasWork edges s next → work_held edges reasons flags next ≡ true
  held_if_work work = by next refl work
    where
      by : (e : ℕ) → e ≡ next → HasWork edges s e → work_held edges reasons flags next ≡ true
      by e is (by_itself works) =
          left_true (works_held edges reasons next) (has_flagged_maker edges flags next)
          (works_is ∙ subst (λ n. is_working edges s n ≡ true) is works)
      by e is (by_input {maker = maker} needs work) =
          let own = subst (λ n. Needs (makers_of_inputs edges) n maker) is needs in
          right_true (works_held edges reasons next) (has_flagged_maker edges flags next)
          (list_any_at (has_flag flags) (makers_of_inputs edges next) own.0 (Some maker) own.1
          (ap (has_flag flags) own.2 ∙ (maker_flag maker own).1 work))

same_or_other : {P : Type 0} (j e : ℕ) → (j ≡ e → P) → (j ≢ e → P) → P
same_or_other j e same other = elim (cases_lt j e) [
  | inl below ↦ other (λ is. absurd (omega arith))
  | inr least ↦ elim (cases_lt e j) [
    | inl above ↦ other (λ is. absurd (omega arith))
    | inr most ↦ same (omega arith)
  ]
]

-- one more edge
pub more_flags : (edges : List EdgePaths) (reasons : List (Option Reason)) (order : List ℕ) (turn : ℕ)
    (flags : List Bool) (flag : Bool)
    → AreAfterNeeds (makers_of_inputs edges) (length edges) order → turn < length order
    → flag ≡ work_held edges reasons flags (slice_index order turn)
    → AreFlagged edges reasons order turn flags
    → AreFlagged edges reasons order (turn + 1) (set flags (slice_index order turn) flag)
more_flags edges reasons order turn flags flag after within flag_is held = record {
  flag_count = length-set flags next flag ∙ held.flag_count;
  are = λ s has k before. same_or_other (slice_index order k) next
      (λ is. subst (λ e. (slice_index_or (set flags next flag) e false ≡ true) ↔ HasWork edges s e) (sym is)
      (let at = get_or-set_same flags next flag false within_flags ∙ flag_is in (
        λ set_is. work_if_held edges reasons order turn flags after within held s has (sym at ∙ set_is),
        λ work. at ∙ held_if_work edges reasons order turn flags after within held s has work,
      )))
      (λ differs.
      let at = get_or-set_other flags next (slice_index order k) flag false differs in
      let own = held.are s has k (earlier k before differs) in (
        λ set_is. own.0 (sym at ∙ set_is),
        λ work. at ∙ own.1 work,
      ));
}
  where
    next : ℕ
    next = slice_index order turn

    within_flags : next < length flags
    within_flags = let lt = after.within turn within in let n = held.flag_count in omega arith

    earlier : (k : ℕ) → k < turn + 1 → slice_index order k ≢ next → k < turn
    earlier k before differs = elim (cases_lt k turn) [
      | inl lt ↦ lt
      | inr ge ↦ absurd (differs (ap (slice_index order) (let e : k ≡ turn = omega arith in e)))
    ]

-- all edges
pub all_flags : (edges : List EdgePaths) (reasons : List (Option Reason)) (order : List ℕ) (turn : ℕ)
    (flags : List Bool) → AreAfterNeeds (makers_of_inputs edges) (length edges) order
    → ((k : ℕ) → k < length order → k < turn) → AreFlagged edges reasons order turn flags
    → AreWorkFlags edges reasons flags
all_flags edges reasons order turn flags after end held = record {
  flag_count = held.flag_count;
  are = λ s has edge lt.
      let place = after.all edge lt in
      let at : slice_index order place.0 ≡ edge = get_or_default order place.0 0 edge place.1 ∙ place.2 in
      subst (λ e. (slice_index_or flags e false ≡ true) ↔ HasWork edges s e) at
      (held.are s has place.0 (end place.0 place.1));
}
