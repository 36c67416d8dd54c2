-- The steps of the way to a mark, and its end.
use Rattle.std.proofs.lemmas.Grind.{common_steps}
use Rattle.std.proofs.Common.{◌≡◌, ℕ, ◌+◌, ◌-◌, ◌<◌, ◌≤◌, true, Option, Some, List, [], ◌∷◌, ◌++◌, length}
use Rattle.std.proofs.Common.{get_or, take, drop, refl, sym, ap, subst, ◌∙◌, ◌⊎◌, inl, inr, arith}
use Rattle.std.specs.Prelude.{nat_eq, slice_get}
use Rattle.std.specs.List.{list_any}
use Rattle.std.proofs.lemmas.List.{take-append-drop, take_more, drop_more, take_all, map_push, length_push}
use Rattle.std.proofs.lemmas.List.{length-map}
use Rattle.std.proofs.lemmas.Option.{slice_get_within, same_Some, get_or_from_slice_get}
use Rattle.nj_needs.specs.Graphs.{row_of, makers_of, count_of}
use Rattle.nj_needs.specs.Marks.{is_valid, done, without}
use Rattle.nj_needs.specs.Inside.Paths.{IsLinked, done_at, places}
use Rattle.nj_needs.specs.Inside.Heading.{IsHeading}
use Rattle.nj_needs.specs.Inside.Standing.{IsWalk, top_of, left_of, HasLooked, TurnIs}
use Rattle.nj_needs.specs.Walks.{rest_of, commands_of}
use Rattle.nj_needs.specs.declared.frame.Frame.{Frame}
use Rattle.nj_needs.specs.declared.walk.Walk.{Walk}
use Rattle.nj_needs.specs.declared.walk.Turn.{Turn}
use Rattle.nj_needs.specs.declared.walk.Turn.TheVariants.{Looked, Closed, Ended}
use Rattle.nj_needs.proofs.Members.{Contains-from_Among}
use Rattle.nj_needs.proofs.Striking.{without-same}
use Rattle.nj_needs.proofs.Addresses.{done-places}
use Rattle.nj_needs.proofs.Walking.{top_row-push, IsLinked-pop}
use Rattle.nj_needs.proofs.NeedsLemmas.{looked-left}
use Rattle.nj_needs.proofs.ResumeLemmas.{valid-step, same-cut}

-- the walk is at the number with index i of the mark
pub record IsOnWay (w : Walk) (numbers : List ℕ) (i : ℕ) : Type 0 where
  pub walk : IsWalk w
  pub path : places w.path.items ≡ take i numbers
  pub valid : is_valid (makers_of w.turns.graph.now)
      (top_of w.turns.graph.now w.turns.targets.now w.path.items) (drop i numbers) ≡ true

-- the edge there was done: so is all that is done at the mark
abbrev pub IsCut : Walk → Walk → List ℕ → Type 0
IsCut w v numbers = (v.path.items ≡ w.path.items)
    × (left_of v.turns.graph.now v.turns.targets.now v.path.items v.place
    ≡ rest_of v.turns.graph.now v.turns.targets.now numbers)

-- the edge there was opened
abbrev pub IsOpened : Walk → Walk → List ℕ → ℕ → Type 0
IsOpened w v numbers i = (length v.path.items ≡ length w.path.items + 1) × (v.place ≡ 0)
    × IsOnWay v numbers (i + 1)

module _ (w v : Walk) (graph : v.turns.graph ≡ w.turns.graph) (targets : v.turns.targets ≡ w.turns.targets)
    (numbers : List ℕ) (i p : ℕ) (lt : i < length numbers) (number : p ≡ get_or numbers i p)
    (h : IsOnWay w numbers i) (place : w.place ≡ p) (after : IsWalk v) where
  numbers-from : drop i numbers ≡ p ∷ drop (i + 1) numbers
  numbers-from = drop_more numbers i p lt ∙ ap (λ (n : ℕ). n ∷ drop (i + 1) numbers) (sym number)

  -- the edge at the place
  there : (m : ℕ) × (slice_get (top_of w.turns.graph.now w.turns.targets.now w.path.items) p ≡ Some (Some m))
      × (is_valid (makers_of w.turns.graph.now) (makers_of w.turns.graph.now m) (drop (i + 1) numbers) ≡ true)
  there = valid-step (makers_of w.turns.graph.now) (top_of w.turns.graph.now w.turns.targets.now w.path.items)
      p (drop (i + 1) numbers)
      (subst (λ (ns : List ℕ). is_valid (makers_of w.turns.graph.now)
      (top_of w.turns.graph.now w.turns.targets.now w.path.items) ns ≡ true) numbers-from h.valid)

  there-now : slice_get (top_of w.turns.graph.now w.turns.targets.now w.path.items) w.place
      ≡ Some (Some there.0)
  there-now = ap (slice_get (top_of w.turns.graph.now w.turns.targets.now w.path.items)) place ∙ there.1

  -- the whole mark
  numbers-are : places w.path.items ++ p ∷ drop (i + 1) numbers ≡ numbers
  numbers-are = ap (λ (ns : List ℕ). ns ++ p ∷ drop (i + 1) numbers) h.path
      ∙ ap (λ (ns : List ℕ). take i numbers ++ ns) (sym numbers-from) ∙ take-append-drop i numbers

  cut : HasLooked w.turns.graph.now w.turns.targets.now w.path.items w.place v.path.items v.place
      → list_any (nat_eq there.0) (done_at (makers_of w.turns.graph.now) (count_of w.turns.graph.now)
      (row_of w.turns.graph.now w.turns.targets.now) w.path.items w.place) ≡ true
      → left_of v.turns.graph.now v.turns.targets.now v.path.items v.place
      ≡ rest_of v.turns.graph.now v.turns.targets.now numbers
  cut t is_done =
      let g = w.turns.graph.now in
      let ts = w.turns.targets.now in
      let row = row_of g ts in
      let D = done_at (makers_of g) (count_of g) row in
      let done_p = subst (λ (q : ℕ). list_any (nat_eq there.0) (D w.path.items q) ≡ true) place is_done in
      let same = same-cut (makers_of g) (count_of g) h.walk.acyclic.0 h.walk.acyclic.1 row
      (λ m a. h.walk.inside m (Contains-from_Among row m a)) w.path.items h.walk.standing.linked
      p there.0 (drop (i + 1) numbers) there.1 there.2 done_p in
      let rest : left_of g ts w.path.items w.place ≡ rest_of g ts numbers =
      ap (λ (q : ℕ). without (D w.path.items q) (commands_of g ts)) place
      ∙ without-same (D w.path.items p) (done (makers_of g) (count_of g) row
      (places w.path.items ++ p ∷ drop (i + 1) numbers)) (commands_of g ts) same
      ∙ ap (rest_of g ts) numbers-are in
      looked-left w v graph targets t ∙ rest ∙ rw (graph, targets) refl

  opened : (f : Frame) → v.path.items ≡ w.path.items ++ f ∷ [] → f.at ≡ w.place → v.place ≡ 0
      → IsOpened w v numbers i
  opened f grown at zero_ =
      let g = w.turns.graph.now in
      let ts = w.turns.targets.now in
      let linked : IsLinked (makers_of g) (row_of g ts) (w.path.items ++ f ∷ []) =
      subst (IsLinked (makers_of g) (row_of g ts)) grown (rw (← graph, ← targets) after.standing.linked) in
      let here = (IsLinked-pop (makers_of g) (row_of g ts) w.path.items f linked).1 in
      let edge : f.edge.0 ≡ there.0 =
      same_Some f.edge.0 there.0 (same_Some (Some f.edge.0) (Some there.0)
      (sym here ∙ ap (slice_get (top_of g ts w.path.items)) at ∙ there-now)) in
      let top : top_of g ts v.path.items ≡ makers_of g there.0 =
      ap (top_of g ts) grown ∙ top_row-push (makers_of g) (row_of g ts) w.path.items f ∙ ap (makers_of g) edge
      in (
        ap length grown ∙ length_push w.path.items f,
        zero_,
        record {
          walk = after;
          path = ap places grown ∙ map_push (λ (k : Frame). k.at) w.path.items f
              ∙ ap (λ (n : ℕ). places w.path.items ++ n ∷ []) (at ∙ place)
              ∙ ap (λ (ns : List ℕ). ns ++ p ∷ []) h.path
              ∙ ap (λ (n : ℕ). take i numbers ++ n ∷ []) number ∙ sym (take_more numbers i p lt);
          valid = rw (graph, targets) (ap (λ (r : List (Option ℕ)). is_valid (makers_of g) r
              (drop (i + 1) numbers)) top ∙ there.2);
        },
      )

  pub way-step : (t : Turn) → TurnIs w t v → IsCut w v numbers ⊎ IsOpened w v numbers i
  way-step Looked t = elim t.moved [
    | inl same ↦ inl (same.0, cut t (same.2 there.0 there-now))
    | inr more ↦ inr (opened more.0 more.1 more.2 more.3)
  ]
  way-step (Closed e phony) t = absurd (let a = there-now in let b = t.past in cc)
  way-step Ended t = absurd (let a = there-now in let b = t.past in cc)

-- the next number is in the row
pub way-place_in : (w : Walk) (numbers : List ℕ) (i p : ℕ) → i < length numbers → p ≡ get_or numbers i p
    → IsOnWay w numbers i → p ≤ length (top_of w.turns.graph.now w.turns.targets.now w.path.items)
way-place_in w numbers i p lt number h = grind (arith, common_steps)

-- ---- the last edge of the mark is open

module _ (w : Walk) (numbers : List ℕ) (i : ℕ) (past : length numbers ≤ i) (h : IsOnWay w numbers i)
    (f : Frame) (at : slice_get w.path.items (length numbers - 1) ≡ Some f) where
  whole : places w.path.items ≡ numbers
  whole = h.path ∙ take_all i numbers past

  long : length w.path.items ≡ length numbers
  long = sym (length-map w.path.items (λ (k : Frame). k.at)) ∙ ap length whole

  pub way-ends : w.path.items ≡ take (length numbers - 1) w.path.items ++ f ∷ []
  way-ends =
      let n = length numbers - 1 in
      let lt = slice_get_within w.path.items n f at in
      sym (take_all (n + 1) w.path.items (omega (arith, long))) ∙ take_more w.path.items n f lt
      ∙ ap (λ (k : Frame). take n w.path.items ++ k ∷ []) (get_or_from_slice_get w.path.items n f f at)

  linked-last : IsLinked (makers_of w.turns.graph.now) (row_of w.turns.graph.now w.turns.targets.now)
      (take (length numbers - 1) w.path.items ++ f ∷ [])
  linked-last = subst (IsLinked (makers_of w.turns.graph.now) (row_of w.turns.graph.now w.turns.targets.now))
      way-ends h.walk.standing.linked

  pub way-heading : IsHeading (take (length numbers - 1) w.path.items) (f.at + 1) w.path.items w.place
  way-heading = record { more = f ∷ []; is = way-ends; ahead = omega arith }

  pub way-last_in : f.at + 1 ≤ length (top_of w.turns.graph.now w.turns.targets.now
      (take (length numbers - 1) w.path.items))
  way-last_in =
      let r = IsLinked-pop (makers_of w.turns.graph.now) (row_of w.turns.graph.now w.turns.targets.now)
      (take (length numbers - 1) w.path.items) f linked-last in
      omega (
        arith,
        slice_get_within (top_of w.turns.graph.now w.turns.targets.now
            (take (length numbers - 1) w.path.items)) f.at (Some f.edge.0) r.1,
      )

  -- once it is closed, all is done that is done at the mark
  pub way-rest : left_of w.turns.graph.now w.turns.targets.now (take (length numbers - 1) w.path.items)
      (f.at + 1) ≡ rest_of w.turns.graph.now w.turns.targets.now numbers
  way-rest =
      let g = w.turns.graph.now in
      let ts = w.turns.targets.now in
      let b = take (length numbers - 1) w.path.items in
      let is : numbers ≡ places (b ++ f ∷ []) = sym whole ∙ ap places way-ends in
      sym (ap (rest_of g ts) is ∙ ap (λ (es : List ℕ). without es (commands_of g ts))
      (done-places (makers_of g) (count_of g) (row_of g ts) b f linked-last))
