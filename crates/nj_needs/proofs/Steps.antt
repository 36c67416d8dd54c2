-- The turns of a walk: the state after each turn, the rest, and that one turn less is left.
use Rattle.std.proofs.Common.{◌≡◌, ℕ, zero, suc, ◌+◌, ◌<◌, ◌≤◌, Bool, true, false, not, ◌||◌, cond, Option}
use Rattle.std.proofs.Common.{Some, None, List, [], ◌∷◌, ◌++◌, length, get_or, set, filter, refl, sym, ap}
use Rattle.std.proofs.Common.{subst, ◌∙◌, inl, inr, arith, append_assoc}
use Rattle.std.specs.Prelude.{nat_eq, slice_get}
use Rattle.std.specs.List.{list_any}
use Rattle.std.proofs.lemmas.Bool.{ne_eqb, cases_eq, false_from_ne_true}
use Rattle.std.proofs.lemmas.List.{map_push, length-set, get_or-set_same, get_or-set_other, take_all}
use Rattle.std.proofs.lemmas.List.Folds.{list_any-append}
use Rattle.std.proofs.lemmas.Option.{slice_get_within}
use Rattle.nj_cycles.specs.Cycles.{IsRank}
use Rattle.nj_needs.specs.Order.{made_by, unfolded, unfolded_row, order, needed_commands}
use Rattle.nj_edges.specs.Repeats.{each_once}
use Rattle.nj_needs.specs.Marks.{without}
use Rattle.nj_needs.specs.Inside.Paths.{top_row, IsLinked, done_at, opened, turns_left, left_at, IsStanding}
use Rattle.nj_needs.specs.declared.frame.Frame.{Frame}
use Rattle.nj_needs.proofs.Members.{In, In-append_cases, In-append_left, In-last, In-single, same_tests}
use Rattle.nj_needs.proofs.Members.{Among}
use Rattle.nj_needs.proofs.Striking.{filter_comm, without-same, without-all, without-next, In-first}
use Rattle.nj_needs.proofs.Turning.{turns_left-open, turns_left-close, turns_left-end}
use Rattle.nj_needs.proofs.Walking.{top_row-push, IsLinked-push, IsLinked-pop, done_at-open, done_at-pass}
use Rattle.nj_needs.proofs.Walking.{done_at-close, done_closed, done_front, rank-opened, top-within}
use Rattle.nj_needs.proofs.Walking.{top-in_order}

less_is_false : (a b : ℕ → Bool) (x : ℕ) → a x ≡ b x → b x ≡ false → a x ≡ false
less_is_false a b x e h = e ∙ h

module _ (makers : ℕ → List (Option ℕ)) (count : ℕ) (rank : ℕ → ℕ) (ranked : IsRank makers count rank)
    (row : List (Option ℕ)) (inside : (m : ℕ) → Among row m → m < count) where
  abbrev pub done_now : List Frame → ℕ → List ℕ
  done_now path place = done_at makers count row path place

  abbrev pub Same : List ℕ → List ℕ → Type 0
  Same xs ys = (x : ℕ) → list_any (nat_eq x) xs ≡ list_any (nat_eq x) ys

  -- a place is passed: its edge is done
  pub same-pass : (path : List Frame) (place : ℕ) (x : Option ℕ)
      → slice_get (top_row makers row path) place ≡ Some x
      → ((m : ℕ) → x ≡ Some m → In (done_now path place) m)
      → Same (done_now path place) (done_now path (place + 1))
  same-pass path place x at all y =
      let D = done_now path place in
      let more = made_by (unfolded makers count) x in
      let is = done_at-pass makers count row path place x at in
      same_tests (list_any (nat_eq y) D) (list_any (nat_eq y) (done_now path (place + 1)))
      (λ i. subst (λ es. In es y) (sym is) (In-append_left D more y i))
      (λ i. elim (In-append_cases D more y (subst (λ es. In es y) is i))
      [ inl s ↦ s | inr t ↦ in_made x all t ])
    where
      in_made : (o : Option ℕ) → ((m : ℕ) → o ≡ Some m → In (done_now path place) m)
          → In (made_by (unfolded makers count) o) y → In (done_now path place) y
      in_made None h i = absurd cc
      in_made (Some m) h i = done_closed makers count rank ranked row inside path place m y (h m refl) i

  pub pass-comes : (path : List Frame) (place : ℕ) (flags : List Bool) (x : Option ℕ)
      → slice_get (top_row makers row path) place ≡ Some x
      → Same (done_now path place) (done_now path (place + 1))
      → IsStanding makers count row path place flags → IsStanding makers count row path (place + 1) flags
  pass-comes path place flags x at same h = record {
    linked = h.linked;
    place_in = omega (arith, slice_get_within (top_row makers row path) place x at);
    undone = λ e i. sym (same e) ∙ h.undone e i;
    flags_len = h.flags_len;
    flagged = λ e lt. h.flagged e lt ∙ same e;
  }

  pub left-same : (phony : ℕ → Bool) (path other : List Frame) (place at : ℕ)
      → Same (done_now path place) (done_now other at)
      → left_at makers count phony row path place ≡ left_at makers count phony row other at
  left-same phony path other place at same =
      without-same (done_now path place) (done_now other at) (needed_commands makers count phony row) same

  -- an edge that is not done is opened
  pub open-comes : (path : List Frame) (f : Frame) (flags : List Bool)
      → slice_get (top_row makers row path) f.at ≡ Some (Some f.edge.0)
      → list_any (nat_eq f.edge.0) (done_now path f.at) ≡ false
      → IsStanding makers count row path f.at flags → IsStanding makers count row (path ++ f ∷ []) 0 flags
  open-comes path f flags at fresh h =
      let is : done_now (path ++ f ∷ []) 0 ≡ done_now path f.at = done_at-open makers count row path f in
      record {
        linked = IsLinked-push makers row path f h.linked at;
        place_in = omega arith;
        undone = λ e i. ap (list_any (nat_eq e)) is
            ∙ elim (In-append_cases (opened path) (f.edge.0 ∷ []) e
            (subst (λ es. In es e) (map_push (λ (g : Frame). g.edge.0) path f) i)) [
              | inl old ↦ h.undone e old
              | inr new ↦ ap (λ y. list_any (nat_eq y) (done_now path f.at)) (In-single f.edge.0 e new)
                  ∙ fresh
            ];
        flags_len = h.flags_len;
        flagged = λ e lt. h.flagged e lt ∙ ap (list_any (nat_eq e)) (sym is);
      }

  not-opened : (path : List Frame) (p m : ℕ) → IsLinked makers row path
      → slice_get (top_row makers row path) p ≡ Some (Some m) → list_any (nat_eq m) (opened path) ≡ false
  not-opened path p m linked at = false_from_ne_true (list_any (nat_eq m) (opened path))
      (λ i. let r : rank m < rank m = rank-opened makers count rank ranked row path linked p m at m i in
      absurd (omega arith))

  pub open-turns : (path : List Frame) (f : Frame) → IsLinked makers row path
      → slice_get (top_row makers row path) f.at ≡ Some (Some f.edge.0)
      → list_any (nat_eq f.edge.0) (done_now path f.at) ≡ false
      → turns_left makers count row path f.at ≡ turns_left makers count row (path ++ f ∷ []) 0 + 1
  open-turns path f linked at fresh =
      turns_left-open makers count row path f
      (slice_get_within (top_row makers row path) f.at (Some f.edge.0) at)
      (done_at-open makers count row path f)
      (top-in_order makers count rank ranked row inside path linked f.at f.edge.0 at) fresh
      (not-opened path f.at f.edge.0 linked at)

  -- an edge is closed
  past-row : (path : List Frame) (f : Frame) (place : ℕ)
      → slice_get (top_row makers row (path ++ f ∷ [])) place ≡ None → length (makers f.edge.0) ≤ place
  past-row path f place none = past (makers f.edge.0) place
      (ap (λ (r : List (Option ℕ)). slice_get r place) (sym (top_row-push makers row path f)) ∙ none)
    where
      past : (r : List (Option ℕ)) (p : ℕ) → slice_get r p ≡ None → length r ≤ p
      past [] p h = omega arith
      past (x ∷ r) zero h = absurd cc
      past (x ∷ r) (suc p) h = omega (arith, past r p h)

  module _ (path : List Frame) (f : Frame) (place : ℕ) (flags : List Bool)
      (h : IsStanding makers count row (path ++ f ∷ []) place flags)
      (none : slice_get (top_row makers row (path ++ f ∷ [])) place ≡ None) where
    pub closed-done : done_now path (f.at + 1) ≡ done_now (path ++ f ∷ []) place ++ f.edge.0 ∷ []
    closed-done = done_at-close makers count rank ranked row inside path f place h.linked
        (past-row path f place none)

    popped : IsLinked makers row path × (slice_get (top_row makers row path) f.at ≡ Some (Some f.edge.0))
    popped = IsLinked-pop makers row path f h.linked

    pub closed-fresh : list_any (nat_eq f.edge.0) (done_now (path ++ f ∷ []) place) ≡ false
    closed-fresh = h.undone f.edge.0 (subst (λ es. In es f.edge.0)
        (sym (map_push (λ (g : Frame). g.edge.0) path f))
        (In-last (opened path) f.edge.0))

    pub closed-within : f.edge.0 < count
    closed-within = top-within makers count rank ranked row inside path f.at f.edge.0 popped.1

    pub close-comes : IsStanding makers count row path (f.at + 1) (set flags f.edge.0 true)
    close-comes =
        let D = done_now (path ++ f ∷ []) place in
        record {
          linked = popped.0;
          place_in = omega (arith, slice_get_within (top_row makers row path) f.at (Some f.edge.0) popped.1);
          undone = λ e i. ap (list_any (nat_eq e)) closed-done
              ∙ false_from_ne_true (list_any (nat_eq e) (D ++ f.edge.0 ∷ []))
              (λ j. elim (In-append_cases D (f.edge.0 ∷ []) e j) [
                | inl s ↦
                    let u : list_any (nat_eq e) D ≡ false =
                    h.undone e (subst (λ es. In es e) (sym (map_push (λ (g : Frame). g.edge.0) path f))
                    (In-append_left (opened path) (f.edge.0 ∷ []) e i)) in
                    absurd (let s' : list_any (nat_eq e) D ≡ true = s in cc)
                | inr t ↦ let is : e ≡ f.edge.0 = In-single f.edge.0 e t in let r : rank f.edge.0 < rank e =
                    rank-opened makers count rank ranked row path popped.0 f.at f.edge.0 popped.1 e i in
                    let same = ap rank is in absurd (omega arith)
              ]);
          flags_len = length-set flags f.edge.0 true ∙ h.flags_len;
          flagged = λ e lt. elim (cases_eq e f.edge.0) [
            | inl is ↦
                ap (λ y. get_or (set flags f.edge.0 true) y false) is
                ∙ get_or-set_same flags f.edge.0 true false (omega (arith, closed-within, h.flags_len))
                ∙ sym (ap (λ y. list_any (nat_eq y) (done_now path (f.at + 1))) is
                ∙ ap (list_any (nat_eq f.edge.0)) closed-done ∙ In-last D f.edge.0)
            | inr differs ↦
                get_or-set_other flags f.edge.0 e true false differs ∙ h.flagged e lt
                ∙ sym (ap (list_any (nat_eq e)) closed-done ∙ list_any-append (nat_eq e) D (f.edge.0 ∷ [])
                ∙ ap (λ b. list_any (nat_eq e) D || (b || false)) (ne_eqb e f.edge.0 differs)
                ∙ or_nothing (list_any (nat_eq e) D))
          ];
        }
      where
        or_nothing : (b : Bool) → (b || (false || false)) ≡ b
        or_nothing true = refl
        or_nothing false = refl

    pub close-left : (phony : ℕ → Bool) → left_at makers count phony row (path ++ f ∷ []) place
        ≡ cond (phony f.edge.0) (left_at makers count phony row path (f.at + 1))
        (f.edge.0 ∷ left_at makers count phony row path (f.at + 1))
    close-left phony =
        let D = done_now (path ++ f ∷ []) place in
        let E = done_now path (f.at + 1) in
        let r = done_front makers count rank ranked row inside path (f.at + 1) popped.0 in
        let N = order makers count row in
        let np : ℕ → Bool = λ e. not (phony e) in
        let is : unfolded_row makers count row ≡ D ++ f.edge.0 ∷ r.0 =
        r.1 ∙ ap (λ (es : List ℕ). es ++ r.0) closed-done ∙ append_assoc D (f.edge.0 ∷ []) r.0 in
        let next : without D N ≡ f.edge.0 ∷ without E N =
        subst (λ (us : List ℕ). without D (each_once nat_eq us)
        ≡ f.edge.0 ∷ without (D ++ f.edge.0 ∷ []) (each_once nat_eq us)) (sym is)
        (without-next D f.edge.0 r.0 closed-fresh)
        ∙ ap (λ (es : List ℕ). f.edge.0 ∷ without es N) (sym closed-done) in
        filter_comm (λ e. not (list_any (nat_eq e) D)) np N ∙ ap (filter np) next
        ∙ by_test (phony f.edge.0) f.edge.0 (filter np (without E N))
        ∙ ap (λ (es : List ℕ). cond (phony f.edge.0) es (f.edge.0 ∷ es))
        (filter_comm np (λ e. not (list_any (nat_eq e) E)) N)
      where
        by_test : (b : Bool) (e : ℕ) (es : List ℕ) → cond (not b) (e ∷ es) es ≡ cond b es (e ∷ es)
        by_test true e es = refl
        by_test false e es = refl

    pub close-turns : turns_left makers count row (path ++ f ∷ []) place
        ≡ turns_left makers count row path (f.at + 1) + 1
    close-turns = turns_left-close makers count row path f place (past-row path f place none) closed-done

  -- the end
  module _ (place : ℕ) (past : length row ≤ place) where
    all-done : done_now [] place ≡ unfolded_row makers count row
    all-done = ap (unfolded_row makers count) (take_all place row past)

    pub end-left : (phony : ℕ → Bool) → left_at makers count phony row [] place ≡ []
    end-left phony =
        let np : ℕ → Bool = λ e. not (phony e) in
        ap (λ (es : List ℕ). without es (needed_commands makers count phony row)) all-done
        ∙ filter_comm (λ e. not (list_any (nat_eq e) (unfolded_row makers count row))) np
        (order makers count row)
        ∙ ap (filter np) (without-all (unfolded_row makers count row))

    pub end-turns : turns_left makers count row [] place ≡ 0
    end-turns = turns_left-end makers count row place past
        (λ x i. subst (λ es. In es x) (sym all-done) (In-first (unfolded_row makers count row) x i))
