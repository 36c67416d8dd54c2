-- Each turn leaves one turn less.
use Rattle.std.proofs.Common.{◌≡◌, ℕ, ◌+◌, ◌-◌, ◌<◌, ◌≤◌, Bool, true, false, ◌||◌, cond, Option, List, []}
use Rattle.std.proofs.Common.{◌∷◌, ◌++◌, length, refl, sym, ap, subst, ◌∙◌, inl, inr, arith, append_assoc}
use Rattle.std.specs.Prelude.{nat_eq}
use Rattle.std.specs.List.{list_any, sum_by}
use Rattle.std.proofs.lemmas.Bool.{cases_eq, false_from_ne_true}
use Rattle.std.proofs.lemmas.List.{map_push}
use Rattle.std.proofs.lemmas.List.Folds.{list_any-append}
use Rattle.std.proofs.lemmas.List.Sums.{sum_by-cons}
use Rattle.nj_needs.specs.Order.{unfolded_row, order}
use Rattle.nj_needs.specs.Turns.{turn_bound}
use Rattle.nj_needs.specs.Inside.Paths.{top_row, done_at, opened, turns_open, turns_unseen, turns_left}
use Rattle.nj_needs.specs.declared.frame.Frame.{Frame}
use Rattle.nj_needs.proofs.Members.{In, In-head, In-tail, In-cons_cases, In-append_cases, In-append_left}
use Rattle.nj_needs.proofs.Members.{In-last, In-single, same_tests}
use Rattle.nj_needs.proofs.Striking.{Differ, Differ-first, In-first_from}

module _ (makers : ℕ → List (Option ℕ)) where
  pub turns_open-push : (row : List (Option ℕ)) (path : List Frame) (f : Frame) (place : ℕ)
      → turns_open makers row (path ++ f ∷ []) place
      ≡ turns_open makers row path (f.at + 1) + 1 + (length (makers f.edge.0) - place)
  turns_open-push row [] f place = refl
  turns_open-push row (g ∷ path) f place =
      let r : turns_open makers (makers g.edge.0) (path ++ f ∷ []) place
      ≡ turns_open makers (makers g.edge.0) path (f.at + 1) + 1 + (length (makers f.edge.0) - place) =
      turns_open-push (makers g.edge.0) path f place in
      omega arith

  pub turns_open-pass : (row : List (Option ℕ)) (path : List Frame) (place : ℕ)
      → place < length (top_row makers row path)
      → turns_open makers row path place ≡ turns_open makers row path (place + 1) + 1
  turns_open-pass row [] place lt = omega arith
  turns_open-pass row (g ∷ path) place lt =
      let r : turns_open makers (makers g.edge.0) path place
      ≡ turns_open makers (makers g.edge.0) path (place + 1) + 1 =
      turns_open-pass (makers g.edge.0) path place lt in
      omega arith

  abbrev weight : ℕ → ℕ
  weight e = 1 + length (makers e)

  pub turns_unseen-same : (seen other es : List ℕ)
      → ((x : ℕ) → list_any (nat_eq x) seen ≡ list_any (nat_eq x) other)
      → turns_unseen makers seen es ≡ turns_unseen makers other es
  turns_unseen-same seen other [] same = refl
  turns_unseen-same seen other (e ∷ es) same = rw (same e, turns_unseen-same seen other es same) refl

  -- an edge that is not in the list
  absent : (seen other es : List ℕ) (m : ℕ) → list_any (nat_eq m) es ≡ false
      → ((x : ℕ) → (x ≡ m → ⊥) → list_any (nat_eq x) seen ≡ list_any (nat_eq x) other)
      → turns_unseen makers seen es ≡ turns_unseen makers other es
  absent seen other [] m none same = refl
  absent seen other (e ∷ es) m none same =
      let differs : e ≡ m → ⊥ = λ is. let i : In (e ∷ es) m =
      subst (λ y. In (y ∷ es) m) (sym is) (In-head m es) in absurd cc in
      let later : list_any (nat_eq m) es ≡ false =
      false_from_ne_true (list_any (nat_eq m) es) (λ i. let t = In-tail e es m i in absurd cc) in
      rw (same e differs, absent seen other es m later same) refl

  -- one more edge is seen
  pub turns_unseen-new : (seen other es : List ℕ) (m : ℕ) → Differ es → In es m
      → list_any (nat_eq m) seen ≡ false → list_any (nat_eq m) other ≡ true
      → ((x : ℕ) → (x ≡ m → ⊥) → list_any (nat_eq x) seen ≡ list_any (nat_eq x) other)
      → turns_unseen makers seen es ≡ turns_unseen makers other es + weight m
  turns_unseen-new seen other [] m d i new old same = absurd cc
  turns_unseen-new seen other (e ∷ es) m d i new old same = elim (cases_eq e m) [
    | inl is ↦
        let n : list_any (nat_eq e) seen ≡ false = ap (λ y. list_any (nat_eq y) seen) is ∙ new in
        let o : list_any (nat_eq e) other ≡ true = ap (λ y. list_any (nat_eq y) other) is ∙ old in
        let none : list_any (nat_eq m) es ≡ false = ap (λ y. list_any (nat_eq y) es) (sym is) ∙ d.0 in
        let later = absent seen other es m none same in
        let left : turns_unseen makers seen (e ∷ es) ≡ weight e + turns_unseen makers seen es =
        ap (λ b. cond b 0 (weight e) + turns_unseen makers seen es) n in
        let right : turns_unseen makers other (e ∷ es) ≡ 0 + turns_unseen makers other es =
        ap (λ b. cond b 0 (weight e) + turns_unseen makers other es) o in
        let heavy : weight e ≡ weight m = ap weight is in
        omega (arith, left, right, later, heavy)
    | inr differs ↦
        let among : In es m = elim (In-cons_cases e es m i) [ inl is ↦ absurd (differs (sym is)) | inr t ↦ t ]
        in
        let later = turns_unseen-new seen other es m d.1 among new old same in
        let here = ap (λ b. cond b 0 (weight e)) (same e differs) in
        omega (arith, later, here)
  ]

  pub turns_unseen-none : (seen es : List ℕ) → ((x : ℕ) → In es x → In seen x)
      → turns_unseen makers seen es ≡ 0
  turns_unseen-none seen [] all = refl
  turns_unseen-none seen (e ∷ es) all = rw
      (all e (In-head e es), turns_unseen-none seen es (λ x i. all x (In-tail e es x i))) refl

  pub turns_unseen-all : (es : List ℕ) → turns_unseen makers [] es ≡ sum_by (λ e. 1 + length (makers e)) es
  turns_unseen-all [] = refl
  turns_unseen-all (e ∷ es) = ap (λ n. weight e + n) (turns_unseen-all es) ∙ sym (sum_by-cons weight e es)

  module _ (count : ℕ) where
    -- a walk from the start has all turns left
    pub turns_left-start : (row : List (Option ℕ))
        → turns_left makers count row [] 0 ≡ turn_bound makers count row
    turns_left-start row = ap (λ n. length row - 0 + n) (turns_unseen-all (order makers count row))
        ∙ omega arith

    -- and at the end no turn
    pub turns_left-end : (row : List (Option ℕ)) (place : ℕ) → length row ≤ place
        → ((x : ℕ) → In (order makers count row) x → In (done_at makers count row [] place) x)
        → turns_left makers count row [] place ≡ 0
    turns_left-end row place past all =
        let seen = done_at makers count row [] place ++ [] in
        let none : turns_unseen makers seen (order makers count row) ≡ 0 =
        turns_unseen-none seen (order makers count row)
        (λ x i. In-append_left (done_at makers count row [] place) [] x (all x i)) in
        omega arith

    -- a place is passed at which nothing new is done
    pub turns_left-pass : (row : List (Option ℕ)) (path : List Frame) (place : ℕ)
        → place < length (top_row makers row path)
        → ((x : ℕ) → list_any (nat_eq x) (done_at makers count row path place)
        ≡ list_any (nat_eq x) (done_at makers count row path (place + 1)))
        → turns_left makers count row path place ≡ turns_left makers count row path (place + 1) + 1
    turns_left-pass row path place lt same =
        let D = done_at makers count row path place in
        let E = done_at makers count row path (place + 1) in
        let open_ = turns_open-pass row path place lt in
        let unseen = turns_unseen-same (D ++ opened path) (E ++ opened path) (order makers count row)
        (λ x. list_any-append (nat_eq x) D (opened path)
        ∙ ap (λ b. b || list_any (nat_eq x) (opened path)) (same x)
        ∙ sym (list_any-append (nat_eq x) E (opened path))) in
        omega (arith, open_, unseen)

    -- an edge is opened
    pub turns_left-open : (row : List (Option ℕ)) (path : List Frame) (f : Frame)
        → f.at < length (top_row makers row path)
        → done_at makers count row (path ++ f ∷ []) 0 ≡ done_at makers count row path f.at
        → In (unfolded_row makers count row) f.edge.0
        → list_any (nat_eq f.edge.0) (done_at makers count row path f.at) ≡ false
        → list_any (nat_eq f.edge.0) (opened path) ≡ false
        → turns_left makers count row path f.at ≡ turns_left makers count row (path ++ f ∷ []) 0 + 1
    turns_left-open row path f lt done_same ordered fresh closed =
        let D = done_at makers count row path f.at in
        let seen = D ++ opened path in
        let other = done_at makers count row (path ++ f ∷ []) 0 ++ opened (path ++ f ∷ []) in
        let is : other ≡ seen ++ f.edge.0 ∷ [] =
        ap (λ (es : List ℕ). es ++ opened (path ++ f ∷ [])) done_same
        ∙ ap (λ (es : List ℕ). D ++ es) (map_push (λ (g : Frame). g.edge.0) path f)
        ∙ sym (append_assoc D (opened path) (f.edge.0 ∷ [])) in
        let not_seen : list_any (nat_eq f.edge.0) seen ≡ false =
        list_any-append (nat_eq f.edge.0) D (opened path) ∙ rw (fresh, closed) refl in
        let now_seen : list_any (nat_eq f.edge.0) other ≡ true =
        subst (λ es. In es f.edge.0) (sym is) (In-last seen f.edge.0) in
        let others : (x : ℕ) → (x ≡ f.edge.0 → ⊥) → list_any (nat_eq x) seen ≡ list_any (nat_eq x) other =
        λ x differs.
        same_tests (list_any (nat_eq x) seen) (list_any (nat_eq x) other)
        (λ i. subst (λ es. In es x) (sym is) (In-append_left seen (f.edge.0 ∷ []) x i))
        (λ i. elim (In-append_cases seen (f.edge.0 ∷ []) x (subst (λ es. In es x) is i))
        [ inl s ↦ s | inr t ↦ absurd (differs (In-single f.edge.0 x t)) ]) in
        let unseen = turns_unseen-new seen other (order makers count row) f.edge.0
        (Differ-first (unfolded_row makers count row))
        (In-first_from (unfolded_row makers count row) f.edge.0 ordered) not_seen now_seen others in
        let open_ = turns_open-pass row path f.at lt in
        let pushed = turns_open-push row path f 0 in
        omega (arith, unseen, open_, pushed)

    -- an edge is closed
    pub turns_left-close : (row : List (Option ℕ)) (path : List Frame) (f : Frame) (place : ℕ)
        → length (makers f.edge.0) ≤ place
        → done_at makers count row path (f.at + 1)
        ≡ done_at makers count row (path ++ f ∷ []) place ++ f.edge.0 ∷ []
        → turns_left makers count row (path ++ f ∷ []) place ≡ turns_left makers count row path (f.at + 1) + 1
    turns_left-close row path f place past done_more =
        let D = done_at makers count row (path ++ f ∷ []) place in
        let E = done_at makers count row path (f.at + 1) in
        let O = opened path in
        let pushed : opened (path ++ f ∷ []) ≡ O ++ f.edge.0 ∷ [] =
        map_push (λ (g : Frame). g.edge.0) path f in
        let same : (x : ℕ) → list_any (nat_eq x) (D ++ opened (path ++ f ∷ []))
        ≡ list_any (nat_eq x) (E ++ O) = λ x.
        ap (λ (es : List ℕ). list_any (nat_eq x) (D ++ es)) pushed
        ∙ list_any-append (nat_eq x) D (O ++ f.edge.0 ∷ [])
        ∙ ap (λ b. list_any (nat_eq x) D || b) (list_any-append (nat_eq x) O (f.edge.0 ∷ []))
        ∙ or_turned (list_any (nat_eq x) D) (list_any (nat_eq x) O) (list_any (nat_eq x) (f.edge.0 ∷ []))
        ∙ ap (λ b. b || list_any (nat_eq x) O) (sym (list_any-append (nat_eq x) D (f.edge.0 ∷ [])))
        ∙ sym (list_any-append (nat_eq x) (D ++ f.edge.0 ∷ []) O)
        ∙ ap (λ (es : List ℕ). list_any (nat_eq x) (es ++ O)) (sym done_more) in
        let unseen = turns_unseen-same (D ++ opened (path ++ f ∷ [])) (E ++ O) (order makers count row) same
        in
        let open_ = turns_open-push row path f place in
        omega (arith, unseen, open_)
      where
        or_turned : (a b c : Bool) → (a || (b || c)) ≡ ((a || c) || b)
        or_turned true b c = refl
        or_turned false true true = refl
        or_turned false true false = refl
        or_turned false false true = refl
        or_turned false false false = refl
