-- Resuming: addresses that are valid, the edges done at an address, and the way to it.
use Rattle.std.proofs.Common.{◌≡◌, ℕ, zero, suc, ◌+◌, ◌<◌, ◌≤◌, Bool, true, false, ◌&&◌, Option, Some, None}
use Rattle.std.proofs.Common.{List, [], ◌∷◌, ◌++◌, length, get_or, take, drop, refl, sym, ap, subst, ◌∙◌, inl}
use Rattle.std.proofs.Common.{inr, arith, append_assoc}
use Rattle.std.specs.Prelude.{nat_eq, slice_get, is_some}
use Rattle.std.specs.List.{list_any}
use Rattle.std.proofs.lemmas.Bool.{cases_lt}
use Rattle.std.proofs.lemmas.List.{get_or_past, drop_more, append-nil, length-append, same_from_push}
use Rattle.std.proofs.lemmas.Option.{slice_get-get_or, get_or_from_slice_get}
use Rattle.nj_cycles.specs.Cycles.{IsRank}
use Rattle.nj_needs.specs.Order.{made_by, unfolded, unfolded_row}
use Rattle.nj_needs.specs.Marks.{is_valid, done}
use Rattle.nj_needs.specs.Inside.Paths.{top_row, IsLinked, done_at, places}
use Rattle.nj_needs.specs.Inside.Heading.{IsAhead, IsHeading}
use Rattle.nj_needs.specs.Inside.Standing.{top_of, turns_left_of, HasLooked, HasClosed, HasEnded, TurnIs}
use Rattle.nj_needs.specs.declared.frame.Frame.{Frame}
use Rattle.nj_needs.specs.declared.walk.Walk.{Walk}
use Rattle.nj_needs.specs.declared.walk.Turn.{Turn}
use Rattle.nj_needs.specs.declared.walk.Turn.TheVariants.{Looked, Closed, Ended}
use Rattle.nj_needs.proofs.NeedsLemmas.{looked-less, closed-less}
use Rattle.nj_needs.proofs.Members.{In, In-append_left, In-append_cases, Among, Among-get, Among-take}
use Rattle.nj_needs.proofs.Members.{same_tests}
use Rattle.nj_needs.proofs.Unfolding.{In-row, In-row_from, within, unfolded-row}
use Rattle.nj_needs.proofs.Walking.{Below, Below-makers, done_at-pass, done_closed}

pub past-end : (row : List (Option ℕ)) (p : ℕ) → slice_get row p ≡ None → length row ≤ p
past-end [] p h = omega arith
past-end (x ∷ row) zero h = absurd cc
past-end (x ∷ row) (suc p) h = omega (arith, past-end row p h)

module _ (makers : ℕ → List (Option ℕ)) where
  pub inputs-some : (row : List (Option ℕ)) (p m : ℕ) → slice_get row p ≡ Some (Some m)
      → made_by makers (get_or row p None) ≡ makers m
  inputs-some row p m at = ap (made_by makers) (get_or_from_slice_get row p (Some m) None at)

  -- the first step of a valid mark leads to an edge, from which the others continue
  pub valid-step : (row : List (Option ℕ)) (p : ℕ) (mark : List ℕ) → is_valid makers row (p ∷ mark) ≡ true
      → (m : ℕ) × (slice_get row p ≡ Some (Some m)) × (is_valid makers (makers m) mark ≡ true)
  valid-step row p mark h = by_maker (get_or row p None) refl h
    where
      found : (m : ℕ) → get_or row p None ≡ Some m → slice_get row p ≡ Some (Some m)
      found m is = elim (cases_lt p (length row)) [
        | inl lt ↦ slice_get-get_or row p None lt ∙ ap Some is
        | inr past ↦ let none = get_or_past row p None past in absurd cc
      ]

      by_maker : (o : Option ℕ) → get_or row p None ≡ o
          → (is_some o && is_valid makers (made_by makers o) mark) ≡ true
          → (m : ℕ) × (slice_get row p ≡ Some (Some m)) × (is_valid makers (makers m) mark ≡ true)
      by_maker None is k = absurd cc
      by_maker (Some m) is k = (m, found m is, k)

module _ (makers : ℕ → List (Option ℕ)) (count : ℕ) (rank : ℕ → ℕ) (ranked : IsRank makers count rank) where
  -- a valid mark is not longer than the rank of its row
  pub valid-short : (bound : ℕ) (row : List (Option ℕ)) → Below makers count rank ranked bound row
      → (mark : List ℕ) → is_valid makers row mark ≡ true → length mark ≤ bound
  valid-short bound row below [] h = omega arith
  valid-short bound row below (p ∷ mark) h =
      let s = valid-step makers row p mark h in
      let here : rank s.0 < bound = below s.0 (Among-get row p s.0 s.1) in
      let deep : length mark ≤ rank s.0 = valid-short (rank s.0) (makers s.0)
      (Below-makers makers count rank ranked s.0) mark s.2 in
      omega (arith, here, deep)

  -- an edge's unfolding has its row's
  own-row : (m x : ℕ) → m < count → In (unfolded_row makers count (makers m)) x
      → In (unfolded makers count m) x
  own-row m x lt i = subst (λ us. In us x) (sym (unfolded-row makers count rank ranked m lt))
      (In-append_left (unfolded_row makers count (makers m)) (m ∷ []) x i)

  row-front : (n : ℕ) (row : List (Option ℕ)) (x : ℕ) → In (unfolded_row makers count (take n row)) x
      → In (unfolded_row makers count row) x
  row-front n row x i = let r = In-row (unfolded makers count) (take n row) x i in
      In-row_from (unfolded makers count) row r.0 x (Among-take n row r.0 r.1) r.2

  -- the edges done at a mark are of the unfolded order
  pub done-within : (row : List (Option ℕ)) → ((m : ℕ) → Among row m → m < count) → (mark : List ℕ)
      → is_valid makers row mark ≡ true → (x : ℕ) → In (done makers count row mark) x
      → In (unfolded_row makers count row) x
  done-within row inside [] h x i = absurd cc
  done-within row inside (p ∷ []) h x i = row-front (p + 1) row x i
  done-within row inside (p ∷ q ∷ mark) h x i =
      let s = valid-step makers row p (q ∷ mark) h in
      let a = Among-get row p s.0 s.1 in
      elim (In-append_cases (unfolded_row makers count (take p row))
      (done makers count (made_by makers (get_or row p None)) (q ∷ mark)) x i) [
        | inl before ↦ row-front p row x before
        | inr after ↦
            let deep : In (unfolded_row makers count (makers s.0)) x =
            done-within (makers s.0) (within makers count rank ranked s.0) (q ∷ mark) s.2 x
            (subst (λ r. In (done makers count r (q ∷ mark)) x) (inputs-some makers row p s.0 s.1) after)
            in
            In-row_from (unfolded makers count) row s.0 x a (own-row s.0 x (inside s.0 a) deep)
      ]

  -- done at a mark that continues at a place of the row on top: the edges done before that place,
  -- and some of the unfolded order of its edge
  pub done-split : (row : List (Option ℕ)) → ((m : ℕ) → Among row m → m < count) → (path : List Frame)
      → IsLinked makers row path → (q m : ℕ) (mark : List ℕ)
      → slice_get (top_row makers row path) q ≡ Some (Some m) → is_valid makers (makers m) mark ≡ true
      → (more : List ℕ) × (done makers count row (places path ++ q ∷ mark)
      ≡ done_at makers count row path q ++ more) × ((x : ℕ) → In more x → In (unfolded makers count m) x)
  done-split row inside [] h q m [] at valid =
      (unfolded makers count m, done_at-pass makers count row [] q (Some m) at, λ x i. i)
  done-split row inside [] h q m (r ∷ mark) at valid = (
    done makers count (makers m) (r ∷ mark),
    ap (λ (k : List (Option ℕ)). unfolded_row makers count (take q row) ++ done makers count k (r ∷ mark))
        (inputs-some makers row q m at),
    λ x i. own-row m x (inside m (Among-get row q m at))
        (done-within (makers m) (within makers count rank ranked m) (r ∷ mark) valid x i),
  )
  done-split row inside (f ∷ []) h q m mark at valid =
      let d = done-split (makers f.edge.0) (within makers count rank ranked f.edge.0) [] h.1 q m mark at
      valid in
      let front = unfolded_row makers count (take f.at row) in (
        d.0,
        ap (λ (k : List (Option ℕ)). front ++ done makers count k (q ∷ mark))
            (inputs-some makers row f.at f.edge.0 h.0)
            ∙ ap (λ (us : List ℕ). front ++ us) d.1
            ∙ sym (append_assoc front (done_at makers count (makers f.edge.0) [] q) d.0),
        d.2,
      )
  done-split row inside (f ∷ g ∷ path) h q m mark at valid =
      let d = done-split (makers f.edge.0) (within makers count rank ranked f.edge.0) (g ∷ path) h.1 q m mark
      at valid in
      let front = unfolded_row makers count (take f.at row) in (
        d.0,
        ap (λ (k : List (Option ℕ)). front ++ done makers count k (places (g ∷ path) ++ q ∷ mark))
            (inputs-some makers row f.at f.edge.0 h.0)
            ∙ ap (λ (us : List ℕ). front ++ us) d.1
            ∙ sym (append_assoc front (done_at makers count (makers f.edge.0) (g ∷ path) q) d.0),
        d.2,
      )

  -- where the edge at that place is done, all is done that is done at the mark
  pub same-cut : (row : List (Option ℕ)) → ((m : ℕ) → Among row m → m < count) → (path : List Frame)
      → IsLinked makers row path → (q m : ℕ) (mark : List ℕ)
      → slice_get (top_row makers row path) q ≡ Some (Some m) → is_valid makers (makers m) mark ≡ true
      → In (done_at makers count row path q) m
      → (x : ℕ) → list_any (nat_eq x) (done_at makers count row path q)
      ≡ list_any (nat_eq x) (done makers count row (places path ++ q ∷ mark))
  same-cut row inside path h q m mark at valid is_done x =
      let d = done-split row inside path h q m mark at valid in
      let D = done_at makers count row path q in
      same_tests (list_any (nat_eq x) D) (list_any (nat_eq x)
      (done makers count row (places path ++ q ∷ mark)))
      (λ i. subst (λ es. In es x) (sym d.1) (In-append_left D d.0 x i))
      (λ i. elim (In-append_cases D d.0 x (subst (λ es. In es x) d.1 i)) [
        | inl s ↦ s
        | inr t ↦ done_closed makers count rank ranked row inside path q m x is_done (d.2 x t)
      ])

-- ---- a step of a mark

module _ (makers : ℕ → List (Option ℕ)) (row : List (Option ℕ)) (numbers : List ℕ) (i p : ℕ)
    (lt : i < length numbers) (is : p ≡ get_or numbers i p) where
  next-number : drop i numbers ≡ p ∷ drop (i + 1) numbers
  next-number = drop_more numbers i p lt ∙ ap (λ (n : ℕ). n ∷ drop (i + 1) numbers) (sym is)

  pub valid-none : slice_get row p ≡ None → is_valid makers row (drop i numbers) ≡ false
  valid-none none =
      ap (is_valid makers row) next-number ∙ ap
      (λ (o : Option ℕ). is_some o && is_valid makers (made_by makers o) (drop (i + 1) numbers))
      (get_or_past row p None (past-end row p none))

  pub valid-source : slice_get row p ≡ Some None → is_valid makers row (drop i numbers) ≡ false
  valid-source source =
      ap (is_valid makers row) next-number ∙ ap
      (λ (o : Option ℕ). is_some o && is_valid makers (made_by makers o) (drop (i + 1) numbers))
      (get_or_from_slice_get row p None None source)

  pub valid-maker : (m : ℕ) → slice_get row p ≡ Some (Some m)
      → is_valid makers row (drop i numbers) ≡ is_valid makers (makers m) (drop (i + 1) numbers)
  valid-maker m at =
      ap (is_valid makers row) next-number ∙ ap
      (λ (o : Option ℕ). is_some o && is_valid makers (made_by makers o) (drop (i + 1) numbers))
      (get_or_from_slice_get row p (Some m) None at)

-- ---- heading for a place

-- the last of some frames
last_split : (m : Frame) (ms : List Frame)
    → (front : List Frame) × (l : Frame) × (m ∷ ms ≡ front ++ l ∷ [])
    × ((goal at : ℕ) → m.at < goal → at ≡ l.at + 1 → IsAhead front goal at)
last_split m [] = ([], m, refl, λ goal at lt is. omega arith)
last_split m (k ∷ ks) = let r = last_split k ks in
    (m ∷ r.0, r.1, ap (λ (fs : List Frame). m ∷ fs) r.2, λ goal at lt is. lt)

ahead-push : (more : List Frame) (goal at : ℕ) (f : Frame) → IsAhead more goal at → (more ≡ [] → f.at < goal)
    → IsAhead (more ++ f ∷ []) goal 0
ahead-push more goal h f h1 lt = grind arith

ahead-next : (more : List Frame) (goal at : ℕ) → IsAhead more goal at → (more ≡ [] → at < goal)
    → IsAhead more goal (at + 1)
ahead-next more goal h h1 lt = grind arith

ahead-empty : (more : List Frame) (goal at : ℕ) → IsAhead more goal at → more ≡ [] → at ≤ goal
ahead-empty more goal h h1 is = grind arith

module _ (w v : Walk) (graph : v.turns.graph ≡ w.turns.graph) (targets : v.turns.targets ≡ w.turns.targets)
    (base : List Frame) (goal : ℕ) (h : IsHeading base goal w.path.items w.place)
    (elsewhere : length w.path.items ≡ length base → w.place ≡ goal → ⊥)
    (inside : goal ≤ length (top_of w.turns.graph.now w.turns.targets.now base)) where
  -- in the row itself the place is before the goal
  before : h.more ≡ [] → w.place < goal
  before none =
      let path : w.path.items ≡ base = h.is ∙ ap (λ (fs : List Frame). base ++ fs) none ∙ append-nil base in
      let le : w.place ≤ goal = ahead-empty h.more goal w.place h.ahead none in
      elim (cases_lt w.place goal) [
        | inl lt ↦ lt
        | inr ge ↦
            absurd (elsewhere (ap length path) (omega (arith, le, ge)))
      ]

  not-past : h.more ≡ [] → slice_get (top_of w.turns.graph.now w.turns.targets.now w.path.items) w.place
      ≡ None → ⊥
  not-past none past =
      let path : w.path.items ≡ base = h.is ∙ ap (λ (fs : List Frame). base ++ fs) none ∙ append-nil base in
      let over : length (top_of w.turns.graph.now w.turns.targets.now base) ≤ w.place =
      past-end (top_of w.turns.graph.now w.turns.targets.now base) w.place
      (ap (λ (fs : List Frame). slice_get (top_of w.turns.graph.now w.turns.targets.now fs) w.place)
      (sym path) ∙ past) in
      omega (arith, before none, over, inside)

  abbrev Goes : Type 0
  Goes = IsHeading base goal v.path.items v.place
      × (turns_left_of v.turns.graph.now v.turns.targets.now v.path.items v.place < turns_left_of
      w.turns.graph.now w.turns.targets.now w.path.items w.place)

  looked-goes : HasLooked w.turns.graph.now w.turns.targets.now w.path.items w.place v.path.items v.place
      → Goes
  looked-goes t = (
    elim t.moved [
      | inl same ↦ rw (same.0, same.1) (record
          { more = h.more; is = h.is; ahead = ahead-next h.more goal w.place h.ahead before })
      | inr opened ↦
          let f = opened.0 in
          rw (opened.1, opened.3) (record {
            more = h.more ++ f ∷ [];
            is = ap (λ (fs : List Frame). fs ++ f ∷ []) h.is ∙ append_assoc base h.more (f ∷ []);
            ahead = ahead-push h.more goal w.place f h.ahead (λ none. omega (arith, before none, opened.2));
          })
    ],
    looked-less w v graph targets t,
  )

  closed-goes : (e : ℕ) (phony : Bool) → HasClosed w.turns.graph.now w.turns.targets.now w.path.items w.place
      v.path.items v.place e phony → Goes
  closed-goes e phony t = (
    by_more h.more h.is h.ahead (λ none. not-past none t.past),
    closed-less w v graph targets e phony t,
  )
    where
      by_more : (more : List Frame) → w.path.items ≡ base ++ more → IsAhead more goal w.place
          → (more ≡ [] → ⊥) → IsHeading base goal v.path.items v.place
      by_more [] is ahead never = absurd (never refl)
      by_more (m ∷ ms) is ahead never =
          let s = last_split m ms in
          let f = t.popped.0 in
          let same : (base ++ s.0) ++ s.1 ∷ [] ≡ v.path.items ++ f ∷ [] =
          append_assoc base s.0 (s.1 ∷ []) ∙ ap (λ (fs : List Frame). base ++ fs) (sym s.2) ∙ sym is
          ∙ t.popped.1 in
          let both = same_from_push (base ++ s.0) v.path.items s.1 f same in
          record {
            more = s.0;
            is = sym both.0;
            ahead =
                s.3 goal v.place ahead (t.popped.3 ∙ ap (λ (g : Frame). g.at + 1) (sym both.1));
          }

  ended-goes : HasEnded w.turns.graph.now w.turns.targets.now w.path.items w.place v.path.items v.place → Goes
  ended-goes t = absurd (by_more h.more h.is (λ none. not-past none t.past))
    where
      by_more : (more : List Frame) → w.path.items ≡ base ++ more → (more ≡ [] → ⊥) → ⊥
      by_more [] is never = never refl
      by_more (m ∷ ms) is never = omega (arith, ap length (sym t.closed ∙ is), length-append base (m ∷ ms))

  pub turn-goes : (t : Turn) → TurnIs w t v → Goes
  turn-goes Looked t = looked-goes t
  turn-goes (Closed e phony) t = closed-goes e.0 phony t
  turn-goes Ended t = ended-goes t
