-- The walk over a list that grows. It is a walk over the grown targets, which begin with the list:
-- the targets, and then the validations of the edges that are done.
use Rattle.std.proofs.Common.{◌≡◌, ℕ, zero, suc, ◌+◌, ◌<◌, ◌≤◌, Bool, true, false, Option, Some, None, List}
use Rattle.std.proofs.Common.{[], ◌∷◌, ◌++◌, length, get_or, set, map, take, refl, sym, ap, subst, ◌∙◌, arith}
use Rattle.std.proofs.Common.{append_assoc, length-append}
use Rattle.std.specs.Prelude.{nat_eq, slice_get}
use Rattle.std.specs.List.{flat_map, list_any}
use Rattle.std.proofs.lemmas.List.{append-nil, length-map}
use Rattle.std.proofs.lemmas.List.Concat.{flat_map-append}
use Rattle.std.proofs.lemmas.Option.{slice_get_within}
use Rattle.nj_cycles.specs.Cycles.{IsRank}
use Rattle.nj_needs.specs.Marks.{without}
use Rattle.nj_needs.specs.Order.{made_by, unfolded, unfolded_row}
use Rattle.nj_edges.specs.Repeats.{each_once}
use Rattle.nj_needs.specs.Inside.Paths.{top_row, done_at, turns_left, IsLinked, IsStanding}
use Rattle.nj_needs.specs.declared.frame.Frame.{Frame}
use Rattle.nj_needs.proofs.Fronts.{IsFront, front-map, front-first, front-get, front-take, front-same}
use Rattle.nj_needs.proofs.Fronts.{first-append}
use Rattle.nj_needs.proofs.Members.{In, In-tail, In-append_right, Among}
use Rattle.nj_needs.proofs.Rounds.{next_round, with_checks, front-checks}
use Rattle.nj_needs.proofs.Steps.{same-pass, pass-comes, open-comes, open-turns, close-comes, close-turns}
use Rattle.nj_needs.proofs.Steps.{closed-done, closed-fresh, closed-within}
use Rattle.nj_needs.proofs.Striking.{In-first}
use Rattle.nj_needs.proofs.Turning.{turns_left-pass}
use Rattle.nj_needs.proofs.Walking.{top_row-push, done_at-open, done_at-pass, done_front, top-within}

-- nothing is left of the edges done
without-done : (done es : List ℕ) → ((x : ℕ) → In es x → In done x) → without done es ≡ []
without-done done [] all = refl
without-done done (e ∷ es) all = grind (arith, without-done done es (λ x i. all x (In-tail e es x i)))

-- the place of the list at which the walk is, or after which it continues
abbrev pub bottom : List Frame → (place : ℕ) → ℕ
bottom [] place = place
bottom (f ∷ path) place = f.at + 1

bottom-push : (path : List Frame) (f : Frame) (place next : ℕ) → f.at ≡ place → (n : ℕ)
    → bottom path place ≤ n → (path ≡ [] → place < n) → bottom (path ++ f ∷ []) next ≤ n
bottom-push path f place next here n le lt = grind arith

bottom-pop : (path : List Frame) (f : Frame) (place n : ℕ) → bottom (path ++ f ∷ []) place ≤ n
    → bottom path (f.at + 1) ≤ n
bottom-pop path f place n le = grind arith

bottom-pass : (path : List Frame) (place n : ℕ) → bottom path place ≤ n → (path ≡ [] → place < n)
    → bottom path (place + 1) ≤ n
bottom-pass path place n le lt = grind arith

-- files is the list so far, and all are the grown targets
pub record IsGrowing (X : Type 0) (makers : ℕ → List (Option ℕ)) (count : ℕ) (maker : X → Option ℕ)
    (checks : ℕ → List X) (targets all : List X)
    (files : List X) (path : List Frame) (place : ℕ) (flags : List Bool) : Type 0 where
  pub standing : IsStanding makers count (map maker all) path place flags
  pub grown : files ≡ with_checks X makers count maker checks targets
      (each_once nat_eq (done_at makers count (map maker all) path place))
  pub bottom : bottom path place ≤ length files

module _ (X : Type 0) (makers : ℕ → List (Option ℕ)) (count : ℕ) (rank : ℕ → ℕ)
    (ranked : IsRank makers count rank) (maker : X → Option ℕ) (checks : ℕ → List X) (targets all : List X)
    (inside : (m : ℕ) → Among (map maker all) m → m < count)
    (fixed : all ≡ next_round X makers count maker checks targets all) where
  abbrev row : List (Option ℕ)
  row = map maker all

  abbrev done : List Frame → ℕ → List ℕ
  done path place = done_at makers count row path place

  abbrev listed : List ℕ → List X
  listed es = with_checks X makers count maker checks targets es

  abbrev pub Growing : List X → List Frame → ℕ → List Bool → Type 0
  Growing files path place flags = IsGrowing X makers count maker checks targets all files path place flags

  -- the list is a prefix of the grown targets
  front-all : (path : List Frame) (place : ℕ) → IsLinked makers row path
      → IsFront (listed (each_once nat_eq (done path place))) all
  front-all path place linked =
      let r = done_front makers count rank ranked row inside path place linked in
      let f = front-checks X makers count maker checks targets (each_once nat_eq (done path place))
      (each_once nat_eq (unfolded_row makers count row))
      (front-first (done path place) (unfolded_row makers count row) r) in
      (f.0, fixed ∙ f.1)

  module _ (files : List X) (path : List Frame) (place : ℕ) (flags : List Bool)
      (h : Growing files path place flags) where
    front-files : IsFront files all
    front-files = subst (λ (xs : List X). IsFront xs all) (sym h.grown)
        (front-all path place h.standing.linked)

    -- each file that the walk finds in the list is in the grown targets
    pub found-all : (x : Option ℕ) → slice_get (top_row makers (map maker files) path) place ≡ Some x
        → slice_get (top_row makers row path) place ≡ Some x
    found-all x at = by path at
      where
        by : (fs : List Frame) → slice_get (top_row makers (map maker files) fs) place ≡ Some x
            → slice_get (top_row makers row fs) place ≡ Some x
        by [] at = front-get (map maker files) row (front-map maker files all front-files) place x at
        by (f ∷ fs) at = at

    -- and the place is in the list
    found-in : (x : Option ℕ) → slice_get (top_row makers (map maker files) path) place ≡ Some x → path ≡ []
        → place < length files
    found-in x at empty =
        let here : slice_get (map maker files) place ≡ Some x =
        ap (λ (fs : List Frame). slice_get (top_row makers (map maker files) fs) place) (sym empty) ∙ at
        in
        omega (arith, slice_get_within (map maker files) place x here, length-map files maker)

    -- an edge at that place is an edge of the graph
    pub found-below : (m : ℕ) → slice_get (top_row makers (map maker files) path) place ≡ Some (Some m)
        → m < count
    found-below m at = top-within makers count rank ranked row inside path place m (found-all (Some m) at)

    -- a place is passed
    module _ (x : Option ℕ) (at : slice_get (top_row makers (map maker files) path) place ≡ Some x)
        (flagged : (m : ℕ) → x ≡ Some m → get_or flags m false ≡ true) where
      all-done : (m : ℕ) → x ≡ Some m → In (done path place) m
      all-done m is = sym (h.standing.flagged m (found-below m (at ∙ ap Some is))) ∙ flagged m is

      passed-same : (y : ℕ) → list_any (nat_eq y) (done path place)
          ≡ list_any (nat_eq y) (done path (place + 1))
      passed-same = same-pass makers count rank ranked row inside path place x (found-all x at) all-done

      passed-first : each_once nat_eq (done path (place + 1)) ≡ each_once nat_eq (done path place)
      passed-first =
          let D = done path place in
          let us = made_by (unfolded makers count) x in
          let is = done_at-pass makers count row path place x (found-all x at) in
          let known : (y : ℕ) → In us y → In D y =
          λ y i. passed-same y ∙ ap (list_any (nat_eq y)) is ∙ In-append_right D us y i in
          ap (each_once nat_eq) is ∙ first-append D us
          ∙ ap (λ (es : List ℕ). each_once nat_eq D ++ es)
          (without-done D (each_once nat_eq us) (λ y i. known y (In-first us y i)))
          ∙ append-nil (each_once nat_eq D)

      pub growing-pass : Growing files path (place + 1) flags
      growing-pass = record {
        standing = pass-comes makers count rank ranked row inside path place flags x (found-all x at)
            passed-same h.standing;
        grown = h.grown ∙ ap listed (sym passed-first);
        bottom = bottom-pass path place (length files) h.bottom (found-in x at);
      }

      pub turns-pass : turns_left makers count row path place
          ≡ turns_left makers count row path (place + 1) + 1
      turns-pass = turns_left-pass makers count row path place
          (slice_get_within (top_row makers row path) place x (found-all x at)) passed-same

    -- an edge is opened
    module _ (f : Frame) (here : f.at ≡ place)
        (at : slice_get (top_row makers (map maker files) path) place ≡ Some (Some f.edge.0))
        (fresh : get_or flags f.edge.0 false ≡ false) where
      at-all : slice_get (top_row makers row path) f.at ≡ Some (Some f.edge.0)
      at-all = ap (slice_get (top_row makers row path)) here ∙ found-all (Some f.edge.0) at

      undone : list_any (nat_eq f.edge.0) (done path f.at) ≡ false
      undone = ap (λ p. list_any (nat_eq f.edge.0) (done path p)) here
          ∙ sym (h.standing.flagged f.edge.0 (found-below f.edge.0 at)) ∙ fresh

      pub growing-open : Growing files (path ++ f ∷ []) 0 flags
      growing-open = record {
        standing = open-comes makers count rank ranked row inside path f flags at-all undone
            (subst (λ p. IsStanding makers count row path p flags) (sym here) h.standing);
        grown = h.grown ∙ ap (λ (es : List ℕ). listed (each_once nat_eq es))
            (sym (done_at-open makers count row path f ∙ ap (done path) here));
        bottom = bottom-push path f place 0 here (length files) h.bottom (found-in (Some f.edge.0) at);
      }

      pub turns-open : turns_left makers count row path place
          ≡ turns_left makers count row (path ++ f ∷ []) 0 + 1
      turns-open = ap (turns_left makers count row path) (sym here)
          ∙ open-turns makers count rank ranked row inside path f h.standing.linked at-all undone

    -- nothing is left
    pub growing-end : ((others : List X) → others ≡ next_round X makers count maker checks targets others
        → IsFront all others) → path ≡ [] → slice_get (top_row makers (map maker files) path) place ≡ None
        → files ≡ all
    growing-end least empty past =
        let over : length (map maker files) ≤ place =
        past-end (map maker files) place (ap
        (λ (fs : List Frame). slice_get (top_row makers (map maker files) fs) place) (sym empty) ∙ past)
        in
        let low : place ≤ length files = subst (λ (fs : List Frame). bottom fs place ≤ length files) empty
        h.bottom in
        let is : place ≡ length (map maker files) = omega (arith, over, low, length-map files maker) in
        let taken : take place row ≡ map maker files =
        front-take (map maker files) row (front-map maker files all front-files) place is in
        let whole : done path place ≡ unfolded_row makers count (map maker files) =
        ap (λ (fs : List Frame). done fs place) empty ∙ ap (unfolded_row makers count) taken in
        let closed : files ≡ next_round X makers count maker checks targets files =
        h.grown ∙ ap (λ (es : List ℕ). listed (each_once nat_eq es)) whole in
        front-same files all front-files (least files closed)
      where
        past-end : (r : List (Option ℕ)) (p : ℕ) → slice_get r p ≡ None → length r ≤ p
        past-end [] p e = omega arith
        past-end (y ∷ r) zero e = absurd cc
        past-end (y ∷ r) (suc p) e = omega (arith, past-end r p e)

  -- an edge is closed
  module _ (files : List X) (path : List Frame) (f : Frame) (place : ℕ) (flags : List Bool)
      (h : Growing files (path ++ f ∷ []) place flags)
      (past : slice_get (top_row makers (map maker files) (path ++ f ∷ [])) place ≡ None) where
    past-all : slice_get (top_row makers row (path ++ f ∷ [])) place ≡ None
    past-all = ap (λ (r : List (Option ℕ)). slice_get r place)
        (top_row-push makers row path f ∙ sym (top_row-push makers (map maker files) path f)) ∙ past

    pub closed-below : f.edge.0 < count
    closed-below = closed-within makers count rank ranked row inside path f place flags h.standing past-all

    pub growing-close : Growing (files ++ checks f.edge.0) path (f.at + 1) (set flags f.edge.0 true)
    growing-close =
        let D = done (path ++ f ∷ []) place in
        let e = f.edge.0 in
        let fresh : list_any (nat_eq e) D ≡ false =
        closed-fresh makers count rank ranked row inside path f place flags h.standing past-all in
        let single : without D (each_once nat_eq (e ∷ [])) ≡ e ∷ [] = rw fresh refl in
        let firsts : each_once nat_eq (done path (f.at + 1)) ≡ each_once nat_eq D ++ e ∷ [] =
        ap (each_once nat_eq) (closed-done makers count rank ranked row inside path f place flags h.standing
        past-all) ∙ first-append D (e ∷ []) ∙ ap (λ (es : List ℕ). each_once nat_eq D ++ es) single in
        record {
          standing = close-comes makers count rank ranked row inside path f place flags h.standing past-all;
          grown = ap (λ (xs : List X). xs ++ checks e) h.grown
              ∙ append_assoc targets (flat_map checks (each_once nat_eq D)) (checks e)
              ∙ ap (λ (xs : List X). targets ++ (flat_map checks (each_once nat_eq D) ++ xs))
              (sym (append-nil (checks e)))
              ∙ ap (λ (xs : List X). targets ++ xs)
              (sym (flat_map-append checks (each_once nat_eq D) (e ∷ [])))
              ∙ ap listed (sym firsts);
          bottom = omega (
            arith,
            bottom-pop path f place (length files) h.bottom,
            length-append files (checks e),
          );
        }

    pub turns-close : turns_left makers count row (path ++ f ∷ []) place
        ≡ turns_left makers count row path (f.at + 1) + 1
    turns-close = close-turns makers count rank ranked row inside path f place flags h.standing past-all

  -- the walk begins
  pub growing-start : (flags : List Bool) → length flags ≡ count
      → ((e : ℕ) → e < count → get_or flags e false ≡ false) → Growing targets [] 0 flags
  growing-start flags len clear = record {
    standing = record {
      linked = tt;
      place_in = omega arith;
      undone = λ e i. absurd cc;
      flags_len = len;
      flagged = λ e lt. clear e lt;
    };
    grown = sym (append-nil targets);
    bottom = omega arith;
  }
