-- The four turns of a walk, on its parts.
use Rattle.std.proofs.Common.{◌≡◌, ℕ, zero, suc, ◌+◌, ◌<◌, ◌≤◌, Bool, true, false, Option, Some, None, List}
use Rattle.std.proofs.Common.{[], ◌∷◌, ◌++◌, length, get_or, set, refl, sym, ap, subst, ◌∙◌, inl, inr, arith}
use Rattle.std.specs.Prelude.{nat_eq, slice_get}
use Rattle.std.specs.List.{list_any}
use Rattle.std.proofs.lemmas.Option.{slice_get_within, same_Some}
use Rattle.nj_names.specs.declared.files.FileNo.{FileNo}
use Rattle.nj_edges.specs.declared.edges.EdgeNo.{EdgeNo}
use Rattle.nj_edges.specs.EdgeGraphs.{EdgeGraph}
use Rattle.nj_needs.specs.Counts.{saturated}
use Rattle.nj_needs.specs.Inside.Tops.{counted}
use Rattle.nj_needs.specs.Graphs.{row_of, makers_of, count_of, is_phony}
use Rattle.nj_needs.specs.Inside.Tops.{row_in}
use Rattle.nj_needs.specs.Marks.{done, without, edge_at}
use Rattle.nj_needs.specs.Inside.Paths.{IsLinked, places, IsStanding}
use Rattle.nj_needs.specs.Inside.Reserved.{Reserved}
use Rattle.nj_needs.specs.Inside.Tops.{IsTop}
use Rattle.nj_needs.specs.Walks.{bound_of, commands_of, number_of}
use Rattle.nj_needs.specs.Inside.Standing.{left_of, turns_left_of, done_of, top_of, IsWalkAt, HasLooked}
use Rattle.nj_needs.specs.Inside.Standing.{HasClosed, HasEnded}
use Rattle.nj_needs.specs.declared.frame.Frame.{Frame}
use Rattle.nj_needs.proofs.Members.{In, Among, Contains-from_Among}
use Rattle.nj_needs.proofs.Addresses.{done-places, edge_at-places}
use Rattle.nj_needs.proofs.Steps.{same-pass, pass-comes, left-same, open-comes, open-turns, close-comes}
use Rattle.nj_needs.proofs.Steps.{close-left, close-turns, closed-fresh, closed-within, end-left, end-turns}
use Rattle.nj_needs.proofs.Steps.{closed-done}
use Rattle.nj_needs.proofs.Turning.{turns_left-pass}
use Rattle.nj_needs.proofs.Walking.{done_at-open, top-within, path-capacity, Below-targets, IsLinked-pop}
use Rattle.nj_needs.proofs.Walking.{top_row-push}

counted-more : (total : ℕ) → counted (saturated total) ≡ saturated (total + 1)
counted-more total = omega arith

module _ (g : EdgeGraph) (targets : List FileNo) (turns : ℕ) (path : Reserved Frame) (place : ℕ)
    (flags : List Bool) (begun : ℕ) (h : IsWalkAt g targets turns path place flags begun) where
  rank : ℕ → ℕ
  rank = h.acyclic.0

  inside : (m : ℕ) → Among (row_of g targets) m → m < count_of g
  inside m a = h.inside m (Contains-from_Among (row_of g targets) m a)

  -- one turn is counted, and one less is left
  more : (after : Reserved Frame) (next : ℕ)
      → turns_left_of g targets path.items place ≡ turns_left_of g targets after.items next + 1
      → (total : ℕ) × (counted turns ≡ saturated total)
      × (total + turns_left_of g targets after.items next ≡ bound_of g targets + begun)
  more after next e =
      let t = h.counted in
      (t.0 + 1, ap counted t.1 ∙ counted-more t.0, omega (arith, e, t.2))

  -- an edge at the place is an edge of the graph
  pub top-edge_within : (p m : ℕ) → slice_get (top_of g targets path.items) p ≡ Some (Some m) → m < count_of g
  top-edge_within p m at = top-within (makers_of g) (count_of g) h.acyclic.0 h.acyclic.1 (row_of g targets)
      inside path.items p m at

  -- a place is passed
  module _ (x : Option ℕ) (at : slice_get (top_of g targets path.items) place ≡ Some x)
      (all : (m : ℕ) → x ≡ Some m → In (done_of g targets path.items place) m) where
    passed-same : (y : ℕ) → list_any (nat_eq y) (done_of g targets path.items place)
        ≡ list_any (nat_eq y) (done_of g targets path.items (place + 1))
    passed-same = same-pass (makers_of g) (count_of g) h.acyclic.0 h.acyclic.1 (row_of g targets) inside
        path.items place x at all

    passed-turn : turns_left_of g targets path.items place
        ≡ turns_left_of g targets path.items (place + 1) + 1
    passed-turn = turns_left-pass (makers_of g) (count_of g) (row_of g targets) path.items place
        (slice_get_within (top_of g targets path.items) place x at) passed-same

    pub walk-pass : IsWalkAt g targets (counted turns) path (place + 1) flags begun
    walk-pass = record {
      acyclic = h.acyclic;
      inside = h.inside;
      standing = pass-comes (makers_of g) (count_of g) h.acyclic.0 h.acyclic.1 (row_of g targets) inside
          path.items place flags x at passed-same h.standing;
      capacity = h.capacity;
      counted = more path (place + 1) passed-turn;
    }

    pub turn-pass : HasLooked g targets path.items place path.items (place + 1)
    turn-pass = record {
      left = sym (left-same (makers_of g) (count_of g) h.acyclic.0 h.acyclic.1 (row_of g targets) inside
          (is_phony g) path.items path.items place (place + 1) passed-same);
      turn = passed-turn;
      moved = inl (refl, refl, λ m here. all m (same_Some x (Some m) (sym at ∙ here)));
    }

  -- an edge is opened
  module _ (f : Frame) (after : Reserved Frame) (grown : after.items ≡ path.items ++ f ∷ [])
      (same_capacity : after.capacity ≡ path.capacity) (here : f.at ≡ place)
      (at : slice_get (top_of g targets path.items) place ≡ Some (Some f.edge.0))
      (fresh : get_or flags f.edge.0 false ≡ false) where
    at' : slice_get (top_of g targets path.items) f.at ≡ Some (Some f.edge.0)
    at' = ap (slice_get (top_of g targets path.items)) here ∙ at

    fresh' : list_any (nat_eq f.edge.0) (done_of g targets path.items f.at) ≡ false
    fresh' = ap (λ p. list_any (nat_eq f.edge.0) (done_of g targets path.items p)) here
        ∙ sym (h.standing.flagged f.edge.0 (top-edge_within place f.edge.0 at)) ∙ fresh

    opened-turn : turns_left_of g targets path.items place ≡ turns_left_of g targets after.items 0 + 1
    opened-turn =
        ap (turns_left_of g targets path.items) (sym here)
        ∙ open-turns (makers_of g) (count_of g) h.acyclic.0 h.acyclic.1 (row_of g targets) inside path.items f
        h.standing.linked at' fresh'
        ∙ ap (λ (fs : List Frame). turns_left_of g targets fs 0 + 1) (sym grown)

    pub walk-open : IsWalkAt g targets (counted turns) after 0 flags begun
    walk-open = record {
      acyclic = h.acyclic;
      inside = h.inside;
      standing = subst (λ (fs : List Frame). IsStanding (makers_of g) (count_of g) (row_of g targets) fs 0
          flags) (sym grown)
          (open-comes (makers_of g) (count_of g) h.acyclic.0 h.acyclic.1 (row_of g targets) inside path.items
          f flags at' fresh'
          (subst (λ p. IsStanding (makers_of g) (count_of g) (row_of g targets) path.items p flags) (sym here)
          h.standing));
      capacity = omega (arith, h.capacity, same_capacity);
      counted = more after 0 opened-turn;
    }

    pub turn-open : HasLooked g targets path.items place after.items 0
    turn-open = record {
      left = ap (λ (fs : List Frame). left_of g targets fs 0) grown
          ∙ ap (λ (es : List ℕ). without es (commands_of g targets))
          (done_at-open (makers_of g) (count_of g) (row_of g targets) path.items f
          ∙ ap (done_of g targets path.items) here);
      turn = opened-turn;
      moved = inr (f, grown, here, refl);
    }

  -- one more can be opened
  pub capacity-open : (p m : ℕ) → slice_get (top_of g targets path.items) p ≡ Some (Some m)
      → length path.items < path.capacity
  capacity-open p m at =
      let short : length path.items < count_of g =
      path-capacity (makers_of g) (count_of g) h.acyclic.0 h.acyclic.1 (count_of g) (row_of g targets)
      (Below-targets (makers_of g) (count_of g) h.acyclic.0 h.acyclic.1 (row_of g targets) inside)
      path.items h.standing.linked p m at in
      omega (arith, short, h.capacity)

  -- an edge is closed
  module _ (f : Frame) (after : Reserved Frame) (shrunk : path.items ≡ after.items ++ f ∷ [])
      (same_capacity : after.capacity ≡ path.capacity)
      (past : slice_get (top_of g targets path.items) place ≡ None) where
    stood : IsStanding (makers_of g) (count_of g) (row_of g targets) (after.items ++ f ∷ []) place flags
    stood = subst (λ (fs : List Frame). IsStanding (makers_of g) (count_of g) (row_of g targets) fs place
        flags) shrunk h.standing

    past' : slice_get (top_of g targets (after.items ++ f ∷ [])) place ≡ None
    past' = ap (λ (fs : List Frame). slice_get (top_of g targets fs) place) (sym shrunk) ∙ past

    closed-turn : turns_left_of g targets path.items place
        ≡ turns_left_of g targets after.items (f.at + 1) + 1
    closed-turn =
        ap (λ (fs : List Frame). turns_left_of g targets fs place) shrunk
        ∙ close-turns (makers_of g) (count_of g) h.acyclic.0 h.acyclic.1 (row_of g targets) inside after.items
        f place flags stood past'

    pub close-within : f.edge.0 < count_of g
    close-within = closed-within (makers_of g) (count_of g) h.acyclic.0 h.acyclic.1 (row_of g targets) inside
        after.items f place flags stood past'

    pub walk-close : IsWalkAt g targets (counted turns) after (f.at + 1) (set flags f.edge.0 true) begun
    walk-close = record {
      acyclic = h.acyclic;
      inside = h.inside;
      standing = close-comes (makers_of g) (count_of g) h.acyclic.0 h.acyclic.1 (row_of g targets) inside
          after.items f place flags stood past';
      capacity = omega (arith, h.capacity, same_capacity);
      counted = more after (f.at + 1) closed-turn;
    }

    -- its address represents the edges done now
    address-done : done (makers_of g) (count_of g) (row_of g targets) (places path.items)
        ≡ done_of g targets after.items (f.at + 1)
    address-done =
        ap (λ (fs : List Frame). done (makers_of g) (count_of g) (row_of g targets) (places fs)) shrunk
        ∙ done-places (makers_of g) (count_of g) (row_of g targets) after.items f stood.linked

    pub turn-close : HasClosed g targets path.items place after.items (f.at + 1) f.edge.0
        (is_phony g f.edge.0)
    turn-close = record {
      popped = (f, shrunk, refl, refl);
      left = ap (λ (fs : List Frame). left_of g targets fs place) shrunk
          ∙ close-left (makers_of g) (count_of g) h.acyclic.0 h.acyclic.1 (row_of g targets) inside
          after.items f place flags stood past' (is_phony g);
      turn = closed-turn;
      rest = ap (λ (es : List ℕ). without es (commands_of g targets)) address-done;
      first = (
        ap (λ (fs : List Frame). edge_at (makers_of g) (row_of g targets) (places fs)) shrunk
            ∙ edge_at-places (makers_of g) (count_of g) (row_of g targets) after.items f stood.linked,
        (
          done_of g targets (after.items ++ f ∷ []) place,
          address-done ∙ closed-done (makers_of g) (count_of g) h.acyclic.0 h.acyclic.1 (row_of g targets)
              inside after.items f place flags stood past',
          closed-fresh (makers_of g) (count_of g) h.acyclic.0 h.acyclic.1 (row_of g targets) inside
              after.items f place flags stood past',
        ),
      );
      past = past;
      short =
          let r = IsLinked-pop (makers_of g) (row_of g targets) after.items f stood.linked in
          path-capacity (makers_of g) (count_of g) h.acyclic.0 h.acyclic.1 (count_of g) (row_of g targets)
          (Below-targets (makers_of g) (count_of g) h.acyclic.0 h.acyclic.1 (row_of g targets) inside)
          after.items r.0 f.at f.edge.0 r.1;
    }

  -- nothing is left
  module _ (empty : path.items ≡ []) (past : slice_get (top_of g targets path.items) place ≡ None) where
    pub turn-end : (after : List Frame) → after ≡ path.items → HasEnded g targets path.items place after place
    turn-end after same =
        let over : length (row_of g targets) ≤ place =
        past-end (row_of g targets) place (ap (λ (fs : List Frame). slice_get (top_of g targets fs) place)
        (sym empty) ∙ past) in
        record {
          path_stays = same;
          place_stays = refl;
          closed = empty;
          left = ap (λ (fs : List Frame). left_of g targets fs place) empty
              ∙ end-left (makers_of g) (count_of g) h.acyclic.0 h.acyclic.1 (row_of g targets) inside place
              over (is_phony g);
          turns = ap (λ (fs : List Frame). turns_left_of g targets fs place) empty
              ∙ end-turns (makers_of g) (count_of g) h.acyclic.0 h.acyclic.1 (row_of g targets) inside place
              over;
          past = past;
        }
      where
        past-end : (r : List (Option ℕ)) (p : ℕ) → slice_get r p ≡ None → length r ≤ p
        past-end [] p e = omega arith
        past-end (y ∷ r) zero e = absurd cc
        past-end (y ∷ r) (suc p) e = omega (arith, past-end r p e)

-- the row in which the last open edge has the walk look
pub row-top : (g : EdgeGraph) (targets : List FileNo) (path : List Frame) (edge : Option EdgeNo)
    → IsTop path edge → row_in g targets edge ≡ top_of g targets path
row-top g targets path edge empty = grind (arith, top_row-push)

pub top-is_edge : (g : EdgeGraph) (targets : List FileNo) (turns : ℕ) (path : Reserved Frame) (place : ℕ)
    (flags : List Bool) (begun : ℕ) → IsWalkAt g targets turns path place flags begun
    → (edge : Option EdgeNo) → IsTop path.items edge → (e : EdgeNo) → edge ≡ Some e → e.0 < count_of g
top-is_edge g targets turns path place flags begun h None top e is = absurd cc
top-is_edge g targets turns path place flags begun h (Some x) top e is =
    let linked : IsLinked (makers_of g) (row_of g targets) (top.0 ++ top.1 ∷ []) =
    subst (IsLinked (makers_of g) (row_of g targets)) top.2 h.standing.linked in
    let r = IsLinked-pop (makers_of g) (row_of g targets) top.0 top.1 linked in
    let low : top.1.edge.0 < count_of g =
    top-within (makers_of g) (count_of g) h.acyclic.0 h.acyclic.1 (row_of g targets)
    (λ m a. h.inside m (Contains-from_Among (row_of g targets) m a)) top.0 top.1.at top.1.edge.0 r.1 in
    subst (λ (y : EdgeNo). y.0 < count_of g) (top.3 ∙ same_Some x e is) low

-- a maker with a number is the edge with this number
pub numbered : (maker : Option EdgeNo) (m : ℕ) → number_of maker ≡ Some m
    → (e : EdgeNo) × (maker ≡ Some e) × (e.0 ≡ m)
numbered None m is = absurd cc
numbered (Some e) m is = (e, refl, same_Some e.0 m is)
