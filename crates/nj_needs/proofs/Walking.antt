-- The edges done where a walk is, and each turn: a place is passed, an edge is opened, an edge is
-- closed.
use Rattle.std.proofs.Common.{◌≡◌, ℕ, ◌+◌, ◌<◌, ◌≤◌, Option, Some, List, [], ◌∷◌, ◌++◌, length, take, drop}
use Rattle.std.proofs.Common.{refl, sym, ap, subst, ◌∙◌, inl, inr, arith, append_assoc}
use Rattle.std.specs.Prelude.{slice_get}
use Rattle.std.specs.List.{flat_map}
use Rattle.std.proofs.lemmas.List.{append-nil, take-append-drop, take_more, drop_more, take_all}
use Rattle.std.proofs.lemmas.List.Concat.{flat_map-append}
use Rattle.std.proofs.lemmas.Option.{slice_get_within, get_or_from_slice_get}
use Rattle.nj_cycles.specs.Cycles.{IsRank}
use Rattle.nj_needs.specs.Order.{made_by, unfolded, unfolded_row}
use Rattle.nj_needs.specs.Inside.Paths.{top_row, IsLinked, done_at, opened}
use Rattle.nj_needs.specs.declared.frame.Frame.{Frame}
use Rattle.nj_needs.proofs.Members.{In, In-append_left, In-append_right, In-append_cases, In-cons_cases}
use Rattle.nj_needs.proofs.Members.{Among, Among-get, Among-take}
use Rattle.nj_needs.proofs.Unfolding.{In-row_from, In-unfolded, falls, within, unfolded-row, closed_row}

module _ (makers : ℕ → List (Option ℕ)) where
  -- an edge on top of the path
  pub top_row-push : (row : List (Option ℕ)) (path : List Frame) (f : Frame)
      → top_row makers row (path ++ f ∷ []) ≡ makers f.edge.0
  top_row-push row [] f = refl
  top_row-push row (g ∷ path) f = top_row-push (makers g.edge.0) path f

  pub IsLinked-push : (row : List (Option ℕ)) (path : List Frame) (f : Frame) → IsLinked makers row path
      → slice_get (top_row makers row path) f.at ≡ Some (Some f.edge.0) → IsLinked makers row (path ++ f ∷ [])
  IsLinked-push row [] f h at = (at, tt)
  IsLinked-push row (g ∷ path) f h at = (h.0, IsLinked-push (makers g.edge.0) path f h.1 at)

  pub IsLinked-pop : (row : List (Option ℕ)) (path : List Frame) (f : Frame)
      → IsLinked makers row (path ++ f ∷ [])
      → IsLinked makers row path × (slice_get (top_row makers row path) f.at ≡ Some (Some f.edge.0))
  IsLinked-pop row [] f h = (tt, h.0)
  IsLinked-pop row (g ∷ path) f h = let r = IsLinked-pop (makers g.edge.0) path f h.1 in ((h.0, r.0), r.1)

module _ (makers : ℕ → List (Option ℕ)) (count : ℕ) where
  pub done_at-push : (row : List (Option ℕ)) (path : List Frame) (f : Frame) (place : ℕ)
      → done_at makers count row (path ++ f ∷ []) place
      ≡ done_at makers count row path f.at ++ unfolded_row makers count (take place (makers f.edge.0))
  done_at-push row [] f place = refl
  done_at-push row (g ∷ path) f place =
      ap (λ (us : List ℕ). unfolded_row makers count (take g.at row) ++ us)
      (done_at-push (makers g.edge.0) path f place)
      ∙ sym (append_assoc (unfolded_row makers count (take g.at row))
      (done_at makers count (makers g.edge.0) path f.at)
      (unfolded_row makers count (take place (makers f.edge.0))))

  pub done_at-open : (row : List (Option ℕ)) (path : List Frame) (f : Frame)
      → done_at makers count row (path ++ f ∷ []) 0 ≡ done_at makers count row path f.at
  done_at-open row path f = done_at-push row path f 0 ∙ append-nil (done_at makers count row path f.at)

  row_more : (row : List (Option ℕ)) (place : ℕ) (x : Option ℕ) → slice_get row place ≡ Some x
      → unfolded_row makers count (take (place + 1) row)
      ≡ unfolded_row makers count (take place row) ++ made_by (unfolded makers count) x
  row_more row place x at =
      let F = made_by (unfolded makers count) in
      let taken : take (place + 1) row ≡ take place row ++ x ∷ [] =
      take_more row place x (slice_get_within row place x at)
      ∙ ap (λ (y : Option ℕ). take place row ++ y ∷ []) (get_or_from_slice_get row place x x at) in
      ap (flat_map F) taken ∙ flat_map-append F (take place row) (x ∷ [])
      ∙ ap (λ (us : List ℕ). flat_map F (take place row) ++ us) (append-nil (F x))

  -- a place is passed
  pub done_at-pass : (row : List (Option ℕ)) (path : List Frame) (place : ℕ) (x : Option ℕ)
      → slice_get (top_row makers row path) place ≡ Some x
      → done_at makers count row path (place + 1)
      ≡ done_at makers count row path place ++ made_by (unfolded makers count) x
  done_at-pass row [] place x at = row_more row place x at
  done_at-pass row (g ∷ path) place x at =
      ap (λ (us : List ℕ). unfolded_row makers count (take g.at row) ++ us)
      (done_at-pass (makers g.edge.0) path place x at)
      ∙ sym (append_assoc (unfolded_row makers count (take g.at row))
      (done_at makers count (makers g.edge.0) path place) (made_by (unfolded makers count) x))

module _ (makers : ℕ → List (Option ℕ)) (count : ℕ) (rank : ℕ → ℕ) (ranked : IsRank makers count rank) where
  -- the edges of a row are below a rank
  abbrev pub Below : ℕ → List (Option ℕ) → Type 0
  Below bound row = (m : ℕ) → Among row m → rank m < bound

  pub Below-makers : (e : ℕ) → Below (rank e) (makers e)
  Below-makers e m a = falls makers count rank ranked e m a

  -- the rank falls along the path, to the edges in its row
  pub rank-top : (bound : ℕ) (row : List (Option ℕ)) → Below bound row → (path : List Frame)
      → IsLinked makers row path
      → (p m : ℕ) → slice_get (top_row makers row path) p ≡ Some (Some m) → rank m < bound
  rank-top bound row below [] h p m at = below m (Among-get row p m at)
  rank-top bound row below (f ∷ path) h p m at =
      let here : rank f.edge.0 < bound = below f.edge.0 (Among-get row f.at f.edge.0 h.0) in
      let deep : rank m < rank f.edge.0 =
      rank-top (rank f.edge.0) (makers f.edge.0) (Below-makers f.edge.0) path h.1 p m at in
      omega (arith, here, deep)

  pub rank-opened : (row : List (Option ℕ)) (path : List Frame) → IsLinked makers row path
      → (p m : ℕ) → slice_get (top_row makers row path) p ≡ Some (Some m) → (x : ℕ) → In (opened path) x
      → rank m < rank x
  rank-opened row [] h p m at x i = absurd cc
  rank-opened row (f ∷ path) h p m at x i = elim (In-cons_cases f.edge.0 (opened path) x i) [
    | inl is ↦ subst (λ y. rank m < rank y) (sym is)
        (rank-top (rank f.edge.0) (makers f.edge.0) (Below-makers f.edge.0) path h.1 p m at)
    | inr t ↦ rank-opened (makers f.edge.0) path h.1 p m at x t
  ]

  pub path-short : (bound : ℕ) (row : List (Option ℕ)) → Below bound row → (path : List Frame)
      → IsLinked makers row path → length path ≤ bound
  path-short bound row below [] h = omega arith
  path-short bound row below (f ∷ path) h =
      let here : rank f.edge.0 < bound = below f.edge.0 (Among-get row f.at f.edge.0 h.0) in
      let deep : length path ≤ rank f.edge.0 =
      path-short (rank f.edge.0) (makers f.edge.0) (Below-makers f.edge.0) path h.1 in
      omega (arith, here, deep)

  pub path-capacity : (bound : ℕ) (row : List (Option ℕ)) → Below bound row → (path : List Frame)
      → IsLinked makers row path
      → (p m : ℕ) → slice_get (top_row makers row path) p ≡ Some (Some m) → length path < bound
  path-capacity bound row below [] h p m at = omega (arith, below m (Among-get row p m at))
  path-capacity bound row below (f ∷ path) h p m at =
      let here : rank f.edge.0 < bound = below f.edge.0 (Among-get row f.at f.edge.0 h.0) in
      let deep : length path < rank f.edge.0 =
      path-capacity (rank f.edge.0) (makers f.edge.0) (Below-makers f.edge.0) path h.1 p m at in
      omega (arith, here, deep)

  module _ (row₀ : List (Option ℕ)) (inside₀ : (m : ℕ) → Among row₀ m → m < count) where
    pub Below-targets : Below count row₀
    Below-targets m a = ranked.bounded m (inside₀ m a)

  -- an edge in the row on top is an edge of the graph, and an edge of the unfolded order
  pub top-within : (row : List (Option ℕ)) → ((m : ℕ) → Among row m → m < count) → (path : List Frame)
      → (p m : ℕ) → slice_get (top_row makers row path) p ≡ Some (Some m) → m < count
  top-within row inside [] p m at = inside m (Among-get row p m at)
  top-within row inside (f ∷ path) p m at =
      top-within (makers f.edge.0) (within makers count rank ranked f.edge.0) path p m at

  pub top-in_order : (row : List (Option ℕ)) → ((m : ℕ) → Among row m → m < count) → (path : List Frame)
      → IsLinked makers row path
      → (p m : ℕ) → slice_get (top_row makers row path) p ≡ Some (Some m)
      → In (unfolded_row makers count row) m
  top-in_order row inside [] h p m at = In-row_from (unfolded makers count) row m m (Among-get row p m at)
      (In-unfolded makers count m)
  top-in_order row inside (f ∷ path) h p m at =
      let a = Among-get row f.at f.edge.0 h.0 in
      let U = unfolded makers count in
      let deep : In (unfolded_row makers count (makers f.edge.0)) m =
      top-in_order (makers f.edge.0) (within makers count rank ranked f.edge.0) path h.1 p m at in
      let own : In (U f.edge.0) m = subst (λ us. In us m)
      (sym (unfolded-row makers count rank ranked f.edge.0 (inside f.edge.0 a)))
      (In-append_left (unfolded_row makers count (makers f.edge.0)) (f.edge.0 ∷ []) m deep) in
      In-row_from U row f.edge.0 m a own

  -- the edges done contain the edges that they need
  pub done_closed : (row : List (Option ℕ)) → ((m : ℕ) → Among row m → m < count)
      → (path : List Frame) (place : ℕ) (x y : ℕ)
      → In (done_at makers count row path place) x → In (unfolded makers count x) y
      → In (done_at makers count row path place) y
  done_closed row inside [] place x y i j =
      closed_row makers count rank ranked (take place row) (λ m a. inside m (Among-take place row m a)) x y i
      j
  done_closed row inside (f ∷ path) place x y i j =
      let front = unfolded_row makers count (take f.at row) in
      let deep = done_at makers count (makers f.edge.0) path place in
      elim (In-append_cases front deep x i) [
        | inl here ↦ In-append_left front deep y
            (closed_row makers count rank ranked (take f.at row) (λ m a. inside m (Among-take f.at row m a)) x
            y here j)
        | inr there ↦ In-append_right front deep y
            (done_closed (makers f.edge.0) (within makers count rank ranked f.edge.0) path place x y there j)
      ]

  -- the edges done are a prefix of the unfolded order
  pub done_front : (row : List (Option ℕ)) → ((m : ℕ) → Among row m → m < count)
      → (path : List Frame) (place : ℕ) → IsLinked makers row path
      → (more : List ℕ) × (unfolded_row makers count row ≡ done_at makers count row path place ++ more)
  done_front row inside [] place h =
      let F = made_by (unfolded makers count) in (
        flat_map F (drop place row),
        ap (flat_map F) (sym (take-append-drop place row))
            ∙ flat_map-append F (take place row) (drop place row),
      )
  done_front row inside (f ∷ path) place h =
      let F = made_by (unfolded makers count) in
      let r = done_front (makers f.edge.0) (within makers count rank ranked f.edge.0) path place h.1 in
      let lt : f.at < length row = slice_get_within row f.at (Some f.edge.0) h.0 in
      let own : f.edge.0 < count = inside f.edge.0 (Among-get row f.at f.edge.0 h.0) in
      let after = flat_map F (drop (f.at + 1) row) in
      let front = unfolded_row makers count (take f.at row) in
      let deep = done_at makers count (makers f.edge.0) path place in
      let opened_row : drop f.at row ≡ Some f.edge.0 ∷ drop (f.at + 1) row =
      drop_more row f.at (Some f.edge.0) lt ∙ ap (λ (x : Option ℕ). x ∷ drop (f.at + 1) row)
      (get_or_from_slice_get row f.at (Some f.edge.0) (Some f.edge.0) h.0) in
      let mine : unfolded makers count f.edge.0 ≡ deep ++ (r.0 ++ f.edge.0 ∷ []) =
      unfolded-row makers count rank ranked f.edge.0 own ∙ ap (λ (us : List ℕ). us ++ f.edge.0 ∷ []) r.1
      ∙ append_assoc deep r.0 (f.edge.0 ∷ []) in
      let whole : unfolded_row makers count row ≡ front ++ ((deep ++ (r.0 ++ f.edge.0 ∷ [])) ++ after) =
      ap (flat_map F) (sym (take-append-drop f.at row)) ∙ flat_map-append F (take f.at row) (drop f.at row)
      ∙ ap (λ (os : List (Option ℕ)). front ++ flat_map F os) opened_row
      ∙ ap (λ (us : List ℕ). front ++ (us ++ after)) mine in (
        (r.0 ++ f.edge.0 ∷ []) ++ after,
        whole ∙ ap (λ (us : List ℕ). front ++ us) (append_assoc deep (r.0 ++ f.edge.0 ∷ []) after)
            ∙ sym (append_assoc front deep ((r.0 ++ f.edge.0 ∷ []) ++ after)),
      )

  -- an edge is closed
  pub done_at-close : (row : List (Option ℕ)) → ((m : ℕ) → Among row m → m < count)
      → (path : List Frame) (f : Frame) (place : ℕ) → IsLinked makers row (path ++ f ∷ [])
      → length (makers f.edge.0) ≤ place
      → done_at makers count row path (f.at + 1)
      ≡ done_at makers count row (path ++ f ∷ []) place ++ f.edge.0 ∷ []
  done_at-close row inside path f place h past =
      let r = IsLinked-pop makers row path f h in
      let own : f.edge.0 < count = top-within row inside path f.at f.edge.0 r.1 in
      let before = done_at makers count row path f.at in
      let mine = unfolded_row makers count (makers f.edge.0) in
      let all : take place (makers f.edge.0) ≡ makers f.edge.0 = take_all place (makers f.edge.0) past in
      done_at-pass makers count row path f.at (Some f.edge.0) r.1
      ∙ ap (λ (us : List ℕ). before ++ us) (unfolded-row makers count rank ranked f.edge.0 own)
      ∙ sym (append_assoc before mine (f.edge.0 ∷ []))
      ∙ ap (λ (us : List ℕ). us ++ f.edge.0 ∷ [])
      (ap (λ (os : List (Option ℕ)). before ++ unfolded_row makers count os) (sym all)
      ∙ sym (done_at-push makers count row path f place))
