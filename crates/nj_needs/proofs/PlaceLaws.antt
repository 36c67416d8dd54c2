-- An edge has exactly one first place: two addresses of it are the same.
use Rattle.std.proofs.Common.{◌≡◌, ℕ, suc, ◌+◌, ◌<◌, ◌≤◌, Bool, true, false, ◌&&◌, Option, Some, None, List}
use Rattle.std.proofs.Common.{[], ◌∷◌, ◌++◌, length, get_or, take, drop, refl, sym, ap, subst, ◌∙◌, inl, inr}
use Rattle.std.proofs.Common.{arith, append_assoc}
use Rattle.std.specs.Prelude.{nat_eq, slice_get, is_some}
use Rattle.std.specs.List.{flat_map, list_any}
use Rattle.std.proofs.lemmas.Bool.{cases_order}
use Rattle.std.proofs.lemmas.List.{take-append-drop, take-take, length-append}
use Rattle.std.proofs.lemmas.Option.{same_Some}
use Rattle.std.proofs.lemmas.List.Concat.{flat_map-append}
use Rattle.nj_cycles.specs.Cycles.{IsRank}
use Rattle.nj_needs.specs.Order.{made_by, unfolded, unfolded_row}
use Rattle.nj_needs.specs.Marks.{is_valid, edge_at, done}
use Rattle.nj_needs.specs.Laws.{FirstPlacesAreOne}
use Rattle.nj_needs.proofs.Members.{In-tail, Among, Among-get, Contains-from_Among}
use Rattle.nj_needs.proofs.Unfolding.{within, unfolded-row}
use Rattle.nj_needs.proofs.Walking.{done_at-pass}
use Rattle.nj_needs.proofs.ResumeLemmas.{valid-step, inputs-some}

-- where an element first occurs
first_split : (e : ℕ) (xs ys m n : List ℕ) → xs ++ e ∷ m ≡ ys ++ e ∷ n → list_any (nat_eq e) xs ≡ false
    → list_any (nat_eq e) ys ≡ false → length xs ≡ length ys
first_split e [] [] m n is f g = refl
first_split e [] (y ∷ ys) m n is f g = grind arith
first_split e (x ∷ xs) [] m n is f g = grind arith
first_split e (x ∷ xs) (y ∷ ys) m n is f g =
    let rest : xs ++ e ∷ m ≡ ys ++ e ∷ n = cc in
    ap suc (first_split e xs ys m n rest (later x xs f) (later y ys g))
  where
    later : (z : ℕ) (zs : List ℕ) → list_any (nat_eq e) (z ∷ zs) ≡ false → list_any (nat_eq e) zs ≡ false
    later z zs h = elim_test (list_any (nat_eq e) zs) refl
      where
        elim_test : (b : Bool) → list_any (nat_eq e) zs ≡ b → b ≡ false
        elim_test true is = absurd (let i = In-tail z zs e is in cc)
        elim_test false is = refl

module _ (makers : ℕ → List (Option ℕ)) where
  nowhere : (mark : List ℕ) (e : ℕ) → edge_at makers [] mark ≡ Some e → ⊥
  nowhere [] e h = cc
  nowhere (p ∷ []) e h = cc
  nowhere (p ∷ q ∷ mark) e h = nowhere (q ∷ mark) e h

  -- an address that leads to an edge is valid
  pub valid-from_edge : (row : List (Option ℕ)) (mark : List ℕ) (e : ℕ) → edge_at makers row mark ≡ Some e
      → is_valid makers row mark ≡ true
  valid-from_edge row [] e h = refl
  valid-from_edge row (p ∷ []) e h = ap (λ (o : Option ℕ). is_some o && is_valid makers (made_by makers o) [])
      h
  valid-from_edge row (p ∷ q ∷ mark) e h =
      by_maker (get_or row p None) h (λ m k. valid-from_edge (makers m) (q ∷ mark) e k)
    where
      by_maker : (o : Option ℕ) → edge_at makers (made_by makers o) (q ∷ mark) ≡ Some e
          → ((m : ℕ) → edge_at makers (makers m) (q ∷ mark) ≡ Some e
          → is_valid makers (makers m) (q ∷ mark) ≡ true)
          → (is_some o && is_valid makers (made_by makers o) (q ∷ mark)) ≡ true
      by_maker None k later = absurd (nowhere (q ∷ mark) e k)
      by_maker (Some m) k later = later m k

module _ (makers : ℕ → List (Option ℕ)) (count : ℕ) (rank : ℕ → ℕ) (ranked : IsRank makers count rank) where
  -- how much the first places of a row unfold to
  size : List (Option ℕ) → ℕ → ℕ
  size row n = length (unfolded_row makers count (take n row))

  size-row : (row : List (Option ℕ)) (n : ℕ) → size row n ≤ length (unfolded_row makers count row)
  unfolding size
  size-row row n =
      let F = made_by (unfolded makers count) in
      let is : unfolded_row makers count row ≡ flat_map F (take n row) ++ flat_map F (drop n row) =
      ap (flat_map F) (sym (take-append-drop n row)) ∙ flat_map-append F (take n row) (drop n row) in
      omega (arith, ap length is, length-append (flat_map F (take n row)) (flat_map F (drop n row)))

  size-grows : (row : List (Option ℕ)) (n m : ℕ) → n ≤ m → size row n ≤ size row m
  unfolding size
  size-grows row n m le =
      let h : length (unfolded_row makers count (take n (take m row))) ≤ length
      (unfolded_row makers count (take m row)) = size-row (take m row) n in
      let same : take n (take m row) ≡ take n row = take-take n m row le in
      omega (arith, h, ap (λ (r : List (Option ℕ)). length (unfolded_row makers count r)) same)

  size-next : (row : List (Option ℕ)) (p m : ℕ) → slice_get row p ≡ Some (Some m)
      → size row (p + 1) ≡ size row p + length (unfolded makers count m)
  unfolding size
  size-next row p m at = ap length (done_at-pass makers count row [] p (Some m) at)
      ∙ length-append (unfolded_row makers count (take p row)) (unfolded makers count m)

  size-own : (m : ℕ) → m < count → length (unfolded makers count m)
      ≡ length (unfolded_row makers count (makers m)) + 1
  size-own m lt = ap length (unfolded-row makers count rank ranked m lt)
      ∙ length-append (unfolded_row makers count (makers m)) (m ∷ [])

  -- how much is done at an address: all before its first place, and at most that place
  done-sizes : (row : List (Option ℕ)) → ((m : ℕ) → Among row m → m < count) → (p : ℕ) (mark : List ℕ)
      → is_valid makers row (p ∷ mark) ≡ true
      → (size row p < length (done makers count row (p ∷ mark)))
      × (length (done makers count row (p ∷ mark)) ≤ size row (p + 1))
  unfolding size
  done-sizes row inside p [] valid =
      let s = valid-step makers row p [] valid in
      let own = size-own s.0 (inside s.0 (Among-get row p s.0 s.1)) in
      let next = size-next row p s.0 s.1 in
      (omega (arith, own, next), omega arith)
  done-sizes row inside p (q ∷ mark) valid =
      let s = valid-step makers row p (q ∷ mark) valid in
      let own = size-own s.0 (inside s.0 (Among-get row p s.0 s.1)) in
      let next = size-next row p s.0 s.1 in
      let deep = done-sizes (makers s.0) (within makers count rank ranked s.0) q mark s.2 in
      let bound = size-row (makers s.0) (q + 1) in
      let front = unfolded_row makers count (take p row) in
      let is : length (done makers count row (p ∷ q ∷ mark))
      ≡ length front + length (done makers count (makers s.0) (q ∷ mark)) =
      length-append front (done makers count (made_by makers (get_or row p None)) (q ∷ mark))
      ∙ ap (λ (r : List (Option ℕ)). length front + length (done makers count r (q ∷ mark)))
      (inputs-some makers row p s.0 s.1) in
      (omega (arith, is, deep.0), omega (arith, is, deep.1, bound, own, next))

  -- addresses at which as much is done begin with the same number
  same-number : (row : List (Option ℕ)) → ((m : ℕ) → Among row m → m < count) → (p q : ℕ) (x y : List ℕ)
      → is_valid makers row (p ∷ x) ≡ true → is_valid makers row (q ∷ y) ≡ true
      → length (done makers count row (p ∷ x)) ≡ length (done makers count row (q ∷ y)) → p ≡ q
  same-number row inside p q x y vx vy len = elim (cases_order p q) [
    | inl is ↦ is
    | inr differ ↦ absurd (elim differ [
      | inl lt ↦ let a = done-sizes row inside p x vx in let b = done-sizes row inside q y vy in let g =
          size-grows row (p + 1) q (omega (arith, lt)) in omega (arith, a.1, b.0, g, len)
      | inr gt ↦ let a = done-sizes row inside p x vx in let b = done-sizes row inside q y vy in let g =
          size-grows row (q + 1) p (omega (arith, gt)) in omega (arith, a.0, b.1, g, len)
    ])
  ]

  -- an address that continues has done less than an address that ends there
  less-inside : (row : List (Option ℕ)) → ((m : ℕ) → Among row m → m < count) → (p r : ℕ) (x : List ℕ)
      → is_valid makers row (p ∷ r ∷ x) ≡ true
      → length (done makers count row (p ∷ r ∷ x)) < length (done makers count row (p ∷ []))
  unfolding size
  less-inside row inside p r x v =
      let s = valid-step makers row p (r ∷ x) v in
      let own = size-own s.0 (inside s.0 (Among-get row p s.0 s.1)) in
      let next = size-next row p s.0 s.1 in
      let deep = done-sizes (makers s.0) (within makers count rank ranked s.0) r x s.2 in
      let bound = size-row (makers s.0) (r + 1) in
      let front = unfolded_row makers count (take p row) in
      let is : length (done makers count row (p ∷ r ∷ x))
      ≡ length front + length (done makers count (makers s.0) (r ∷ x)) =
      length-append front (done makers count (made_by makers (get_or row p None)) (r ∷ x))
      ∙ ap (λ (k : List (Option ℕ)). length front + length (done makers count k (r ∷ x)))
      (inputs-some makers row p s.0 s.1) in
      omega (arith, is, deep.1, bound, own, next)

  same-rest : (row : List (Option ℕ)) → ((m : ℕ) → Among row m → m < count) → (p : ℕ) (x y : List ℕ)
      → is_valid makers row (p ∷ x) ≡ true → is_valid makers row (p ∷ y) ≡ true
      → length (done makers count row (p ∷ x)) ≡ length (done makers count row (p ∷ y)) → x ≡ y
  same-rest row inside p [] [] vx vy len = refl
  same-rest row inside p [] (t ∷ y) vx vy len =
      absurd (let a = less-inside row inside p t y vy in omega (arith, a, len))
  same-rest row inside p (r ∷ x) [] vx vy len =
      absurd (let a = less-inside row inside p r x vx in omega (arith, a, len))
  same-rest row inside p (r ∷ x) (t ∷ y) vx vy len =
      let s = valid-step makers row p (r ∷ x) vx in
      let u = valid-step makers row p (t ∷ y) vy in
      let one : s.0 ≡ u.0 = same_Some s.0 u.0 (same_Some (Some s.0) (Some u.0) (sym s.1 ∙ u.1)) in
      let vy' : is_valid makers (makers s.0) (t ∷ y) ≡ true =
      subst (λ m. is_valid makers (makers m) (t ∷ y) ≡ true) (sym one) u.2 in
      let front = unfolded_row makers count (take p row) in
      let left : length (done makers count row (p ∷ r ∷ x))
      ≡ length front + length (done makers count (makers s.0) (r ∷ x)) =
      length-append front (done makers count (made_by makers (get_or row p None)) (r ∷ x))
      ∙ ap (λ (k : List (Option ℕ)). length front + length (done makers count k (r ∷ x)))
      (inputs-some makers row p s.0 s.1) in
      let right : length (done makers count row (p ∷ t ∷ y))
      ≡ length front + length (done makers count (makers s.0) (t ∷ y)) =
      length-append front (done makers count (made_by makers (get_or row p None)) (t ∷ y))
      ∙ ap (λ (k : List (Option ℕ)). length front + length (done makers count k (t ∷ y)))
      (inputs-some makers row p s.0 s.1) in
      let deep : length (done makers count (makers s.0) (r ∷ x))
      ≡ length (done makers count (makers s.0) (t ∷ y)) = omega (arith, left, right, len) in
      let inner = within makers count rank ranked s.0 in
      let number : r ≡ t = same-number (makers s.0) inner r t x y s.2 vy' deep in
      let rest : x ≡ y = same-rest (makers s.0) inner r x y s.2
      (subst (λ n. is_valid makers (makers s.0) (n ∷ y) ≡ true) (sym number) vy')
      (deep ∙ ap (λ n. length (done makers count (makers s.0) (n ∷ y))) (sym number)) in
      ap (λ (n : ℕ). n ∷ x) number ∙ ap (λ (z : List ℕ). t ∷ z) rest

  -- the edges done at a valid mark are a prefix of the unfolded order
  pub done-front : (row : List (Option ℕ)) → ((m : ℕ) → Among row m → m < count) → (mark : List ℕ)
      → is_valid makers row mark ≡ true → (more : List ℕ)
      × (unfolded_row makers count row ≡ done makers count row mark ++ more)
  done-front row inside [] v = (unfolded_row makers count row, refl)
  done-front row inside (p ∷ []) v =
      let F = made_by (unfolded makers count) in (
        flat_map F (drop (p + 1) row),
        ap (flat_map F) (sym (take-append-drop (p + 1) row))
            ∙ flat_map-append F (take (p + 1) row) (drop (p + 1) row),
      )
  done-front row inside (p ∷ q ∷ mark) v =
      let F = made_by (unfolded makers count) in
      let s = valid-step makers row p (q ∷ mark) v in
      let r = done-front (makers s.0) (within makers count rank ranked s.0) (q ∷ mark) s.2 in
      let front = unfolded_row makers count (take p row) in
      let deep = done makers count (makers s.0) (q ∷ mark) in
      let after = flat_map F (drop (p + 1) row) in
      let mine : unfolded makers count s.0 ≡ deep ++ (r.0 ++ s.0 ∷ []) =
      unfolded-row makers count rank ranked s.0 (inside s.0 (Among-get row p s.0 s.1))
      ∙ ap (λ (us : List ℕ). us ++ s.0 ∷ []) r.1 ∙ append_assoc deep r.0 (s.0 ∷ []) in
      let here : unfolded_row makers count (take (p + 1) row) ≡ front ++ unfolded makers count s.0 =
      done_at-pass makers count row [] p (Some s.0) s.1 in
      let whole : unfolded_row makers count row ≡ (front ++ (deep ++ (r.0 ++ s.0 ∷ []))) ++ after =
      ap (flat_map F) (sym (take-append-drop (p + 1) row))
      ∙ flat_map-append F (take (p + 1) row) (drop (p + 1) row)
      ∙ ap (λ (us : List ℕ). us ++ after) (here ∙ ap (λ (us : List ℕ). front ++ us) mine) in
      let same : done makers count row (p ∷ q ∷ mark) ≡ front ++ deep =
      ap (λ (k : List (Option ℕ)). front ++ done makers count k (q ∷ mark))
      (inputs-some makers row p s.0 s.1) in (
        (r.0 ++ s.0 ∷ []) ++ after,
        whole ∙ ap (λ (us : List ℕ). us ++ after) (sym (append_assoc front deep (r.0 ++ s.0 ∷ [])))
            ∙ append_assoc (front ++ deep) (r.0 ++ s.0 ∷ []) after
            ∙ ap (λ (us : List ℕ). us ++ ((r.0 ++ s.0 ∷ []) ++ after)) (sym same),
      )

pub first-places_are_one : FirstPlacesAreOne
first-places_are_one makers count targets acyclic inside [] y e hx hy = absurd cc
first-places_are_one makers count targets acyclic inside (p ∷ x) [] e hx hy = absurd (let n = hy.0 in cc)
first-places_are_one makers count targets acyclic inside (p ∷ x) (q ∷ y) e hx hy =
    let vx = valid-from_edge makers targets (p ∷ x) e hx.0 in
    let vy = valid-from_edge makers targets (q ∷ y) e hy.0 in
    let low : (m : ℕ) → Among targets m → m < count = λ m a. inside m (Contains-from_Among targets m a) in
    let fx = done-front makers count acyclic.0 acyclic.1 targets low (p ∷ x) vx in
    let fy = done-front makers count acyclic.0 acyclic.1 targets low (q ∷ y) vy in
    let wx : unfolded_row makers count targets ≡ hx.1.0 ++ e ∷ fx.0 =
    fx.1 ∙ ap (λ (us : List ℕ). us ++ fx.0) hx.1.1 ∙ append_assoc hx.1.0 (e ∷ []) fx.0 in
    let wy : unfolded_row makers count targets ≡ hy.1.0 ++ e ∷ fy.0 =
    fy.1 ∙ ap (λ (us : List ℕ). us ++ fy.0) hy.1.1 ∙ append_assoc hy.1.0 (e ∷ []) fy.0 in
    let len : length hx.1.0 ≡ length hy.1.0 =
    first_split e hx.1.0 hy.1.0 fx.0 fy.0 (sym wx ∙ wy) hx.1.2 hy.1.2 in
    let lens : length (done makers count targets (p ∷ x)) ≡ length (done makers count targets (q ∷ y)) =
    ap length hx.1.1 ∙ length-append hx.1.0 (e ∷ []) ∙ ap (λ n. n + 1) len
    ∙ sym (length-append hy.1.0 (e ∷ [])) ∙ ap length (sym hy.1.1) in
    let number : p ≡ q = same-number makers count acyclic.0 acyclic.1 targets low p q x y vx vy lens in
    ap (λ (n : ℕ). n ∷ x) number ∙ ap (λ (z : List ℕ). q ∷ z)
    (same-rest makers count acyclic.0 acyclic.1 targets low q x y
    (subst (λ n. is_valid makers targets (n ∷ x) ≡ true) number vx) vy
    (ap (λ n. length (done makers count targets (n ∷ x))) (sym number) ∙ lens))
