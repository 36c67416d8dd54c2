-- How the users of edges are listed.
use Rattle.std.proofs.lemmas.Grind.{common_steps}
use Rattle.std.proofs.Common.{◌≡◌, ◌≢◌, ℕ, ◌<◌, ◌≤◌, ◌+◌, ◌++◌, Option, Some, None, List, [], ◌∷◌, ◌⊎◌, inl}
use Rattle.std.proofs.Common.{inr, length, set, refl, sym, ap, subst, ◌∙◌, arith}
use Rattle.std.specs.Prelude.{Contains, slice_get, slice_index_or}
use Rattle.std.specs.Global.{Vec}
use Rattle.std.proofs.lemmas.Bool.{cases_lt}
use Rattle.std.proofs.lemmas.List.{length-map, length-set, length_push, get_or_append_left, get_or_past}
use Rattle.std.proofs.lemmas.List.{get_or_push}
use Rattle.std.proofs.lemmas.List.Elements.{Contains-append_left, Contains-push, Contains-push_cases}
use Rattle.nj_cycles.specs.Cycles.{Needs, AreEdges}
use Rattle.nj_cycles.specs.Inside.Users.{HaveUsers, NeedsSoFar, lists_of, users_of, with_user}
use Rattle.nj_cycles.specs.Inside.Users.NeedsSoFar.{before, here}
use Rattle.nj_cycles.proofs.Places.{at_set, maker_got, needs_got}

pub same_users : (count : ℕ) (P Q : ℕ → ℕ → Type 0) (users : List (Vec ℕ)) → ((e m : ℕ) → P e m → Q e m)
    → ((e m : ℕ) → Q e m → P e m) → HaveUsers count P users → HaveUsers count Q users
same_users count h h1 users to from h2 = grind arith

length_lists : (users : List (Vec ℕ)) → length (lists_of users) ≡ length users
length_lists users = length-map users (λ (list : Vec ℕ). list.items)

no_member : (e : ℕ) → Contains [] e → ⊥
no_member e c = omega (arith, c.1)

pub items_at : (users : List (Vec ℕ)) (e : ℕ) (list : Vec ℕ) → e < length users
    → list ≡ slice_index_or users e list → list.items ≡ users_of users e
items_at users e list lt is = grind (arith, common_steps)

-- users are edges
pub users_known : (users : List (Vec ℕ)) (P : ℕ → ℕ → Type 0) (count : ℕ) → HaveUsers count P users
    → ((e m : ℕ) → P e m → e < count) → (m e : ℕ) → Contains (users_of users m) e → e < length users
users_known users P count h known m e c = elim (cases_lt m count) [
  | inl lt ↦ omega (arith, h.len, known e m (h.sound m e lt c))
  | inr le ↦ absurd (no_member e (subst (λ us. Contains us e)
      (get_or_past (lists_of users) m [] (omega (arith, le, h.len, length_lists users))) c))
]

pub no_users_begin : (users : List (Vec ℕ)) → length users ≡ 0 → HaveUsers 0 (λ e m. ⊥) users
no_users_begin users len = grind arith

-- an edge without users more
pub none_more : (count : ℕ) (old new : List (Vec ℕ)) → HaveUsers count (λ e m. ⊥) old
    → lists_of new ≡ lists_of old ++ [] ∷ [] → HaveUsers (count + 1) (λ e m. ⊥) new
none_more count old new h is = record {
  len = omega (arith, length_lists new, ap length is, length_push (lists_of old) [], length_lists old, h.len);
  sound = λ m e lt c. elim (cases_lt m count) [
    | inl less ↦ h.sound m e less (subst (λ us. Contains us e)
        (get_or_append_left (lists_of old) ([] ∷ []) [] m (omega (arith, less, length_lists old, h.len)))
        (new_at m e c))
    | inr le ↦ no_member e (subst (λ us. Contains us e)
        (get_or_push (lists_of old) [] [] m (omega (arith, lt, le, length_lists old, h.len))) (new_at m e c))
  ];
  all = λ m e lt none. absurd none;
}
  where
    new_at : (m e : ℕ) → Contains (users_of new m) e
        → Contains (slice_index_or (lists_of old ++ [] ∷ []) m []) e
    new_at m e c = subst (λ (ls : List (List ℕ)). Contains (slice_index_or ls m []) e) is c

-- a user more
pub more_users : (count : ℕ) (P : ℕ → ℕ → Type 0) (old new : List (Vec ℕ)) (m user : ℕ) → m < count
    → lists_of new ≡ with_user (lists_of old) (Some m) user → HaveUsers count P old
    → HaveUsers count (λ e x. P e x ⊎ ((e ≡ user) × (x ≡ m))) new
more_users count P old new m user lt is h = record {
  len = omega (
    arith,
    length_lists new,
    ap length is,
    length-set (lists_of old) m (users_of old m ++ user ∷ []),
    length_lists old,
    h.len,
  );
  sound = λ x e x_in c. elim (at x) [
    | inl q ↦ elim (Contains-push_cases (users_of old m) user e (subst (λ us. Contains us e) q.1 c)) [
      | inl c ↦ inl (subst (P e) (sym q.0) (h.sound m e lt c))
      | inr same ↦ inr (sym same, q.0)
    ]
    | inr q ↦ inl (h.sound x e x_in (subst (λ us. Contains us e) q.1 c))
  ];
  all = λ x e x_in has. elim (at x) [
    | inl q ↦ subst (λ us. Contains us e) (sym q.1) (elim has [
      | inl p ↦ Contains-append_left (users_of old m) (user ∷ []) e (h.all m e lt (subst (P e) q.0 p))
      | inr new ↦ subst (Contains (users_of old m ++ user ∷ [])) (sym new.0)
          (Contains-push (users_of old m) user)
    ])
    | inr q ↦ subst (λ us. Contains us e) (sym q.1)
        (elim has [ inl p ↦ h.all x e x_in p | inr new ↦ absurd (q.0 new.1) ])
  ];
}
  where
    inside : m < length (lists_of old)
    inside = omega (arith, lt, h.len, length_lists old)

    at : (x : ℕ) → ((x ≡ m) × (users_of new x ≡ users_of old m ++ user ∷ []))
        ⊎ ((x ≢ m) × (users_of new x ≡ users_of old x))
    at x =
        let new_is : users_of new x ≡ slice_index_or (set (lists_of old) m (users_of old m ++ user ∷ [])) x
        [] = ap (λ (ls : List (List ℕ)). slice_index_or ls x []) is in
        elim (at_set (lists_of old) m (users_of old m ++ user ∷ []) [] x inside)
        [ inl q ↦ inl (q.0, new_is ∙ q.1) | inr q ↦ inr (q.0, new_is ∙ q.1) ]

module _ (makers : ℕ → List (Option ℕ)) (count : ℕ) where
  -- the first edge begins with nothing before it
  pub begins_with_none : (users : List (Vec ℕ)) → HaveUsers count (λ e m. ⊥) users
      → HaveUsers count (NeedsSoFar makers 0 0) users
  begins_with_none users h = same_users count (λ e m. ⊥) (NeedsSoFar makers 0 0) users
      (λ e m none. absurd none) none h
    where
      none : (e m : ℕ) → NeedsSoFar makers 0 0 e m → ⊥
      none e m (before lt needs) = omega (arith, lt)
      none e m (here i lt made) = omega (arith, lt)

  module _ (edge index : ℕ) where
    stays : (e m : ℕ) → NeedsSoFar makers edge index e m → NeedsSoFar makers edge (index + 1) e m
    stays e m (before lt needs) = before lt needs
    stays e m (here i lt made) = here i (omega (arith, lt)) made

    was_or_new : (o : Option ℕ) → slice_get (makers edge) index ≡ Some o → (e m : ℕ)
        → NeedsSoFar makers edge (index + 1) e m
        → NeedsSoFar makers edge index e m ⊎ ((e ≡ edge) × (o ≡ Some m))
    was_or_new o got e m (before lt needs) = inl (before lt needs)
    was_or_new o got e m (here i lt made) = elim (cases_lt i index) [
      | inl less ↦ inl (here i less made)
      | inr le ↦
          let last : i ≡ index = omega (arith, lt, le) in
          let both : Some o ≡ Some (Some m) = sym got ∙ ap (slice_get (makers edge)) (sym last) ∙ made in
          inr (refl, cc)
    ]

    -- an input is passed
    pub passed_input : (o : Option ℕ) (old new : List (Vec ℕ)) → AreEdges makers count
        → slice_get (makers edge) index ≡ Some o → lists_of new ≡ with_user (lists_of old) o edge
        → HaveUsers count (NeedsSoFar makers edge index) old
        → HaveUsers count (NeedsSoFar makers edge (index + 1)) new
    passed_input None old new edges got is h =
        let same : HaveUsers count (NeedsSoFar makers edge index) new = record {
          len = omega (arith, length_lists new, ap length is, length_lists old, h.len);
          sound = λ m e lt c. h.sound m e lt (subst
              (λ (ls : List (List ℕ)). Contains (slice_index_or ls m []) e) is c);
          all = λ m e lt p. subst (λ (ls : List (List ℕ)). Contains (slice_index_or ls m []) e) (sym is)
              (h.all m e lt p);
        } in
        same_users count (NeedsSoFar makers edge index) (NeedsSoFar makers edge (index + 1)) new stays
        (λ e m p. elim (was_or_new None got e m p)
        [ inl old ↦ old | inr new ↦ let clash : None ≡ Some m = new.1 in cc ]) same
    passed_input (Some m) old new edges got is h =
        same_users count (λ e x. NeedsSoFar makers edge index e x ⊎ ((e ≡ edge) × (x ≡ m)))
        (NeedsSoFar makers edge (index + 1)) new
        (λ e x p. elim p [
          | inl old ↦ stays e x old
          | inr new ↦
              rw (new.0, new.1) (here index (omega arith) got)
        ])
        (λ e x p. elim (was_or_new (Some m) got e x p)
        [ inl old ↦ inl old | inr new ↦ let same : Some m ≡ Some x = new.1 in inr (new.0, cc) ])
        (more_users count (NeedsSoFar makers edge index) old new m edge
        (edges edge m (needs_got makers edge index m got)).1 is h)

  -- all inputs of an edge are passed
  pub next_edge : (edge index : ℕ) (users : List (Vec ℕ)) → length (makers edge) ≤ index
      → HaveUsers count (NeedsSoFar makers edge index) users
      → HaveUsers count (NeedsSoFar makers (edge + 1) 0) users
  next_edge edge index users past h = same_users count (NeedsSoFar makers edge index)
      (NeedsSoFar makers (edge + 1) 0) users to from h
    where
      to : (e m : ℕ) → NeedsSoFar makers edge index e m → NeedsSoFar makers (edge + 1) 0 e m
      to e m (before lt needs) = before (omega (arith, lt)) needs
      to e m (here i lt made) = before (omega arith) (needs_got makers edge i m made)

      from : (e m : ℕ) → NeedsSoFar makers (edge + 1) 0 e m → NeedsSoFar makers edge index e m
      from e m (before lt needs) = elim (cases_lt e edge) [
        | inl less ↦ before less needs
        | inr le ↦
            let same : e ≡ edge = omega (arith, lt, le) in
            let mine : Needs makers edge m = subst (λ x. Needs makers x m) same needs in
            subst (λ x. NeedsSoFar makers edge index x m) (sym same)
            (here mine.0 (omega (arith, mine.1, past)) (maker_got makers edge m mine))
      ]
      from e m (here i lt made) = absurd (omega (arith, lt))

  -- all edges are passed
  pub all_edges : (users : List (Vec ℕ)) → AreEdges makers count
      → HaveUsers count (NeedsSoFar makers count 0) users → HaveUsers count (Needs makers) users
  all_edges users edges h = same_users count (NeedsSoFar makers count 0) (Needs makers) users to
      (λ e m needs. before (edges e m needs).0 needs) h
    where
      to : (e m : ℕ) → NeedsSoFar makers count 0 e m → Needs makers e m
      to e m (before lt needs) = needs
      to e m (here i lt made) = absurd (omega (arith, lt))
