-- Sorted lists: the result of a stable sort, and the elements of a list that is sorted by name.
use Rattle.std.proofs.lemmas.Grind.{common_steps}
use Rattle.std.proofs.Common.{◌≡◌, suc, ◌+◌, Bool, true, false, cond, ◌&&◌, not, if◌then◌else◌, List, [], ◌∷◌}
use Rattle.std.proofs.Common.{map, get_or, refl, sym, ap, ◌∙◌, true≢false, arith}
use Rattle.std.specs.List.{AllByRecursion, filter}
use Rattle.std.specs.List.Sorted.{IsSortedBy, IsStableBy, ties}
use Rattle.std.specs.Cmp.{IsStrictWeakOrder}
use Rattle.std.proofs.lemmas.List.Elements.{recursion_from_All}
use Rattle.std.proofs.lemmas.List.Sorted.{sorted_far}
use Rattle.nj_graph.specs.Graph.{insert_by, sorted_by}

-- ---- through a function

module _ {X Y : Type 0} (f : X → Y) (lt : Y → Y → Bool) where
  insert_by-map : (x : X) (ys : List X) → map f (insert_by (λ a b. lt (f a) (f b)) x ys)
      ≡ insert_by lt (f x) (map f ys)
  unfolding insert_by
  insert_by-map x [] = refl
  insert_by-map x (y ∷ ys) = by (lt (f y) (f x)) (insert_by-map x ys)
    where
      by : (b : Bool) → map f (insert_by (λ a c. lt (f a) (f c)) x ys) ≡ insert_by lt (f x) (map f ys)
          → map f (if b then y ∷ insert_by (λ a c. lt (f a) (f c)) x ys else x ∷ y ∷ ys)
          ≡ (if b then f y ∷ insert_by lt (f x) (map f ys) else f x ∷ f y ∷ map f ys)
      by true rest = ap (λ zs. f y ∷ zs) rest
      by false rest = refl

  pub sorted_by-map : (xs : List X) → map f (sorted_by (λ a b. lt (f a) (f b)) xs) ≡ sorted_by lt (map f xs)
  unfolding sorted_by
  sorted_by-map [] = refl
  sorted_by-map (x ∷ xs) = insert_by-map x (sorted_by (λ a b. lt (f a) (f b)) xs)
      ∙ ap (insert_by lt (f x)) (sorted_by-map xs)

-- ---- properties of each element

module _ {X : Type 0} (lt : X → X → Bool) (P : X → Type 0) where
  pub all-insert : (x : X) (ys : List X) → P x → AllByRecursion P ys → AllByRecursion P (insert_by lt x ys)
  unfolding insert_by
  all-insert x [] one all = (one, tt)
  all-insert x (y ∷ ys) one all = by (lt y x) (all-insert x ys one all.1)
    where
      by : (b : Bool) → AllByRecursion P (insert_by lt x ys)
          → AllByRecursion P (if b then y ∷ insert_by lt x ys else x ∷ y ∷ ys)
      by true rest = (all.0, rest)
      by false rest = (one, all)

  pub all-sorted : (xs : List X) → AllByRecursion P xs → AllByRecursion P (sorted_by lt xs)
  unfolding sorted_by
  all-sorted [] all = tt
  all-sorted (x ∷ xs) all = all-insert x (sorted_by lt xs) all.0 (all-sorted xs all.1)

-- ---- a stable sort leaves the list that is sorted so

module _ {X : Type 0} (lt : X → X → Bool) (order : IsStrictWeakOrder lt) where
  -- no element is less than an element before it
  abbrev Rises : List X → Type 0
  Rises [] = Unit {0}
  Rises (x ∷ xs) = AllByRecursion (λ y. lt y x ≡ false) xs × Rises xs

  none_less-weaker : (x y : X) (ys : List X) → lt y x ≡ false → AllByRecursion (λ z. lt z y ≡ false) ys
      → AllByRecursion (λ z. lt z x ≡ false) ys
  none_less-weaker x y [] h all = tt
  none_less-weaker x y (z ∷ ys) h all = (order.chain z y x all.0 h, none_less-weaker x y ys h all.1)

  rises-insert : (x : X) (ys : List X) → Rises ys → Rises (insert_by lt x ys)
  unfolding insert_by
  rises-insert x [] up = (tt, tt)
  rises-insert x (y ∷ ys) up = by (lt y x) refl (rises-insert x ys up.1)
    where
      by : (b : Bool) → lt y x ≡ b → Rises (insert_by lt x ys)
          → Rises (if b then y ∷ insert_by lt x ys else x ∷ y ∷ ys)
      by true h rest = (all-insert lt (λ z. lt z y ≡ false) x ys (order.one_way y x h) up.0, rest)
      by false h rest = ((h, none_less-weaker x y ys h up.0), up)

  rises-sorted : (xs : List X) → Rises (sorted_by lt xs)
  unfolding sorted_by
  rises-sorted [] = tt
  rises-sorted (x ∷ xs) = rises-insert x (sorted_by lt xs) (rises-sorted xs)

  -- elements that tie keep their order

  tie-apart : (a x y : X) → ties lt a x ≡ true → ties lt a y ≡ true → lt y x ≡ false
  tie-apart a x y p q = order.chain y a x (second (lt a y) (lt y a) q) (first (lt a x) (lt x a) p)
    where
      first : (b c : Bool) → not b && not c ≡ true → b ≡ false
      first true c h = absurd (true≢false (sym h))
      first false c h = refl

      second : (b c : Bool) → not b && not c ≡ true → c ≡ false
      second true c h = absurd (true≢false (sym h))
      second false true h = absurd (true≢false (sym h))
      second false false h = refl

  stable-insert : (a x : X) (ys : List X)
      → filter (ties lt a) (insert_by lt x ys) ≡ filter (ties lt a) (x ∷ ys)
  unfolding insert_by
  stable-insert a x [] = refl
  stable-insert a x (y ∷ ys) = by (lt y x) refl (stable-insert a x ys)
    where
      swapped : (p q : Bool) → (p ≡ true → q ≡ true → lt y x ≡ false) → lt y x ≡ true → (rest : List X)
          → cond q (y ∷ cond p (x ∷ rest) rest) (cond p (x ∷ rest) rest)
          ≡ cond p (x ∷ cond q (y ∷ rest) rest) (cond q (y ∷ rest) rest)
      swapped true true apart h rest = absurd (true≢false (sym h ∙ apart refl refl))
      swapped true false apart h rest = refl
      swapped false true apart h rest = refl
      swapped false false apart h rest = refl

      by : (b : Bool) → lt y x ≡ b → filter (ties lt a) (insert_by lt x ys) ≡ filter (ties lt a) (x ∷ ys)
          → filter (ties lt a) (if b then y ∷ insert_by lt x ys else x ∷ y ∷ ys)
          ≡ filter (ties lt a) (x ∷ y ∷ ys)
      by true h rest =
          ap (λ zs. cond (ties lt a y) (y ∷ zs) zs) rest
          ∙ swapped (ties lt a x) (ties lt a y) (tie-apart a x y) h (filter (ties lt a) ys)
      by false h rest = refl

  stable-sorted : (a : X) (xs : List X) → filter (ties lt a) (sorted_by lt xs) ≡ filter (ties lt a) xs
  unfolding sorted_by
  stable-sorted a [] = refl
  stable-sorted a (x ∷ xs) = stable-insert a x (sorted_by lt xs)
      ∙ ap (λ zs. cond (ties lt a x) (x ∷ zs) zs) (stable-sorted a xs)

  -- two lists that rise and have the same elements of each rank are the same

  tie-itself : (x : X) → ties lt x x ≡ true
  tie-itself x = by (lt x x) (order.one_way x x)
    where
      by : (b : Bool) → (b ≡ true → b ≡ false) → not b && not b ≡ true
      by true h = absurd (true≢false (h refl))
      by false h = refl

  -- no element of a list that rises ties with an element that is less than its first
  none-ties : (y z : X) (zs : List X) → lt y z ≡ true → AllByRecursion (λ w. lt w z ≡ false) zs
      → filter (ties lt y) zs ≡ []
  none-ties y z [] h all = refl
  none-ties y z (w ∷ zs) h all = by (lt y w) refl (none-ties y z zs h all.1)
    where
      by : (b : Bool) → lt y w ≡ b → filter (ties lt y) zs ≡ []
          → cond (not b && not (lt w y)) (w ∷ filter (ties lt y) zs) (filter (ties lt y) zs) ≡ []
      by true k rest = rest
      by false k rest = absurd (true≢false (sym h ∙ order.chain y w z k all.0))

  tails : (b : Bool) (y : X) (ys zs : List X) → cond b (y ∷ ys) ys ≡ cond b (y ∷ zs) zs → ys ≡ zs
  tails true y ys zs h = cc
  tails false y ys zs h = h

  none_is : (z : X) (zs : List X) → [] ≡ filter (ties lt z) (z ∷ zs) → ⊥
  none_is z zs h = grind (arith, common_steps)

  heads : (y z : X) (ys zs : List X) → Rises (y ∷ ys) → Rises (z ∷ zs)
      → ((a : X) → filter (ties lt a) (y ∷ ys) ≡ filter (ties lt a) (z ∷ zs)) → y ≡ z
  heads y z ys zs up up' same = by (lt y z) (lt z y) refl refl
    where
      by : (b c : Bool) → lt y z ≡ b → lt z y ≡ c → y ≡ z
      by true c h k = absurd (none_is y ys (sym (none-ties y z zs h up'.0)
          ∙ sym (ap (λ b. cond (not b && not (lt z y)) (z ∷ filter (ties lt y) zs) (filter (ties lt y) zs)) h)
          ∙ sym (same y)))
      by false true h k = absurd (none_is z zs
          (sym (none-ties z y ys k up.0) ∙ sym
          (ap (λ b. cond (not b && not (lt y z)) (y ∷ filter (ties lt z) ys) (filter (ties lt z) ys)) k)
          ∙ same z))
      by false false h k =
          let e : y ∷ filter (ties lt y) ys ≡ z ∷ filter (ties lt y) zs =
          sym (ap (λ b. cond b (y ∷ filter (ties lt y) ys) (filter (ties lt y) ys)) (tie-itself y)) ∙ same y
          ∙ ap (λ b. cond (not b && not (lt z y)) (z ∷ filter (ties lt y) zs) (filter (ties lt y) zs)) h
          ∙ ap (λ b. cond (not b) (z ∷ filter (ties lt y) zs) (filter (ties lt y) zs)) k in
          cc

  same-list : (ys zs : List X) → Rises ys → Rises zs
      → ((a : X) → filter (ties lt a) ys ≡ filter (ties lt a) zs) → ys ≡ zs
  same-list [] [] up up' same = refl
  same-list [] (z ∷ zs) up up' same = absurd (none_is z zs (same z))
  same-list (y ∷ ys) [] up up' same = absurd (none_is y ys (sym (same y)))
  same-list (y ∷ ys) (z ∷ zs) up up' same =
      let is : y ≡ z = heads y z ys zs up up' same in
      ap (λ w. w ∷ ys) is
      ∙ ap (λ ws. z ∷ ws) (same-list ys zs up.1 up'.1 (λ a.
      tails (ties lt a y) y (filter (ties lt a) ys) (filter (ties lt a) zs)
      (same a ∙ ap (λ w. cond (ties lt a w) (w ∷ filter (ties lt a) zs) (filter (ties lt a) zs)) (sym is))))

  rises-from-sort : (xs : List X) → IsSortedBy lt xs → Rises xs
  rises-from-sort [] up = tt
  rises-from-sort (x ∷ xs) up = (
    recursion_from_All (λ y. lt y x ≡ false) xs
        (λ k d h. sorted_far lt order (x ∷ xs) up 0 (suc k) d (omega arith) (omega arith)),
    rises-from-sort xs (λ k d l h.
        let e : suc k + 1 ≡ suc (k + 1) = omega arith in
        ap (λ n. lt (get_or (x ∷ xs) n d) (get_or xs k d)) (sym e)
        ∙ up (suc k) d (omega arith) (omega arith)),
  )

  -- the result of a stable sort
  pub stable_sort-is : (xs ys : List X) → IsSortedBy lt ys → IsStableBy lt xs ys → ys ≡ sorted_by lt xs
  stable_sort-is xs ys up stable = same-list ys (sorted_by lt xs) (rises-from-sort ys up) (rises-sorted xs)
      (λ a. stable a ∙ sym (stable-sorted a xs))
