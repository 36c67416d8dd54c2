-- Lemmas on the results of lists, item by item.
use Rattle.std.proofs.Common.{◌≡◌, ℕ, ◌+◌, ◌<◌, List, [], ◌∷◌, ◌++◌, map, length, drop, get_or, refl, sym, ap}
use Rattle.std.proofs.Common.{◌∙◌}
use Rattle.std.proofs.Common.{suc, append_assoc, add-one, subst}
use Rattle.std.specs.Prelude.{Option, Some, None, option_map, option_and_then}
use Rattle.std.proofs.Math.Seq.{drop-cons}
use Rattle.std.proofs.lemmas.List.{append-nil}
use Rattle.nj_test_lists.specs.Values.{each}

-- The result of a whole list is what was found so far, and then the result of the rest of the list.
pub record Stands {A : Type 0} (whole : Option (List A)) (done : List A) (rest : Option (List A)) : Type 0
  where
    pub cut : whole ≡ option_map (λ more. done ++ more) rest

pub stands-none : {A : Type 0} (whole : Option (List A)) → Stands whole [] whole
stands-none None = record { cut = refl }
stands-none (Some xs) = record { cut = refl }

pub stands-all : {A : Type 0} (whole : Option (List A)) (done : List A) → Stands whole done (Some [])
    → whole ≡ Some done
stands-all whole done s = s.cut ∙ ap Some (append-nil done)

pub stands-failed : {A : Type 0} (whole : Option (List A)) (done : List A) → Stands whole done None
    → whole ≡ None
stands-failed whole done s = s.cut

pub stands-one : {A : Type 0} (whole : Option (List A)) (done : List A) (y : A) (rest : Option (List A))
    → Stands whole done (option_map (λ ys. y ∷ ys) rest) → Stands whole (done ++ y ∷ []) rest
stands-one whole done y None s = record { cut = s.cut }
stands-one whole done y (Some ys) s = record { cut = s.cut ∙ ap Some (sym (append_assoc done (y ∷ []) ys)) }

pub stands-many : {A : Type 0} (whole : Option (List A)) (done ys : List A) (rest : Option (List A))
    → Stands whole done (option_map (λ zs. ys ++ zs) rest) → Stands whole (done ++ ys) rest
stands-many whole done ys None s = record { cut = s.cut }
stands-many whole done ys (Some zs) s = record { cut = s.cut ∙ ap Some (sym (append_assoc done ys zs)) }

-- ---- the rest of a list

pub drop-next : {A : Type 0} (xs : List A) (i : ℕ) (x : A) → i < length xs → x ≡ get_or xs i x
    → drop i xs ≡ x ∷ drop (i + 1) xs
drop-next xs i x within is =
    drop-cons xs i x within ∙ ap (λ y. y ∷ drop (suc i) xs) (sym is)
    ∙ ap (λ n. x ∷ drop n xs) (sym (add-one i))

pub drop-end : {A : Type 0} (xs : List A) → drop (length xs) xs ≡ []
drop-end [] = refl
drop-end (x ∷ xs) = drop-end xs

-- ---- `each`, of a list whose items stand for others

pub each-next : {A B C : Type 0} (v : A → B) (f : B → Option C) (whole : Option (List C)) (done : List C)
    (xs : List A) (i : ℕ) (x : A) (y : C) → i < length xs → x ≡ get_or xs i x
    → Stands whole done (each f (map v (drop i xs))) → f (v x) ≡ Some y
    → Stands whole (done ++ y ∷ []) (each f (map v (drop (i + 1) xs)))
each-next v f whole done xs i x y within is s gives =
    let rest = each f (map v (drop (i + 1) xs)) in
    let here : Stands whole done (each f (map v (x ∷ drop (i + 1) xs))) =
    subst (λ l. Stands whole done (each f (map v l))) (drop-next xs i x within is) s in
    let one : Stands whole done (option_and_then (λ z. option_map (λ zs. z ∷ zs) rest) (Some y)) =
    subst (λ o. Stands whole done (option_and_then (λ z. option_map (λ zs. z ∷ zs) rest) o)) gives here in
    stands-one whole done y rest one

pub each-failed : {A B C : Type 0} (v : A → B) (f : B → Option C) (whole : Option (List C)) (done : List C)
    (xs : List A) (i : ℕ) (x : A) → i < length xs → x ≡ get_or xs i x
    → Stands whole done (each f (map v (drop i xs))) → f (v x) ≡ None
    → whole ≡ None
each-failed v f whole done xs i x within is s gives =
    let rest = each f (map v (drop (i + 1) xs)) in
    let here : Stands whole done (each f (map v (x ∷ drop (i + 1) xs))) =
    subst (λ l. Stands whole done (each f (map v l))) (drop-next xs i x within is) s in
    let none : Stands whole done (option_and_then (λ z. option_map (λ zs. z ∷ zs) rest) None) =
    subst (λ o. Stands whole done (option_and_then (λ z. option_map (λ zs. z ∷ zs) rest) o)) gives here in
    stands-failed whole done none

pub each-end : {A B C : Type 0} (v : A → B) (f : B → Option C) (whole : Option (List C)) (done : List C)
    (xs : List A) (i : ℕ) → i ≡ length xs → Stands whole done (each f (map v (drop i xs)))
    → whole ≡ Some done
each-end v f whole done xs i end s =
    stands-all whole done (subst (λ l. Stands whole done (each f (map v l)))
    (ap (λ n. drop n xs) end ∙ drop-end xs) s)
