-- Files in a set, by their numbers and by their paths.
use Rattle.std.proofs.Common.{◌≡◌, ◌<◌, ◌||◌, ℕ, Bool, true, false, cond, Some, List, [], ◌∷◌, ◌++◌, map}
use Rattle.std.proofs.Common.{length}
use Rattle.std.proofs.Common.{slice_get, unwrap_or, bytes_eq, nat_eq, refl, sym, ap, ◌∙◌}
use Rattle.std.specs.Prelude.{All, position}
use Rattle.std.specs.List.{IsDistinct}
use Rattle.std.proofs.lemmas.Bool.Decides.{Decides-eqb}
use Rattle.std.proofs.lemmas.List.{map_push}
use Rattle.std.proofs.lemmas.List.Elements.{All-head, All-tail}
use Rattle.std.proofs.lemmas.Option.{same_Some, slice_get-get_or}
use Rattle.std.proofs.lemmas.Slice.Eq.{bytes_eq-Decides}
use Rattle.nj_names.proofs.NameLemmas.{found-index}
use Rattle.nj_names.specs.Files.{path_at}
use Rattle.nj_names.specs.NameTables.{name_at, with_name}
use Rattle.nj_names.specs.NumberSets.{has, with_number}
use Rattle.nj_names.specs.declared.files.FileNo.{FileNo}
use Rattle.nj_graph.specs.Edges.{is_among}

equal-tests : (a b : Bool) → (a ≡ true → b ≡ true) → (b ≡ true → a ≡ true) → a ≡ b
equal-tests true b there back = sym (there refl)
equal-tests false true there back = back refl
equal-tests false false there back = refl

module _ (files : List (List ℕ)) (once : IsDistinct bytes_eq files) (n : ℕ) (path : List ℕ)
    (here : slice_get files n ≡ Some path) where
  same-file : (m : ℕ) → m < length files → nat_eq n m ≡ bytes_eq path (name_at files m)
  same-file m below =
      let got = slice_get-get_or files m [] below in
      let there : slice_get files m ≡ Some (name_at files m) =
      got ∙ ap Some (sym (ap (λ name. unwrap_or name []) got)) in
      equal-tests (nat_eq n m) (bytes_eq path (name_at files m))
      (λ is. (bytes_eq-Decides path (name_at files m)).1 (same_Some path (name_at files m)
      (sym here ∙ ap (slice_get files) ((Decides-eqb n m).0 is) ∙ there)))
      (λ is. (Decides-eqb n m).1 (same_Some n m (found-index path files (Some n) once here
      ∙ ap (λ name. position (bytes_eq name) files) ((bytes_eq-Decides path (name_at files m)).0 is)
      ∙ sym (found-index (name_at files m) files (Some m) once there))))

  pub has-is : (ns : List ℕ) → All (λ number. number < length files) ns
      → has ns n ≡ is_among (map (name_at files) ns) path
  has-is [] all = refl
  has-is (m ∷ ms) all =
      ap (λ b. b || has ms n) (same-file m (All-head (λ number. number < length files) m ms all))
      ∙ ap (λ b. bytes_eq path (name_at files m) || b)
      (has-is ms (All-tail (λ number. number < length files) m ms all))

  pub added-is : (ns : List ℕ) → All (λ number. number < length files) ns
      → map (name_at files) (with_number ns n) ≡ with_name (map (name_at files) ns) path
  added-is ns all = by (has ns n) refl
    where
      by : (b : Bool) → has ns n ≡ b
          → map (name_at files) (cond (has ns n) ns (ns ++ n ∷ []))
          ≡ cond (is_among (map (name_at files) ns) path) (map (name_at files) ns)
          (map (name_at files) ns ++ path ∷ [])
      by true is = rw (is, sym (has-is ns all) ∙ is) refl
      by false is = rw (is, sym (has-is ns all) ∙ is) (map_push (name_at files) ns n
          ∙ ap (λ name. map (name_at files) ns ++ name ∷ []) (ap (λ name. unwrap_or name []) here))

-- files with the same paths have the same numbers
pub same-numbers : (files : List (List ℕ)) → IsDistinct bytes_eq files → (xs ys : List FileNo)
    → All (λ file. file.0 < length files) xs → All (λ file. file.0 < length files) ys
    → map (path_at files) xs ≡ map (path_at files) ys → xs ≡ ys
same-numbers files once [] [] known others is = refl
same-numbers files once [] (y ∷ ys) known others is = absurd cc
same-numbers files once (x ∷ xs) [] known others is = absurd cc
same-numbers files once (x ∷ xs) (y ∷ ys) known others is =
    let paths : path_at files x ≡ path_at files y = cc in
    let rest : map (path_at files) xs ≡ map (path_at files) ys = cc in
    let got = slice_get-get_or files x.0 [] (All-head (λ file. file.0 < length files) x xs known) in
    let here : slice_get files x.0 ≡ Some (path_at files x) =
    got ∙ ap Some (sym (ap (λ name. unwrap_or name []) got)) in
    let below = All-head (λ file. file.0 < length files) y ys others in
    let number : x.0 ≡ y.0 = (Decides-eqb x.0 y.0).0
    (same-file files once x.0 (path_at files x) here y.0 below
    ∙ (bytes_eq-Decides (path_at files x) (path_at files y)).1 paths) in
    ap (λ n. record { 0 = n } ∷ xs) number
    ∙ ap (λ zs. y ∷ zs) (same-numbers files once xs ys (All-tail (λ file. file.0 < length files) x xs known)
    (All-tail (λ file. file.0 < length files) y ys others) rest)
