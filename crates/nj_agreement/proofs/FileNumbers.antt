-- Files whose paths differ have the same numbers where they have the same paths.
use Rattle.std.proofs.Common.{◌≡◌, ℕ, Some, Result, Ok, Err, IfOk, List, [], ◌∷◌, slice_get, refl, sym, ap}
use Rattle.std.proofs.Common.{◌<◌, ◌∙◌, length, map, unwrap_or, bytes_eq}
use Rattle.std.specs.Global.{Vec}
use Rattle.std.specs.List.{All, IsDistinct}
use Rattle.std.proofs.lemmas.List.Elements.{All-head, All-tail}
use Rattle.std.proofs.lemmas.Option.{slice_get_within}
use Rattle.nj_names.specs.declared.files.FileNo.{FileNo}
use Rattle.nj_names.specs.Files.{path_at, AreFiles}
use Rattle.nj_agreement.specs.Agreement.{AgreeIfOk}
use Rattle.nj_edges.specs.declared.edges.EdgeNo.{EdgeNo}
use Rattle.nj_edges.proofs.ChainLemmas.{only-file}

module _ (files : List (List ℕ)) (distinct : IsDistinct bytes_eq files) where
  pub one-number : (f h : FileNo) (path : List ℕ) → slice_get files f.0 ≡ Some path
      → slice_get files h.0 ≡ Some path
      → f ≡ h
  one-number f h path is also = only-file files distinct f h (slice_get_within files f.0 path is)
      (slice_get_within files h.0 path also) (ap (λ o. unwrap_or o []) (is ∙ sym also))

  pub same-numbers : (one other : List FileNo) (paths : List (List ℕ)) → AreFiles files one paths
      → AreFiles files other paths → one ≡ other
  same-numbers [] [] paths is also = refl
  same-numbers [] (h ∷ others) [] is also = absurd cc
  same-numbers [] (h ∷ others) (path ∷ paths) is also = absurd cc
  same-numbers (f ∷ ones) [] [] is also = absurd cc
  same-numbers (f ∷ ones) [] (path ∷ paths) is also = absurd cc
  same-numbers (f ∷ ones) (h ∷ others) [] is also = absurd cc
  same-numbers (f ∷ ones) (h ∷ others) (path ∷ paths) is also =
      let first : slice_get files f.0 ≡ Some path = cc in
      let second : slice_get files h.0 ≡ Some path = cc in
      let ones_are : AreFiles files ones paths = cc in
      let others_are : AreFiles files others paths = cc in
      let here = one-number f h path first second in
      let rest = same-numbers ones others paths ones_are others_are in
      ap (λ n. n ∷ ones) here ∙ ap (λ ns. h ∷ ns) rest

  pub lists-agree : {E : Type 0} (paths : List (List ℕ)) (one other : Result (Vec FileNo) E)
      → IfOk one (λ ns. AreFiles files ns.items paths) → IfOk other (λ ns. AreFiles files ns.items paths)
      → AgreeIfOk (λ a b. a.items ≡ b.items) one other
  lists-agree paths (Ok a) (Ok b) is also = same-numbers a.items b.items paths is also
  lists-agree paths (Ok a) (Err f) is also = tt
  lists-agree paths (Err e) (Ok b) is also = tt
  lists-agree paths (Err e) (Err f) is also = tt

  pub same-by-paths : (one other : List FileNo) → All (λ f. f.0 < length files) one
      → All (λ f. f.0 < length files) other
      → map (path_at files) one ≡ map (path_at files) other → one ≡ other
  same-by-paths [] [] known known2 are = refl
  same-by-paths [] (h ∷ others) known known2 are = absurd cc
  same-by-paths (f ∷ ones) [] known known2 are = absurd cc
  same-by-paths (f ∷ ones) (h ∷ others) known known2 are =
      let here : path_at files f ≡ path_at files h = cc in
      let rest : map (path_at files) ones ≡ map (path_at files) others = cc in
      let first = only-file files distinct f h (All-head (λ n. n.0 < length files) f ones known)
      (All-head (λ n. n.0 < length files) h others known2) here in
      ap (λ n. n ∷ ones) first ∙ ap (λ ns. h ∷ ns) (same-by-paths ones others
      (All-tail (λ n. n.0 < length files) f ones known) (All-tail (λ n. n.0 < length files) h others known2)
      rest)

pub same-edges : (one other : List EdgeNo) → map (λ e. e.0) one ≡ map (λ e. e.0) other → one ≡ other
same-edges [] [] are = refl
same-edges [] (f ∷ others) are = absurd cc
same-edges (e ∷ ones) [] are = absurd cc
same-edges (e ∷ ones) (f ∷ others) are =
    let here : e.0 ≡ f.0 = cc in
    let rest : map (λ (n : EdgeNo). n.0) ones ≡ map (λ (n : EdgeNo). n.0) others = cc in
    ap (λ n. record { 0 = n } ∷ ones) here ∙ ap (λ es. f ∷ es) (same-edges ones others rest)
