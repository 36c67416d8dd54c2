-- The numbers by which strings are kept, and dyndep files by their paths.
use Rattle.std.proofs.Common.{◌≡◌, ◌+◌, ℕ, zero, suc, List, [], ◌∷◌, map, Option, Some, None}
use Rattle.std.proofs.Common.{option_map, unwrap_or, is_some, true≢false, slice_get, refl, sym, ap, subst}
use Rattle.std.proofs.Common.{◌∙◌, arith}
use Rattle.std.proofs.lemmas.List.{append-nil, map-append}
use Rattle.std.proofs.lemmas.Option.{slice_get-map}
use Rattle.nj_scope.specs.Readings.{IsPrefix}
use Rattle.nj_names.specs.declared.files.FileNo.{FileNo}
use Rattle.nj_names.specs.Files.{path_at}
use Rattle.nj_statements.specs.Inside.EdgeSteps.{IsFileGiven}
use Rattle.nj_statements.specs.Records.{numbered}
use Rattle.nj_statements.proofs.Lists.{get-longer}

-- ---- strings are appended

pub prefix_same : {A : Type 0} (xs ys : List A) → ys ≡ xs → IsPrefix xs ys
prefix_same xs ys is = ([], is ∙ sym (append-nil xs))

-- ---- numbers that count from 1

pub numbered-next : (strings : List (List ℕ)) (i n : ℕ) (text : List ℕ) → n ≡ i + 1
    → slice_get strings i ≡ Some text → slice_get (numbered strings) n ≡ Some (Some text)
numbered-next strings i zero text is there = absurd (omega (arith, is))
numbered-next strings i (suc n) text is there =
    slice_get-map Some strings n ∙ ap (λ m. option_map Some (slice_get strings m))
    (let e : n ≡ i = omega (arith, is) in e) ∙ ap (option_map Some) there

-- strings keep their numbers
pub numbered-longer : (strings longer : List (List ℕ)) (n : ℕ) (o : Option (List ℕ)) → IsPrefix strings longer
    → slice_get (numbered strings) n ≡ Some o → slice_get (numbered longer) n ≡ Some o
numbered-longer strings longer n o (more, is) there =
    subst (λ (l : List (List ℕ)). slice_get (numbered l) n ≡ Some o) (sym is)
    (subst (λ (l : List (Option (List ℕ))). slice_get (None ∷ l) n ≡ Some o)
    (sym (map-append Some strings more)) (get-longer (numbered strings) (map Some more) n o there))

-- ---- the path of a dyndep file

pub path-meant : (files : List (List ℕ)) (file : Option FileNo) (meant : Option (List ℕ))
    → IsFileGiven files file meant → option_map (path_at files) file ≡ meant
path-meant files None None is = refl
path-meant files None (Some path) is = absurd (true≢false (sym (ap is_some is)))
path-meant files (Some f) None is = absurd (true≢false (ap is_some is))
path-meant files (Some f) (Some path) is =
    ap (λ (o : Option (Option (List ℕ))). Some (unwrap_or (unwrap_or o None) [])) is
