-- Lemmas on the paths of an edge, as byte strings.
use Rattle.std.proofs.lemmas.Grind.{common_steps}
use Rattle.std.proofs.Common.{◌≡◌, ◌<◌, ◌+◌, ◌⊎◌, inl, inr, ℕ, zero, suc, Bool, List, [], ◌∷◌, ◌++◌, map}
use Rattle.std.proofs.Common.{take, slice_get, Some, is_some, unwrap_or, if◌then◌else◌, refl, sym, ap, ◌∙◌}
use Rattle.std.proofs.Common.{true≢false, arith, add-one, append_assoc, Result, OnErr}
use Rattle.std.specs.List.{join_with_byte}
use Rattle.std.proofs.lemmas.List.{append-nil, map_push}
use Rattle.std.proofs.lemmas.Option.{slice_get_within, get_or_from_slice_get}
use Rattle.std.proofs.Math.Seq.{take-suc}
use Rattle.nj_text.specs.Quotes.{quoted}
use Rattle.nj_scope.specs.Readings.{IsPrefix}
use Rattle.nj_names.specs.declared.files.FileNo.{FileNo}
use Rattle.nj_names.specs.Files.{path_at}
use Rattle.nj_edge_env.specs.LateStrings.{paths_text}

joined_last : (separator : ℕ) (x : List ℕ) (xs : List (List ℕ)) (t : List ℕ)
    → join_with_byte separator (x ∷ (xs ++ t ∷ [])) ≡ join_with_byte separator (x ∷ xs) ++ (separator ∷ t)
joined_last separator x [] t = refl
joined_last separator x (y ∷ ys) t = grind (
  arith,
  joined_last separator y ys t,
  append_assoc x (separator ∷ join_with_byte separator (y ∷ ys)) (separator ∷ t),
)

abbrev shown : Bool → List ℕ → List ℕ
shown quoting path = if quoting then quoted path else path

pub paths_turn : (files : List (List ℕ)) (paths : List FileNo) (quoting : Bool) (separator i : ℕ)
    (file : FileNo) (path start before pushed after : List ℕ)
    → slice_get paths i ≡ Some file → slice_get files file.0 ≡ Some path
    → before ≡ start ++ paths_text quoting separator (map (path_at files) (take i paths))
    → ((0 < i) × (pushed ≡ before ++ separator ∷ [])) ⊎ ((i ≡ 0) × (pushed ≡ before))
    → after ≡ pushed ++ shown quoting path
    → after ≡ start ++ paths_text quoting separator (map (path_at files) (take (i + 1) paths))
paths_turn files paths quoting separator i file path start before pushed after here named so cases more =
    more ∙ step paths i here so cases ∙ sym
    (ap (λ fs. start ++ paths_text quoting separator (map (path_at files) fs)) front)
  where
    front : take (i + 1) paths ≡ take i paths ++ file ∷ []
    front = ap (λ n. take n paths) (add-one i) ∙ take-suc paths i file (slice_get_within paths i file here)
        ∙ ap (λ q. take i paths ++ q ∷ []) (get_or_from_slice_get paths i file file here)

    its_path : path_at files file ≡ path
    its_path = ap (λ o. unwrap_or o []) named

    step : (ps : List FileNo) (k : ℕ) → slice_get ps k ≡ Some file
        → before ≡ start ++ paths_text quoting separator (map (path_at files) (take k ps))
        → ((0 < k) × (pushed ≡ before ++ separator ∷ [])) ⊎ ((k ≡ 0) × (pushed ≡ before))
        → pushed ++ shown quoting path ≡ start
        ++ paths_text quoting separator (map (path_at files) (take k ps ++ file ∷ []))
    step [] k h so cases = absurd (true≢false (sym (ap is_some h)))
    step (p ∷ ps) zero h so (inl c) = absurd (omega (arith, c.0))
    step (p ∷ ps) zero h so (inr c) =
        ap (λ x. x ++ shown quoting path) (c.1 ∙ so ∙ append-nil start)
        ∙ ap (λ x. start ++ shown quoting x) (sym its_path)
    step (p ∷ ps) (suc k) h so (inr c) = absurd (omega (arith, c.0))
    step (p ∷ ps) (suc k) h so (inl c) =
        let ts = map (shown quoting) (map (path_at files) (take k ps)) in
        let x = shown quoting (path_at files p) in
        ap (λ y. y ++ shown quoting path) (c.1 ∙ ap (λ y. y ++ separator ∷ []) so)
        ∙ append_assoc (start ++ join_with_byte separator (x ∷ ts)) (separator ∷ []) (shown quoting path)
        ∙ append_assoc start (join_with_byte separator (x ∷ ts)) (separator ∷ shown quoting path)
        ∙ ap (λ y. start ++ y) (sym (joined_last separator x ts (shown quoting path)))
        ∙ ap (λ us. start ++ join_with_byte separator (x ∷ us))
        (ap (λ y. ts ++ shown quoting y ∷ []) (sym its_path)
        ∙ sym (map_push (shown quoting) (map (path_at files) (take k ps)) (path_at files file))
        ∙ ap (map (shown quoting)) (sym (map_push (path_at files) (take k ps) file)))

-- ---- if an allocation failed

pub on-err : {A E P : Type 0} (r : Result A E) → P → OnErr r P
on-err r p = grind arith

-- nothing or a separator was appended to the bytes so far
pub paths_begin : (start text : List ℕ) (separator : ℕ) (before pushed after : List ℕ)
    → before ≡ start ++ text → (pushed ≡ before ++ separator ∷ []) ⊎ (pushed ≡ before) → after ≡ pushed
    → IsPrefix start after
paths_begin start text separator before pushed after so h same = grind (arith, common_steps)
