-- How texts are mapped, byte by byte.
use Rattle.std.proofs.Common.{◌≡◌, ◌<◌, ◌+◌, ◌-◌, ℕ, zero, suc, Bool, true, false, not, cond, Some, None}
use Rattle.std.proofs.Common.{List, [], ◌∷◌, ◌++◌, length, reverse, drop, get_or, ltb, bytes_eq, refl, sym}
use Rattle.std.proofs.Common.{ap, ◌∙◌, append_assoc, arith}
use Rattle.std.specs.Prelude.{◌||◌, ◌&&◌, ◌==◌, position, unwrap_or}
use Rattle.std.specs.Global.{Vec}
use Rattle.std.specs.List.{list_any, position_or_len, take_while}
use Rattle.std.proofs.lemmas.Bool.{eqb-true, lt-ltb}
use Rattle.std.proofs.lemmas.List.{at_drop_more, length-map, reverse-append}
use Rattle.std.proofs.lemmas.List.Sums.{take_while-cons}
use Rattle.nj_text.specs.Paths.{is_slash}
use Rattle.nj_keys.specs.Bases.{counted, front_mapped, is_separator, longest_at, mapped, mapped_after}
use Rattle.nj_keys.specs.Bases.{may_begin}
use Rattle.nj_keys.specs.Inside.Folders.{may_begin_after, paths}

-- ---- where a path may begin

after-byte : (separator slash : Bool) (b : ℕ) (word : List ℕ) → is_slash b ≡ slash
    → not (list_any is_slash (cond (not separator) (b ∷ word) []))
    ≡ (separator || (not (list_any is_slash word) && not slash))
after-byte true slash b word is = refl
after-byte false true b word is = ap (λ s. not (s || list_any is_slash word)) is
    ∙ both (list_any is_slash word)
  where
    both : (any : Bool) → false ≡ (not any && false)
    both true = refl
    both false = refl
after-byte false false b word is = ap (λ s. not (s || list_any is_slash word)) is
    ∙ both (list_any is_slash word)
  where
    both : (any : Bool) → not any ≡ (not any && true)
    both true = refl
    both false = refl

pub may_begin-next : (before : List ℕ) (b : ℕ)
    → may_begin (before ++ b ∷ []) ≡ may_begin_after (may_begin before) b
may_begin-next before b =
    let p : ℕ → Bool = λ byte. not (is_separator byte) in
    ap (λ bytes. not (list_any is_slash (take_while p bytes))) (reverse-append before (b ∷ []))
    ∙ ap (λ word. not (list_any is_slash word)) (take_while-cons p b (reverse before))
    ∙ after-byte (is_separator b) (is_slash b) b (take_while p (reverse before)) refl

-- ---- one more byte

module _ (folders : List (List ℕ)) (before : List ℕ) (b : ℕ) (after rest : List ℕ)
    (rest-is : rest ≡ b ∷ after) where
  -- a byte of a directory that counts
  pub step-inside : (left : ℕ) → 0 < left
      → mapped_after folders (before ++ b ∷ []) (left - 1) after ≡ mapped_after folders before left rest
  step-inside zero some = absurd (omega (arith, some))
  step-inside (suc left) some =
      let is : suc left - 1 ≡ left = omega arith in
      ap (λ n. mapped_after folders (before ++ b ∷ []) n after) is
      ∙ ap (mapped_after folders before (suc left)) (sym rest-is)

  -- a byte at which a directory of the given length counts, or no directory
  pub step-outside : (out written : List ℕ) (may : Bool) (size : ℕ) → may ≡ may_begin before
      → size ≡ cond may (longest_at folders rest) 0
      → written ≡ out ++ front_mapped folders size rest
      → written ++ mapped_after folders (before ++ b ∷ []) (size - 1) after
      ≡ out ++ mapped_after folders before 0 rest
  step-outside out written may size may-is size-is is =
      let later : ℕ → List ℕ = λ n. mapped_after folders (before ++ b ∷ []) (n - 1) after in
      let counts : size ≡ counted folders before (b ∷ after) =
      size-is ∙ ap (λ m. cond m (longest_at folders rest) 0) may-is ∙ ap (counted folders before) rest-is
      in
      ap (λ t. t ++ later size) is ∙ append_assoc out (front_mapped folders size rest) (later size)
      ∙ ap (λ t. out ++ (front_mapped folders size t ++ later size)) rest-is
      ∙ ap (λ n. out ++ (front_mapped folders n (b ∷ after) ++ later n)) counts
      ∙ ap (λ t. out ++ mapped_after folders before 0 t) (sym rest-is)

-- ---- no directories

pub empty-list : {X : Type 0} (xs : List X) → (length xs == 0) ≡ true → xs ≡ []
empty-list [] is = refl
empty-list (x ∷ xs) is = absurd (omega (arith, eqb-true (length (x ∷ xs)) 0 is))

counted-none : (may : Bool) → ◌≡◌ {A = ℕ} (cond may 0 0) 0
counted-none true = refl
counted-none false = refl

mapped-none : (before text : List ℕ) → mapped_after [] before 0 text ≡ text
mapped-none before [] = refl
mapped-none before (b ∷ text) =
    ap (λ n. front_mapped [] n (b ∷ text) ++ mapped_after [] (before ++ b ∷ []) (n - 1) text)
    (counted-none (may_begin before))
    ∙ ap (λ t. b ∷ t) (mapped-none (before ++ b ∷ []) text)

pub mapped-without : (folders : List (List ℕ)) (text : List ℕ) → folders ≡ [] → mapped folders text ≡ text
mapped-without folders text none = ap (λ fs. mapped fs text) none ∙ mapped-none [] text

-- ---- the number of a directory

module _ (path : List ℕ) (folders : List (Vec ℕ)) (n : ℕ) (d : Vec ℕ) (below : n < length folders) where
  abbrev first : List (Vec ℕ) → ℕ
  first fs = position_or_len (bytes_eq path) (paths fs)

  step : (same : Bool) → bytes_eq path (get_or folders n d).items ≡ same
      → first (drop n folders) ≡ cond (not same) (1 + first (drop (n + 1) folders)) 0
  step same is = at_drop_more first folders n d below
      ∙ ap (λ b. cond (not b) (1 + first (drop (n + 1) folders)) 0) is

  pub number-later : n + first (drop n folders) ≡ first folders
      → bytes_eq path (get_or folders n d).items ≡ false
      → (n + 1) + first (drop (n + 1) folders) ≡ first folders
  number-later so_far other = omega (arith, so_far, step false other)

  pub number-here : n + first (drop n folders) ≡ first folders
      → bytes_eq path (get_or folders n d).items ≡ true
      → n ≡ unwrap_or (position (bytes_eq path) (paths folders)) 0
  number-here so_far same =
      let here : first folders ≡ n = omega (arith, so_far, step true same) in
      let within = lt-ltb n (length (paths folders)) (omega (arith, below, length-map folders (λ f. f.items)))
      in
      sym (ap (λ m. unwrap_or (cond (ltb m (length (paths folders))) (Some m) None) 0) here
      ∙ ap (λ b. unwrap_or (cond b (Some n) None) 0) within)
