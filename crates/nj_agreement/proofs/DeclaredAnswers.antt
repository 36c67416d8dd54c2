-- The results of sources that declare them.
use Rattle.std.proofs.Common.{◌≡◌, ℕ, Bool, true, false, cond, Option, Some, None}
use Rattle.std.proofs.Common.{is_some, IfSome, unwrap_or}
use Rattle.std.proofs.Common.{List, [], ◌∷◌, ◌++◌, refl, sym, ap, subst, ◌∙◌, bytes_eq}
use Rattle.std.specs.List.{AllByRecursion, filter}
use Rattle.std.specs.Option.{option_or}
use Rattle.std.specs.Str.{is_utf8}
use Rattle.std.proofs.lemmas.List.{append_cancel_left, append-nil, map-append}
use Rattle.std.proofs.lemmas.Slice.Eq.{bytes_eq-Decides}
use Rattle.std.proofs.lemmas.Str.{is_utf8-from_IsUtf8}
use Rattle.std.proofs.lemmas.List.Folds.{find-append}
use Rattle.std.proofs.lemmas.List.Elements.{filter-append}
use Rattle.nj_scope.specs.Readings.{Reading, reading_of, paths_of}
use Rattle.nj_scope.specs.Sources.{SourceState, IsAsGiven}
use Rattle.nj_statements.specs.EdgeList.{Pending}
use Rattle.nj_discovered.specs.declared.times.TimeFound.{TimeFound}
use Rattle.nj_discovered.specs.declared.times.TimeFound.TheVariants.{Time, NoAnswer}
use Rattle.nj_discovered.specs.Times.{DeclaredTimes, IsTimeOf}
use Rattle.nj_discovered.specs.Times.IsTimeOf.{asked, not_asked}
use Rattle.nj_graph.specs.Joining.{ArePresent}
use Rattle.nj_graph.specs.Joining.ArePresent.{none, there, not_there, not_told}
use Rattle.nj_graph.proofs.JoiningTables.{name-bad}
use Rattle.nj_agreement.specs.Sources.{TellAll}

pub declared-is : {X : Type 0} (meant : Option X) (value other : X) → is_some meant ≡ true
    → IfSome meant (λ m. value ≡ m) → value ≡ unwrap_or meant other
declared-is None value other all is = absurd cc
declared-is (Some m) value other all is = is

-- ---- times

-- the answer at a path
pub answer : DeclaredTimes → (path : List ℕ) → TimeFound
answer times path = cond (is_utf8 path) (unwrap_or (times path) NoAnswer) NoAnswer

-- where it is declared
pub answer-at : (times : DeclaredTimes) (path : List ℕ) → is_some (times path) ≡ true → (found : TimeFound)
    → IsTimeOf times path found → found ≡ answer times path
unfolding answer
answer-at times path told found (asked utf8 meant) =
    declared-is (times path) found NoAnswer told (turned (times path) meant)
    ∙ sym (ap (λ b. cond b (unwrap_or (times path) NoAnswer) NoAnswer) (is_utf8-from_IsUtf8 path utf8))
  where
    turned : (o : Option TimeFound) → IfSome o (λ m. m ≡ found) → IfSome o (λ m. found ≡ m)
    turned None h = h
    turned (Some m) h = sym h
answer-at times path told found (not_asked bad is) =
    is ∙ sym (ap (λ b. cond b (unwrap_or (times path) NoAnswer) NoAnswer) (name-bad path bad))

pub answer-is : (times : DeclaredTimes) → TellAll times → (path : List ℕ) (found : TimeFound)
    → IsTimeOf times path found → found ≡ answer times path
answer-is times all path found is = answer-at times path (all path) found is

-- a file exists
is_there : TimeFound → Bool
is_there (Time (Some time)) = true
is_there (Time None) = false
is_there NoAnswer = false

module _ (times : DeclaredTimes) (all : TellAll times) where
  pub there-at : Pending → Bool
  there-at p = is_there (answer times p.file)

  step : (p : Pending) (files present : List Pending) (found : TimeFound) → IsTimeOf times p.file found
      → present ≡ filter there-at files
      → present ++ cond (is_there found) (p ∷ []) [] ≡ filter there-at (files ++ p ∷ [])
  unfolding there-at
  step p files present found is before =
      ap (λ ps. ps ++ cond (is_there found) (p ∷ []) []) before
      ∙ ap (λ t. filter there-at files ++ cond (is_there t) (p ∷ []) []) (answer-is times all p.file found is)
      ∙ sym (filter-append there-at files (p ∷ []))

  pub present-are : (files present : List Pending) → ArePresent times files present
      → present ≡ filter there-at files
  unfolding is_there
  present-are _ _ none = refl
  present-are _ _ (there p {files} {present} {time} are is) =
      step p files present (Time (Some time)) is (present-are files present are)
  present-are _ _ (not_there p {files} {present} are is) =
      sym (append-nil present) ∙ step p files present (Time None) is (present-are files present are)
  present-are _ _ (not_told p {files} {present} are is) =
      sym (append-nil present) ∙ step p files present NoAnswer is (present-are files present are)

-- ---- readings

module _ (files : List ℕ → Option (Option (List ℕ))) (all : (path : List ℕ) → is_some (files path) ≡ true)
  where
    -- the reading of a path
    pub declared : (path : List ℕ) → Reading
    declared path = record { path = path; bytes = unwrap_or (files path) None }

    pub AreDeclared : List Reading → Type 0
    AreDeclared readings = AllByRecursion (λ r. r ≡ declared r.path) readings

    pub as-declared : (source : SourceState) → ((path : List ℕ) → source.files path ≡ files path)
        → (readings : List Reading) → AllByRecursion (IsAsGiven source) readings → AreDeclared readings
    unfolding AreDeclared declared
    as-declared source same [] given = tt
    as-declared source same (r ∷ readings) given = (
      ap (λ b. record { path = r.path; bytes = b }) (declared-is (files r.path) r.bytes None (all r.path)
          (subst (λ o. IfSome o (λ m. r.bytes ≡ m)) (same r.path) given.0)),
      as-declared source same readings given.1,
    )

    pub declared-by : (readings : List Reading)
        → AllByRecursion (λ r. r.bytes ≡ unwrap_or (files r.path) None) readings → AreDeclared readings
    unfolding AreDeclared declared
    declared-by [] are = tt
    declared-by (r ∷ readings) are =
        (ap (λ b. record { path = r.path; bytes = b }) are.0, declared-by readings are.1)

    -- what is read of a path is declared
    found-is : (readings : List Reading) → AreDeclared readings → (path : List ℕ)
        → IfSome (reading_of readings path) (λ r. r ≡ declared path)
    unfolding AreDeclared
    found-is [] are path = tt
    found-is (r ∷ readings) are path =
        by (bytes_eq path r.path) (bytes_eq-Decides path r.path).0 (found-is readings are.1 path)
      where
        by : (b : Bool) → (b ≡ true → path ≡ r.path)
            → IfSome (reading_of readings path) (λ s. s ≡ declared path)
            → IfSome (cond b (Some r) (reading_of readings path)) (λ s. s ≡ declared path)
        by true same rest = are.0 ∙ ap declared (sym (same refl))
        by false same rest = rest

    swap : (r : Reading) (one other : Option Reading) → IfSome one (λ s. s ≡ r) → IfSome other (λ s. s ≡ r)
        → option_or one other ≡ option_or other one
    swap r None None is also = refl
    swap r None (Some t) is also = refl
    swap r (Some s) None is also = refl
    swap r (Some s) (Some t) is also = ap Some (is ∙ sym also)

    -- in which order tables of declared readings are joined does not matter
    pub either-order : (old one other : List Reading) → AreDeclared one → AreDeclared other → (path : List ℕ)
        → reading_of ((old ++ one) ++ other) path ≡ reading_of ((old ++ other) ++ one) path
    either-order old one other are also path =
        let test : Reading → Bool = λ r. bytes_eq path r.path in
        find-append test (old ++ one) other ∙ ap (λ r. option_or r (reading_of other path))
        (find-append test old one)
        ∙ by (reading_of old path)
        ∙ sym (find-append test (old ++ other) one
        ∙ ap (λ r. option_or r (reading_of one path)) (find-append test old other))
      where
        by : (first : Option Reading)
            → option_or (option_or first (reading_of one path)) (reading_of other path)
            ≡ option_or (option_or first (reading_of other path)) (reading_of one path)
        by None = swap (declared path) (reading_of one path) (reading_of other path) (found-is one are path)
            (found-is other also path)
        by (Some r) = refl

    same-rest : (one other : List Reading) → AreDeclared one → AreDeclared other
        → paths_of one ≡ paths_of other
        → one ≡ other
    unfolding AreDeclared
    same-rest [] [] are also paths = refl
    same-rest [] (s ∷ other) are also paths = absurd cc
    same-rest (r ∷ one) [] are also paths = absurd cc
    same-rest (r ∷ one) (s ∷ other) are also paths =
        let path : r.path ≡ s.path = cc in
        let rest : paths_of one ≡ paths_of other = cc in
        ap (λ x. x ∷ one) (are.0 ∙ ap declared path ∙ sym also.0)
        ∙ ap (λ xs. s ∷ xs) (same-rest one other are.1 also.1 rest)

    -- declared readings of the same paths are the same
    pub same-readings : (old one other : List Reading) → AreDeclared one → AreDeclared other
        → paths_of (old ++ one) ≡ paths_of (old ++ other) → old ++ one ≡ old ++ other
    same-readings old one other are also paths = ap (λ rs. old ++ rs) (same-rest one other are also
        (append_cancel_left (paths_of old) (paths_of one) (paths_of other)
        (sym (map-append (λ r. r.path) old one) ∙ paths ∙ map-append (λ r. r.path) old other)))
