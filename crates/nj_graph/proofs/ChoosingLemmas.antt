-- Which of the dyndep files are joined.
use Rattle.std.proofs.Common.{◌≡◌, ℕ, zero, suc, ◌+◌, ◌<◌, ◌≤◌, Bool, true, false, true≢false, Option, Some}
use Rattle.std.proofs.Common.{None, IfSome, Result, List, [], ◌∷◌, ◌++◌, length, take, drop, get_or}
use Rattle.std.proofs.Common.{slice_get, append-nil, append_assoc, IsUtf8, refl, sym, ap, subst, ◌∙◌, arith}
use Rattle.std.specs.List.{AllByRecursion, cons_option}
use Rattle.std.specs.Str.{is_utf8}
use Rattle.std.proofs.lemmas.List.Elements.{filter_map-append}
use Rattle.std.proofs.lemmas.Str.{IsUtf8-from_is_utf8, is_utf8-from_IsUtf8}
use Rattle.nj_scope.specs.Readings.{Reading}
use Rattle.nj_scope.specs.ReadingList.{ReadStatement}
use Rattle.nj_scope.specs.Sources.{SourceState}
use Rattle.nj_discovered.specs.declared.times.TimeFound.{TimeFound}
use Rattle.nj_discovered.specs.declared.times.TimeFound.TheVariants.{Time, NoAnswer}
use Rattle.nj_discovered.specs.Times.{DeclaredTimes, IsTimeOf}
use Rattle.nj_discovered.specs.Times.IsTimeOf.{asked, not_asked}
use Rattle.nj_faults.specs.declared.fault.GraphFault.{GraphFault}
use Rattle.nj_statements.specs.EdgeList.{Pending, pending_read}
use Rattle.nj_statements.specs.Joining.{dyndep_files}
use Rattle.nj_graph.specs.Loads.{LoadedModel, LoadsAfter}
use Rattle.nj_graph.specs.Joining.{some_joined_after, ArePresent, Joins, JoinsPresent}
use Rattle.nj_graph.specs.Joining.ArePresent.{none, there, not_there, not_told}
use Rattle.nj_graph.specs.Inside.JoiningContracts.{chosen_files, is_present, JoinsChosen}
use Rattle.nj_graph.specs.Inside.JoiningContracts.JoinsChosen.{joined, unpending, unchosen}
use Rattle.nj_graph.proofs.FirstTimes.{joins-all}
use Rattle.nj_graph.proofs.JoiningTables.{drop-next, drop-past}

-- ---- the files at some indices

pub chosen-next : (files : List Pending) (indices : List ℕ) (i : ℕ) (p : Pending) → slice_get files i ≡ Some p
    → chosen_files files (indices ++ i ∷ []) ≡ chosen_files files indices ++ p ∷ []
chosen-next files indices i p at =
    filter_map-append (slice_get files) indices (i ∷ [])
    ∙ ap (λ o. chosen_files files indices ++ cons_option o []) at

-- the next file
next-by-suc : (files : List Pending) (indices : List ℕ) (i d : ℕ) → i < length indices
    → AllByRecursion (λ index. index < length files) indices
    → (p : Pending) × (slice_get files (get_or indices i d) ≡ Some p)
    × (chosen_files files (drop i indices) ≡ p ∷ chosen_files files (drop (suc i) indices))
next-by-suc files [] i d within all = absurd (omega (arith, within))
next-by-suc files (index ∷ indices) zero d within all =
    let found = drop-next files index all.0 in
    (found.0, found.1, ap (λ o. cons_option o (chosen_files files indices)) found.1)
next-by-suc files (index ∷ indices) (suc i) d within all =
    next-by-suc files indices i d (omega (arith, within)) all.1

one-more : (i : ℕ) → suc i ≡ i + 1
one-more i = omega arith

pub next-chosen : (files : List Pending) (indices : List ℕ) (i d : ℕ) → i < length indices
    → AllByRecursion (λ index. index < length files) indices
    → (p : Pending) × (slice_get files (get_or indices i d) ≡ Some p)
    × (chosen_files files (drop i indices) ≡ p ∷ chosen_files files (drop (i + 1) indices))
next-chosen files indices i d within all =
    let next = next-by-suc files indices i d within all in
    (next.0, next.1, next.2 ∙ ap (λ n. next.0 ∷ chosen_files files (drop n indices)) (one-more i))

pub none-chosen : (files : List Pending) (indices : List ℕ) (i : ℕ) → length indices ≤ i
    → chosen_files files (drop i indices) ≡ []
none-chosen files indices i past = ap (chosen_files files) (drop-past indices i past)

take-by-suc : (files : List Pending) (i : ℕ) (p : Pending) → slice_get files i ≡ Some p
    → take (suc i) files ≡ take i files ++ p ∷ []
take-by-suc [] i p at = absurd cc
take-by-suc (q ∷ files) zero p at = ap (λ r. r ∷ []) (some-is q p at)
  where
    some-is : (x y : Pending) → Some x ≡ Some y → x ≡ y
    some-is x y h = cc
take-by-suc (q ∷ files) (suc i) p at = ap (λ ps. q ∷ ps) (take-by-suc files i p at)

pub take-next : (files : List Pending) (i : ℕ) (p : Pending) → slice_get files i ≡ Some p
    → take (i + 1) files ≡ take i files ++ p ∷ []
take-next files i p at = ap (λ n. take n files) (sym (one-more i)) ∙ take-by-suc files i p at

pub take-past : (files : List Pending) (i : ℕ) → length files ≤ i → take i files ≡ files
take-past [] zero h = refl
take-past [] (suc i) h = refl
take-past (p ∷ files) zero h = absurd (omega (arith, h))
take-past (p ∷ files) (suc i) h = ap (λ ps. p ∷ ps) (take-past files i (omega (arith, h)))

pub all-known : (most : ℕ) (indices : List ℕ) (i : ℕ) → AllByRecursion (λ index. index < most) indices
    → i < most
    → AllByRecursion (λ index. index < most) (indices ++ i ∷ [])
all-known most [] i all here = (here, tt)
all-known most (j ∷ indices) i all here = (all.0, all-known most indices i all.1 here)

-- ---- the files that exist

module _ (times : DeclaredTimes) where
  module _ (files present : List Pending) (p : Pending) (so_far : ArePresent times files present) where
    pub present-turn : (found : TimeFound) → IsTimeOf times p.file found → is_present found ≡ true
        → ArePresent times (files ++ p ∷ []) (present ++ p ∷ [])
    present-turn (Time (Some time)) is h = there p so_far is
    present-turn (Time None) is h = absurd (true≢false (sym h))
    present-turn NoAnswer is h = absurd (true≢false (sym h))

    pub absent-turn : (found : TimeFound) → IsTimeOf times p.file found → is_present found ≡ false
        → ArePresent times (files ++ p ∷ []) present
    absent-turn (Time (Some time)) is h = absurd (true≢false h)
    absent-turn (Time None) is h = not_there p so_far is
    absent-turn NoAnswer is h = not_told p so_far is

    either : (found : TimeFound) → IsTimeOf times p.file found
        → (more : List Pending) × ArePresent times (files ++ p ∷ []) more
    either found is = by (is_present found) refl
      where
        by : (b : Bool) → is_present found ≡ b
            → (more : List Pending) × ArePresent times (files ++ p ∷ []) more
        by true h = (present ++ p ∷ [], present-turn found is h)
        by false h = (present, absent-turn found is h)

  -- what a source may answer
  told : (path : List ℕ) → (found : TimeFound) × IsTimeOf times path found
  told path = by (is_utf8 path) refl
    where
      declared : IsUtf8 path → (o : Option TimeFound) → times path ≡ o
          → (found : TimeFound) × IsTimeOf times path found
      declared utf8 None e = (
        NoAnswer,
        asked utf8
            (subst (λ o. IfSome o (λ meant. meant ≡ NoAnswer)) (sym e) tt),
      )
      declared utf8 (Some found) e = (
        found,
        asked utf8 (subst (λ o. IfSome o (λ meant. meant ≡ found)) (sym e) refl),
      )

      by : (b : Bool) → is_utf8 path ≡ b → (found : TimeFound) × IsTimeOf times path found
      by true e = declared (IsUtf8-from_is_utf8 path e) (times path) refl
      by false e = (NoAnswer, not_asked (λ utf8. true≢false (sym (is_utf8-from_IsUtf8 path utf8) ∙ e)) refl)

  some-after : (files others present : List Pending) → ArePresent times files present
      → (more : List Pending) × ArePresent times (files ++ others) more
  some-after files [] present so_far = (
    present,
    subst (λ fs. ArePresent times fs present) (sym (append-nil files)) so_far,
  )
  some-after files (p ∷ others) present so_far =
      let found = told p.file in
      let next = either files present p so_far found.0 found.1 in
      let rest = some-after (files ++ p ∷ []) others next.0 next.1 in
      (rest.0, subst (λ fs. ArePresent times fs rest.0) (append_assoc files (p ∷ []) others) rest.1)

  pub some-present : (files : List Pending) → (present : List Pending) × ArePresent times files present
  some-present files = some-after [] files [] none

-- ---- what is joined

module _ (stated : List ReadStatement) (old : List Reading) (before after : SourceState)
    (result : Result LoadedModel GraphFault) where
  abbrev loads : List Pending → Type 0
  loads chosen = LoadsAfter old before after (some_joined_after old stated chosen) result

  pub all-chosen : JoinsChosen (λ files chosen. chosen ≡ files) stated old before after result
      → Joins stated old before after result
  all-chosen (joined same h) = joins-all stated old before after result (subst loads same h)
  all-chosen (unpending empty h) = joins-all stated old before after result
      (subst loads (sym (ap dyndep_files empty)) h)
  all-chosen (unchosen h) = joins-all stated old before after result (h (dyndep_files (pending_read stated)))

  pub present-chosen : (times : DeclaredTimes) → JoinsChosen (ArePresent times) stated old before after result
      → JoinsPresent times stated old before after result
  present-chosen times (joined {chosen} present h) = (chosen, present, h)
  present-chosen times (unpending empty h) =
      ([], subst (λ ps. ArePresent times (dyndep_files ps) []) (sym empty) none, h)
  present-chosen times (unchosen h) =
      let some = some-present times (dyndep_files (pending_read stated)) in
      (some.0, some.1, h some.0)
