-- The programs of tests.
use Rattle.std.proofs.Common.{◌≡◌, ◌⊎◌, inl, inr, ◌<◌, ◌+◌, ◌||◌, ℕ, Bool, true, false, not, cond, List, []}
use Rattle.std.proofs.Common.{◌∷◌}
use Rattle.std.proofs.Common.{◌++◌, Option, Some, None, map, length, take, get_or, refl, sym, ap, ◌∙◌}
use Rattle.std.specs.Prelude.{bytes_eq, option_map, unwrap_or}
use Rattle.std.specs.List.{cons_option, filter, filter_map, flat_map, list_any, slice_split}
use Rattle.std.specs.Option.{option_or}
use Rattle.std.proofs.lemmas.List.{map_more}
use Rattle.std.proofs.lemmas.List.Elements.{filter-append, filter_map-append}
use Rattle.std.proofs.lemmas.List.Folds.{list_any-append}
use Rattle.std.proofs.lemmas.Slice.Eq.{bytes_eq-Decides}
use Rattle.nj_text.specs.Calls.{is_empty}
use Rattle.nj_names.specs.NameTables.{is_among}
use Rattle.nj_tests.specs.Tests.{TestModel, test_model}
use Rattle.nj_tests.specs.declared.test.Test.{Test}
use Rattle.nj_tests.specs.Words.{attached_to, is_cut, is_sign, names_of, path_of, pieces_in, pieces_of}
use Rattle.nj_tests.specs.Words.{rests_of}
use Rattle.nj_changes.specs.Tables.{HasMore, SameNames}
use Rattle.nj_chosen.specs.declared.reason.Link.{Link}
use Rattle.nj_chosen.specs.declared.reason.Link.TheVariants.{AffectedOutput, ChangedFile, Directory}
use Rattle.nj_chosen.specs.declared.reason.Link.TheVariants.{NeedsAffected}
use Rattle.nj_chosen.specs.TestPaths.{first_word, names_of_test, program_of_test}
use Rattle.nj_chosen.specs.Reasons.{BuildChange, PathKinds, Why, counted, first_named, has_below, kinds_of}
use Rattle.nj_chosen.specs.Reasons.{link_of, named, programs_of, reason_by, reason_of, without, without_link}
use Rattle.nj_chosen.specs.Reasons.Why.{Named}
use Rattle.nj_chosen.specs.Laws.{NoticesTheChange, OwnProgramsChooseAnyway}
use Rattle.nj_chosen.proofs.NameLemmas.{more-then}

-- ---- the programs of a list, one test after another

pub programs-append : (build : List ℕ) (outputs : List (List ℕ)) (tests others : List TestModel)
    → programs_of build outputs (tests ++ others)
    ≡ programs_of build outputs tests ++ programs_of build outputs others
programs-append build outputs tests others =
    ap (filter (is_among outputs)) (filter_map-append (program_of_test build) tests others)
    ∙ filter-append (is_among outputs) (filter_map (program_of_test build) tests)
    (filter_map (program_of_test build) others)

-- the programs of one more test
pub programs-more : (build : List ℕ) (outputs : List (List ℕ)) (tests : List Test) (i : ℕ) (test : Test)
    (old new : List (List ℕ)) → i < length tests → test ≡ get_or tests i test
    → SameNames old (programs_of build outputs (map test_model (take i tests)))
    → HasMore old (programs_of build outputs (test_model test ∷ [])) new
    → SameNames new (programs_of build outputs (map test_model (take (i + 1) tests)))
programs-more build outputs tests i test old new within at are more =
    let first = map test_model (take i tests) in
    more-then [] old new (programs_of build outputs first) (programs_of build outputs (test_model test ∷ []))
    (programs_of build outputs (map test_model (take (i + 1) tests)))
    (ap (programs_of build outputs) (map_more test_model tests i test within
    ∙ ap (λ t. first ++ test_model t ∷ []) (sym at))
    ∙ programs-append build outputs first (test_model test ∷ []))
    are more

-- the program of one test
pub program-one : (build : List ℕ) (outputs : List (List ℕ)) (test : TestModel) (word : Option (List ℕ))
    → first_word (unwrap_or test.command []) ≡ word
    → programs_of build outputs (test ∷ [])
    ≡ filter (is_among outputs) (filter_map (option_map (path_of build test.folder)) (word ∷ []))
program-one build outputs test word is =
    ap (λ w. filter (is_among outputs) (filter_map (option_map (path_of build test.folder)) (w ∷ []))) is

pub among-one : (outputs : List (List ℕ)) (path : List ℕ) (is : Bool) → is_among outputs path ≡ is
    → filter (is_among outputs) (path ∷ []) ≡ cond is (path ∷ []) []
among-one outputs path true among = ap (λ b. cond b (path ∷ []) []) among
among-one outputs path false among = ap (λ b. cond b (path ∷ []) []) among

-- ---- the program of a test is the first path that a word of the test names

module _ (build : List ℕ) (folder : Option (List ℕ)) where
  abbrev filled : List (List ℕ) → List (List ℕ)
  filled pieces = filter (λ piece. not (is_empty piece)) pieces

  abbrev parts : (b : ℕ) (word : List ℕ) → List (List ℕ)
  parts b word = rests_of (b ∷ word) ++ slice_split is_sign (b ∷ word) ++ slice_split is_cut (b ∷ word)

  first-piece : (b : ℕ) (word : List ℕ) → (rest : List (List ℕ)) × (pieces_of (b ∷ word) ≡ (b ∷ word) ∷ rest)
  first-piece b word = by (list_any is_cut (b ∷ word)) refl
    where
      by : (cut : Bool) → list_any is_cut (b ∷ word) ≡ cut
          → (rest : List (List ℕ)) × (pieces_of (b ∷ word) ≡ (b ∷ word) ∷ rest)
      by true is = (
        filled (attached_to (b ∷ word)) ++ flat_map pieces_in (parts b word),
        ap (λ cut. flat_map pieces_in (cond cut ((b ∷ word) ∷ parts b word) ((b ∷ word) ∷ []))) is,
      )
      by false is = (
        filled (attached_to (b ∷ word)) ++ [],
        ap (λ cut. flat_map pieces_in (cond cut ((b ∷ word) ∷ parts b word) ((b ∷ word) ∷ []))) is,
      )

  first-path : (words texts : List (List ℕ)) (path : List ℕ)
      → option_map (path_of build folder) (first_word words) ≡ Some path
      → (rest : List (List ℕ)) × (flat_map (names_of build folder) (words ++ texts) ≡ path ∷ rest)
  first-path [] texts path is = absurd (cc)
  first-path ([] ∷ words) texts path is = absurd (cc)
  first-path ((b ∷ word) ∷ words) texts path is =
      let pieces = first-piece b word in
      let same : path_of build folder (b ∷ word) ≡ path = cc in
      let others = flat_map (names_of build folder) (words ++ texts) in (
        map (path_of build folder) pieces.0 ++ others,
        ap (λ ps. map (path_of build folder) ps ++ others) pieces.1
            ∙ ap (λ p. p ∷ map (path_of build folder) pieces.0 ++ others) same,
      )

-- ---- a test's own program

-- a first path with a link is the reason
first-linked : (kinds : PathKinds) (build : List ℕ) (skips : Bool) (test : TestModel) (path : List ℕ)
    (rest : List (List ℕ)) (link : Link) → names_of_test build test ≡ path ∷ rest
    → link_of kinds path ≡ Some link → reason_by kinds build skips test ≡ Some (Named link path)
first-linked kinds build skips test path rest link are is =
    let later : Option Why = cond skips None (without_link kinds test (names_of_test build test)) in
    ap (λ names. option_or (first_named kinds names) later) are
    ∙ ap (λ found. option_or (option_or (named path found) (first_named kinds rest)) later) is

bytes-differ : (a b : List ℕ) → bytes_eq a b ≡ false → bytes_eq b a ≡ false
bytes-differ a b differ = by (bytes_eq b a) refl
  where
    by : (t : Bool) → bytes_eq b a ≡ t → bytes_eq b a ≡ false
    by false is = is
    by true is = let same = (bytes_eq-Decides a b).1 (sym ((bytes_eq-Decides b a).0 is)) in absurd (cc)

neither : (a b : Bool) → (a || b) ≡ false → (a ≡ false) × (b ≡ false)
neither true b is = absurd (cc)
neither false b is = (refl, is)

-- what is not in a list does not matter among others
left-same : (before after : List (List ℕ)) (path : List ℕ) (paths : List (List ℕ))
    → is_among paths path ≡ false → without (before ++ path ∷ after) paths ≡ without (before ++ after) paths
left-same before after path [] none = refl
left-same before after path (p ∷ paths) none =
    let both = neither (bytes_eq path p) (is_among paths path) none in
    let same : is_among (before ++ path ∷ after) p ≡ is_among (before ++ after) p =
    list_any-append (bytes_eq p) before (path ∷ after)
    ∙ ap (λ b. is_among before p || (b || is_among after p)) (bytes-differ path p both.0)
    ∙ sym (list_any-append (bytes_eq p) before after) in
    ap (λ b. cond (not b) (p ∷ without (before ++ path ∷ after) paths)
    (without (before ++ path ∷ after) paths)) same
    ∙ ap (λ rest. cond (not (is_among (before ++ after) p)) (p ∷ rest) rest)
    (left-same before after path paths both.1)

-- the programs of a list in which a test has no program, or has this one
module _ (build : List ℕ) (outputs : List (List ℕ)) (before after : List TestModel) (test : TestModel) where
  abbrev all : List TestModel
  all = before ++ test ∷ after

  abbrev others : List TestModel
  others = before ++ after

  two : programs_of build outputs others ≡ programs_of build outputs before ++ programs_of build outputs after
  two = programs-append build outputs before after

  three : programs_of build outputs all
      ≡ programs_of build outputs before ++ programs_of build outputs (test ∷ after)
  three = programs-append build outputs before (test ∷ after)

  abbrev with_first : Option (List ℕ) → List (List ℕ)
  with_first program = filter (is_among outputs)
      (cons_option program (filter_map (program_of_test build) after))

  no-program : program_of_test build test ≡ None
      → programs_of build outputs all ≡ programs_of build outputs others
  no-program none =
      three ∙ ap (λ program. programs_of build outputs before ++ with_first program) none ∙ sym two

  own-left : (path : List ℕ) (noticed : List (List ℕ)) → program_of_test build test ≡ Some path
      → is_among noticed path ≡ false
      → without (programs_of build outputs all) noticed ≡ without (programs_of build outputs others) noticed
  own-left path noticed is none =
      let firsts = programs_of build outputs before in
      let lasts = programs_of build outputs after in
      ap (λ programs. without programs noticed)
      (three ∙ ap (λ program. firsts ++ with_first program) is)
      ∙ by (is_among outputs path) (left-same firsts lasts path noticed none)
      ∙ ap (λ programs. without programs noticed) (sym two)
    where
      by : (made : Bool)
          → without (programs_of build outputs before ++ path ∷ programs_of build outputs after) noticed
          ≡ without (programs_of build outputs before ++ programs_of build outputs after) noticed
          → without (programs_of build outputs before
          ++ cond made (path ∷ programs_of build outputs after) (programs_of build outputs after)) noticed
          ≡ without (programs_of build outputs before ++ programs_of build outputs after) noticed
      by true same = same
      by false same = refl

-- a path that is affected or changed has a link, whatever counts in a directory
linked : (c : BuildChange) (path : List ℕ)
    → (is_among c.affected path ≡ true) ⊎ (is_among c.changed path ≡ true)
    → (link : Link) × ((tests : List TestModel) → link_of (kinds_of c tests) path ≡ Some link)
linked c path is = by (is_among c.affected path) refl is
  where
    last : List TestModel → Option Link
    last tests = cond (has_below c.roots (counted c tests) path) (Some Directory)
        (cond (is_among c.needing path) (Some NeedsAffected) None)

    by : (affected : Bool) → is_among c.affected path ≡ affected
        → (is_among c.affected path ≡ true) ⊎ (is_among c.changed path ≡ true)
        → (link : Link) × ((tests : List TestModel) → link_of (kinds_of c tests) path ≡ Some link)
    by true holds is = (
      AffectedOutput,
      λ tests. ap (λ b. cond b (Some AffectedOutput)
          (cond (is_among c.changed path) (Some ChangedFile) (last tests))) holds,
    )
    by false unlike (inl holds) = absurd (cc)
    by false unlike (inr holds) = (
      ChangedFile,
      λ tests. ap (λ b. cond b (Some AffectedOutput)
          (cond (is_among c.changed path) (Some ChangedFile) (last tests))) unlike
          ∙ ap (λ b. cond b (Some ChangedFile) (last tests)) holds,
    )

module _ (c : BuildChange) (before after : List TestModel) (skips : Bool) (test : TestModel)
    (notices : NoticesTheChange c) where
  abbrev whole : List TestModel
  whole = before ++ test ∷ after

  abbrev rest_of_it : List TestModel
  rest_of_it = before ++ after

  abbrev kinds_for : List (List ℕ) → PathKinds
  kinds_for paths = record {
    is_output = is_among c.outputs;
    is_affected = is_among c.affected;
    is_changed = is_among c.changed;
    needs_affected = is_among c.needing;
    has_outputs = has_below c.roots c.made;
    has_counted = has_below c.roots paths;
  }

  by-counts : counted c whole ≡ counted c rest_of_it
      → reason_of c whole skips test ≡ reason_of c rest_of_it skips test
  by-counts same = ap (λ paths. reason_by (kinds_for paths) c.build skips test) same

  by-word : (path : List ℕ) → program_of_test c.build test ≡ Some path
      → (is_among c.affected path ≡ true) ⊎ (is_among c.changed path ≡ true)
      → reason_of c whole skips test ≡ reason_of c rest_of_it skips test
  by-word path is changes =
      let first = first-path c.build test.folder (unwrap_or test.command []) test.texts path is in
      let link = linked c path changes in
      first-linked (kinds_of c whole) c.build skips test path first.0 link.0 first.1 (link.1 whole)
      ∙ sym (first-linked (kinds_of c rest_of_it) c.build skips test path first.0 link.0 first.1
      (link.1 rest_of_it))

  by-program : (program : Option (List ℕ)) → program_of_test c.build test ≡ program
      → reason_of c whole skips test ≡ reason_of c rest_of_it skips test
  by-program None none =
      by-counts (ap (λ programs. without programs c.noticed)
      (no-program c.build c.outputs before after test none))
  by-program (Some path) is = by (is_among c.noticed path) refl
    where
      by : (noticed : Bool) → is_among c.noticed path ≡ noticed
          → reason_of c whole skips test ≡ reason_of c rest_of_it skips test
      by true holds = by-word path is (notices path holds)
      by false none = by-counts (own-left c.build c.outputs before after test path c.noticed is none)

pub own-programs-choose-anyway : OwnProgramsChooseAnyway
own-programs-choose-anyway c before after skips test notices =
    by-program c before after skips test notices (program_of_test c.build test) refl
