-- The meaning of no warning, and that paths have one text of warnings.
use Rattle.std.proofs.Common.{◌≡◌, ◌<◌, ℕ, ◌⊎◌, inl, inr, false, Option, List, [], ◌∷◌, ◌++◌, length}
use Rattle.std.proofs.Common.{get_or}
use Rattle.std.proofs.Common.{zero}
use Rattle.std.proofs.Common.{suc}
use Rattle.std.proofs.Common.{refl, sym, ap, subst, ◌∙◌, arith}
use Rattle.std.specs.Prelude.{Contains, codes, not}
use Rattle.std.proofs.lemmas.Bool.{both_ways, false_from_ne_true}
use Rattle.std.proofs.lemmas.List.{length_push}
use Rattle.nj_text.specs.Calls.{is_empty}
use Rattle.nj_tests.specs.Tests.{TestModel}
use Rattle.nj_changes.specs.FullPaths.{has_one, sought}
use Rattle.nj_graph.specs.ReadingList.{ReadStatement}
use Rattle.nj_discovered.specs.Times.{DeclaredTimes}
use Rattle.nj_graph.specs.Graph.{GraphModel}
use Rattle.nj_ask.specs.declared.discovered.DiscoveredGraph.{DiscoveredGraph}
use Rattle.nj_ask.specs.Affected.{line}
use Rattle.nj_ask.specs.Since.{IsNewSince, NewModel}
use Rattle.nj_ask.specs.Shape.{shape_text}
use Rattle.nj_ask.specs.Manifest.{makes_manifest, opened_files}
use Rattle.nj_ask.specs.Manifest.FeedsManifest.{by_maker}
use Rattle.nj_ask.specs.Answers.{AnswersAffected, change_asked, manifest_edges, outputs_asked}
use Rattle.nj_ask.specs.Answers.AnswersAffected.{no_keys, no_path, no_rule, reported}
use Rattle.nj_ask.specs.Endings.{Concludes, Ending, Ends, Sinks, answered_status}
use Rattle.nj_ask.specs.Endings.Ends.{ended, memory_fails, output_fails}
use Rattle.nj_ask.specs.ChosenTests.{AnswersTests, Reaches, WritesTests, remarks, tests_change}
use Rattle.nj_ask.specs.ChosenTests.AnswersTests.{chosen, no_folder, no_keys as no_test_keys}
use Rattle.nj_ask.specs.Laws.{DoneMissesNothing, DoneMissesNoTest, IsIgnored, IsOfTest, IsSettled}
use Rattle.nj_ask.specs.Laws.{KeepsManifest}
use Rattle.nj_ask.specs.Laws.{MissesNothing, MissesNoTest, WarningsAreUnique}
use Rattle.nj_ask.specs.Given.{given_paths, LeavesPaths}
use Rattle.nj_ask.specs.Reports.{changed_numbers, is_opened, is_test_file, made_from_line, remade_files}
use Rattle.nj_ask.specs.Reports.{ChangeModel}
use Rattle.nj_ask.specs.Reports.{ChangesManifest}
use Rattle.nj_ask.specs.Reports.{HasWarnings, IsReport, IsWarning}
use Rattle.nj_ask.specs.Reports.HasWarnings.{none, next}
use Rattle.nj_ask.specs.Reports.IsWarning.{ignored, made_from, nothing, of_test, settled, unknown}
use Rattle.nj_ask.specs.declared.status.Status.{Status}
use Rattle.nj_ask.specs.declared.status.Status.TheVariants.{Done}
use Rattle.nj_tools.specs.Sinks.{Takes}
use Rattle.nj_questions.specs.Questions.{AffectedModel, TestsModel}

last-apart : {X : Type 0} (xs : List X) (x : X) → [] ≡ xs ++ x ∷ [] → ⊥
last-apart xs x is = absurd (omega (arith, ap length is, length_push xs x))

-- a text after a text makes it longer
both-empty : (text more : List ℕ) → [] ≡ text ++ more → ([] ≡ text) × ([] ≡ more)
both-empty [] more is = (refl, is)
both-empty (b ∷ text) more is = absurd cc

line-apart : (path : List ℕ) → [] ≡ line path → ⊥
line-apart path is = last-apart path 10 is

made-from-apart : (path : List ℕ) → [] ≡ made_from_line path → ⊥
made-from-apart path is = last-apart (path ++ codes ": the manifest is made from it") 10 is

none-has-one : (paths : List (List ℕ)) → has_one [] paths ≡ false
none-has-one [] = refl
none-has-one (path ∷ paths) = none-has-one paths

module _ (g : GraphModel) (entries : List ReadStatement) (q : ChangeModel) where
  -- where a warning is empty
  abbrev Harmless : List ℕ → Type 0
  Harmless path =
      IsOfTest g q path ⊎ KeepsManifest g entries q path ⊎ IsIgnored g q path ⊎ IsSettled g entries q path

  not-opened : (path : List ℕ) → ¬ ChangesManifest g entries q path → is_opened g q path ≡ false
  not-opened path not = false_from_ne_true (is_opened g q path) (λ was. not (inl was))

  not-warned : (path text : List ℕ) → [] ≡ text → IsWarning g entries q path text → Harmless path
  not-warned path _ is (made_from changes not) = absurd (made-from-apart path is)
  not-warned path _ is (settled changes up-to-date) =
      inr (inr (inr (record { changes = changes; settled = up-to-date })))
  not-warned path _ is (unknown not missing other asks) = absurd (line-apart path is)
  not-warned path _ is (of_test not missing names) =
      inl (record { unnamed = missing; unopened = not-opened path not; is_named = names })
  not-warned path _ is (ignored not missing ignores) =
      inr (inr (inl (record { unnamed = missing; unopened = not-opened path not; ignores = ignores })))
  not-warned path _ is (nothing not some) = inr (inl (record {
    named = some;
    unopened = not-opened path not;
    unmade = λ file maker edge has needs input.
        false_from_ne_true (makes_manifest g (opened_files g q.working) entries maker)
        (λ holds. not (inr (file, has, by_maker holds needs input)));
  }))

  none-warned : (paths : List (List ℕ)) (text : List ℕ) → [] ≡ text → HasWarnings g entries q paths text
      → (path : List ℕ) → Contains paths path → Harmless path
  none-warned _ _ is none path has = absurd (omega (arith, has.1))
  none-warned _ _ is (next {path = p} {warning = warning} {paths = paths} {text = text} one are) path has =
      let both = both-empty warning text is in
      by (not-warned p warning both.0 one) (none-warned paths text both.1 are path) has.0 has.1 has.2
    where
      by : Harmless p → (Contains paths path → Harmless path) → (k : ℕ) → k < length (p ∷ paths)
          → get_or (p ∷ paths) k path ≡ path → Harmless path
      by here others zero below same = subst Harmless same here
      by here others (suc k) below same = others (k, omega arith, same)

  -- a path has one warning
  one-warning : (path text other : List ℕ) → IsWarning g entries q path text
      → IsWarning g entries q path other → text ≡ other
  one-warning path _ _ (made_from changes is) (made_from also too) = refl
  one-warning path _ _ (made_from changes is) (settled also other) = absurd (both_ways q.is_settled is other)
  one-warning path _ _ (made_from changes is) (unknown not missing other asks) = absurd (not changes)
  one-warning path _ _ (made_from changes is) (of_test not missing names) = absurd (not changes)
  one-warning path _ _ (made_from changes is) (ignored not missing ignores) = absurd (not changes)
  one-warning path _ _ (made_from changes is) (nothing not some) = absurd (not changes)
  one-warning path _ _ (settled changes is) (made_from also other) = absurd (both_ways q.is_settled other is)
  one-warning path _ _ (settled changes is) (settled also other) = refl
  one-warning path _ _ (settled changes is) (unknown not missing other asks) = absurd (not changes)
  one-warning path _ _ (settled changes is) (of_test not missing names) = absurd (not changes)
  one-warning path _ _ (settled changes is) (ignored not missing ignores) = absurd (not changes)
  one-warning path _ _ (settled changes is) (nothing not some) = absurd (not changes)
  one-warning path _ _ (unknown not missing other asks) (made_from changes is) = absurd (not changes)
  one-warning path _ _ (unknown not missing other asks) (settled changes is) = absurd (not changes)
  one-warning path _ _ (unknown not missing other asks) (unknown again lacks apart more) = refl
  one-warning path _ _ (unknown not missing other asks) (of_test again lacks names) =
      absurd (both_ways (is_test_file q path) other names)
  one-warning path _ _ (unknown not missing other asks) (ignored again lacks ignores) =
      absurd (both_ways q.ignores_unknown asks ignores)
  one-warning path _ _ (unknown not missing other asks) (nothing again some) = absurd (some missing)
  one-warning path _ _ (of_test not missing names) (made_from changes is) = absurd (not changes)
  one-warning path _ _ (of_test not missing names) (settled changes is) = absurd (not changes)
  one-warning path _ _ (of_test not missing names) (unknown again lacks other asks) =
      absurd (both_ways (is_test_file q path) other names)
  one-warning path _ _ (of_test not missing names) (of_test again lacks also) = refl
  one-warning path _ _ (of_test not missing names) (ignored again lacks ignores) = refl
  one-warning path _ _ (of_test not missing names) (nothing again some) = refl
  one-warning path _ _ (ignored not missing ignores) (made_from changes is) = absurd (not changes)
  one-warning path _ _ (ignored not missing ignores) (settled changes is) = absurd (not changes)
  one-warning path _ _ (ignored not missing ignores) (unknown again lacks other asks) =
      absurd (both_ways q.ignores_unknown asks ignores)
  one-warning path _ _ (ignored not missing ignores) (of_test again lacks names) = refl
  one-warning path _ _ (ignored not missing ignores) (ignored again lacks more) = refl
  one-warning path _ _ (ignored not missing ignores) (nothing again some) = refl
  one-warning path _ _ (nothing not some) (made_from changes is) = absurd (not changes)
  one-warning path _ _ (nothing not some) (settled changes is) = absurd (not changes)
  one-warning path _ _ (nothing not some) (unknown again missing other asks) = absurd (some missing)
  one-warning path _ _ (nothing not some) (of_test again missing names) = refl
  one-warning path _ _ (nothing not some) (ignored again missing ignores) = refl
  one-warning path _ _ (nothing not some) (nothing again more) = refl

  one-text : (paths others : List (List ℕ)) (text other : List ℕ) → paths ≡ others
      → HasWarnings g entries q paths text → HasWarnings g entries q others other → text ≡ other
  one-text _ _ _ _ same none none = refl
  one-text _ _ _ _ same none (next one are) = absurd cc
  one-text _ _ _ _ same (next one are) none = absurd cc
  one-text _ _ _ _ same (next {path = p} {warning = w} {paths = ps} {text = text} one are)
      (next {path = o} {warning = v} {paths = qs} {text = other} two also) =
      let first : p ≡ o = cc in
      let rest : ps ≡ qs = cc in
      ap (λ t. t ++ text) (one-warning o w v (subst (λ path. IsWarning g entries q path w) first one) two)
      ∙ ap (λ t. v ++ t) (one-text ps qs text other rest are also)

-- three texts that make none
three-empty : (first second third : List ℕ) → [] ≡ first ++ second ++ third
    → ([] ≡ first) × ([] ≡ second) × ([] ≡ third)
three-empty first second third is =
    let one = both-empty (first ++ second) third is in
    let two = both-empty first second one.0 in
    (two.0, two.1, one.1)

-- an answer with status 0 has no warning
no-warnings : (warnings : List ℕ) → Done ≡ answered_status false warnings → warnings ≡ []
no-warnings [] is = refl
no-warnings (b ∷ warnings) is = absurd cc

module _ (known : DiscoveredGraph) (entries : List ReadStatement) (times : DeclaredTimes) (folder : List ℕ)
    (options : AffectedModel)
    (since : Option (List ℕ)) (input : List ℕ) (old new : Sinks) where
  abbrev change : (paths : List (List ℕ)) → NewModel → ChangeModel
  change paths more = change_asked options folder [] paths more

  abbrev MissesOf : (paths : List (List ℕ)) → NewModel → Type 0
  MissesOf paths more =
      MissesNothing known entries (change paths more) (outputs_asked options) old.output new.output

  abbrev Misses : Type 0
  Misses = (paths : List (List ℕ)) × LeavesPaths options (given_paths options input) paths
      × (more : NewModel) × IsNewSince known (manifest_edges known) entries times folder options.bases since
      more
      × MissesOf paths more

  -- tests name no file here
  untested : (paths : List (List ℕ)) (more : NewModel) (path : List ℕ)
      → Harmless known.graph entries (change paths more) path
      → KeepsManifest known.graph entries (change paths more) path
      ⊎ IsIgnored known.graph (change paths more) path
      ⊎ IsSettled known.graph entries (change paths more) path
  untested paths more path (inl of) = absurd (both_ways (is_test_file (change paths more) path)
      (none-has-one (sought folder options.source_dirs path)) of.is_named)
  untested paths more path (inr harmless) = harmless

  without-warnings : (paths : List (List ℕ)) (more : NewModel) (outputs warnings : List ℕ) → warnings ≡ []
      → IsReport known entries (change paths more) (outputs_asked options) outputs warnings
      → Takes old.output new.output outputs → MissesOf paths more
  without-warnings paths more outputs warnings empty report took =
      let texts = three-empty known.caveats.items report.caveats.about
      (shape_text known entries (remade_files known.graph (change paths more))
      (changed_numbers known.graph (change paths more))
      report.lists.edges)
      (sym empty ∙ report.caveats.all) in
      record {
        keeps = λ path has. untested paths more path
            (none-warned known.graph entries (change paths more) paths
            report.caveats.about texts.1 report.caveats.warns path has);
        clear = sym texts.0;
        outputs = outputs;
        lists = report.lists;
        shape = sym texts.2;
        took = took;
      }

  answer-misses : {output : List ℕ} {ending : Ending}
      → AnswersAffected known entries times folder options since input output ending
      → Takes old.output new.output output → Concludes ending old.error new.error Done → Misses
  answer-misses (no_rule is) took concludes = let is-fault = concludes.1 in absurd cc
  answer-misses (no_path known_rules empty asks) took (inl told) = let looks = told.1 in absurd cc
  answer-misses (no_path known_rules empty asks) took (inr fails) = let is-failed = fails.1 in absurd cc
  answer-misses (no_keys known_rules some lacks) took concludes = let is-fault = concludes.1 in absurd cc
  answer-misses (reported {paths = paths} {new = more} {outputs = outputs} {warnings = warnings} known_rules
      some is leaves report)
      took (inl told) = (
        paths,
        leaves,
        more,
        is,
        without-warnings paths more outputs warnings (no-warnings warnings told.1) report took,
      )
  answer-misses (reported known_rules some is leaves report) took (inr fails) = let is-failed = fails.1
      in absurd cc

  done-misses : (status : Status) → status ≡ Done
      → Ends (AnswersAffected known entries times folder options since input) old new status → Misses
  done-misses _ is (ended {output = output} {ending = ending} answers took concludes) =
      answer-misses answers took (subst (Concludes ending old.error new.error) is concludes)
  done-misses _ is (output_fails answers fails same) = absurd cc
  done-misses _ is (memory_fails front took told) = absurd cc

module _ (known : DiscoveredGraph) (entries : List ReadStatement) (times : DeclaredTimes) (folder : List ℕ)
    (options : TestsModel)
    (tests : List TestModel) (since : Option (List ℕ)) (input : List ℕ) (old new : Sinks) where
  abbrev change_of : (paths : List (List ℕ)) → NewModel → ChangeModel
  change_of paths more = tests_change known.has_discovered options tests folder paths more

  abbrev MissesNone : Type 0
  MissesNone = (paths : List (List ℕ)) × LeavesPaths options.change (given_paths options.change input) paths
      × (more : NewModel)
      × IsNewSince known (manifest_edges known) entries times folder options.change.bases since more
      × MissesNoTest known entries options tests (change_of paths more) old.output new.output

  chosen-miss : (paths : List (List ℕ)) (more : NewModel) (edges caveats warnings output : List ℕ)
      → warnings ≡ []
      → Reaches known entries (change_of paths more) edges caveats
      → warnings ≡ remarks options (given_paths options.change input) tests ++ caveats
      → WritesTests known entries (change_of paths more) edges options tests (not (is_empty warnings)) output
      → Takes old.output new.output output
      → MissesNoTest known entries options tests (change_of paths more) old.output new.output
  chosen-miss paths more edges caveats warnings output empty reaches said writes took =
      let q = change_of paths more in
      let both = both-empty (remarks options (given_paths options.change input) tests) caveats
      (sym empty ∙ said) in
      let texts = three-empty known.caveats.items reaches.are_caveats.about
      (shape_text known entries (remade_files known.graph q) (changed_numbers known.graph q) edges)
      (both.1 ∙ reaches.are_caveats.all) in
      record {
        keeps = λ path has. none-warned known.graph entries q paths reaches.are_caveats.about texts.1
            reaches.are_caveats.warns path has;
        clear = sym texts.0;
        edges = edges;
        touched = reaches.touched;
        shape = sym texts.2;
        output = output;
        writes = subst (λ t. WritesTests known entries q edges options tests (not (is_empty t)) output) empty
            writes;
        took = took;
      }

  tests-miss : {output : List ℕ} {ending : Ending}
      → AnswersTests known entries times folder options tests since input output ending
      → Takes old.output new.output output → Concludes ending old.error new.error Done → MissesNone
  tests-miss (no_folder is) took concludes = let is-fault = concludes.1 in absurd cc
  tests-miss (no_test_keys some lacks) took concludes = let is-fault = concludes.1 in absurd cc
  tests-miss (chosen {paths = paths} {new = more} {edges = edges} {caveats = caveats} {warnings = warnings}
      {output = output} some is leaves reaches said writes) took (inl told) = (
        paths,
        leaves,
        more,
        is,
        chosen-miss paths more edges caveats warnings output (no-warnings warnings told.1) reaches said writes
            took,
      )
  tests-miss (chosen some is leaves reaches said writes) took (inr fails) = let is-failed = fails.1
      in absurd cc

  done-tests : (status : Status) → status ≡ Done
      → Ends (AnswersTests known entries times folder options tests since input) old new status → MissesNone
  done-tests _ is (ended {output = output} {ending = ending} answers took concludes) =
      tests-miss answers took (subst (Concludes ending old.error new.error) is concludes)
  done-tests _ is (output_fails answers fails same) = absurd cc
  done-tests _ is (memory_fails front took told) = absurd cc

pub complete-tests : DoneMissesNoTest
complete-tests known entries times folder options tests since input old new ends =
    done-tests known entries times folder options tests since input old new Done refl ends

pub complete : DoneMissesNothing
complete known entries times folder options since input old new ends =
    done-misses known entries times folder options since input old new Done refl ends

pub unique : WarningsAreUnique
unique g entries q paths text other are also = one-text g entries q paths paths text other refl are also
