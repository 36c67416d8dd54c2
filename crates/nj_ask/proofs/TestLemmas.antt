-- How the answer to `tests` is given.
use Rattle.std.proofs.Common.{◌≡◌, ◌≢◌, ◌++◌, ◌∷◌, ◌==◌, ℕ, Bool, true, false, cond, Option, Some, None, List}
use Rattle.std.proofs.Common.{[]}
use Rattle.std.proofs.Common.{Ok, Err, length, true≢false}
use Rattle.std.proofs.Common.{refl, sym, subst, ◌∙◌, ap}
use Rattle.std.specs.Prelude.{◌↔◌, Contains, codes, is_some, not, option_map}
use Rattle.nj_text.specs.Calls.{is_empty}
use Rattle.std.proofs.Math.Path.{fun_ext}
use Rattle.std.specs.List.{filter, flat_map}
use Rattle.nj_names.specs.NameTables.{is_among}
use Rattle.nj_changes.specs.FullPaths.{all_sought}
use Rattle.nj_changes.specs.Tables.{SameNames}
use Rattle.nj_chosen.specs.TestPaths.{named_by_tests, names_of_test}
use Rattle.nj_graph.specs.ReadingList.{ReadStatement}
use Rattle.nj_discovered.specs.Times.{DeclaredTimes}
use Rattle.nj_graph.specs.Graph.{GraphModel}
use Rattle.nj_tests.specs.Tests.{TestModel}
use Rattle.nj_chosen.specs.Reasons.{BuildChange}
use Rattle.nj_reached.specs.GraphChanges.{GraphChange, IsChangeOf}
use Rattle.nj_questions.specs.Questions.{TestsModel}
use Rattle.nj_ask.specs.declared.answer.Answer.{Answer}
use Rattle.nj_ask.specs.declared.discovered.DiscoveredGraph.{DiscoveredGraph}
use Rattle.nj_ask.specs.declared.failure.Failure.{Failure}
use Rattle.nj_ask.specs.declared.report.Reach.{Reach}
use Rattle.nj_ask.specs.declared.status.Status.TheVariants.{Fault}
use Rattle.nj_ask.specs.Answers.{change_asked, manifest_edges}
use Rattle.nj_ask.specs.ChosenTests.{AnswersTests, WritesTests, remarks, test_files}
use Rattle.nj_ask.specs.ChosenTests.AnswersTests.{chosen, no_folder, no_keys}
use Rattle.nj_ask.specs.Endings.{program_line, refused}
use Rattle.nj_ask.specs.Given.{given_paths, LeavesPaths}
use Rattle.nj_ask.specs.Reports.{ChangeModel, HasCaveats, IsTouchedBy}
use Rattle.nj_ask.specs.Since.{IsNewSince, LacksKeys, NewModel}
use Rattle.nj_ask.specs.Inside.Failures.{FailsBy, Gives}
use Rattle.nj_ask.specs.Inside.Reached.{IsReach, edge_numbers}
use Rattle.nj_ask.proofs.EndingLemmas.{gives-refused}
use Rattle.nj_ask.proofs.InputLemmas.{not-none}
use Rattle.nj_ask.proofs.MeantLemmas.{warnings-same}

-- texts with and without a byte
pub no-bytes : (text : List ℕ) → (length text == 0) ≡ true → text ≡ []
no-bytes [] is = refl
no-bytes (byte ∷ text) is = absurd (true≢false (sym is ∙ not-none byte text))

pub some-bytes : (text : List ℕ) → (length text == 0) ≡ false → text ≢ []
some-bytes [] some is = true≢false some
some-bytes (byte ∷ text) some is = absurd cc

module _ (known : DiscoveredGraph) (entries : List ReadStatement) (times : DeclaredTimes) (folder : List ℕ)
    (options : TestsModel)
    (tests : List TestModel) (since : Option (List ℕ)) (input : List ℕ) where
  -- a working directory that is not known
  pub gives-no-folder : (failure : Failure) → folder ≡ []
      → FailsBy Fault (λ line. line ≡ program_line (codes "the working directory is not known")) failure
      → Gives (AnswersTests known entries times folder options tests since input) (Err failure)
  gives-no-folder failure none fails =
      gives-refused (AnswersTests known entries times folder options tests since input) Fault
      (λ line. line ≡ program_line (codes "the working directory is not known"))
      (λ line is. subst (λ l. AnswersTests known entries times folder options tests since input []
      (refused l Fault))
      (sym is) (no_folder none)) failure fails

  -- a file that has no keys
  pub gives-no-keys : (failure : Failure) → folder ≢ []
      → FailsBy Fault (LacksKeys options.change.since since) failure
      → Gives (AnswersTests known entries times folder options tests since input) (Err failure)
  gives-no-keys failure some fails =
      gives-refused (AnswersTests known entries times folder options tests since input) Fault
      (LacksKeys options.change.since since) (λ line lacks. no_keys some lacks) failure fails

  abbrev Touches : Reach → (edge : ℕ) → ChangeModel → Type 0
  Touches reach edge q = Contains (edge_numbers reach.touched.items) edge ↔ IsTouchedBy known q edge

  abbrev files_at : (paths : List (List ℕ)) → List (List ℕ)
  files_at paths = test_files known.has_discovered options tests folder paths

  -- the tests that a change reaches
  pub gives-tests : (answer : Answer) (q : ChangeModel) (files paths : List (List ℕ)) (new : NewModel)
      (reach : Reach) (said : List ℕ) → folder ≢ []
      → IsNewSince known (manifest_edges known) entries times folder options.change.bases since new
      → LeavesPaths options.change (given_paths options.change input) paths
      → SameNames files (files_at paths)
      → q ≡ change_asked options.change folder files paths new → IsReach known q reach
      → HasCaveats known entries q (edge_numbers reach.touched.items) reach.caveats.items
      → said ≡ remarks options (given_paths options.change input) tests
      → answer.warnings.items ≡ said ++ reach.caveats.items
      → WritesTests known entries q (edge_numbers reach.touched.items) options tests
      (not (is_empty answer.warnings.items)) answer.output.items
      → answer.looks ≡ false → Gives (AnswersTests known entries times folder options tests since input)
      (Ok answer)
  gives-tests answer q files paths new reach said some is leaves same change reaches caveats about warnings
      writes
      quiet =
      let edges = edge_numbers reach.touched.items in
      let by = change_asked options.change folder files paths new in
      let are : HasCaveats known entries by edges reach.caveats.items =
      subst (λ x. HasCaveats known entries x edges reach.caveats.items) change caveats in
      let all = not (is_empty answer.warnings.items) in
      let written : WritesTests known entries by edges options tests all answer.output.items =
      subst (λ x. WritesTests known entries x edges options tests all answer.output.items) change writes in
      rw quiet (chosen some is leaves
      (record {
        touched = λ edge. subst (Touches reach edge) change (reaches.touched.touched edge);
        rises = reaches.touched.rises;
        are_caveats = record {
          about = are.about;
          warns = warnings-same known.graph entries by (files_at paths) same paths are.about are.warns;
          all = are.all;
        };
      })
      (warnings ∙ ap (λ t. t ++ reach.caveats.items) about)
      (record {
        sought = written.sought;
        are_sought = written.are_sought;
        change = written.change;
        is_change = written.is_change;
        chosen = written.chosen;
        are_chosen = written.are_chosen;
        text_is = written.text_is;
      }))

-- the files that tests name among changed ones
module _ (options : TestsModel) (tests : List TestModel) (folder : List ℕ) (paths files : List (List ℕ)) where
  abbrev all_files : List (List ℕ)
  all_files = named_by_tests folder (all_sought folder options.change.source_dirs paths) tests

  pub no-files : (is_known : Bool) → is_known ≡ false → files ≡ []
      → SameNames files (test_files is_known options tests folder paths)
  no-files is_known is none name =
      ap (λ ns. is_among ns name) none ∙ ap (λ b. is_among (cond b all_files []) name) (sym is)

  pub files-named : (is_known : Bool) (found : List (List ℕ)) → is_known ≡ true
      → SameNames found (all_sought folder options.change.source_dirs paths)
      → SameNames files (named_by_tests folder found tests)
      → SameNames files (test_files is_known options tests folder paths)
  files-named is_known found is same named name =
      named name
      ∙ ap (λ (among : List ℕ → Bool). is_among (filter among (flat_map (names_of_test folder) tests)) name)
      (fun_ext same)
      ∙ ap (λ b. is_among (cond b all_files []) name) (sym is)

-- a change of a graph, by other descriptions of its parts
module _ (g : GraphModel) (entries : List ReadStatement) (c : BuildChange) (folder : List ℕ)
    (changed : List (List ℕ)) where
  abbrev of : (roots files : List (List ℕ)) (touched : List ℕ) → GraphChange
  of roots files touched =
      record { folder = folder; roots = roots; changed = changed; files = files; touched = touched }

  pub changes-as : (roots others files more : List (List ℕ)) (touched edges : List ℕ)
      → roots ≡ others → files ≡ more → touched ≡ edges
      → IsChangeOf g entries (of roots files touched) c → IsChangeOf g entries (of others more edges) c
  changes-as roots others files more touched edges r f t is =
      subst (λ x. IsChangeOf g entries (of others more x) c) t
      (subst (λ x. IsChangeOf g entries (of others x touched) c) f
      (subst (λ x. IsChangeOf g entries (of x files touched) c) r is))

-- an option has a value whatever becomes of it
pub some-mapped : {X Y : Type 0} (f : X → Y) (o : Option X) → is_some (option_map f o) ≡ is_some o
some-mapped f None = refl
some-mapped f (Some x) = refl
