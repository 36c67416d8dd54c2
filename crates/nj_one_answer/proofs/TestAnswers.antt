-- Two answers of `tests`.
use Rattle.std.proofs.Common.{◌≡◌, ◌+◌, ℕ, Bool, true, false, cond, ◌&&◌, ◌||◌, Option, List, [], ◌∷◌}
use Rattle.std.proofs.Common.{◌++◌}
use Rattle.std.proofs.Common.{map, refl, sym, ap, subst, ◌∙◌}
use Rattle.std.proofs.Math.Path.{fun_ext}
use Rattle.std.specs.Prelude.{◌↔◌, Contains, None, bytes_eq, nat_eq, not, is_some, slice_index_or}
use Rattle.std.specs.List.{filter, filter_map, flat_map, list_any}
use Rattle.std.proofs.lemmas.List.Folds.{Any-from_list_any, list_any-append, list_any_at}
use Rattle.std.proofs.lemmas.Map.Views.{Contains-from_any}
use Rattle.std.proofs.lemmas.Slice.Eq.{bytes_eq-Decides}
use Rattle.nj_text.specs.Calls.{is_empty}
use Rattle.nj_scope.specs.ReadingList.{ReadStatement}
use Rattle.nj_names.specs.NameTables.{is_among}
use Rattle.nj_names.specs.NumberSets.{has}
use Rattle.nj_changes.specs.FullPaths.{full_path}
use Rattle.nj_changes.specs.Tables.{SameNames}
use Rattle.nj_graph.specs.Changes.{IsAffected}
use Rattle.nj_graph.specs.Edges.{edge_at, outputs_of}
use Rattle.nj_graph.specs.Graph.{edges_of}
use Rattle.nj_tests.specs.Tests.{TestModel}
use Rattle.nj_chosen.specs.Choices.{HasReason, why_by, why_chosen}
use Rattle.nj_chosen.specs.Chosen.{IsChosen, IsTestAffected}
use Rattle.nj_chosen.specs.Directories.{is_below, is_telling}
use Rattle.nj_chosen.specs.Reasons.{PathKinds, counted, has_below, kinds_of, programs_of, reason_by, without}
use Rattle.nj_chosen.specs.TestPaths.{program_of_test}
use Rattle.nj_reached.specs.GraphChanges.{full_paths, is_compiled, noticed_affected, noticed_changed}
use Rattle.nj_reached.specs.GraphChanges.{outputs_at}
use Rattle.nj_test_texts.specs.TestTexts.{tests_text, written, written_from}
use Rattle.nj_questions.specs.Questions.{TestsModel}
use Rattle.nj_ask.specs.declared.discovered.DiscoveredGraph.{DiscoveredGraph}
use Rattle.nj_ask.specs.ChosenTests.{AnswersTests, Reaches, WritesTests, graph_change, remarks, style_asked}
use Rattle.nj_ask.specs.ChosenTests.{tests_change}
use Rattle.nj_ask.specs.ChosenTests.AnswersTests.{chosen, no_folder, no_keys}
use Rattle.nj_ask.specs.Endings.{Ending, answered, refused}
use Rattle.nj_ask.specs.declared.status.Status.TheVariants.{Fault}
use Rattle.nj_ask.specs.Answers.{manifest_edges}
use Rattle.nj_ask.specs.Since.{NewModel}
use Rattle.nj_keys.specs.Keys.{ListsOfKeysAreUnique}
use Rattle.nj_ask.specs.Given.{given_paths}
use Rattle.nj_ask.specs.Laws.{WarningsAreUnique}
use Rattle.nj_ask.specs.Reports.{ChangeModel, HasCaveats, IsTouchedBy, changed_paths}
use Rattle.nj_globs.specs.Laws.{OneReading}
use Rattle.nj_one_answer.specs.Answers.{OneTestsAnswer, TellIf}
use Rattle.nj_discovered.specs.Times.{DeclaredTimes}
use Rattle.nj_agreement.proofs.ReachedAnswers.{rising-agree}
use Rattle.nj_one_answer.proofs.GivenAnswers.{leaves-agree}
use Rattle.nj_one_answer.proofs.ReportAnswers.{caveats-agree}
use Rattle.nj_one_answer.proofs.SinceAnswers.{lacking-agree, new-agree, new-or-lacking}

-- ---- lists with the same members

both-true : (a b : Bool) → (a ≡ true → b ≡ true) → (b ≡ true → a ≡ true) → a ≡ b
both-true true b to from = sym (to refl)
both-true false true to from = from refl
both-true false false to from = refl

same-bytes : (xs ys : List ℕ) → bytes_eq xs ys ≡ true → xs ≡ ys
same-bytes xs ys is = (bytes_eq-Decides xs ys).0 is

-- one of some names has a property that one of others has
any-to : (P : List ℕ → Bool) (xs ys : List (List ℕ)) → SameNames xs ys → list_any P xs ≡ true
    → list_any P ys ≡ true
any-to P xs ys same is =
    let any = Any-from_list_any P xs is in
    let name = any.1 in
    let among = list_any_at (bytes_eq name) xs any.0 name any.2
    (ap (bytes_eq name) any.3 ∙ (bytes_eq-Decides name name).1 refl) in
    let there = Contains-from_any same-bytes name ys (sym (same name) ∙ among) in
    list_any_at P ys there.0 name there.1 (ap P there.2 ∙ any.4)

any-names : (P : List ℕ → Bool) (xs ys : List (List ℕ)) → SameNames xs ys → list_any P xs ≡ list_any P ys
any-names P xs ys same =
    both-true (list_any P xs) (list_any P ys) (any-to P xs ys same) (any-to P ys xs (λ name. sym (same name)))

numbers-to : (P : ℕ → Bool) (xs ys : List ℕ) → ((n : ℕ) → Contains xs n → Contains ys n)
    → list_any P xs ≡ true → list_any P ys ≡ true
numbers-to P xs ys to is =
    let any = Any-from_list_any P xs is in
    let there = to any.1 (any.0, any.2, any.3) in
    list_any_at P ys there.0 any.1 there.1 (ap P there.2 ∙ any.4)

any-numbers : (P : ℕ → Bool) (xs ys : List ℕ) (Is : ℕ → Type 0) → ((n : ℕ) → Contains xs n ↔ Is n)
    → ((n : ℕ) → Contains ys n ↔ Is n) → list_any P xs ≡ list_any P ys
any-numbers P xs ys Is one other =
    both-true (list_any P xs) (list_any P ys)
    (numbers-to P xs ys (λ n there. (other n).1 ((one n).0 there)))
    (numbers-to P ys xs (λ n there. (one n).1 ((other n).0 there)))

any-map : {X Y : Type 0} (Q : Y → Bool) (f : X → Y) (xs : List X)
    → list_any Q (map f xs) ≡ list_any (λ x. Q (f x)) xs
any-map Q f [] = refl
any-map Q f (x ∷ xs) = ap (λ b. Q (f x) || b) (any-map Q f xs)

any-flat : {X Y : Type 0} (Q : Y → Bool) (f : X → List Y) (xs : List X)
    → list_any Q (flat_map f xs) ≡ list_any (λ x. list_any Q (f x)) xs
any-flat Q f [] = refl
any-flat Q f (x ∷ xs) =
    list_any-append Q (f x) (flat_map f xs) ∙ ap (λ b. list_any Q (f x) || b) (any-flat Q f xs)

any-filter : {X : Type 0} (Q P : X → Bool) (xs : List X)
    → list_any Q (filter P xs) ≡ list_any (λ x. P x && Q x) xs
any-filter Q P [] = refl
any-filter Q P (x ∷ xs) = by (P x) (any-filter Q P xs)
  where
    by : (b : Bool) → list_any Q (filter P xs) ≡ list_any (λ x. P x && Q x) xs
        → list_any Q (cond b (x ∷ filter P xs) (filter P xs))
        ≡ (b && Q x) || list_any (λ x. P x && Q x) xs
    by true rest = ap (λ b. Q x || b) rest
    by false rest = rest

-- ---- one change

same-left : (others one other : List (List ℕ)) → SameNames one other
    → SameNames (without others one) (without others other)
same-left others one other same name =
    let leaves : List ℕ → Bool = λ path. not (is_among others path) in
    any-filter (bytes_eq name) leaves one
    ∙ any-names (λ path. leaves path && bytes_eq name path) one other same
    ∙ sym (any-filter (bytes_eq name) leaves other)

abbrev kinds : (o a c n h m : List ℕ → Bool) → PathKinds
kinds o a c n h m = record {
  is_output = o;
  is_affected = a;
  is_changed = c;
  needs_affected = n;
  has_outputs = h;
  has_counted = m;
}

kinds-same : {o a c n h m o2 a2 c2 n2 h2 m2 : List ℕ → Bool} → o ≡ o2 → a ≡ a2 → c ≡ c2 → n ≡ n2 → h ≡ h2
    → m ≡ m2 → kinds o a c n h m ≡ kinds o2 a2 c2 n2 h2 m2
kinds-same {o} {a} {c} {n} {h} {m} {o2} {a2} {c2} {n2} {h2} {m2} eo ea ec en eh em =
    ap (λ f. kinds f a c n h m) eo ∙ ap (λ f. kinds o2 f c n h m) ea ∙ ap (λ f. kinds o2 a2 f n h m) ec
    ∙ ap (λ f. kinds o2 a2 c2 f h m) en ∙ ap (λ f. kinds o2 a2 c2 n2 f m) eh
    ∙ ap (λ f. kinds o2 a2 c2 n2 h2 f) em

module _ (known : DiscoveredGraph) (entries : List ReadStatement) (q : ChangeModel) (edges : List ℕ)
    (options : TestsModel) (tests : List TestModel) (all : Bool) (text other : List ℕ)
    (is : WritesTests known entries q edges options tests all text)
    (also : WritesTests known entries q edges options tests all other) where
  same-sought : SameNames is.sought also.sought
  same-sought name = is.are_sought name ∙ sym (also.are_sought name)

  same-noticed : SameNames is.change.noticed also.change.noticed
  same-noticed name =
      let g = known.graph in
      let one = graph_change known q is.sought edges in
      let two = graph_change known q also.sought edges in
      let first = noticed_affected entries (edges_of g) one in
      let compiled = full_paths q.working (filter (is_compiled entries (edges_of g)) (changed_paths g q)) in
      is.is_change.noticed name
      ∙ list_any-append (bytes_eq name) first (noticed_changed entries (edges_of g) one)
      ∙ ap (λ b. is_among first name || b) (same-left compiled is.sought also.sought same-sought name)
      ∙ sym (list_any-append (bytes_eq name) first (noticed_changed entries (edges_of g) two))
      ∙ sym (also.is_change.noticed name)

  same-needing : SameNames is.change.needing also.change.needing
  same-needing name =
      let es = edges_of known.graph in
      let ns = is.is_change.needers in
      let ms = also.is_change.needers in
      let names : List ℕ → Bool = λ path. bytes_eq name (full_path q.working path) in
      let outputs : ℕ → List (List ℕ) = λ edge. outputs_of (edge_at es edge) in
      let makes : ℕ → Bool = λ edge. list_any names (outputs edge) in
      is.is_change.needing name
      ∙ any-map (bytes_eq name) (full_path q.working) (outputs_at es ns) ∙ any-flat names outputs ns
      ∙ any-numbers makes ns ms
      (IsAffected es (changed_paths known.graph q ++ outputs_at es edges)) is.is_change.need
      also.is_change.need
      ∙ sym (any-flat names outputs ms)
      ∙ sym (any-map (bytes_eq name) (full_path q.working) (outputs_at es ms))
      ∙ sym (also.is_change.needing name)

  names-same : (xs ys : List (List ℕ)) → SameNames xs ys → is_among xs ≡ is_among ys
  names-same xs ys same = fun_ext same

  same-outputs : is_among is.change.outputs ≡ is_among also.change.outputs
  same-outputs =
      names-same is.change.outputs also.change.outputs
      (λ name. is.is_change.outputs name ∙ sym (also.is_change.outputs name))

  same-build : is.change.build ≡ also.change.build
  same-build = is.is_change.build ∙ sym also.is_change.build

  same-programs : programs_of is.change.build is.change.outputs tests
      ≡ programs_of also.change.build also.change.outputs tests
  same-programs =
      ap (λ build. programs_of build is.change.outputs tests) same-build
      ∙ ap (λ among. filter among (filter_map (program_of_test also.change.build) tests)) same-outputs

  same-counted : SameNames (counted is.change tests) (counted also.change tests)
  same-counted name =
      ap (λ programs. is_among (without programs is.change.noticed) name) same-programs
      ∙ same-left (programs_of also.change.build also.change.outputs tests) is.change.noticed
      also.change.noticed same-noticed name

  below-same : (roots others xs ys : List (List ℕ)) → roots ≡ others → SameNames xs ys
      → has_below roots xs ≡ has_below others ys
  below-same roots others xs ys are same =
      ap (λ rs. has_below rs xs) are
      ∙ fun_ext (λ folder. ap (λ b. is_telling others folder && b) (any-names (is_below folder) xs ys same))

  same-kinds : kinds_of is.change tests ≡ kinds_of also.change tests
  same-kinds =
      let a = is.change in
      let b = also.change in
      let roots = is.is_change.roots ∙ sym also.is_change.roots in
      kinds-same same-outputs
      (names-same a.affected b.affected
      (λ name. is.is_change.affected name ∙ sym (also.is_change.affected name)))
      (ap is_among is.is_change.changed ∙ names-same is.sought also.sought same-sought
      ∙ sym (ap is_among also.is_change.changed))
      (names-same a.needing b.needing same-needing)
      (below-same a.roots b.roots a.made b.made roots
      (λ name. is.is_change.made name ∙ sym (also.is_change.made name)))
      (below-same a.roots b.roots (counted a tests) (counted b tests) roots same-counted)

  same-reasons : is.chosen.reasons ≡ also.chosen.reasons
  same-reasons =
      let skips = is_some options.unnamed in
      is.are_chosen.reasons
      ∙ ap (λ kinds. map (reason_by kinds is.change.build skips) tests) same-kinds
      ∙ ap (λ build. map (reason_by (kinds_of also.change tests) build skips) tests) same-build
      ∙ sym also.are_chosen.reasons

  same-affected : (number : ℕ) → has is.chosen.affected number ≡ has also.chosen.affected number
  same-affected number =
      any-numbers (nat_eq number) is.chosen.affected also.chosen.affected
      (IsTestAffected tests (HasReason is.chosen.reasons)) is.are_chosen.affected
      (subst (λ rs. (n : ℕ) → Contains also.chosen.affected n ↔ IsTestAffected tests (HasReason rs) n)
      (sym same-reasons) also.are_chosen.affected)

  same-chosen : (number : ℕ) → has is.chosen.chosen number ≡ has also.chosen.chosen number
  same-chosen number =
      any-numbers (nat_eq number) is.chosen.chosen also.chosen.chosen
      (IsChosen tests (HasReason is.chosen.reasons)) is.are_chosen.chosen
      (subst (λ rs. (n : ℕ) → Contains also.chosen.chosen n ↔ IsChosen tests (HasReason rs) n)
      (sym same-reasons) also.are_chosen.chosen)

  same-why : (number : ℕ) → why_chosen is.chosen number ≡ why_chosen also.chosen number
  same-why number =
      let one = is.chosen in
      let two = also.chosen in
      ap (λ rs. why_by (slice_index_or rs number None) (has one.affected number) (has one.chosen number))
      same-reasons
      ∙ ap (λ b. why_by (slice_index_or two.reasons number None) b (has one.chosen number))
      (same-affected number)
      ∙ ap (λ b. why_by (slice_index_or two.reasons number None) (has two.affected number) b)
      (same-chosen number)

  same-written : (number : ℕ) (some : List TestModel)
      → written_from all is.chosen number some ≡ written_from all also.chosen number some
  same-written number [] = refl
  same-written number (test ∷ some) =
      ap (λ why. written all test.name why ++ written_from all is.chosen (number + 1) some) (same-why number)
      ∙ ap (λ rest. written all test.name (why_chosen also.chosen number) ++ rest)
      (same-written (number + 1) some)

  pub writes-agree : text ≡ other
  writes-agree = is.text_is ∙ ap (tests_text (style_asked options)) (same-written 0 tests) ∙ sym also.text_is

-- ---- one answer

module _ (reading : OneReading) (unique : WarningsAreUnique) (keys : ListsOfKeysAreUnique)
    (known : DiscoveredGraph)
    (entries : List ReadStatement) where
  pub one-choice : (times : DeclaredTimes) (folder : List ℕ) (options : TestsModel) (tests : List TestModel)
      (since : Option (List ℕ)) (input : List ℕ) → TellIf (is_some since) times
      → (output other : List ℕ) (ending end : Ending)
      → AnswersTests known entries times folder options tests since input output ending
      → AnswersTests known entries times folder options tests since input other end
      → (output ≡ other) × (ending ≡ end)
  one-choice times folder options tests since input tells _ _ _ _ (no_folder is) (no_folder also) =
      (refl, refl)
  one-choice times folder options tests since input tells _ _ _ _ (no_folder is) (no_keys some lacks) =
      absurd (some is)
  one-choice times folder options tests since input tells _ _ _ _ (no_folder is)
      (chosen some new leaves reaches said writes) =
      absurd (some is)
  one-choice times folder options tests since input tells _ _ _ _ (no_keys some lacks) (no_folder is) =
      absurd (some is)
  one-choice times folder options tests since input tells _ _ _ _ (no_keys {line = l} some lacks)
      (no_keys {line = m} some2 lacks2) =
      (refl, ap (λ line. refused line Fault) (lacking-agree options.change.since since l m lacks lacks2))
  one-choice times folder options tests since input tells _ _ _ _ (no_keys {line = l} some lacks)
      (chosen {new = n} some2 new leaves reaches said writes) =
      absurd (new-or-lacking known (manifest_edges known) entries times folder options.change.bases
      options.change.since since n l new lacks)
  one-choice times folder options tests since input tells _ _ _ _ (chosen some new leaves reaches said writes)
      (no_folder is) =
      absurd (some is)
  one-choice times folder options tests since input tells _ _ _ _
      (chosen {new = n} some new leaves reaches said writes)
      (no_keys {line = l} some2 lacks) =
      absurd (new-or-lacking known (manifest_edges known) entries times folder options.change.bases
      options.change.since since n l new lacks)
  one-choice times folder options tests since input tells _ _ _ _
      (chosen {paths = ps} {new = m} {edges = es} {caveats = c} {warnings = w} {output = o} some new leaves
      reaches said writes)
      (chosen {paths = qs} {new = n} {edges = fs} {caveats = d} {warnings = v} {output = p} some2 new2 leaves2
      reaches2 said2 writes2) =
      let same = leaves-agree reading options.change (given_paths options.change input) ps qs leaves leaves2
      in
      let one = new-agree keys known (manifest_edges known) entries times folder options.change.bases since
      m n tells new new2 in
      let change = tests_change known.has_discovered options tests folder in
      let reach = subst (λ (more : NewModel). Reaches known entries (change qs more) es c) one
      (subst (λ paths. Reaches known entries (change paths m) es c) same reaches) in
      let edges = rising-agree (IsTouchedBy known (change qs n)) es fs reach.touched reach.rises
      reaches2.touched reaches2.rises in
      let caveats = caveats-agree reading unique known entries (change qs n) fs c d
      (subst (λ ns. HasCaveats known entries (change qs n) ns c) edges reach.are_caveats)
      reaches2.are_caveats in
      let warnings = said ∙ ap (λ t. remarks options (given_paths options.change input) tests ++ t) caveats
      ∙ sym said2 in
      let written = subst
      (λ t. WritesTests known entries (change qs n) fs options tests (not (is_empty t)) o)
      warnings
      (subst (λ ns. WritesTests known entries (change qs n) ns options tests (not (is_empty w)) o) edges
      (subst (λ (more : NewModel). WritesTests known entries (change qs more) es options tests
      (not (is_empty w)) o) one
      (subst (λ paths. WritesTests known entries (change paths m) es options tests (not (is_empty w)) o) same
      writes))) in (
        writes-agree known entries (change qs n) fs options tests (not (is_empty v)) o p written writes2,
        ap (answered false) warnings,
      )

pub one-tests-answer : OneReading → WarningsAreUnique → ListsOfKeysAreUnique → OneTestsAnswer
one-tests-answer reading unique keys known entries times folder options tests since input =
    one-choice reading unique keys known entries times folder options tests since input
