-- Two answers of `keys`.
use Rattle.std.proofs.Common.{◌≡◌, ℕ, true, false, Some, None, Result, Ok, List, map, slice_get, ◌++◌, refl}
use Rattle.std.proofs.Common.{ap, subst, sym, ◌∙◌}
use Rattle.std.proofs.lemmas.Bool.{both_ways}
use Rattle.std.proofs.lemmas.Option.{same_Some}
use Rattle.nj_text.specs.Paths.{clean_path_of}
use Rattle.nj_scope.specs.ReadingList.{ReadStatement}
use Rattle.nj_graph.specs.declared.GraphFault.{GraphFault}
use Rattle.nj_graph.specs.Graph.{IsGraphOf}
use Rattle.nj_needs.specs.PageWalks.{written}
use Rattle.nj_keys.specs.Keys.{ListsOfKeysAreUnique, all_commands}
use Rattle.nj_keys.specs.declared.pages.EdgeKey.{EdgeKey}
use Rattle.nj_keys.specs.Pages.{BeginsAfter, leads, left_at}
use Rattle.nj_questions.specs.Questions.{KeysModel}
use Rattle.nj_ask.specs.declared.discovered.DiscoveredGraph.{DiscoveredGraph}
use Rattle.nj_ask.specs.declared.status.Status.TheVariants.{Fault}
use Rattle.nj_ask.specs.declared.doubts.EdgeFault.{EdgeFault}
use Rattle.nj_ask.specs.Answers.{AnswersAllKeys, AnswersKeys, AnswersTargetKeys, HasDepfileFault}
use Rattle.nj_ask.specs.Answers.{HaveKeysAsked}
use Rattle.nj_ask.specs.Answers.{IsClear, asked_targets, files_at, keys_text, manifest_edges}
use Rattle.nj_ask.specs.Answers.AnswersAllKeys.{bad_depfile, every}
use Rattle.nj_ask.specs.Answers.AnswersKeys.{of_all, of_targets}
use Rattle.nj_ask.specs.Answers.AnswersTargetKeys.{no_target, no_depfile, out_of_range, page}
use Rattle.nj_ask.specs.Endings.{Ending, answered, fault_line, program_line, refused}
use Rattle.nj_ask.specs.Pages.{mark_line}
use Rattle.nj_ask.specs.Shape.{caveat_text}
use Rattle.nj_one_answer.specs.Answers.{OneKeysAnswer}
use Rattle.nj_one_answer.proofs.KeyAnswers.{marks-agree}
use Rattle.nj_one_answer.proofs.NeededFaults.{clear-or-fault, fault-lines-agree}
use Rattle.nj_one_answer.proofs.WhyAnswers.{ok-or-err, same-err, same-ok}

module _ (unique : ListsOfKeysAreUnique) (known : DiscoveredGraph) (entries : List ReadStatement)
    (options : KeysModel) (contents : List (List ℕ)) (mark : List ℕ) (graph : IsGraphOf known.graph entries)
  where
    abbrev targets : Result (List (List ℕ)) GraphFault
    targets = asked_targets known.graph options.targets

    abbrev Lists : (paths : List (List ℕ)) (keys : List EdgeKey) → Type 0
    Lists paths keys = HaveKeysAsked known entries options contents
        (written options.take (left_at (files_at known.graph paths) mark)) keys

    -- keys of the same edges are the same
    keys-agree : (numbers : List ℕ) (one other : List EdgeKey)
        → HaveKeysAsked known entries options contents numbers one
        → HaveKeysAsked known entries options contents numbers other → one ≡ other
    keys-agree numbers one other has also =
        unique (options.additions ++ contents) (map clean_path_of options.bases) (manifest_edges known)
        entries
        numbers one other has also

    -- the targets are the same files
    same : (a c : List (List ℕ)) → targets ≡ Ok a → targets ≡ Ok c → a ≡ c
    same a c is also = same-ok targets a c is also

    unclear : (a c : List (List ℕ)) (line : List ℕ) → targets ≡ Ok a → targets ≡ Ok c → IsClear known a
        → HasDepfileFault known c line → ⊥
    unclear a c line is also clear has =
        clear-or-fault known c line (subst (IsClear known) (same a c is also) clear) has

    abbrev Leads : (paths : List (List ℕ)) → Type 0
    Leads paths = leads (files_at known.graph paths) mark ≡ true

    lost : (a c : List (List ℕ)) → targets ≡ Ok a → targets ≡ Ok c → Leads a
        → leads (files_at known.graph c) mark ≡ false → ⊥
    lost a c is also valid bad =
        both_ways (leads (files_at known.graph c) mark) bad (subst Leads (same a c is also) valid)

    target-answers-agree : (output other : List ℕ) (ending end : Ending)
        → AnswersTargetKeys known entries options contents mark output ending
        → AnswersTargetKeys known entries options contents mark other end → (output ≡ other) × (ending ≡ end)
    target-answers-agree _ _ _ _ (no_target {fault = e1} bad1)
        (no_target {fault = e2} bad2) =
        (refl, ap (λ fault. refused (fault_line fault) Fault) (same-err targets e1 e2 bad1 bad2))
    target-answers-agree _ _ _ _ (no_target {fault = e1} bad1)
        (no_depfile {paths = a2} {line = l2} at2 has2) =
        absurd (ok-or-err targets a2 e1 at2 bad1)
    target-answers-agree _ _ _ _ (no_target {fault = e1} bad1)
        (out_of_range {paths = a2} at2 clear2 bad2) =
        absurd (ok-or-err targets a2 e1 at2 bad1)
    target-answers-agree _ _ _ _ (no_target {fault = e1} bad1)
        (page {paths = a2} {keys = t2} {walk = w2} rest2 at2 clear2 valid2 lists2 begins2 stops2) =
        absurd (ok-or-err targets a2 e1 at2 bad1)
    target-answers-agree _ _ _ _ (no_depfile {paths = a1} {line = l1} at1 has1)
        (no_target {fault = e2} bad2) =
        absurd (ok-or-err targets a1 e2 at1 bad2)
    target-answers-agree _ _ _ _ (no_depfile {paths = a1} {line = l1} at1 has1)
        (no_depfile {paths = a2} {line = l2} at2 has2) = (
          refl,
          ap (λ line. refused line Fault) (fault-lines-agree known a2 l1 l2
              (subst (λ paths. HasDepfileFault known paths l1) (same a1 a2 at1 at2) has1) has2),
        )
    target-answers-agree _ _ _ _ (no_depfile {paths = a1} {line = l1} at1 has1)
        (out_of_range {paths = a2} at2 clear2 bad2) =
        absurd (unclear a2 a1 l1 at2 at1 clear2 has1)
    target-answers-agree _ _ _ _ (no_depfile {paths = a1} {line = l1} at1 has1)
        (page {paths = a2} {keys = t2} {walk = w2} rest2 at2 clear2 valid2 lists2 begins2 stops2) =
        absurd (unclear a2 a1 l1 at2 at1 clear2 has1)
    target-answers-agree _ _ _ _ (out_of_range {paths = a1} at1 clear1 bad1)
        (no_target {fault = e2} bad2) =
        absurd (ok-or-err targets a1 e2 at1 bad2)
    target-answers-agree _ _ _ _ (out_of_range {paths = a1} at1 clear1 bad1)
        (no_depfile {paths = a2} {line = l2} at2 has2) =
        absurd (unclear a1 a2 l2 at1 at2 clear1 has2)
    target-answers-agree _ _ _ _ (out_of_range {paths = a1} at1 clear1 bad1)
        (out_of_range {paths = a2} at2 clear2 bad2) =
        (refl, refl)
    target-answers-agree _ _ _ _ (out_of_range {paths = a1} at1 clear1 bad1)
        (page {paths = a2} {keys = t2} {walk = w2} rest2 at2 clear2 valid2 lists2 begins2 stops2) =
        absurd (lost a2 a1 at2 at1 valid2 bad1)
    target-answers-agree _ _ _ _ (page {paths = a1} {keys = t1} {walk = w1} rest1 at1 clear1 valid1 lists1
        begins1
        stops1)
        (no_target {fault = e2} bad2) =
        absurd (ok-or-err targets a1 e2 at1 bad2)
    target-answers-agree _ _ _ _ (page {paths = a1} {keys = t1} {walk = w1} rest1 at1 clear1 valid1 lists1
        begins1
        stops1)
        (no_depfile {paths = a2} {line = l2} at2 has2) =
        absurd (unclear a1 a2 l2 at1 at2 clear1 has2)
    target-answers-agree _ _ _ _ (page {paths = a1} {keys = t1} {walk = w1} rest1 at1 clear1 valid1 lists1
        begins1
        stops1)
        (out_of_range {paths = a2} at2 clear2 bad2) =
        absurd (lost a1 a2 at1 at2 valid1 bad2)
    target-answers-agree _ _ _ _ (page {paths = a1} {keys = t1} {walk = w1} rest1 at1 clear1 valid1 lists1
        begins1
        stops1)
        (page {paths = a2} {keys = t2} {walk = w2} rest2 at2 clear2 valid2 lists2 begins2 stops2) =
        let files = files_at known.graph a2 in
        let paths : a1 ≡ a2 = same a1 a2 at1 at2 in (
          ap (keys_text known entries options)
              (keys-agree (written options.take (left_at files mark)) t1 t2
              (subst (λ ps. Lists ps t1) paths lists1) lists2),
          ap (λ rest. answered false (mark_line rest ++ caveat_text known entries))
              (marks-agree files mark graph.acyclic w1 w2
              (subst (λ ps. BeginsAfter (files_at known.graph ps) mark w1) paths begins1) begins2 options.take
              rest1 rest2 stops1 stops2),
        )

    all-answers-agree : (output other : List ℕ) (ending end : Ending)
        → AnswersAllKeys known entries options contents output ending
        → AnswersAllKeys known entries options contents other end → (output ≡ other) × (ending ≡ end)
    all-answers-agree _ _ _ _ (bad_depfile {fault = e1} is) (bad_depfile {fault = e2} also) = (
      refl,
      ap (λ (fault : EdgeFault). refused (program_line fault.text.items) Fault)
          (same_Some e1 e2 (sym is ∙ also)),
    )
    all-answers-agree _ _ _ _ (bad_depfile {fault = e1} is) (every {keys = k2} none has) =
        absurd (let no : None ≡ Some e1 = sym (ap (λ (fs : List EdgeFault). slice_get fs 0) none) ∙ is in cc)
    all-answers-agree _ _ _ _ (every {keys = k1} none has) (bad_depfile {fault = e2} also) =
        absurd (let no : None ≡ Some e2 = sym (ap (λ (fs : List EdgeFault). slice_get fs 0) none) ∙ also
        in cc)
    all-answers-agree _ _ _ _ (every {keys = k1} none has) (every {keys = k2} none2 has2) =
        (ap (keys_text known entries options) (keys-agree (all_commands known.graph) k1 k2 has has2), refl)

    pub answers-agree : (output other : List ℕ) (ending end : Ending)
        → AnswersKeys known entries options contents mark output ending
        → AnswersKeys known entries options contents mark other end → (output ≡ other) × (ending ≡ end)
    answers-agree output other ending end (of_targets is answers) (of_targets also answers2) =
        target-answers-agree output other ending end answers answers2
    answers-agree output other ending end (of_targets is answers) (of_all also answers2) =
        absurd (both_ways options.all is also)
    answers-agree output other ending end (of_all is answers) (of_targets also answers2) =
        absurd (both_ways options.all also is)
    answers-agree output other ending end (of_all is answers) (of_all also answers2) =
        all-answers-agree output other ending end answers answers2

pub one-keys-answer : ListsOfKeysAreUnique → OneKeysAnswer
one-keys-answer unique known entries options contents mark graph =
    answers-agree unique known entries options contents mark graph
