-- Two answers about the undeclared inputs of a graph, or about the files from which it is made.
use Rattle.std.proofs.Common.{◌≡◌, ◌≢◌, inl, inr, ℕ, ℤ, List, Some, length, map, sym, ap}
use Rattle.std.proofs.Common.{subst, ◌∙◌, bytes_eq}
use Rattle.std.specs.List.{IsDistinct}
use Rattle.nj_scope.specs.ReadingList.{ReadStatement}
use Rattle.nj_deps.specs.Logs.{LogModel, IsLogOf}
use Rattle.nj_deps.specs.declared.log_fault.DepsLogFault.TheVariants as log_fault
use Rattle.nj_deps.proofs.LawLemmas.{says_one_thing, read_unless_no_memory}
use Rattle.nj_graph.specs.Graph.{GraphModel, IsGraphOf, files_of}
use Rattle.nj_graph.specs.Undeclared.{input_of_edge, AreUndeclared}
use Rattle.nj_graph.specs.declared.undeclared.UndeclaredInput.{UndeclaredInput}
use Rattle.nj_ask.specs.Manifest.{IsMadeFrom}
use Rattle.nj_ask.specs.MadeFrom.{AreMadeFrom}
use Rattle.nj_agreement.proofs.FlagAnswers.{flags-agree}
use Rattle.nj_agreement.proofs.UndeclaredAnswers.{same-inputs, those-agree}
use Rattle.nj_c.specs.declared.status.Status.{Status}
use Rattle.nj_c.specs.declared.status.Status.TheVariants.{Done, Nothing, Short, Fault, Wanted, NotLoaded}
use Rattle.nj_c.specs.declared.status.Status.TheVariants.{BadNumber, BadMark, NotUtf8, NotOpen, OutOfMemory}
use Rattle.nj_c.specs.declared.status.Status.TheVariants.{BadLog}
use Rattle.nj_c.specs.declared.undeclared_inputs.EdgeInput.{EdgeInput}
use Rattle.nj_c.specs.Asking.{bool_code}
use Rattle.nj_c.specs.Buffers.{filled}
use Rattle.nj_c.specs.JoinedLogs.{IsNoLog}
use Rattle.nj_c.specs.MadeFrom.{GivesMadeFrom}
use Rattle.nj_c.specs.OneAnswer.{SameBuffer, InMemory}
use Rattle.nj_c.specs.Pages.{AreKnown, AreRefused}
use Rattle.nj_c.specs.Statuses.{code_of}
use Rattle.nj_c.specs.UndeclaredInputs.{numbered_input, AreUndeclaredIn, GivesUndeclared}
use Rattle.nj_c.proofs.OneAnswerLemmas.{bad-log, bad-number, refused-buffer, IsRefusal}

-- ---- logs

-- bytes cannot be both a log and not a log
pub log-or-none : (bytes : List ℕ) (log : LogModel) → IsLogOf bytes log → IsNoLog bytes → ⊥
log-or-none bytes log is (inl none) =
    let e : log_fault.NoDepsLog ≡ log_fault.OutOfMemory =
    read_unless_no_memory bytes log log_fault.NoDepsLog is none in cc
log-or-none bytes log is (inr (version, other)) =
    let e : log_fault.OtherVersion version ≡ log_fault.OutOfMemory =
    read_unless_no_memory bytes log (log_fault.OtherVersion version) is other in cc

-- ---- undeclared inputs

module _ (g : GraphModel) (entries : List ReadStatement) (are : IsGraphOf g entries)
    (distinct : IsDistinct bytes_eq (files_of g)) (bytes : List ℕ) (one other : ℤ)
    (before before2 after after2 : List EdgeInput) (count count2 : ℕ) (alike : before ≡ before2)
    (kept : one ≢ code_of Done → after ≡ before) (kept2 : other ≢ code_of Done → after2 ≡ before2)
  where
    one-list : (log log2 : LogModel) → log ≡ log2 → (inputs inputs2 : List UndeclaredInput)
        → AreUndeclaredIn g log inputs → AreUndeclaredIn g log2 inputs2 → inputs ≡ inputs2
    one-list log log2 same inputs inputs2 (known, those) (known2, those2) =
        same-inputs (files_of g) distinct inputs inputs2 known known2
        (those-agree _ _ _ (those entries are)
        (subst (λ l. AreUndeclared l entries (map (input_of_edge (files_of g)) inputs2)) (sym same)
        (those2 entries are)))

    pub undeclared-agree : GivesUndeclared g bytes before after count one
        → GivesUndeclared g bytes before2 after2 count2 other
        → InMemory one other (SameBuffer one other after after2 count count2)
    undeclared-agree (inl (log, is, (inputs, those, done, total, all)))
        (inl (log2, is2, (inputs2, those2, done2, total2, all2))) _ _ =
        let same : inputs ≡ inputs2 =
        one-list log log2 (says_one_thing bytes log log2 is is2) inputs inputs2 those those2 in
        record {
          answer = record {
            status = done ∙ sym done2;
            given = λ _. total ∙ ap length same ∙ sym total2;
          };
          buffer = all ∙ ap (λ list. filled (map numbered_input list) before) same
              ∙ ap (filled (map numbered_input inputs2)) alike ∙ sym all2;
        }
    undeclared-agree (inl (log, is, (inputs, those, done, total, all))) (inr (inl (bad, none))) _ _ =
        absurd (log-or-none bytes log is none)
    undeclared-agree (inl is) (inr (inr lacks)) _ memory = absurd (memory lacks)
    undeclared-agree (inr (inl (bad, none))) (inl (log, is, rest)) _ _ =
        absurd (log-or-none bytes log is none)
    undeclared-agree (inr (inl (bad, none))) (inr (inl (bad2, none2))) _ _ =
        refused-buffer one other before before2 after after2 count count2 alike kept kept2 BadLog bad-log bad
        bad2
    undeclared-agree (inr (inl bad)) (inr (inr lacks)) _ memory = absurd (memory lacks)
    undeclared-agree (inr (inr lacks)) also memory _ = absurd (memory lacks)

-- ---- refused files

-- why files were refused, if memory did not lack: some are unknown
pub unknown-files : (g : GraphModel) (files : List ℕ) (status : Status) (result : ℤ)
    → result ≡ code_of status
    → AreRefused (Some g) files status → result ≢ code_of OutOfMemory
    → (result ≡ code_of BadNumber) × (AreKnown g files → ⊥)
unknown-files g files NotLoaded result is none memory = absurd cc
unknown-files g files BadNumber result is unknown memory = (is, unknown)
unknown-files g files OutOfMemory result is lacks memory = absurd (memory is)
unknown-files g files Done result is none memory = absurd none
unknown-files g files Nothing result is none memory = absurd none
unknown-files g files Short result is none memory = absurd none
unknown-files g files Fault result is none memory = absurd none
unknown-files g files Wanted result is none memory = absurd none
unknown-files g files BadMark result is none memory = absurd none
unknown-files g files NotUtf8 result is none memory = absurd none
unknown-files g files NotOpen result is none memory = absurd none
unknown-files g files BadLog result is none memory = absurd none

-- ---- from which files the manifest is made

-- neither buffer was written
pub refused-flags : {A : Type 0} (one other : ℤ) (before before2 after after2 : List A) → before ≡ before2
    → (one ≢ code_of Done → after ≡ before) → (other ≢ code_of Done → after2 ≡ before2)
    → (status : Status) → IsRefusal status → one ≡ code_of status → other ≡ code_of status
    → (one ≡ other) × (after ≡ after2)
refused-flags one other before before2 after after2 alike kept kept2 status none is also =
    let refused = refused-buffer one other before before2 after after2 0 0 alike kept kept2 status none is
    also
    in (refused.answer.status, refused.buffer)

module _ (g : GraphModel) (entries : List ReadStatement) (are : IsGraphOf g entries) (files : List ℕ)
    (one other : ℤ) (before before2 after after2 : List ℤ) (alike : before ≡ before2)
    (kept : one ≢ code_of Done → after ≡ before) (kept2 : other ≢ code_of Done → after2 ≡ before2)
  where
    pub made-agree : GivesMadeFrom g files before after one → GivesMadeFrom g files before2 after2 other
        → InMemory one other ((one ≡ other) × (after ≡ after2))
    made-agree (inl (made, known, tells, done, all)) (inl (made2, known2, tells2, done2, all2)) _ _ =
        let same : made ≡ made2 =
        flags-agree (IsMadeFrom g entries) (AreMadeFrom g entries) (λ flags none. none) (λ x xs lacks. lacks)
        (λ x xs is flags each. each) files made made2 (tells entries are) (tells2 entries are) in (
          done ∙ sym done2,
          all ∙ ap (λ flags. filled (map bool_code flags) before) same
              ∙ ap (filled (map bool_code made2)) alike ∙ sym all2,
        )
    made-agree (inl (made, known, tells, done, all)) (inr (status, is, refused)) _ memory =
        absurd ((unknown-files g files status other is refused memory).1 known)
    made-agree (inr (status, is, refused)) (inl (made, known, tells, done, all)) memory _ =
        absurd ((unknown-files g files status one is refused memory).1 known)
    made-agree (inr (status, is, refused)) (inr (status2, is2, refused2)) memory memory2 =
        refused-flags one other before before2 after after2 alike kept kept2 BadNumber bad-number
        (unknown-files g files status one is refused memory).0
        (unknown-files g files status2 other is2 refused2 memory2).0
