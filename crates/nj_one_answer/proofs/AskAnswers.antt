-- Two runs of one question.
use Rattle.std.proofs.Common.{◌≡◌, ◌⊎◌, inl, inr, ℕ, Bool, true, false, cond, Option, Some, None, Result, Ok}
use Rattle.std.proofs.Common.{Err}
use Rattle.std.proofs.Common.{List, [], refl, sym, subst, ◌∙◌}
use Rattle.std.specs.Prelude.{option_map, string_bytes}
use Rattle.std.proofs.lemmas.Option.{same_Some}
use Rattle.nj_discovered.specs.Times.{DeclaredTimes}
use Rattle.nj_questions.specs.Questions.{QuestionModel, SubjectModel, affected, audit, draw, json, keys}
use Rattle.nj_questions.specs.Questions.{stale, tests, timings, why}
use Rattle.nj_questions.specs.Questions.{question_model}
use Rattle.nj_questions.specs.QuestionOf.{question_of, refusal_model}
use Rattle.nj_questions.specs.declared.questions.Question.{Question}
use Rattle.nj_questions.specs.declared.refusals.Refusal.{Refusal}
use Rattle.nj_questions.specs.declared.refusals.Refusal.TheVariants as refusal
use Rattle.nj_audit.specs.Kinds.{first_unknown}
use Rattle.nj_ask.specs.declared.discovered.DiscoveredGraph.{DiscoveredGraph}
use Rattle.nj_ask.specs.declared.status.Status.{Status}
use Rattle.nj_ask.specs.declared.status.Status.TheVariants.{Fault, Usage}
use Rattle.nj_ask.specs.AskedWords.{AsksWith, AsksWords, IsRead}
use Rattle.nj_ask.specs.Asks.{Answers, Around, Asks, IsRefusal, IsText, Misuses, Refuses, listed}
use Rattle.nj_ask.specs.Asks.Asks.{by_graph, lacks_files, lacks_memory, lists, misused}
use Rattle.nj_ask.specs.Audits.{kind_lines, selection_in, unknown_kind_line}
use Rattle.nj_ask.specs.Endings.{Ending, Ends, Sinks, answered}
use Rattle.nj_ask.specs.Endings.Ends.{ended, memory_fails, output_fails}
use Rattle.nj_one_answer.specs.Answers.{MisusedIsNotTaken, OneAnswer, OneMisuse, SameKnownHaveSameAnswers}
use Rattle.nj_one_answer.specs.Answers.{SameOutput}
use Rattle.nj_one_answer.specs.Answers.SameDrawing.{same as same_drawing}
use Rattle.nj_one_answer.specs.Runs.{AskAlike, AskWordsAlike, ComeTo, EndAlike, FilesRead, LacksMemory}
use Rattle.nj_one_answer.specs.Runs.{ReadAlike, TellFor}
use Rattle.nj_one_answer.specs.Runs.{RefuseAlike, RefuseWordsAlike, SameFiles, SameFor}
use Rattle.nj_one_answer.specs.Runs.FilesRead.{graph, no_graph}
use Rattle.nj_one_answer.specs.Runs.AskAlike.{unread as both_unread, read as both_read, lacked_memory}
use Rattle.nj_one_answer.specs.Runs.AskWordsAlike.{asked as words_asked, refused as words_refused}
use Rattle.nj_one_answer.specs.Runs.AskWordsAlike.{lacked_memory as words_lacked}
use Rattle.nj_one_answer.specs.Runs.RefuseAlike.{ended as refuse_ended, lacked_memory as refuse_lacked}
use Rattle.nj_one_answer.proofs.KnownAnswers.{same-back}
use Rattle.nj_one_answer.proofs.GivenAnswers.{some-or-none}
use Rattle.nj_one_answer.proofs.RunAnswers.{ends-alike}
use Rattle.nj_one_answer.proofs.WhyAnswers.{ok-or-err, same-err, same-ok}

-- ---- refusals and texts

abbrev Equal : (output other : List ℕ) → Type 0
Equal output other = output ≡ other

refusals-alike : (line : List ℕ) (given : Status) (old one other : Sinks) (status end : Status)
    → Ends (IsRefusal line given) old one status → Ends (IsRefusal line given) old other end
    → EndAlike Equal old one other status end
refusals-alike line given old one other status end =
    ends-alike (IsRefusal line given) Equal (λ text. refl)
    (λ a b e f is also. (is.0 ∙ sym also.0, is.1 ∙ sym also.1)) old one other status end

texts-alike : (text : List ℕ) (old one other : Sinks) (status end : Status)
    → Ends (IsText text) old one status → Ends (IsText text) old other end
    → EndAlike Equal old one other status end
texts-alike text old one other status end =
    ends-alike (IsText text) Equal (λ more. refl)
    (λ a b e f is also. (is.0 ∙ sym also.0, is.1 ∙ sym also.1)) old one other status end

-- ---- by what the files come to

equal-output : (known : DiscoveredGraph) (subject : SubjectModel) (text : List ℕ)
    → SameOutput known subject text text
equal-output known (affected options) text = refl
equal-output known (audit options) text = refl
equal-output known (draw options) text = same_drawing refl
equal-output known json text = refl
equal-output known (keys options) text = refl
equal-output known (stale options) text = refl
equal-output known (tests options) text = refl
equal-output known (timings options) text = refl
equal-output known (why options) text = refl

-- options that are refused list no kinds
apart : (list : Bool) (bad : Option (List ℕ)) (kinds line text : List ℕ) → cond list None bad ≡ Some line
    → cond list (Some kinds) None ≡ Some text → ⊥
apart true bad kinds line text is also = absurd cc
apart false bad kinds line text is also = absurd cc

exclusive : (subject : SubjectModel) (line text : List ℕ) → Misuses subject line
    → listed subject ≡ Some text → ⊥
exclusive (affected options) line text is also = absurd cc
exclusive (audit options) line text is also =
    apart options.list (option_map unknown_kind_line (first_unknown (selection_in options))) kind_lines
    line
    text is also
exclusive (draw options) line text is also = absurd cc
exclusive json line text is also = absurd cc
exclusive (keys options) line text is also = absurd cc
exclusive (stale options) line text is also = absurd cc
exclusive (tests options) line text is also = absurd cc
exclusive (timings options) line text is also = absurd cc
exclusive (why options) line text is also = absurd cc

-- an answer of one kind is an answer of a weaker kind
ends-weaker : (Is More : (output : List ℕ) → Ending → Type 0) (old new : Sinks) (status : Status)
    → ((output : List ℕ) (ending : Ending) → Is output ending → More output ending) → Ends Is old new status
    → Ends More old new status
ends-weaker Is More old new _ weaker (ended {output = o} {ending = e} is took concludes) =
    ended (weaker o e is) took concludes
ends-weaker Is More old new _ weaker (output_fails {output = o} {ending = e} is fails same) =
    output_fails (weaker o e is) fails same
ends-weaker Is More old new _ weaker (memory_fails (inl none) took told) = memory_fails (inl none) took told
ends-weaker Is More old new _ weaker (memory_fails (inr (o, e, is, front)) took told) =
    memory_fails (inr (o, e, weaker o e is, front)) took told

module _ (law : OneAnswer) (values : SameKnownHaveSameAnswers) (line : OneMisuse) (apart : MisusedIsNotTaken)
    (question : QuestionModel)
    (times : DeclaredTimes)
    (folder input : List ℕ) (old one other : Around)
  where
    abbrev EndsFor : FilesRead → (old new : Around) → Status → Type 0
    EndsFor (graph known entries log named) old new status =
        Ends (Answers known entries log times folder question.subject named input) old.sinks new.sinks status
    EndsFor (no_graph line) old new status = Ends (IsRefusal line Fault) old.sinks new.sinks status

    abbrev Alike : (status end : Status) → Type 0
    Alike status end = AskAlike question times folder old one other status end

    files-alike : (files : FilesRead) → ComeTo question times folder old.sources one.sources files
        → TellFor question.subject files times → (status end : Status) → EndsFor files old one status
        → EndsFor files old other end → EndAlike (SameFor question.subject files) old.sinks one.sinks
        other.sinks status end
    files-alike (graph known entries log named) knows tells status end =
        ends-alike (Answers known entries log times folder question.subject named input)
        (SameOutput known question.subject) (equal-output known question.subject)
        (λ a b e f answers more. law known entries log times folder question.subject named input a b e f
        knows.is tells
        answers
        more)
        old.sinks one.sinks other.sinks status end
    files-alike (no_graph line) lacks tells status end =
        refusals-alike line Fault old.sinks one.sinks other.sinks status end

    ends-same : (files more : FilesRead) → SameFiles files more → (end : Status) → EndsFor more old other end
        → EndsFor files old other end
    ends-same (graph known entries log named) (graph known2 entries2 log2 named2) (same, stated, logged, also)
        end
        ends =
        ends-weaker (Answers known2 entries2 log2 times folder question.subject named2 input)
        (Answers known entries log times folder question.subject named input) old.sinks other.sinks end
        (λ output ending is. values known2 known (same-back known known2 same) entries log times folder
        question.subject named input output ending
        (subst (λ ts. Answers known2 entries log times folder question.subject ts input output ending)
        (sym also)
        (subst (λ es. Answers known2 es log times folder question.subject named2 input output ending)
        (sym stated)
        (subst (λ l. Answers known2 entries2 l times folder question.subject named2 input output ending)
        (sym logged) is))))
        ends
    ends-same (graph known entries log named) (no_graph line) same end ends = elim same [ ]
    ends-same (no_graph line) (graph known entries log named) same end ends = elim same [ ]
    ends-same (no_graph line) (no_graph more) same end ends =
        subst (λ l. Ends (IsRefusal l Fault) old.sinks other.sinks end) (sym same) ends

    read-alike : (files more : FilesRead) → ComeTo question times folder old.sources one.sources files
        → ComeTo question times folder old.sources other.sources more → (status end : Status)
        → EndsFor files old one status → EndsFor more old other end → Alike status end
    read-alike files more come come2 status end ends ends2 =
        both_read files more come come2 (λ same tells. files-alike files come tells status end ends
        (ends-same files more same end ends2))

    pub asks-alike : (status end : Status) → Asks question times folder input old one status
        → Asks question times folder input old other end → Alike status end
    asks-alike _ _ (misused {line = l1} {status = s1} is1 same1 ends1)
        (misused {line = l2} {status = s2} is2 same2 ends2) =
        both_unread same1 same2 (refusals-alike l2 Usage old.sinks one.sinks other.sinks s1 s2
        (subst (λ line. Ends (IsRefusal line Usage) old.sinks one.sinks s1)
        (line question.subject l1 l2 is1 is2)
        ends1)
        ends2)
    asks-alike _ _ (misused {line = l1} {status = s1} is1 same1 ends1)
        (lists {text = t2} {status = s2} is2 same2 ends2) =
        absurd (exclusive question.subject l1 t2 is1 is2)
    asks-alike _ _ (misused {line = l1} {status = s1} is1 same1 ends1)
        (by_graph {known = k2} {entries = n2} {log = g2} {named = t2} {status = s2} no2 none2 knows2 ends2) =
        absurd (apart question.subject l1 is1 no2)
    asks-alike _ _ (misused {line = l1} {status = s1} is1 same1 ends1)
        (lacks_files {line = l2} {status = s2} no2 none2 lacks2 ends2) =
        absurd (apart question.subject l1 is1 no2)
    asks-alike _ _ (misused {line = l1} {status = s1} is1 same1 ends1)
        (lacks_memory kept2 told2) =
        lacked_memory (inr (record { output = kept2; error = told2; status_is = refl }))
    asks-alike _ _ (lists {text = t1} {status = s1} is1 same1 ends1)
        (misused {line = l2} {status = s2} is2 same2 ends2) =
        absurd (exclusive question.subject l2 t1 is2 is1)
    asks-alike _ _ (lists {text = t1} {status = s1} is1 same1 ends1)
        (lists {text = t2} {status = s2} is2 same2 ends2) =
        both_unread same1 same2 (texts-alike t2 old.sinks one.sinks other.sinks s1 s2
        (subst (λ text. Ends (IsText text) old.sinks one.sinks s1) (same_Some t1 t2 (sym is1 ∙ is2)) ends1)
        ends2)
    asks-alike _ _ (lists {text = t1} {status = s1} is1 same1 ends1)
        (by_graph {known = k2} {entries = n2} {log = g2} {named = t2} {status = s2} no2 none2 knows2 ends2) =
        absurd (some-or-none t1 (listed question.subject) is1 none2)
    asks-alike _ _ (lists {text = t1} {status = s1} is1 same1 ends1)
        (lacks_files {line = l2} {status = s2} no2 none2 lacks2 ends2) =
        absurd (some-or-none t1 (listed question.subject) is1 none2)
    asks-alike _ _ (lists {text = t1} {status = s1} is1 same1 ends1)
        (lacks_memory kept2 told2) =
        lacked_memory (inr (record { output = kept2; error = told2; status_is = refl }))
    asks-alike _ _ (by_graph {known = k1} {entries = n1} {log = g1} {named = t1} {status = s1} no1 none1
        knows1
        ends1)
        (misused {line = l2} {status = s2} is2 same2 ends2) =
        absurd (apart question.subject l2 is2 no1)
    asks-alike _ _ (by_graph {known = k1} {entries = n1} {log = g1} {named = t1} {status = s1} no1 none1
        knows1
        ends1)
        (lists {text = t2} {status = s2} is2 same2 ends2) =
        absurd (some-or-none t2 (listed question.subject) is2 none1)
    asks-alike _ _ (by_graph {known = k1} {entries = n1} {log = g1} {named = t1} {status = s1} no1 none1
        knows1
        ends1)
        (by_graph {known = k2} {entries = n2} {log = g2} {named = t2} {status = s2} no2 none2 knows2 ends2) =
        read-alike (graph k1 n1 g1 t1) (graph k2 n2 g2 t2) knows1 knows2 s1 s2 ends1 ends2
    asks-alike _ _ (by_graph {known = k1} {entries = n1} {log = g1} {named = t1} {status = s1} no1 none1
        knows1
        ends1)
        (lacks_files {line = l2} {status = s2} no2 none2 lacks2 ends2) =
        read-alike (graph k1 n1 g1 t1) (no_graph l2) knows1 lacks2 s1 s2 ends1 ends2
    asks-alike _ _ (by_graph {known = k1} {entries = n1} {log = g1} {named = t1} {status = s1} no1 none1
        knows1
        ends1)
        (lacks_memory kept2 told2) =
        lacked_memory (inr (record { output = kept2; error = told2; status_is = refl }))
    asks-alike _ _ (lacks_files {line = l1} {status = s1} no1 none1 lacks1 ends1)
        (misused {line = l2} {status = s2} is2 same2 ends2) =
        absurd (apart question.subject l2 is2 no1)
    asks-alike _ _ (lacks_files {line = l1} {status = s1} no1 none1 lacks1 ends1)
        (lists {text = t2} {status = s2} is2 same2 ends2) =
        absurd (some-or-none t2 (listed question.subject) is2 none1)
    asks-alike _ _ (lacks_files {line = l1} {status = s1} no1 none1 lacks1 ends1)
        (by_graph {known = k2} {entries = n2} {log = g2} {named = t2} {status = s2} no2 none2 knows2 ends2) =
        read-alike (no_graph l1) (graph k2 n2 g2 t2) lacks1 knows2 s1 s2 ends1 ends2
    asks-alike _ _ (lacks_files {line = l1} {status = s1} no1 none1 lacks1 ends1)
        (lacks_files {line = l2} {status = s2} no2 none2 lacks2 ends2) =
        read-alike (no_graph l1) (no_graph l2) lacks1 lacks2 s1 s2 ends1 ends2
    asks-alike _ _ (lacks_files {line = l1} {status = s1} no1 none1 lacks1 ends1)
        (lacks_memory kept2 told2) =
        lacked_memory (inr (record { output = kept2; error = told2; status_is = refl }))
    asks-alike _ _ (lacks_memory kept1 told1)
        (misused {line = l2} {status = s2} is2 same2 ends2) =
        lacked_memory (inl (record { output = kept1; error = told1; status_is = refl }))
    asks-alike _ _ (lacks_memory kept1 told1)
        (lists {text = t2} {status = s2} is2 same2 ends2) =
        lacked_memory (inl (record { output = kept1; error = told1; status_is = refl }))
    asks-alike _ _ (lacks_memory kept1 told1)
        (by_graph {known = k2} {entries = n2} {log = g2} {named = t2} {status = s2} no2 none2 knows2 ends2) =
        lacked_memory (inl (record { output = kept1; error = told1; status_is = refl }))
    asks-alike _ _ (lacks_memory kept1 told1)
        (lacks_files {line = l2} {status = s2} no2 none2 lacks2 ends2) =
        lacked_memory (inl (record { output = kept1; error = told1; status_is = refl }))
    asks-alike _ _ (lacks_memory kept1 told1)
        (lacks_memory kept2 told2) =
        lacked_memory (inl (record { output = kept1; error = told1; status_is = refl }))

-- ---- arguments

lacks : (old new : Sinks) (status : Status) → Refuses refusal.OutOfMemory old new status
    → LacksMemory old new status
lacks old new status is = record { output = is.0; error = is.1; status_is = is.2 }

refuses-alike : (refused : Refusal) (old one other : Sinks) (status end : Status)
    → Refuses refused old one status
    → Refuses refused old other end → RefuseAlike old one other status end
refuses-alike (refusal.Help text) old one other status end is also =
    refuse_ended (texts-alike (string_bytes text) old one other status end is also)
refuses-alike (refusal.Unparsed text) old one other status end is also =
    refuse_ended (refusals-alike (string_bytes text) Usage old one other status end is also)
refuses-alike refusal.OldOption old one other status end is also =
    refuse_ended (refusals-alike _ Usage old one other status end is also)
refuses-alike refusal.OutOfMemory old one other status end is also =
    refuse_lacked (lacks old one status is) (lacks old other end also)

-- texts that are free
abbrev IsSome : (output : List ℕ) → Ending → Type 0
IsSome output ending = ending ≡ answered false []

helps-alike : (text more : List ℕ) (old one other : Sinks) (status end : Status)
    → Ends (IsText text) old one status → Ends (IsText more) old other end
    → EndAlike (λ a b. Unit {0}) old one other status end
helps-alike text more old one other status end is also =
    ends-alike IsSome (λ a b. Unit {0}) (λ text. tt) (λ a b e f some some2. (tt, some ∙ sym some2)) old one
    other
    status end (ends-weaker (IsText text) IsSome old one status (λ o e it. it.1) is)
    (ends-weaker (IsText more) IsSome old other end (λ o e it. it.1) also)

both-refuse : (r s : Refusal) (old one other : Sinks) (status end : Status)
    → refusal_model r ≡ refusal_model s
    → Refuses r old one status → Refuses s old other end
    → RefuseWordsAlike (refusal_model s) old one other status end
both-refuse (refusal.Help t) (refusal.Help u) old one other status end same is also =
    helps-alike (string_bytes t) (string_bytes u) old one other status end is also
both-refuse (refusal.Help t) (refusal.Unparsed u) old one other status end same is also =
    absurd cc
both-refuse (refusal.Help t) refusal.OldOption old one other status end same is also =
    absurd cc
both-refuse (refusal.Help t) refusal.OutOfMemory old one other status end same is also =
    absurd cc
both-refuse (refusal.Unparsed t) (refusal.Help u) old one other status end same is also =
    absurd cc
both-refuse (refusal.Unparsed t) (refusal.Unparsed u) old one other status end same is also =
    (string_bytes t, string_bytes u, is, also)
both-refuse (refusal.Unparsed t) refusal.OldOption old one other status end same is also =
    absurd cc
both-refuse (refusal.Unparsed t) refusal.OutOfMemory old one other status end same is also =
    absurd cc
both-refuse refusal.OldOption (refusal.Help u) old one other status end same is also =
    absurd cc
both-refuse refusal.OldOption (refusal.Unparsed u) old one other status end same is also =
    absurd cc
both-refuse refusal.OldOption refusal.OldOption old one other status end same is also =
    refusals-alike _ Usage old one other status end is also
both-refuse refusal.OldOption refusal.OutOfMemory old one other status end same is also =
    absurd cc
both-refuse refusal.OutOfMemory (refusal.Help u) old one other status end same is also =
    absurd cc
both-refuse refusal.OutOfMemory (refusal.Unparsed u) old one other status end same is also =
    absurd cc
both-refuse refusal.OutOfMemory refusal.OldOption old one other status end same is also =
    absurd cc
both-refuse refusal.OutOfMemory refusal.OutOfMemory old one other status end same is also =
    (lacks old one status is, lacks old other end also)

module _ (law : OneAnswer) (values : SameKnownHaveSameAnswers) (line : OneMisuse) (apart : MisusedIsNotTaken)
    (times : DeclaredTimes) (folder input : List ℕ) (old one other : Around) where
  pub reads-alike : (read : Result Question Refusal) (status end : Status)
      → AsksWith read times folder input old one status → AsksWith read times folder input old other end
      → ReadAlike read times folder old one other status end
  reads-alike (Ok question) status end is also =
      asks-alike law values line apart (question_model question) times folder input old one other status end
      is also
  reads-alike (Err refused) status end is also =
      (is.0, also.0, refuses-alike refused old.sinks one.sinks other.sinks status end is.1 also.1)

  module _ (given : List (List ℕ)) (status end : Status) where
    abbrev Words : Type 0
    Words = AskWordsAlike given times folder old one other status end

    forgot-one : (r : Refusal) → r ≡ refusal.OutOfMemory → Refuses r old.sinks one.sinks status → Words
    forgot-one r same is =
        words_lacked (inl (lacks old.sinks one.sinks status
        (subst (λ x. Refuses x old.sinks one.sinks status) same is)))

    forgot-other : (r : Refusal) → r ≡ refusal.OutOfMemory → Refuses r old.sinks other.sinks end → Words
    forgot-other r same is =
        words_lacked (inr (lacks old.sinks other.sinks end
        (subst (λ x. Refuses x old.sinks other.sinks end) same is)))

    abbrev Why : Refusal → Type 0
    Why r = (r ≡ refusal.OutOfMemory) ⊎ (question_of given ≡ Err (refusal_model r))

    both-asked : (q p : Question) → question_of given ≡ Ok (question_model q)
        → question_of given ≡ Ok (question_model p)
        → Asks (question_model q) times folder input old one status
        → Asks (question_model p) times folder input old other end → Words
    both-asked q p is also asks asks2 =
        let same = same-ok (question_of given) (question_model q) (question_model p) is also in
        words_asked also (asks-alike law values line apart (question_model p) times folder input old one other
        status end
        (subst (λ m. Asks m times folder input old one status) same asks) asks2)

    both-refused : (r s : Refusal) → Why r → Why s → one.sources ≡ old.sources → other.sources ≡ old.sources
        → Refuses r old.sinks one.sinks status → Refuses s old.sinks other.sinks end → Words
    both-refused r s (inl none) why2 kept kept2 is also = forgot-one r none is
    both-refused r s (inr bad) (inl none) kept kept2 is also = forgot-other s none also
    both-refused r s (inr bad) (inr bad2) kept kept2 is also =
        let same = same-err (question_of given) (refusal_model r) (refusal_model s) bad bad2 in
        words_refused bad2 kept kept2 (both-refuse r s old.sinks one.sinks other.sinks status end same is
        also)

    one-refused : (q : Question) (r : Refusal) → question_of given ≡ Ok (question_model q) → Why r
        → (r ≡ refusal.OutOfMemory → Words) → Words
    one-refused q r is (inl none) forgot = forgot none
    one-refused q r is (inr bad) forgot = absurd
        (ok-or-err (question_of given) (question_model q) (refusal_model r) is bad)

    read-words : (read more : Result Question Refusal) → IsRead given read → IsRead given more
        → AsksWith read times folder input old one status → AsksWith more times folder input old other end
        → Words
    read-words (Ok q) (Ok p) is also asks asks2 = both-asked q p is.ok also.ok asks asks2
    read-words (Ok q) (Err r) is also asks asks2 =
        one-refused q r is.ok also.err (λ none. forgot-other r none asks2.1)
    read-words (Err r) (Ok q) is also asks asks2 =
        one-refused q r also.ok is.err (λ none. forgot-one r none asks.1)
    read-words (Err r) (Err s) is also asks asks2 =
        both-refused r s is.err also.err asks.0 asks2.0 asks.1 asks2.1

    pub words-alike : AsksWords given times folder input old one status
        → AsksWords given times folder input old other end → Words
    words-alike is also = read-words is.read also.read is.is_read also.is_read is.asks also.asks
