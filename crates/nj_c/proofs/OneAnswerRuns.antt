-- Two runs of the program with the same arguments, over the same supplied files.
use Rattle.std.proofs.Common.{◌≡◌, ◌≢◌, ◌⊎◌, inl, inr, ℕ, ℤ, pos, Bool, true, false, Option, Some, None}
use Rattle.std.proofs.Common.{Result, Ok, Err, List, [], ◌∷◌, ◌++◌, map, refl, sym, ap, subst, ◌∙◌, arith}
use Rattle.std.specs.List.{AllByRecursion}
use Rattle.std.specs.Str.{is_utf8}
use Rattle.std.proofs.Math.Path.{fun_ext}
use Rattle.std.proofs.lemmas.Option.{same_Some}
use Rattle.nj_scope.specs.Readings.{Reading}
use Rattle.nj_scope.specs.ReadingList.{ReadStatement}
use Rattle.nj_scope.specs.Sources.{SourceState, Rises}
use Rattle.nj_faults.specs.declared.fault.GraphFault.{GraphFault}
use Rattle.nj_faults.specs.FaultLines.{fault_line}
use Rattle.nj_faults.specs.Faults.{no_memory}
use Rattle.nj_statements.specs.EdgeList.{pending_read}
use Rattle.nj_statements.specs.Joining.{dyndep_files}
use Rattle.nj_graph.specs.Joining.{all_joined, some_joined_after}
use Rattle.nj_graph.specs.Loads.{main_reached}
use Rattle.nj_graph.specs.Runs.{IsRead}
use Rattle.nj_tools.specs.Lines.{line}
use Rattle.nj_tools.specs.MemorySinks.{Memory, state_of}
use Rattle.nj_args.specs.FaultLines as usage
use Rattle.nj_args.specs.Requests.{request_of}
use Rattle.nj_args.specs.declared.usage_fault.UsageFault.{UsageFault}
use Rattle.nj_requests.specs.Actions.{ActionModel, RequestModel}
use Rattle.nj_cli.specs.Answers.{Ending, finished, stopped, faulty}
use Rattle.nj_cli.specs.Headline.{OneEnding}
use Rattle.nj_cli.specs.Reported.{Reported, Reports}
use Rattle.nj_cli.specs.Runs.{around, out_of_memory, Around, AreStatements, HaveFault, IsAnswered}
use Rattle.nj_cli.specs.Runs.{IsRefused, ReadsMore, RunEnds, RunsWith, RunsWords}
use Rattle.nj_cli.specs.Runs.RunEnds.{reported, output_fails, memory_fails}
use Rattle.nj_cli.specs.Targets.{edges_by_path, NoEdgeNeedsItself}
use Rattle.nj_cli.specs.Status.{exit_code}
use Rattle.nj_cli.specs.declared.status.Status as run
use Rattle.nj_agreement.proofs.LoadAnswers.{ends-agree, joined-by-paths, joined-kept, main-by-paths}
use Rattle.nj_agreement.proofs.LoadAnswers.{main-kept}
use Rattle.nj_agreement.proofs.LoadAnswers.{EndsAs, Escapes}
use Rattle.nj_c.specs.declared.session_state.Kept.{Kept}
use Rattle.nj_c.specs.declared.status.Status.{Status}
use Rattle.nj_c.specs.declared.status.Status.TheVariants.{Done, Nothing, Short, Fault, Wanted, NotLoaded}
use Rattle.nj_c.specs.declared.status.Status.TheVariants.{BadNumber, BadMark, NotUtf8, NotOpen, OutOfMemory}
use Rattle.nj_c.specs.declared.status.Status.TheVariants.{BadLog}
use Rattle.nj_c.specs.Loading.{unread, Changes, ListsWanted}
use Rattle.nj_c.specs.OneAnswer.{Equal, InMemory, IsGiven, SameAnswer, SameContents, SameOptions}
use Rattle.nj_c.specs.OneAnswer.{UnlessReported}
use Rattle.nj_c.specs.Runs.{given_words, untouched, HasRun, KeepsNoOutput, LeavesRun, LeavesRunOfText}
use Rattle.nj_c.specs.Runs.{RunsKept}
use Rattle.nj_c.specs.Runs.{SameLoad}
use Rattle.nj_c.specs.Statuses.{code_of}
use Rattle.nj_c.specs.SuppliedFiles.{supplied_for, supplied_state, wanted_paths, SameFiles, Supplied}
use Rattle.nj_c.proofs.OneAnswerChanges.{both-none, both-some, changes-agree, equal-options}
use Rattle.nj_c.proofs.OneAnswerLemmas.{refused, not-open}
use Rattle.nj_c.proofs.OneAnswerLoads.{all-meant, are-declared, meant, rest-of, wanted-of, AreAsSupplied}
use Rattle.nj_c.proofs.RunLemmas.{fails-once}

-- ---- what sinks received

-- what a sink in memory that did not fail received
took : (m : Memory) (text : List ℕ) → m.failures ≡ 0 → Reported untouched (state_of m) text → m.bytes ≡ text
took m text none (inl takes) = takes.taken
took m text none (inr fails) = absurd (fails-once untouched (state_of m) fails.0 refl fails.2 none)

untouched-bytes : (m : Memory) → state_of m ≡ untouched → m.bytes ≡ []
untouched-bytes m is = same_Some m.bytes [] (ap (λ s. s.taken) is)

-- ---- readings

front-of : {A : Type 0} (P : A → Type 0) (xs ys : List A) → AllByRecursion P (xs ++ ys) → AllByRecursion P xs
front-of P [] ys all = tt
front-of P (x ∷ xs) ys all = (all.0, front-of P xs ys all.1)

never : ¬ Rises 0 0
never rises = let above = rises.above (omega arith) in omega (arith, above)

-- ---- the ends of two runs

-- what a run comes to: the statements of its files, or their fault
abbrev Outcome : Type 0
Outcome = Result (List ReadStatement) GraphFault

abbrev ends-with : List ReadStatement → Outcome
ends-with entries = Ok entries

abbrev ends-in : GraphFault → Outcome
ends-in fault = Err fault

abbrev IsInMemory : Outcome → Type 0
IsInMemory (Ok entries) = Unit {0}
IsInMemory (Err fault) = fault ≢ no_memory

no-escape : (from : SourceState) → from.failures ≡ 0 → (to : Supplied) (end : Outcome) → IsInMemory end
    → Escapes from (supplied_state to) end → ⊥
no-escape from none to (Ok entries) memory free = free
no-escape from none to (Err fault) memory (inl lacks) = memory lacks
no-escape from none to (Err fault) memory (inr (place, path, is, fails)) =
    never (subst (λ n. Rises n 0) none fails)

module _ (h : Supplied) (file : List ℕ) where
  -- the source before a run
  abbrev begun : SourceState
  begun = supplied_state (unread h)

  -- a run ended so, after the given readings
  abbrev IsRun : (dyndep : Bool) → (after : Supplied) → (files : List Reading) → Outcome → Type 0
  IsRun dyndep after files (Ok entries) = AreStatements file dyndep begun (supplied_state after) files entries
      × NoEdgeNeedsItself (edges_by_path entries)
  IsRun dyndep after files (Err fault) = HaveFault file dyndep begun (supplied_state after) files fault

  -- the readings of the main file and all that it includes end so
  abbrev IsFirst : (after : SourceState) → (files : List Reading) → Outcome → Type 0
  IsFirst after files end = EndsAs begun after ([] ++ files) (main_reached file) end

  as-first : (after : Supplied) (files : List Reading) (a : Outcome) → IsRun false after files a
      → IsFirst (supplied_state after) files a
  as-first after files (Ok entries) is = is
  as-first after files (Err fault) is = is

  first-agrees : (after after2 : SourceState) (one other : List Reading) → AreAsSupplied (supplied_for h) one
      → AreAsSupplied (supplied_for h) other
      → (a b : Outcome) → IsFirst after one a → IsFirst after2 other b
      → Escapes begun after a ⊎ (Escapes begun after2 b ⊎ ((a ≡ b) × ([] ++ one ≡ [] ++ other)))
  first-agrees after after2 one other are are2 a b is is2 = ends-agree (main_reached file) (main-kept file)
      (main-by-paths file) [] (meant (supplied_for h)) (all-meant (supplied_for h)) begun after begun after2
      one other (are-declared (supplied_for h) one are) (are-declared (supplied_for h) other are2) a b is is2

  -- the joining of dyndep files after them ends so
  abbrev IsSecond : (read : List Reading) → (stated : List ReadStatement) → (from : SourceState)
      → (to : Supplied) → (files : List Reading) → Outcome → Type 0
  IsSecond read stated from to files end = EndsAs from (supplied_state to) files
      (some_joined_after read stated (dyndep_files (pending_read stated))) end

  second-agrees : (read : List Reading) (stated : List ReadStatement) (from from2 : SourceState)
      (to to2 : Supplied)
      (one other : List Reading) → AreAsSupplied (supplied_for h) one → AreAsSupplied (supplied_for h) other
      → (a b : Outcome) → IsSecond read stated from to (read ++ one) a
      → IsSecond read stated from2 to2 (read ++ other) b
      → Escapes from (supplied_state to) a ⊎ (Escapes from2 (supplied_state to2) b
      ⊎ ((a ≡ b) × (read ++ one ≡ read ++ other)))
  second-agrees read stated from from2 to to2 one other are are2 a b is is2 =
      ends-agree (some_joined_after read stated (dyndep_files (pending_read stated)))
      (joined-kept stated read (dyndep_files (pending_read stated)))
      (joined-by-paths stated read (dyndep_files (pending_read stated))) read (meant (supplied_for h))
      (all-meant (supplied_for h)) from (supplied_state to) from2 (supplied_state to2) one other
      (are-declared (supplied_for h) one are) (are-declared (supplied_for h) other are2) a b is is2

  -- how far a run with dyndep files came
  data Stages (after : Supplied) (files : List Reading) : Outcome → Type 0 where
    early : (fault : GraphFault) → IsFirst (supplied_state after) files (Err fault)
        → Stages after files (Err fault)
    late : (end : Outcome) (more : ReadsMore file begun (supplied_state after) files)
        → IsSecond more.read more.stated more.between after files end → Stages after files end

  stages : (after : Supplied) (files : List Reading) (a : Outcome) → IsRun true after files a
      → Stages after files a
  unfolding all_joined
  stages after files (Ok entries) ((more, whole), acyclic) = late (Ok entries) more (whole, acyclic)
  stages after files (Err fault) (inl fails) = early fault fails
  stages after files (Err fault) (inr (more, fails)) = late (Err fault) more fails

  module _ (after : Supplied) (files : List Reading)
      (more : ReadsMore file begun (supplied_state after) files)
      (are : AreAsSupplied (supplied_for h) files)
    where
      split : AreAsSupplied (supplied_for h) (more.read ++ more.adds.readings)
      split = subst (AreAsSupplied (supplied_for h)) more.adds.added are

      first-are : AreAsSupplied (supplied_for h) more.read
      first-are = front-of _ more.read more.adds.readings split

      second-are : AreAsSupplied (supplied_for h) more.adds.readings
      second-are = rest-of _ more.read more.adds.readings split

  module _ (after after2 : Supplied) (files files2 : List Reading)
      (are : AreAsSupplied (supplied_for h) files) (are2 : AreAsSupplied (supplied_for h) files2)
    where
      abbrev Agree : (a b : Outcome) → Type 0
      Agree a b = (a ≡ b) × (files ≡ files2)

      early-late : (fault : GraphFault) (stated : List ReadStatement) (from to : SourceState)
          (one other : List Reading)
          → Escapes from to (ends-in fault) ⊎ (⊥ ⊎ ((ends-in fault ≡ ends-with stated)
          × ([] ++ one ≡ [] ++ other)))
          → Escapes from to (ends-in fault)
      early-late fault stated from to one other (inl free) = free
      early-late fault stated from to one other (inr (inl none)) = absurd none
      early-late fault stated from to one other (inr (inr (is, same))) = absurd cc

      stages-agree : (a b : Outcome) → IsInMemory a → IsInMemory b → Stages after files a
          → Stages after2 files2 b → Agree a b
      stages-agree _ _ memory memory2 (early f is) (early e is2) =
          by (first-agrees (supplied_state after) (supplied_state after2) files files2 are are2 (Err f)
          (Err e)
          is is2)
        where
          by : Escapes begun (supplied_state after) (ends-in f)
              ⊎ (Escapes begun (supplied_state after2) (ends-in e)
              ⊎ ((ends-in f ≡ ends-in e) × ([] ++ files ≡ [] ++ files2))) → Agree (Err f) (Err e)
          by (inl free) = absurd (no-escape begun refl after (Err f) memory free)
          by (inr (inl free)) = absurd (no-escape begun refl after2 (Err e) memory2 free)
          by (inr (inr same)) = same
      stages-agree _ b memory memory2 (early f is) (late _ more2 is2) =
          absurd (no-escape begun refl after (Err f) memory (early-late f more2.stated begun
          (supplied_state after) files more2.read (first-agrees (supplied_state after) more2.between files
          more2.read are (first-are after2 files2 more2 are2) (Err f) (Ok more2.stated) is
          (more2.whole, more2.acyclic))))
      stages-agree a _ memory memory2 (late _ more is) (early e is2) =
          absurd (no-escape begun refl after2 (Err e) memory2 (early-late e more.stated begun
          (supplied_state after2) files2 more.read (first-agrees (supplied_state after2) more.between files2
          more.read are2 (first-are after files more are) (Err e) (Ok more.stated) is2
          (more.whole, more.acyclic))))
      stages-agree a b memory memory2 (late _ more is) (late _ more2 is2) =
          by (first-agrees more.between more2.between more.read more2.read (first-are after files more are)
          (first-are after2 files2 more2 are2) (Ok more.stated) (Ok more2.stated) (more.whole, more.acyclic)
          (more2.whole, more2.acyclic))
        where
          second : more2.stated ≡ more.stated → more2.read ≡ more.read → Agree a b
          second stated read =
              let files_are : files2 ≡ more.read ++ more2.adds.readings =
              more2.adds.added ∙ ap (λ r. r ++ more2.adds.readings) read in
              ends files_are (second-agrees more.read more.stated more.between more2.between after after2
              more.adds.readings more2.adds.readings (second-are after files more are)
              (second-are after2 files2 more2 are2) a b
              (subst (λ fs. IsSecond more.read more.stated more.between after fs a) more.adds.added is)
              (subst (λ fs. IsSecond more.read more.stated more2.between after2 fs b) files_are
              (subst (λ s. IsSecond more.read s more2.between after2 files2 b) stated
              (subst (λ r. IsSecond r more2.stated more2.between after2 files2 b) read is2))))
            where
              ends : files2 ≡ more.read ++ more2.adds.readings
                  → Escapes more.between (supplied_state after) a
                  ⊎ (Escapes more2.between (supplied_state after2) b
                  ⊎ ((a ≡ b) × (more.read ++ more.adds.readings ≡ more.read ++ more2.adds.readings)))
                  → Agree a b
              ends are_files (inl free) = absurd
                  (no-escape more.between more.whole.failures after a memory free)
              ends are_files (inr (inl free)) =
                  absurd (no-escape more2.between more2.whole.failures after2 b memory2 free)
              ends are_files (inr (inr (same, readings))) =
                  (same, more.adds.added ∙ readings ∙ sym are_files)

          by : ⊥ ⊎ (⊥ ⊎ ((ends-with more.stated ≡ ends-with more2.stated)
              × ([] ++ more.read ≡ [] ++ more2.read))) → Agree a b
          by (inl none) = absurd none
          by (inr (inl none)) = absurd none
          by (inr (inr (same, readings))) =
              let stated : more2.stated ≡ more.stated = cc in second stated (sym readings)

      pub outcomes-agree : (dyndep : Bool) (a b : Outcome) → IsInMemory a → IsInMemory b
          → IsRun dyndep after files a
          → IsRun dyndep after2 files2 b → Agree a b
      outcomes-agree true a b memory memory2 is is2 =
          stages-agree a b memory memory2 (stages after files a is) (stages after2 files2 b is2)
      outcomes-agree false a b memory memory2 is is2 =
          by (first-agrees (supplied_state after) (supplied_state after2) files files2 are are2 a b
          (as-first after files a is) (as-first after2 files2 b is2))
        where
          by : Escapes begun (supplied_state after) a ⊎ (Escapes begun (supplied_state after2) b
              ⊎ ((a ≡ b) × ([] ++ files ≡ [] ++ files2))) → Agree a b
          by (inl free) = absurd (no-escape begun refl after a memory free)
          by (inr (inl free)) = absurd (no-escape begun refl after2 b memory2 free)
          by (inr (inr same)) = same

-- ---- what two runs write

module _ (e e2 : Memory) (none : e.failures ≡ 0) (none2 : e2.failures ≡ 0) (ended ended2 : run.Status) where
  reports-alike : (ending : Ending) → Reports ending untouched (state_of e) ended
      → Reports ending untouched (state_of e2) ended2 → (e.bytes ≡ e2.bytes) × (ended ≡ ended2)
  reports-alike finished (same, is) (same2, is2) =
      (untouched-bytes e same ∙ sym (untouched-bytes e2 same2), is ∙ sym is2)
  reports-alike (stopped mark) (inl (takes, is)) (inl (takes2, is2)) =
      (takes.taken ∙ sym takes2.taken, is ∙ sym is2)
  reports-alike (stopped mark) (inl takes) (inr (fails2, is2)) =
      absurd (fails-once untouched (state_of e2) fails2.0 refl fails2.2 none2)
  reports-alike (stopped mark) (inr (fails, is)) also =
      absurd (fails-once untouched (state_of e) fails.0 refl fails.2 none)
  reports-alike (faulty text) (told, is) (told2, is2) =
      (took e (line text) none told ∙ sym (took e2 (line text) none2 told2), is ∙ sym is2)

module _ (law : OneEnding) (h : Supplied) (after after2 : Supplied) (o e o2 e2 : Memory)
    (none : (o.failures ≡ 0) × (e.failures ≡ 0)) (none2 : (o2.failures ≡ 0) × (e2.failures ≡ 0))
    (memory : e.bytes ≢ line out_of_memory) (memory2 : e2.bytes ≢ line out_of_memory)
  where
    abbrev old : Around
    old = around (supplied_state (unread h)) untouched untouched

    abbrev new : Around
    new = around (supplied_state after) (state_of o) (state_of e)

    abbrev new2 : Around
    new2 = around (supplied_state after2) (state_of o2) (state_of e2)

    abbrev Written : (ended ended2 : run.Status) → Type 0
    Written ended ended2 = (o.bytes ≡ o2.bytes) × (e.bytes ≡ e2.bytes) × (ended ≡ ended2)

    ends-alike : (entries : List ReadStatement) (action : ActionModel)
        → NoEdgeNeedsItself (edges_by_path entries)
        → (ended ended2 : run.Status) → RunEnds entries action old new ended
        → RunEnds entries action old new2 ended2 → Written ended ended2
    ends-alike entries action acyclic ended ended2 (reported ending ends takes told)
        (reported ending2 ends2 takes2 told2) =
        let same : ending2 ≡ ending = law entries action ending2 ending acyclic ends2 ends in
        let reports = reports-alike e e2 none.1 none2.1 ended ended2 ending told
        (subst (λ x. Reports x untouched (state_of e2) ended2) same told2) in
        (takes.taken ∙ sym takes2.taken, reports.0, reports.1)
    ends-alike entries action acyclic ended _ is (output_fails fails same) =
        absurd (fails-once untouched (state_of o2) fails.0 refl fails.2 none2.0)
    ends-alike entries action acyclic ended _ is (memory_fails front told) =
        absurd (memory2 (took e2 (line out_of_memory) none2.1 told))
    ends-alike entries action acyclic _ ended2 (output_fails fails same) also =
        absurd (fails-once untouched (state_of o) fails.0 refl fails.2 none.0)
    ends-alike entries action acyclic _ ended2 (memory_fails front told) also =
        absurd (memory (took e (line out_of_memory) none.1 told))

    told-fault : (m : Memory) → m.failures ≡ 0 → m.bytes ≢ line out_of_memory → (fault : GraphFault)
        → (Reported untouched (state_of m) (line (fault_line fault)))
        ⊎ (Reported untouched (state_of m) (line out_of_memory)) → m.bytes ≡ line (fault_line fault)
    told-fault m none memory fault (inl told) = took m (line (fault_line fault)) none told
    told-fault m none memory fault (inr told) = absurd (memory (took m (line out_of_memory) none told))

    module _ (request : RequestModel) (files files2 : List Reading) (ended ended2 : run.Status) where
      abbrev Ends : (files : List Reading) → (end : Around) → run.Status → Type 0
      Ends files end status = IsRefused request files old end status ⊎ IsAnswered request files old end status

      outcome : (files : List Reading) (end : Around) (status : run.Status) → Ends files end status → Outcome
      outcome files end status (inl refusal) = Err refusal.fault
      outcome files end status (inr answer) = Ok answer.entries

      is-run : (to : Supplied) (p q : Memory) (files : List Reading) (status : run.Status)
          (is : Ends files (around (supplied_state to) (state_of p) (state_of q)) status)
          → IsRun h request.file request.dyndep to files
          (outcome files (around (supplied_state to) (state_of p) (state_of q)) status is)
      unfolding outcome
      is-run to p q files status (inl refusal) = refusal.reading
      is-run to p q files status (inr answer) = (answer.statements, answer.acyclic)

      in-memory : (to : Supplied) (p q : Memory) → q.failures ≡ 0 → q.bytes ≢ line out_of_memory
          → (files : List Reading) (status : run.Status)
          (is : Ends files (around (supplied_state to) (state_of p) (state_of q)) status)
          → IsInMemory (outcome files (around (supplied_state to) (state_of p) (state_of q)) status is)
      unfolding outcome
      in-memory to p q none memory files status (inl refusal) = λ lacks.
          memory (told-fault q none memory refusal.fault refusal.error ∙ ap (λ f. line (fault_line f)) lacks)
      in-memory to p q none memory files status (inr answer) = tt

      written-alike : (is : Ends files new ended) (also : Ends files2 new2 ended2)
          → outcome files new ended is ≡ outcome files2 new2 ended2 also → Written ended ended2
      unfolding outcome
      written-alike (inl refusal) (inl refusal2) same =
          let faults : refusal.fault ≡ refusal2.fault = cc in (
            untouched-bytes o refusal.output ∙ sym (untouched-bytes o2 refusal2.output),
            told-fault e none.1 memory refusal.fault refusal.error ∙ ap (λ f. line (fault_line f)) faults
                ∙ sym (told-fault e2 none2.1 memory2 refusal2.fault refusal2.error),
            refusal.status_is ∙ sym refusal2.status_is,
          )
      written-alike (inl refusal) (inr answer2) same = absurd cc
      written-alike (inr answer) (inl refusal2) same = absurd cc
      written-alike (inr answer) (inr answer2) same =
          let entries : answer2.entries ≡ answer.entries = cc in
          ends-alike answer.entries request.action answer.acyclic ended ended2 answer.ends
          (subst (λ es. RunEnds es request.action old new2 ended2) entries answer2.ends)

    -- the same was read and written
    abbrev Alike : (ended ended2 : run.Status) → Type 0
    Alike ended ended2 = (after.read ≡ after2.read) × Written ended ended2

    module _ (ended ended2 : run.Status) (found : AreAsSupplied (supplied_for h) after.read)
        (found2 : AreAsSupplied (supplied_for h) after2.read)
      where
        read-are : (to : Supplied) (files : List Reading)
            (read : IsRead (supplied_state (unread h)) (supplied_state to) [] files)
            → to.read ≡ files
        read-are to files read = same_Some to.read read.readings read.read.reported ∙ sym read.added

        with-alike : (request : Result RequestModel UsageFault) → RunsWith request old new ended
            → RunsWith request old new2 ended2 → Alike ended ended2
        with-alike (Err fault) (once, is) (once2, is2) = (
          same_Some after.read [] (ap (λ s. s.readings) once.source)
              ∙ sym (same_Some after2.read [] (ap (λ s. s.readings) once2.source)),
          (
            untouched-bytes o once.output ∙ sym (untouched-bytes o2 once2.output),
            took e (line (usage.fault_line fault)) none.1 once.error
                ∙ sym (took e2 (line (usage.fault_line fault)) none2.1 once2.error),
            is ∙ sym is2,
          ),
        )
        with-alike (Ok request) (files, read, is) (files2, read2, also) =
            let mine = read-are after files read in
            let theirs = read-are after2 files2 read2 in
            let agree = outcomes-agree h request.file after after2 files files2
            (subst (AreAsSupplied (supplied_for h)) mine found)
            (subst (AreAsSupplied (supplied_for h)) theirs found2) request.dyndep
            (outcome request files files2 ended ended2 files new ended is)
            (outcome request files files2 ended ended2 files2 new2 ended2 also)
            (in-memory request files files2 ended ended2 after o e none.1 memory files ended is)
            (in-memory request files files2 ended ended2 after2 o2 e2 none2.1 memory2 files2 ended2 also)
            (is-run request files files2 ended ended2 after o e files ended is)
            (is-run request files files2 ended ended2 after2 o2 e2 files2 ended2 also) in (
              mine ∙ agree.1 ∙ sym theirs,
              written-alike request files files2 ended ended2 is also agree.0,
            )

        words-alike : (words : List (List ℕ)) → RunsWords words old new ended
            → RunsWords words old new2 ended2 → Alike ended ended2
        words-alike words (inl is) (inl also) = with-alike (request_of words) is also
        words-alike words (inr lacks) also =
            absurd (memory (took e (line out_of_memory) none.1 lacks.0.error))
        words-alike words (inl is) (inr lacks) =
            absurd (memory2 (took e2 (line out_of_memory) none2.1 lacks.0.error))

-- ---- what a call comes to

pub data Comes (kept new : Kept) (text : List ℕ) (exit : ℤ) : Status → Type 0 where
  ran : (ended : run.Status) → exit ≡ pos (exit_code ended)
      → HasRun (unread kept.files) new.files (given_words text) new.output new.errors ended
      → wanted_paths new.files ≡ [] → new.wanted.items ≡ [] → is_utf8 text ≡ true
      → Comes kept new text exit Done
  wants : (ended : run.Status) (output errors : Memory)
      → HasRun (unread kept.files) new.files (given_words text) output errors ended
      → errors.bytes ≢ line out_of_memory → KeepsNoOutput new → ListsWanted new
      → wanted_paths new.files ≢ [] → is_utf8 text ≡ true → Comes kept new text exit Wanted
  no_text : is_utf8 text ≡ false → KeepsNoOutput new → new.wanted.items ≡ []
      → Comes kept new text exit NotUtf8

module _ (kept new : Kept) (text : List ℕ) (old exit : ℤ) where
  comes-text : is_utf8 text ≡ true → (status : Status) → status ≢ OutOfMemory
      → LeavesRun (unread kept.files) new (given_words text) old exit status → Comes kept new text exit status
  comes-text is Done memory (ended, at, has, none, lists) = ran ended at has none lists is
  comes-text is Wanted memory (ended, output, errors, same, has, other, nothing, lists, some) =
      wants ended output errors has other nothing lists some is
  comes-text is OutOfMemory memory lacks = absurd (memory refl)
  comes-text is Nothing memory none = absurd none
  comes-text is Short memory none = absurd none
  comes-text is Fault memory none = absurd none
  comes-text is NotLoaded memory none = absurd none
  comes-text is BadNumber memory none = absurd none
  comes-text is BadMark memory none = absurd none
  comes-text is NotUtf8 memory none = absurd none
  comes-text is NotOpen memory none = absurd none
  comes-text is BadLog memory none = absurd none

  comes : (status : Status) → status ≢ OutOfMemory → LeavesRunOfText kept new text old exit status
      → Comes kept new text exit status
  comes status memory (inl (is, leaves)) = comes-text is status memory leaves
  comes status memory (inr (is, not_text, same, nothing, lists)) =
      subst (Comes kept new text exit) (sym is) (no_text not_text nothing lists)

module _ (law : OneEnding) (kept new new2 : Kept) (text : List ℕ) (exit exit2 : ℤ)
    (files : SameFiles kept.files new.files)
    (files2 : SameFiles kept.files new2.files) (load : SameLoad kept new) (load2 : SameLoad kept new2)
    (memory : new.errors.bytes ≢ line out_of_memory) (memory2 : new2.errors.bytes ≢ line out_of_memory)
  where
    abbrev Same : Type 0
    Same = SameContents Equal Equal new new2

    runs-alike : (o e o2 e2 : Memory) (ended ended2 : run.Status)
        (is : HasRun (unread kept.files) new.files (given_words text) o e ended)
        (also : HasRun (unread kept.files) new2.files (given_words text) o2 e2 ended2)
        → e.bytes ≢ line out_of_memory → e2.bytes ≢ line out_of_memory
        → (new.files.read ≡ new2.files.read)
        × ((o.bytes ≡ o2.bytes) × (e.bytes ≡ e2.bytes) × (ended ≡ ended2))
    runs-alike o e o2 e2 ended ended2 is also in_memory in_memory2 =
        words-alike law kept.files new.files new2.files o e o2 e2 is.no_failures also.no_failures in_memory
        in_memory2 ended ended2
        (subst (λ f. AreAsSupplied f new.files.read) (fun_ext files) is.found)
        (subst (λ f. AreAsSupplied f new2.files.read) (fun_ext files2) also.found) (given_words text) is.runs
        also.runs

    wanted-alike : new.files.read ≡ new2.files.read → wanted_paths new.files ≡ wanted_paths new2.files
    wanted-alike read = ap (λ f. wanted-of f new.files.read) (fun_ext files)
        ∙ ap (wanted-of (supplied_for kept.files)) read
        ∙ ap (λ f. wanted-of f new2.files.read) (sym (fun_ext files2))

    others-alike : map (λ p. p.items) new.wanted.items ≡ map (λ p. p.items) new2.wanted.items
        → new.output.bytes ≡ new2.output.bytes → new.errors.bytes ≡ new2.errors.bytes → Same
    others-alike wanted output errors = record {
      files = λ path. files2 path ∙ sym (files path);
      wanted = wanted;
      graph = equal-options new.graph new2.graph (load.graph ∙ sym load2.graph);
      fault = load.fault ∙ sym load2.fault;
      found = ap (λ v. map (λ e. e.0) v.items) (load.found ∙ sym load2.found);
      mark = ap (λ m. m.items) (load.mark ∙ sym load2.mark);
      stale = ap (λ v. v.items) (load.stale ∙ sym load2.stale);
      joined = λ _. record {
        log = load.log ∙ sym load2.log;
        unknown = ap (λ u. u.items) (load.unknown ∙ sym load2.unknown);
      };
      output = output;
      errors = errors;
    }

    abbrev AgreeAfter : (status status2 : Status) → Type 0
    AgreeAfter status status2 = (status ≡ status2) × (status ≡ Done → exit ≡ exit2) × Same

    text-or-not : is_utf8 text ≡ true → is_utf8 text ≡ false → ⊥
    text-or-not is not_text = let e = sym is ∙ not_text in cc

    no-lists : new.wanted.items ≡ [] → new2.wanted.items ≡ []
        → map (λ p. p.items) new.wanted.items ≡ map (λ p. p.items) new2.wanted.items
    no-lists none none2 = ap (map (λ p. p.items)) (none ∙ sym none2)

    come-alike : (status status2 : Status) → Comes kept new text exit status
        → Comes kept new2 text exit2 status2 → AgreeAfter status status2
    come-alike _ _ (ran ended at is none lists utf8) (ran ended2 at2 is2 none2 lists2 utf82) =
        let alike = runs-alike new.output new.errors new2.output new2.errors ended ended2 is is2 memory
        memory2 in (
          refl,
          (λ _. at ∙ ap (λ s. pos (exit_code s)) alike.1.2 ∙ sym at2),
          others-alike (no-lists lists lists2) alike.1.0 alike.1.1,
        )
    come-alike _ _ (ran ended at is none lists utf8)
        (wants ended2 o2 e2 is2 other2 nothing2 lists2 some2 utf82) =
        let alike = runs-alike new.output new.errors o2 e2 ended ended2 is is2 memory other2 in
        absurd (some2 (sym (wanted-alike alike.0) ∙ none))
    come-alike _ _ (ran ended at is none lists utf8) (no_text not_text nothing2 lists2) =
        absurd (text-or-not utf8 not_text)
    come-alike _ _ (wants ended o e is other nothing lists some utf8)
        (ran ended2 at2 is2 none2 lists2 utf82) =
        let alike = runs-alike o e new2.output new2.errors ended ended2 is is2 other memory2 in
        absurd (some (wanted-alike alike.0 ∙ none2))
    come-alike _ _ (wants ended o e is other nothing lists some utf8)
        (wants ended2 o2 e2 is2 other2 nothing2 lists2 some2 utf82) =
        let alike = runs-alike o e o2 e2 ended ended2 is is2 other other2 in (
          refl,
          (λ done. absurd cc),
          others-alike (lists ∙ wanted-alike alike.0 ∙ sym lists2) (nothing.output ∙ sym nothing2.output)
              (nothing.errors ∙ sym nothing2.errors),
        )
    come-alike _ _ (wants ended o e is other nothing lists some utf8) (no_text not_text nothing2 lists2) =
        absurd (text-or-not utf8 not_text)
    come-alike _ _ (no_text not_text nothing lists) (ran ended2 at2 is2 none2 lists2 utf82) =
        absurd (text-or-not utf82 not_text)
    come-alike _ _ (no_text not_text nothing lists)
        (wants ended2 o2 e2 is2 other2 nothing2 lists2 some2 utf82) =
        absurd (text-or-not utf82 not_text)
    come-alike _ _ (no_text not_text nothing lists) (no_text not_text2 nothing2 lists2) = (
      refl,
      (λ done. absurd cc),
      others-alike (no-lists lists lists2) (nothing.output ∙ sym nothing2.output)
          (nothing.errors ∙ sym nothing2.errors),
    )

given-done : (result : ℤ) (status : Status) (kept new : Kept) (text : List ℕ) (exit : ℤ)
    → result ≡ code_of status → IsGiven result → Comes kept new text exit status → status ≡ Done
given-done result _ kept new text exit is given (ran ended at has none lists utf8) = refl
given-done result _ kept new text exit is (inl done) (wants ended o e has other nothing lists some utf8) =
    absurd (let e = sym is ∙ done in cc)
given-done result _ kept new text exit is (inr short) (wants ended o e has other nothing lists some utf8) =
    absurd (let e = sym is ∙ short in cc)
given-done result _ kept new text exit is (inl done) (no_text not_text nothing lists) =
    absurd (let e = sym is ∙ done in cc)
given-done result _ kept new text exit is (inr short) (no_text not_text nothing lists) =
    absurd (let e = sym is ∙ short in cc)

-- ---- two calls

unless-open : (session : Option Kept) (kept : Kept) (holds : Type 0) → session ≡ Some kept
    → (kept.errors.bytes ≢ line out_of_memory → holds) → UnlessReported session holds
unless-open session kept holds at give = subst (λ s. UnlessReported s holds) (sym at) give

unless-closed : (session : Option Kept) (holds : Type 0) → session ≡ None → holds
    → UnlessReported session holds
unless-closed session holds at give = subst (λ s. UnlessReported s holds) (sym at) give

module _ (law : OneEnding) (before before2 after after2 : Option Kept) (one other : ℤ)
    (same : before ≡ before2)
    (text : List ℕ)
    (old old2 exit exit2 : ℤ)
  where
    abbrev SameLeft : Type 0
    SameLeft = SameAnswer one other (exit ≡ exit2) × SameOptions (SameContents Equal Equal) after after2

    pub runs-agree : Changes before after one (λ kept new. RunsKept kept new text old exit)
        → Changes before2 after2 other (λ kept new. RunsKept kept new text old2 exit2)
        → InMemory one other (UnlessReported after (UnlessReported after2 SameLeft))
    runs-agree is also = changes-agree before before2 after after2 one other same
        (λ kept new. RunsKept kept new text old exit) (λ kept new. RunsKept kept new text old2 exit2)
        (InMemory one other (UnlessReported after (UnlessReported after2 SameLeft)))
        (λ left left2 is also memory memory2.
        unless-closed after (UnlessReported after2 SameLeft) left (unless-closed after2 SameLeft left2 (
          refused one other (exit ≡ exit2) NotOpen not-open is also,
          both-none (SameContents Equal Equal) after after2 left left2,
        )))
        (λ kept new new2 status status2 at left left2 is also runs runs2 memory memory2.
        unless-open after new (UnlessReported after2 SameLeft) left
        (λ told. unless-open after2 new2 SameLeft left2
        (λ told2.
        let mine = comes kept new text old exit status (λ e. memory (is ∙ ap code_of e)) runs.2 in
        let theirs = comes kept new2 text old2 exit2 status2 (λ e. memory2 (also ∙ ap code_of e)) runs2.2 in
        let agree = come-alike law kept new new2 text exit exit2 runs.0 runs2.0 runs.1 runs2.1 told told2
        status
        status2 mine theirs in (
          record {
            status = is ∙ ap code_of agree.0 ∙ sym also;
            given = λ given. agree.1 (given-done one status kept new text exit is given mine);
          },
          both-some (SameContents Equal Equal) after after2 new new2 left left2 agree.2,
        )))) is also
