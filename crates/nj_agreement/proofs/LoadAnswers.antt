-- Two loads from sources that declare the same.
use Rattle.std.proofs.Common.{◌≡◌, ◌⊎◌, inl, inr, ℕ, zero, suc, Bool, true, false, cond, nat_lt, Option, Some}
use Rattle.std.proofs.Common.{None, Result, Ok, Err}
use Rattle.std.proofs.Common.{IfOk, List, [], ◌∷◌, ◌++◌, refl, sym, ap, subst, ◌∙◌, is_some, length}
use Rattle.std.proofs.Math.Path.{fun_ext}
use Rattle.std.specs.Str.{is_utf8}
use Rattle.nj_scope.specs.Readings.{Reading, reading_of, paths_of, IsPrefix}
use Rattle.nj_scope.specs.Sources.{SourceState, Rises}
use Rattle.nj_scope.specs.ReadingList.{ReadStatement, files_opened}
use Rattle.nj_faults.specs.declared.fault.GraphFault.{GraphFault}
use Rattle.nj_faults.specs.declared.fault.Cause.TheVariants.{Io, PathNotText, TooManyOpenings}
use Rattle.nj_faults.specs.declared.fault.Place.{Place}
use Rattle.nj_faults.specs.Faults.{no_memory}
use Rattle.nj_faults.specs.Limits.{most_within, most_opened}
use Rattle.nj_cycles.specs.Cycles.{IsAcyclic}
use Rattle.nj_edges.specs.Needs.{makers_of_inputs}
use Rattle.nj_statements.specs.EdgeList.{Pending, edges_read, paths_of_edges, pending_read}
use Rattle.nj_statements.specs.Built.{IsCycleFault}
use Rattle.nj_statements.specs.Joining.{dyndep_files}
use Rattle.nj_graph.specs.Graph.{IsGraphOf}
use Rattle.nj_discovered.specs.Times.{DeclaredTimes}
use Rattle.nj_graph.specs.Origins.{OriginsModel, main_of}
use Rattle.nj_graph.specs.Reading.{End, Whole, Refused, Lacking, ReadingModel, Opens, outcome_read}
use Rattle.nj_graph.specs.Reading.{stopped, text_read}
use Rattle.nj_graph.specs.Reading.{opened_in, main_read, main_site, main_place, paths_come_to, with_all_new}
use Rattle.nj_graph.specs.Runs.{ReachedModel, EndsSo, IsEnd, IsLacking, paths_with}
use Rattle.nj_graph.specs.Joining.{statement_place, text_joined, path_asked, continued, file_joined}
use Rattle.nj_graph.specs.Joining.{files_joined}
use Rattle.nj_graph.specs.Joining.{Joins, JoinsPresent, all_joined, some_joined_after}
use Rattle.nj_graph.specs.Loads.{LoadedModel, IsWhole, LoadedOr, LoadingFails, LoadsAfter}
use Rattle.nj_graph.specs.Loads.{main_reached}
use Rattle.nj_graph.proofs.OtherFiles.{others_are_not_read}
use Rattle.nj_graph.proofs.Tables.{reading-kept}
use Rattle.nj_agreement.specs.Agreement.{AgreeBoth, AgreeUpTo}
use Rattle.nj_agreement.specs.Graphs.{SameGraph, SameLoaded}
use Rattle.nj_agreement.specs.Memory.{IsUnread}
use Rattle.nj_agreement.specs.Sources.{DeclareSame, TellAll}
use Rattle.nj_agreement.proofs.GraphAnswers.{acyclic-or-cycle, same-graph, same-origins, one-cycle}
use Rattle.nj_agreement.proofs.DeclaredAnswers.{AreDeclared, as-declared, either-order, present-are}
use Rattle.nj_agreement.proofs.DeclaredAnswers.{same-readings}

-- ---- one reading

-- The end of a reading by the given files: it yields the given statements, and no edge of them needs itself
-- by a chain;
-- or it ends with the first fault.
abbrev pub EndsAs : (before after : SourceState) → (files : List Reading) → (List Reading → ReachedModel)
    → Result (List ReadStatement) GraphFault → Type 0
EndsAs before after files reading (Ok entries) = IsWhole before after files reading entries
    × IsAcyclic (makers_of_inputs (paths_of_edges (edges_read entries)))
    (length (paths_of_edges (edges_read entries)))
EndsAs before after files reading (Err fault) = LoadingFails before after files reading fault

-- the end is that of what the reading reaches
abbrev Fits : ReachedModel → Result (List ReadStatement) GraphFault → Type 0
Fits reached (Ok entries) = (reached.read ≡ record { entries = entries; end = Whole })
    × IsAcyclic (makers_of_inputs (paths_of_edges (edges_read entries)))
    (length (paths_of_edges (edges_read entries)))
Fits reached (Err fault) = (reached.read.end ≡ Refused fault) ⊎ ((entries : List ReadStatement)
    × (reached.read ≡ record { entries = entries; end = Whole }) × IsCycleFault (edges_read entries) fault)

-- the source failed at a path
abbrev pub Fails : (before after : SourceState) → GraphFault → Type 0
Fails before after fault = (place : Place) × (path : List ℕ)
    × (fault ≡ record { place = Some place; cause = Io path }) × Rises before.failures after.failures

-- a fault of memory or of the source
abbrev pub Escapes : {A : Type 0} → (before after : SourceState) → Result A GraphFault → Type 0
Escapes before after (Ok done) = ⊥
Escapes before after (Err fault) = (fault ≡ no_memory) ⊎ Fails before after fault

-- with any further files, the reading still comes to `reached`
abbrev Settles : (List Reading → ReachedModel) → (files : List Reading) → ReachedModel → Type 0
Settles reading files reached = (all : List Reading) → IsPrefix files all → reading all ≡ reached

-- what a reading reaches by some files, which are at the paths that it reaches
record IsSettled (reading : List Reading → ReachedModel) (files : List Reading)
    (end : Result (List ReadStatement) GraphFault) : Type 0 where
  pub reached : ReachedModel
  pub settles : Settles reading files reached
  pub fits : Fits reached end
  pub paths : reached.paths ≡ paths_of files

-- further files do not change a reading that went to its end
abbrev pub IsKept : (List Reading → ReachedModel) → Type 0
IsKept reading = (files all : List Reading) → IsPrefix files all → (reading files).read.end ≡ Whole
    → reading all ≡ reading files

module _ (reading : List Reading → ReachedModel) (kept : IsKept reading) (before after : SourceState)
    (files : List Reading)
  where
    stopped-so : (fault : GraphFault) (so : EndsSo before after files reading fault) (end : End)
        → so.reached.read.end ≡ end
        → ((fault ≡ no_memory) ⊎ Fails before after fault) ⊎ IsSettled reading files (Err fault)
    stopped-so fault so Whole is = absurd (subst (λ e. IsEnd before after e fault) is so.answered)
    stopped-so fault so (Refused expected) is =
        let answered = subst (λ e. IsEnd before after e fault) is so.answered in
        inr (record {
          reached = so.reached;
          settles = λ all more. so.read all more (subst (λ e. IsLacking e all) (sym is) tt);
          fits = inl (is ∙ ap Refused (sym answered.0));
          paths = so.came_to ∙ ap (λ e. paths_with e files) is;
        })
    stopped-so fault so (Lacking path place) is =
        let answered = subst (λ e. IsEnd before after e fault) is so.answered in
        inl (inr (place, path, answered.0, answered.1))

    whole : (entries : List ReadStatement) → IsWhole before after files reading entries
        → Settles reading files (reading files)
    whole entries is all more = kept files all more (ap (λ r. r.end) is.read)

    settled : (end : Result (List ReadStatement) GraphFault) → EndsAs before after files reading end
        → Escapes before after end ⊎ IsSettled reading files end
    settled (Ok entries) (is, acyclic) = inr (record {
      reached = reading files;
      settles = whole entries is;
      fits = (is.read, acyclic);
      paths = is.came_to;
    })
    settled (Err fault) (inl (inl lacks)) = inl (inl lacks.answered)
    settled (Err fault) (inl (inr so)) = stopped-so fault so so.reached.read.end refl
    settled (Err fault) (inr cycle) = inr (record {
      reached = reading files;
      settles = whole cycle.entries cycle.whole;
      fits = inr (cycle.entries, cycle.whole.read, cycle.cycle);
      paths = cycle.whole.came_to;
    })

-- ---- two readings

entries-are : (reached : ReachedModel) (one other : List ReadStatement)
    → reached.read ≡ record { entries = one; end = Whole }
    → reached.read ≡ record { entries = other; end = Whole }
    → one ≡ other
entries-are reached one other is also = ap (λ (r : ReadingModel). r.entries) (sym is ∙ also)

not-both : (reached : ReachedModel) (entries : List ReadStatement) (fault : GraphFault)
    → reached.read ≡ record { entries = entries; end = Whole } → reached.read.end ≡ Refused fault → ⊥
not-both reached entries fault is also =
    let e : Whole ≡ Refused fault = sym (ap (λ (r : ReadingModel). r.end) is) ∙ also in absurd cc

fits-agree : (reached : ReachedModel) (one other : Result (List ReadStatement) GraphFault) → Fits reached one
    → Fits reached other → one ≡ other
fits-agree reached (Ok a) (Ok b) (is, acyclic) (also, acyclic2) = ap Ok (entries-are reached a b is also)
fits-agree reached (Ok a) (Err f) (is, acyclic) (inl bad) = absurd (not-both reached a f is bad)
fits-agree reached (Ok a) (Err f) (is, acyclic) (inr (others, also, cycle)) =
    absurd (acyclic-or-cycle a f acyclic
    (subst (λ es. IsCycleFault (edges_read es) f) (sym (entries-are reached a others is also)) cycle))
fits-agree reached (Err e) (Ok b) (inl bad) (is, acyclic) = absurd (not-both reached b e is bad)
fits-agree reached (Err e) (Ok b) (inr (others, also, cycle)) (is, acyclic) =
    absurd (acyclic-or-cycle b e acyclic
    (subst (λ es. IsCycleFault (edges_read es) e) (sym (entries-are reached b others is also)) cycle))
fits-agree reached (Err e) (Err f) (inl bad) (inl worse) =
    let same : Refused e ≡ Refused f = sym bad ∙ worse in
    let faults : e ≡ f = cc in ap Err faults
fits-agree reached (Err e) (Err f) (inl bad) (inr (others, also, cycle)) =
    absurd (not-both reached others e also bad)
fits-agree reached (Err e) (Err f) (inr (others, also, cycle)) (inl bad) =
    absurd (not-both reached others f also bad)
fits-agree reached (Err e) (Err f) (inr (entries, is, cycle)) (inr (others, also, more)) =
    ap Err (one-cycle (edges_read others) e f
    (subst (λ es. IsCycleFault (edges_read es) e) (entries-are reached entries others is also) cycle) more)

-- a reading sees of its files only what it finds at their paths
abbrev pub IsByPaths : (List Reading → ReachedModel) → Type 0
IsByPaths reading = (files others : List Reading)
    → ((path : List ℕ) → reading_of files path ≡ reading_of others path) → reading files ≡ reading others

-- the same files were loaded, and both graphs are those of the given statements
pub record AreLoadedAlike (one other : LoadedModel) : Type 0 where
  pub files : one.files ≡ other.files
  pub entries : List ReadStatement
  pub one_is : IsGraphOf one.graph entries
  pub other_is : IsGraphOf other.graph entries

-- two results, where neither memory nor a source failed
abbrev pub EndAlike : (one other : Result LoadedModel GraphFault) → Type 0
EndAlike one other = AgreeBoth AreLoadedAlike (λ e f. e ≡ f) one other

-- the end of a load
module _ (before after : SourceState) (files : List Reading) (reading : List Reading → ReachedModel) where
  end-of : (result : Result LoadedModel GraphFault) → LoadedOr before after files reading result
      → Result (List ReadStatement) GraphFault
  end-of (Ok loaded) is = Ok is.entries
  end-of (Err fault) is = Err fault

  loaded-ends : (result : Result LoadedModel GraphFault) (is : LoadedOr before after files reading result)
      → EndsAs before after files reading (end-of result is)
  unfolding end-of
  loaded-ends (Ok loaded) is = (
    is.whole,
    subst (λ edges. IsAcyclic (makers_of_inputs edges) (length edges)) is.graph_is.built.paths
        is.graph_is.acyclic,
  )
  loaded-ends (Err fault) is = is

  escapes-so : (result : Result LoadedModel GraphFault) (is : LoadedOr before after files reading result)
      → Escapes before after (end-of result is) → Escapes before after result
  unfolding end-of
  escapes-so (Ok loaded) is free = free
  escapes-so (Err fault) is free = free

-- readings that are declared
module _ (reading : List Reading → ReachedModel) (kept : IsKept reading) (by_paths : IsByPaths reading)
    (old : List Reading) (meant : List ℕ → Option (Option (List ℕ)))
    (all : (path : List ℕ) → is_some (meant path) ≡ true)
    (before after before2 after2 : SourceState)
    (one other : List Reading) (are : AreDeclared meant all one) (also : AreDeclared meant all other)
  where
    reach-same : (reached reached2 : ReachedModel) → Settles reading (old ++ one) reached
        → Settles reading (old ++ other) reached2 → reached2 ≡ reached
    reach-same reached reached2 settles settles2 =
        sym (settles2 ((old ++ other) ++ one) (one, refl))
        ∙ sym (by_paths ((old ++ one) ++ other) ((old ++ other) ++ one)
        (either-order meant all old one other are also))
        ∙ settles ((old ++ one) ++ other) (other, refl)

    settle-alike : (a b : Result (List ReadStatement) GraphFault) → IsSettled reading (old ++ one) a
        → IsSettled reading (old ++ other) b → (a ≡ b) × (old ++ one ≡ old ++ other)
    settle-alike a b is is2 =
        let reached = reach-same is.reached is2.reached is.settles is2.settles in (
          fits-agree is.reached a b is.fits (subst (λ r. Fits r b) reached is2.fits),
          same-readings meant all old one other are also
              (sym is.paths ∙ ap (λ (r : ReachedModel). r.paths) (sym reached) ∙ is2.paths),
        )

    -- the same end, and the same files
    pub ends-agree : (a b : Result (List ReadStatement) GraphFault)
        → EndsAs before after (old ++ one) reading a → EndsAs before2 after2 (old ++ other) reading b
        → Escapes before after a ⊎ (Escapes before2 after2 b ⊎ ((a ≡ b) × (old ++ one ≡ old ++ other)))
    ends-agree a b is is2 =
        by (settled reading kept before after (old ++ one) a is)
        (settled reading kept before2 after2 (old ++ other) b is2)
      where
        by : Escapes before after a ⊎ IsSettled reading (old ++ one) a
            → Escapes before2 after2 b ⊎ IsSettled reading (old ++ other) b
            → Escapes before after a ⊎ (Escapes before2 after2 b ⊎ ((a ≡ b) × (old ++ one ≡ old ++ other)))
        by (inl free) _ = inl free
        by (inr _) (inl free) = inr (inl free)
        by (inr is3) (inr is4) = inr (inr (settle-alike a b is3 is4))

    abbrev one-end : (a : Result LoadedModel GraphFault) → LoadedOr before after (old ++ one) reading a
        → Result (List ReadStatement) GraphFault
    one-end = end-of before after (old ++ one) reading

    abbrev other-end : (b : Result LoadedModel GraphFault) → LoadedOr before2 after2 (old ++ other) reading b
        → Result (List ReadStatement) GraphFault
    other-end = end-of before2 after2 (old ++ other) reading

    alike : (a b : Result LoadedModel GraphFault) (is : LoadedOr before after (old ++ one) reading a)
        (is2 : LoadedOr before2 after2 (old ++ other) reading b)
        → one-end a is ≡ other-end b is2 → old ++ one ≡ old ++ other → EndAlike a b
    unfolding end-of
    alike (Ok l) (Ok m) is is2 same files =
        let entries : is.entries ≡ is2.entries = cc in record {
          files = is.files_are ∙ files ∙ sym is2.files_are;
          entries = is.entries;
          one_is = is.graph_is;
          other_is = subst (IsGraphOf m.graph) (sym entries) is2.graph_is;
        }
    alike (Ok l) (Err f) is is2 same files = absurd cc
    alike (Err e) (Ok m) is is2 same files = absurd cc
    alike (Err e) (Err f) is is2 same files = let faults : e ≡ f = cc in faults

    pub by-files : (a b : Result LoadedModel GraphFault) → LoadedOr before after (old ++ one) reading a
        → LoadedOr before2 after2 (old ++ other) reading b
        → Escapes before after a ⊎ (Escapes before2 after2 b ⊎ (EndAlike a b × (old ++ one ≡ old ++ other)))
    by-files a b is is2 =
        by (ends-agree (one-end a is) (other-end b is2) (loaded-ends before after (old ++ one) reading a is)
        (loaded-ends before2 after2 (old ++ other) reading b is2))
      where
        by : Escapes before after (one-end a is) ⊎ (Escapes before2 after2 (other-end b is2)
            ⊎ ((one-end a is ≡ other-end b is2) × (old ++ one ≡ old ++ other)))
            → Escapes before after a ⊎ (Escapes before2 after2 b
            ⊎ (EndAlike a b × (old ++ one ≡ old ++ other)))
        by (inl free) = inl (escapes-so before after (old ++ one) reading a is free)
        by (inr (inl free)) = inr (inl (escapes-so before2 after2 (old ++ other) reading b is2 free))
        by (inr (inr (same, files))) = inr (inr (alike a b is is2 same files, files))

-- ---- of sources that declare the same

unread : (before after : SourceState) (fault : GraphFault) → (fault ≡ no_memory) ⊎ Fails before after fault
    → IsUnread fault
unread before after fault (inl none) = inl none
unread before after fault (inr (place, path, is, fails)) = inr (place, path, is)

one-escapes : (before after : SourceState) (one other : Result LoadedModel GraphFault)
    → Escapes before after one → AgreeUpTo SameLoaded IsUnread one other
one-escapes before after (Ok a) other none = absurd none
one-escapes before after (Err e) (Ok b) free = unread before after e free
one-escapes before after (Err e) (Err f) free = inr (inl (unread before after e free))

other-escapes : (before after : SourceState) (one other : Result LoadedModel GraphFault)
    → Escapes before after other → AgreeUpTo SameLoaded IsUnread one other
other-escapes before after one (Ok b) none = absurd none
other-escapes before after (Ok a) (Err f) free = unread before after f free
other-escapes before after (Err e) (Err f) free = inr (inr (unread before after f free))

-- graphs whose main files are the same
pub graphs-alike : (main : List ℕ) (a b : LoadedModel) → AreLoadedAlike a b → main_of a.graph.origins ≡ main
    → main_of b.graph.origins ≡ main → SameGraph a.graph b.graph
graphs-alike main a b alike at at2 = same-graph a.graph b.graph alike.entries alike.one_is alike.other_is
    (same-origins a.graph b.graph alike.entries alike.one_is alike.other_is (at ∙ sym at2))

both-alike : (main : List ℕ) (one other : Result LoadedModel GraphFault) → EndAlike one other
    → IfOk one (λ a. main_of a.graph.origins ≡ main) → IfOk other (λ a. main_of a.graph.origins ≡ main)
    → AgreeUpTo SameLoaded IsUnread one other
both-alike main (Ok a) (Ok b) alike at at2 =
    record { files = alike.files; graph = graphs-alike main a b alike at at2 }
both-alike main (Ok a) (Err f) alike at at2 = absurd alike
both-alike main (Err e) (Ok b) alike at at2 = absurd alike
both-alike main (Err e) (Err f) alike at at2 = inl alike

module _ (reading : List Reading → ReachedModel) (kept : IsKept reading) (by_paths : IsByPaths reading)
    (main : List ℕ) (old : List Reading) (before after before2 after2 : SourceState)
    (same : DeclareSame before before2)
  where
    pub loads-agree : (a b : Result LoadedModel GraphFault) → LoadsAfter old before after reading a
        → LoadsAfter old before2 after2 reading b → IfOk a (λ l. main_of l.graph.origins ≡ main)
        → IfOk b (λ l. main_of l.graph.origins ≡ main) → AgreeUpTo SameLoaded IsUnread a b
    loads-agree a b (files, read, is) (files2, read2, is2) at at2 = by
        (by-files reading kept by_paths old before.files same.all before after before2 after2
        read.readings read2.readings
        (as-declared before.files same.all before (λ path. refl) read.readings read.read.as_given)
        (as-declared before.files same.all before2 same.same read2.readings read2.read.as_given) a b
        (subst (λ fs. LoadedOr before after fs reading a) read.added is)
        (subst (λ fs. LoadedOr before2 after2 fs reading b) read2.added is2))
      where
        by : Escapes before after a ⊎ (Escapes before2 after2 b
            ⊎ (EndAlike a b × (old ++ read.readings ≡ old ++ read2.readings)))
            → AgreeUpTo SameLoaded IsUnread a b
        by (inl free) = one-escapes before after a b free
        by (inr (inl free)) = other-escapes before2 after2 a b free
        by (inr (inr alike)) = both-alike main a b alike.0 at at2

-- ---- the reading of a main file

module _ (files others : List Reading) (same : (path : List ℕ)
    → reading_of files path ≡ reading_of others path) where
  opens-same : (left : ℕ) → opened_in files left ≡ opened_in others left
  unfolding opened_in
  opens-same zero = fun_ext (λ site. fun_ext (λ place. fun_ext (λ e. fun_ext (λ before. refl))))
  opens-same (suc left) = fun_ext (λ site. fun_ext (λ place. fun_ext (λ e. fun_ext (λ before.
      let read : Opens → Option Reading → ReadingModel = λ opens found.
      cond (nat_lt (files_opened before) most_opened)
      (outcome_read site.file place before (λ text. text_read opens site text (e ∷ before)) found)
      (stopped before place TooManyOpenings) in
      ap (λ opens. read opens (reading_of files site.file)) (opens-same left)
      ∙ ap (read (opened_in others left)) (same site.file)))))

  main-same : (main : List ℕ) → main_read files main ≡ main_read others main
  unfolding main_read
  main-same main =
      let read : Opens → Option Reading → ReadingModel = λ opens found.
      outcome_read main (main_place main) [] (λ text. text_read opens (main_site main) text []) found in
      ap (λ opens. read opens (reading_of files main)) (opens-same most_within)
      ∙ ap (read (opened_in others most_within)) (same main)

pub main-by-paths : (main : List ℕ) → IsByPaths (main_reached main)
main-by-paths main files others same =
    ap (λ r. record { read = r; paths = paths_come_to main r }) (main-same files others same main)

pub main-kept : (main : List ℕ) → IsKept (main_reached main)
main-kept main files all more whole =
    ap (λ r. record { read = r; paths = paths_come_to main r })
    (others_are_not_read files all main more (subst (λ e. IsLacking e all) (sym whole) tt))

-- ---- the reading of dyndep files

module _ (stated : List ReadStatement) where
  module _ (p : Pending) (joined : List ReadStatement) where
    found_joined : Option Reading → ReadingModel
    found_joined found = cond (is_utf8 p.file)
        (outcome_read p.file (statement_place stated p.edge) joined
        (λ text. text_joined p.file stated text joined) found)
        (stopped joined (statement_place stated p.edge) PathNotText)

    file-is : (files : List Reading) → file_joined files stated p joined
        ≡ found_joined (reading_of files p.file)
    unfolding file_joined found_joined
    file-is files = refl

    file-kept : (files all : List Reading) → IsPrefix files all
        → (file_joined files stated p joined).end ≡ Whole
        → file_joined all stated p joined ≡ file_joined files stated p joined
    unfolding found_joined
    file-kept files all more whole = file-is all ∙ by (reading_of files p.file) refl ∙ sym (file-is files)
      where
        lacks : (b : Bool) → (cond b (outcome_read p.file (statement_place stated p.edge) joined
            (λ text. text_joined p.file stated text joined) None)
            (stopped joined (statement_place stated p.edge) PathNotText)).end ≡ Whole → ⊥
        lacks true is = absurd cc
        lacks false is = absurd cc

        none-whole : (found_joined None).end ≡ Whole → ⊥
        none-whole is = lacks (is_utf8 p.file) is

        by : (found : Option Reading) → reading_of files p.file ≡ found
            → found_joined (reading_of all p.file) ≡ found_joined (reading_of files p.file)
        by (Some r) is = ap found_joined (reading-kept p.file r all files more is ∙ sym is)
        by None is = absurd (none-whole (subst (λ (m : ReadingModel). m.end ≡ Whole)
            (file-is files ∙ ap found_joined is) whole))

  files-kept : (files all : List Reading) → IsPrefix files all
      → (ps : List Pending) (joined : List ReadStatement)
      → (files_joined files stated ps joined).read.end ≡ Whole
      → files_joined all stated ps joined ≡ files_joined files stated ps joined
  unfolding files_joined
  files-kept files all more [] joined ended = refl
  files-kept files all more (p ∷ ps) joined ended = by (file_joined files stated p joined).end refl ended
      (files-kept files all more ps (file_joined files stated p joined).entries)
    where
      by : (end : End) → (file_joined files stated p joined).end ≡ end
          → (continued end p (file_joined files stated p joined).entries
          (files_joined files stated ps)).read.end ≡ Whole
          → ((files_joined files stated ps (file_joined files stated p joined).entries).read.end ≡ Whole
          → files_joined all stated ps (file_joined files stated p joined).entries
          ≡ files_joined files stated ps (file_joined files stated p joined).entries)
          → continued (file_joined all stated p joined).end p (file_joined all stated p joined).entries
          (files_joined all stated ps)
          ≡ continued end p (file_joined files stated p joined).entries (files_joined files stated ps)
      by Whole is rest kept =
          ap (λ (m : ReadingModel). continued m.end p m.entries (files_joined all stated ps))
          (file-kept p joined files all more is)
          ∙ ap (λ e. continued e p (file_joined files stated p joined).entries (files_joined all stated ps))
          is
          ∙ ap (λ (k : ReachedModel). record { read = k.read; paths = path_asked p ++ k.paths })
          (kept rest)
      by (Refused fault) is rest kept = absurd cc
      by (Lacking path place) is rest kept = absurd cc

  files-by-paths : (files others : List Reading)
      → ((path : List ℕ) → reading_of files path ≡ reading_of others path) → (ps : List Pending)
      → files_joined files stated ps ≡ files_joined others stated ps
  unfolding files_joined
  files-by-paths files others same [] = fun_ext (λ joined. refl)
  files-by-paths files others same (p ∷ ps) = fun_ext (λ joined.
      let file : file_joined files stated p joined ≡ file_joined others stated p joined =
      file-is p joined files ∙ ap (found_joined p joined) (same p.file) ∙ sym (file-is p joined others) in
      ap (λ (m : ReadingModel). continued m.end p m.entries (files_joined files stated ps)) file
      ∙ ap (λ k. continued (file_joined others stated p joined).end p
      (file_joined others stated p joined).entries k)
      (files-by-paths files others same ps))

  module _ (old : List Reading) (ps : List Pending) where
    pub joined-kept : IsKept (some_joined_after old stated ps)
    joined-kept files all more whole =
        ap (λ (k : ReachedModel). record { read = k.read; paths = with_all_new (paths_of old) k.paths })
        (files-kept files all more ps stated whole)

    pub joined-by-paths : IsByPaths (some_joined_after old stated ps)
    joined-by-paths files others same =
        ap (λ k. record { read = (k stated).read; paths = with_all_new (paths_of old) (k stated).paths })
        (files-by-paths files others same ps)

-- ---- the joining of dyndep files

main-from : (result : Result LoadedModel GraphFault) (origins : OriginsModel)
    → IfOk result (λ l. l.graph.origins ≡ origins)
    → IfOk result (λ l. main_of l.graph.origins ≡ main_of origins)
main-from (Ok l) origins is = ap main_of is
main-from (Err fault) origins is = tt

module _ (loaded other : LoadedModel) (same : loaded ≡ other) (entries : List ReadStatement)
    (graph : IsGraphOf loaded.graph entries) (before after before2 after2 : SourceState)
    (sources : DeclareSame before before2)
  where
    abbrev ps : List Pending
    ps = dyndep_files (pending_read entries)

    abbrev Keeps : LoadedModel → Result LoadedModel GraphFault → Type 0
    Keeps from result = IfOk result (λ l. l.graph.origins ≡ from.graph.origins)

    pub joins-agree : (a b : Result LoadedModel GraphFault)
        → ((stated : List ReadStatement) → IsGraphOf loaded.graph stated
        → Joins stated loaded.files before after a)
        → ((stated : List ReadStatement) → IsGraphOf other.graph stated
        → Joins stated other.files before2 after2 b)
        → Keeps loaded a → Keeps other b → AgreeUpTo SameLoaded IsUnread a b
    unfolding all_joined
    joins-agree a b is also from from2 =
        let also_same = subst (λ (l : LoadedModel). (stated : List ReadStatement) → IsGraphOf l.graph stated
        → Joins stated l.files before2 after2 b) (sym same) also in
        let from_same = subst (λ (l : LoadedModel). Keeps l b) (sym same) from2 in
        loads-agree (some_joined_after loaded.files entries ps) (joined-kept entries loaded.files ps)
        (joined-by-paths entries loaded.files ps) (main_of loaded.graph.origins) loaded.files before after
        before2
        after2 sources a b (is entries graph) (also_same entries graph)
        (main-from a loaded.graph.origins from)
        (main-from b loaded.graph.origins from_same)

    pub present-joins-agree : (times : DeclaredTimes) → TellAll times → (a b : Result LoadedModel GraphFault)
        → ((stated : List ReadStatement) → IsGraphOf loaded.graph stated
        → JoinsPresent times stated loaded.files before after a)
        → ((stated : List ReadStatement) → IsGraphOf other.graph stated
        → JoinsPresent times stated other.files before2 after2 b)
        → Keeps loaded a → Keeps other b → AgreeUpTo SameLoaded IsUnread a b
    present-joins-agree times all a b is also from from2 =
        let also_same = subst (λ (l : LoadedModel). (stated : List ReadStatement) → IsGraphOf l.graph stated
        → JoinsPresent times stated l.files before2 after2 b) (sym same) also in
        let from_same = subst (λ (l : LoadedModel). Keeps l b) (sym same) from2 in
        let first = is entries graph in
        let second = also_same entries graph in
        let present : second.0 ≡ first.0 =
        present-are times all ps second.0 second.1 ∙ sym (present-are times all ps first.0 first.1) in
        loads-agree (some_joined_after loaded.files entries first.0)
        (joined-kept entries loaded.files first.0)
        (joined-by-paths entries loaded.files first.0) (main_of loaded.graph.origins) loaded.files before
        after before2
        after2 sources a b first.2
        (subst (λ qs. LoadsAfter loaded.files before2 after2 (some_joined_after loaded.files entries qs) b)
        present
        second.2) (main-from a loaded.graph.origins from) (main-from b loaded.graph.origins from_same)
