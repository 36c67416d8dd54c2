-- Two sessions after the same load.
use Rattle.std.proofs.Common.{◌≡◌, ◌≢◌, ◌⊎◌, inl, inr, ℕ, Bool, true, false, cond, Option, Some, None, IfOk}
use Rattle.std.proofs.Common.{IfSome}
use Rattle.std.proofs.Common.{Result, Ok, Err, List, [], ◌∷◌, ◌++◌, map, refl, sym, ap, subst, ◌∙◌, arith}
use Rattle.std.proofs.Common.{is_some, unwrap_or, bytes_eq}
use Rattle.std.specs.Prelude.{filter, not, ◌&&◌}
use Rattle.std.specs.List.{cons_option, filter_map, AllByRecursion}
use Rattle.std.specs.Str.{is_utf8}
use Rattle.std.proofs.Math.Path.{fun_ext}
use Rattle.std.proofs.lemmas.Option.{same_Some}
use Rattle.nj_scope.specs.Readings.{Reading}
use Rattle.nj_scope.specs.Sources.{IsAsGiven, Rises}
use Rattle.nj_edges.specs.Repeats.{each_once}
use Rattle.nj_faults.specs.declared.fault.GraphFault.{GraphFault}
use Rattle.nj_faults.specs.Faults.{no_memory}
use Rattle.nj_statements.specs.EdgeList.{pending_read}
use Rattle.nj_statements.specs.Joining.{dyndep_files}
use Rattle.nj_graph.specs.Graph.{GraphModel}
use Rattle.nj_graph.specs.Joining.{all_joined, some_joined_after, Joins}
use Rattle.nj_graph.specs.Loads.{main_reached, LoadedModel, LoadedOr, Loads}
use Rattle.nj_graph.specs.Origins.{main_of}
use Rattle.nj_agreement.specs.Agreement.{AgreeBoth}
use Rattle.nj_agreement.specs.Graphs.{SameGraph}
use Rattle.nj_agreement.proofs.DeclaredAnswers.{declared-by, AreDeclared}
use Rattle.nj_agreement.proofs.LoadAnswers.{by-files, graphs-alike, joined-by-paths, joined-kept}
use Rattle.nj_agreement.proofs.LoadAnswers.{main-by-paths}
use Rattle.nj_agreement.proofs.LoadAnswers.{main-kept, AreLoadedAlike, EndAlike, Escapes}
use Rattle.nj_c.specs.declared.session_state.Kept.{Kept}
use Rattle.nj_c.specs.declared.status.Status.{Status}
use Rattle.nj_c.specs.declared.status.Status.TheVariants.{Done, Nothing, Short, Fault, Wanted, NotLoaded}
use Rattle.nj_c.specs.declared.status.Status.TheVariants.{BadNumber, BadMark, NotUtf8, NotOpen, OutOfMemory}
use Rattle.nj_c.specs.declared.status.Status.TheVariants.{BadLog}
use Rattle.nj_c.specs.Loading.{dyndeps_of, graph_loaded, is_lacking, lacking_dyndeps, paths_or, paths_to_load}
use Rattle.nj_c.specs.Loading.{unread, GivesGraph, KeepsNothing, LoadsAs, LoadsFiles, LoadsKept, WantsFiles}
use Rattle.nj_c.specs.Loading.{LeavesNothing, SameRun}
use Rattle.nj_c.specs.OneAnswer.{Equal, SameContents, SameOptions}
use Rattle.nj_c.specs.SuppliedFiles.{supplied_for, supplied_state, wanted_paths, ReadsAsSupplied}
use Rattle.nj_c.specs.SuppliedFiles.{SameFiles, Supplied}
use Rattle.nj_c.proofs.OneAnswerChanges.{both-none, both-some}

-- ---- readings of supplied files

abbrev pub Supply : Type 0
Supply = List ℕ → Option (Option (List ℕ))

-- what is read at a path: an empty file where nothing is supplied
abbrev pub meant : Supply → Supply
meant files path = Some (unwrap_or (files path) (Some []))

pub all-meant : (files : Supply) (path : List ℕ) → is_some (meant files path) ≡ true
all-meant files path = refl

-- the paths that were read and not supplied
abbrev pub wanted-of : Supply → List Reading → List (List ℕ)
wanted-of files read = filter_map (λ r. cond (is_some (files r.path)) None (Some r.path)) read

-- each reading is as supplied
abbrev pub AreAsSupplied : Supply → List Reading → Type 0
AreAsSupplied files read = AllByRecursion (λ r. r.bytes ≡ unwrap_or (files r.path) (Some [])) read

pub are-declared : (files : Supply) (read : List Reading) → AreAsSupplied files read
    → AreDeclared (meant files) (all-meant files) read
are-declared files read are = declared-by (meant files) (all-meant files) read are

-- where nothing is wanted, each reading was supplied
pub as-supplied : (files : Supply) (read : List Reading)
    → AllByRecursion (λ r. IfSome (files r.path) (λ given. r.bytes ≡ given)) read → wanted-of files read ≡ []
    → AreAsSupplied files read
as-supplied files [] given none = tt
as-supplied files (r ∷ read) given none =
    by (files r.path) refl given.0 none (as-supplied files read given.1)
  where
    -- the wanted paths, by what is supplied for the first
    step : Option (Option (List ℕ)) → List (List ℕ)
    step o = cons_option (cond (is_some o) None (Some r.path)) (wanted-of files read)

    by : (o : Option (Option (List ℕ))) → files r.path ≡ o → IfSome o (λ given. r.bytes ≡ given)
        → wanted-of files (r ∷ read) ≡ [] → (wanted-of files read ≡ [] → AreAsSupplied files read)
        → (r.bytes ≡ unwrap_or (files r.path) (Some [])) × AreAsSupplied files read
    by None at is empty rest = absurd (let e = sym (ap step at) ∙ empty in cc)
    by (Some file) at is empty rest =
        (is ∙ sym (ap (λ o. unwrap_or o (Some [])) at), rest (sym (ap step at) ∙ empty))

pub rest-of : {A : Type 0} (P : A → Type 0) (xs ys : List A) → AllByRecursion P (xs ++ ys)
    → AllByRecursion P ys
rest-of P [] ys all = all
rest-of P (x ∷ xs) ys all = rest-of P xs ys all.1

-- ---- the first stage of a load

module _ (before between : Supplied) (main : List ℕ) (loaded : Result LoadedModel GraphFault)
    (loads : Loads main (supplied_state (unread before)) (supplied_state between) loaded)
  where
    read-is : between.read ≡ loads.1.readings
    read-is = same_Some between.read loads.1.readings loads.1.read.reported

    pub supply-is : supplied_for between ≡ supplied_for before
    supply-is = fun_ext loads.1.read.files

    -- its readings, where nothing was wanted after it
    pub none-wanted : wanted_paths between ≡ [] → AreAsSupplied (supplied_for before) between.read
    none-wanted none = as-supplied (supplied_for before) between.read
        (subst (AllByRecursion (IsAsGiven (supplied_state (unread before)))) (sym read-is)
        loads.1.read.as_given)
        (ap (λ f. wanted-of f between.read) (sym supply-is) ∙ none)

    pub all-found : ReadsAsSupplied between → AreAsSupplied (supplied_for before) between.read
    all-found found = subst (λ f. AreAsSupplied f between.read) supply-is found

    pub loaded-by : LoadedOr (supplied_state (unread before)) (supplied_state between) ([] ++ between.read)
        (main_reached main) loaded
    loaded-by = subst (λ files. LoadedOr (supplied_state (unread before)) (supplied_state between) files
        (main_reached main) loaded) (loads.1.added ∙ sym read-is) loads.2

never : ¬ Rises 0 0
never rises = let above = rises.above (omega arith) in omega (arith, above)

-- supplied files never fail
no-escape : (before after : Supplied) (result : Result LoadedModel GraphFault) → result ≢ Err no_memory
    → Escapes (supplied_state before) (supplied_state after) result → ⊥
no-escape before after (Ok loaded) memory none = none
no-escape before after (Err fault) memory (inl lacks) = memory (ap Err lacks)
no-escape before after (Err fault) memory (inr (place, path, is, fails)) = never fails

module _ (before between between2 : Supplied) (main : List ℕ) (loaded loaded2 : Result LoadedModel GraphFault)
    (loads : Loads main (supplied_state (unread before)) (supplied_state between) loaded)
    (loads2 : Loads main (supplied_state (unread before)) (supplied_state between2) loaded2)
    (are : AreAsSupplied (supplied_for before) between.read)
    (are2 : AreAsSupplied (supplied_for before) between2.read)
    (memory : loaded ≢ Err no_memory) (memory2 : loaded2 ≢ Err no_memory)
  where
    pub first-alike : EndAlike loaded loaded2 × (between.read ≡ between2.read)
    first-alike = by (by-files (main_reached main) (main-kept main) (main-by-paths main) []
        (meant (supplied_for before)) (all-meant (supplied_for before)) (supplied_state (unread before))
        (supplied_state between) (supplied_state (unread before)) (supplied_state between2) between.read
        between2.read (are-declared (supplied_for before) between.read are)
        (are-declared (supplied_for before) between2.read are2) loaded loaded2
        (loaded-by before between main loaded loads) (loaded-by before between2 main loaded2 loads2))
      where
        by : Escapes (supplied_state (unread before)) (supplied_state between) loaded
            ⊎ (Escapes (supplied_state (unread before)) (supplied_state between2) loaded2
            ⊎ (EndAlike loaded loaded2 × ([] ++ between.read ≡ [] ++ between2.read)))
            → EndAlike loaded loaded2 × (between.read ≡ between2.read)
        by (inl free) = absurd (no-escape (unread before) between loaded memory free)
        by (inr (inl free)) = absurd (no-escape (unread before) between2 loaded2 memory2 free)
        by (inr (inr alike)) = alike

    wanted-alike : wanted_paths between ≡ wanted_paths between2
    wanted-alike = ap (λ f. wanted-of f between.read) (supply-is before between main loaded loads)
        ∙ ap (wanted-of (supplied_for before)) first-alike.1
        ∙ ap (λ f. wanted-of f between2.read) (sym (supply-is before between2 main loaded2 loads2))

    lacking-alike : (joins : Bool) (g h : GraphModel) → dyndeps_of g ≡ dyndeps_of h
        → lacking_dyndeps between joins g ≡ lacking_dyndeps between2 joins h
    lacking-alike joins g h same =
        ap (λ paths. cond joins (each_once bytes_eq (filter (is_lacking between) paths)) []) same
        ∙ ap (λ (f : Supply). cond joins (each_once bytes_eq (filter (lacks f) (dyndeps_of h))) [])
        (supply-is before between main loaded loads ∙ sym (supply-is before between2 main loaded2 loads2))
      where
        lacks : Supply → List ℕ → Bool
        lacks f path = is_utf8 path && not (is_some (f path))

    -- the same paths are wanted after it
    pub to-load-alike : (joins : Bool) → paths_to_load between joins loaded
        ≡ paths_to_load between2 joins loaded2
    to-load-alike joins = by loaded loaded2 first-alike.0
      where
        by : (a b : Result LoadedModel GraphFault) → EndAlike a b
            → paths_to_load between joins a ≡ paths_to_load between2 joins b
        by (Ok a) (Ok b) alike =
            ap (λ paths. paths_or paths (lacking_dyndeps between joins a.graph)) wanted-alike
            ∙ ap (paths_or (wanted_paths between2)) (lacking-alike joins a.graph b.graph
            (ap (filter_map (λ a. a.dyndep))
            (alike.one_is.built.assigned ∙ sym alike.other_is.built.assigned)))
        by (Ok a) (Err f) alike = absurd alike
        by (Err e) (Ok b) alike = absurd alike
        by (Err e) (Err f) alike = wanted-alike

-- ---- dyndep files

module _ (before between between2 after after2 : Supplied) (loaded loaded2 : LoadedModel)
    (alike : AreLoadedAlike loaded loaded2)
    (read : between.read ≡ between2.read)
    (supply : supplied_for between ≡ supplied_for before)
    (supply2 : supplied_for between2 ≡ supplied_for before)
    (joined joined2 : Result LoadedModel GraphFault)
    (joins : Joins alike.entries loaded.files (supplied_state between) (supplied_state after) joined)
    (joins2 : Joins alike.entries loaded.files (supplied_state between2) (supplied_state after2) joined2)
    (found : ReadsAsSupplied after) (found2 : ReadsAsSupplied after2)
    (memory : joined ≢ Err no_memory) (memory2 : joined2 ≢ Err no_memory)
  where
    -- the readings of one joining
    declared-after : (middle end : Supplied) (result : Result LoadedModel GraphFault)
        → supplied_for middle ≡ supplied_for before
        → (reads : Joins alike.entries loaded.files (supplied_state middle) (supplied_state end) result)
        → ReadsAsSupplied end
        → AreDeclared (meant (supplied_for before)) (all-meant (supplied_for before)) reads.1.readings
    declared-after middle end result supply reads found =
        let same : end.read ≡ middle.read ++ reads.1.readings =
        same_Some end.read (middle.read ++ reads.1.readings) reads.1.read.reported in
        let files : supplied_for end ≡ supplied_for before = fun_ext reads.1.read.files ∙ supply in
        are-declared (supplied_for before) reads.1.readings (rest-of _ middle.read reads.1.readings
        (subst (AreAsSupplied (supplied_for before)) same
        (subst (λ f. AreAsSupplied f end.read) files found)))

    pub joined-alike : EndAlike joined joined2
    unfolding all_joined
    joined-alike = by (by-files (some_joined_after loaded.files alike.entries
        (dyndep_files (pending_read alike.entries)))
        (joined-kept alike.entries loaded.files (dyndep_files (pending_read alike.entries)))
        (joined-by-paths alike.entries loaded.files (dyndep_files (pending_read alike.entries))) loaded.files
        (meant (supplied_for before)) (all-meant (supplied_for before)) (supplied_state between)
        (supplied_state after) (supplied_state between2) (supplied_state after2) joins.1.readings
        joins2.1.readings (declared-after between after joined supply joins found)
        (declared-after between2 after2 joined2 supply2 joins2 found2) joined joined2
        (subst (λ files. LoadedOr (supplied_state between) (supplied_state after) files
        (some_joined_after loaded.files alike.entries (dyndep_files (pending_read alike.entries))) joined)
        joins.1.added joins.2)
        (subst (λ files. LoadedOr (supplied_state between2) (supplied_state after2) files
        (some_joined_after loaded.files alike.entries (dyndep_files (pending_read alike.entries))) joined2)
        joins2.1.added joins2.2))
      where
        by : Escapes (supplied_state between) (supplied_state after) joined
            ⊎ (Escapes (supplied_state between2) (supplied_state after2) joined2
            ⊎ (EndAlike joined joined2 × (loaded.files ++ joins.1.readings
            ≡ loaded.files ++ joins2.1.readings)))
            → EndAlike joined joined2
        by (inl free) = absurd (no-escape between after joined memory free)
        by (inr (inl free)) = absurd (no-escape between2 after2 joined2 memory2 free)
        by (inr (inr ends)) = ends.0

-- ---- the whole load

-- two results of loads
abbrev pub SameResult : (one other : Result GraphModel GraphFault) → Type 0
SameResult one other = AgreeBoth SameGraph (λ e f. e ≡ f) one other

module _ (kept : Supplied) (main : List ℕ) (joins : Bool) where
  no-paths : (paths others : List (List ℕ)) → paths_or paths others ≡ [] → paths ≡ []
  no-paths [] others is = refl
  no-paths (path ∷ paths) others is = absurd cc

  no-wanted : (between : Supplied) (loaded : Result LoadedModel GraphFault)
      → paths_to_load between joins loaded ≡ [] → wanted_paths between ≡ []
  no-wanted between (Ok loaded) none = no-paths (wanted_paths between)
      (lacking_dyndeps between joins loaded.graph) none
  no-wanted between (Err fault) none = none

  in-memory : (after : Supplied) (result : Result GraphModel GraphFault)
      (is : LoadsFiles kept after main joins result)
      → result ≢ Err no_memory → is.loaded ≢ Err no_memory
  in-memory after result is memory lacks =
      memory ((subst (λ l. GivesGraph (supplied_state is.between) (supplied_state after) joins l result) lacks
      is.gives).1)

  read-as-supplied : (after : Supplied) (result : Result GraphModel GraphFault)
      (is : LoadsFiles kept after main joins result) → AreAsSupplied (supplied_for kept) is.between.read
  read-as-supplied after result is =
      none-wanted kept is.between main is.loaded is.loads (no-wanted is.between is.loaded is.none_to_load)

  module _ (after after2 : Supplied) (result result2 : Result GraphModel GraphFault)
      (is : LoadsFiles kept after main joins result) (also : LoadsFiles kept after2 main joins result2)
      (memory : result ≢ Err no_memory) (memory2 : result2 ≢ Err no_memory)
    where
      first : EndAlike is.loaded also.loaded × (is.between.read ≡ also.between.read)
      first = first-alike kept is.between also.between main is.loaded also.loaded is.loads also.loads
          (read-as-supplied after result is) (read-as-supplied after2 result2 also)
          (in-memory after result is memory) (in-memory after2 result2 also memory2)

      results-alike : (joined joined2 : Result LoadedModel GraphFault) (l l2 : LoadedModel)
          → EndAlike joined joined2 → main_of l.graph.origins ≡ main → main_of l2.graph.origins ≡ main
          → IfOk joined (λ j. j.graph.origins ≡ l.graph.origins)
          → IfOk joined2 (λ j. j.graph.origins ≡ l2.graph.origins)
          → SameResult (graph_loaded joined) (graph_loaded joined2)
      results-alike (Ok j) (Ok j2) l l2 alike at at2 from from2 =
          graphs-alike main j j2 alike (ap main_of from ∙ at) (ap main_of from2 ∙ at2)
      results-alike (Ok j) (Err f) l l2 alike _ _ _ _ = absurd alike
      results-alike (Err e) (Ok j2) l l2 alike _ _ _ _ = absurd alike
      results-alike (Err e) (Err f) l l2 alike _ _ _ _ = alike

      lacked : (joined : Result LoadedModel GraphFault) (end : Result GraphModel GraphFault)
          → end ≡ graph_loaded joined → end ≢ Err no_memory → joined ≢ Err no_memory
      lacked joined end given memory lacks = memory (given ∙ ap graph_loaded lacks)

      by-loaded : (b : Bool) (l l2 : LoadedModel) (alike : AreLoadedAlike l l2)
          → main_of l.graph.origins ≡ main → main_of l2.graph.origins ≡ main
          → GivesGraph (supplied_state is.between) (supplied_state after) b (Ok l) result
          → GivesGraph (supplied_state also.between) (supplied_state after2) b (Ok l2) result2
          → SameResult result result2
      by-loaded false l l2 alike at at2 (same, given) (same2, given2) =
          subst (λ r. SameResult r result2) (sym given) (subst (SameResult (Ok l.graph)) (sym given2)
          (graphs-alike main l l2 alike at at2))
      by-loaded true l l2 alike at at2 (joined, given, from, reads) (joined2, given2, from2, reads2) =
          let ends = joined-alike kept is.between also.between after after2 l l2 alike first.1
          (supply-is kept is.between main is.loaded is.loads)
          (supply-is kept also.between main also.loaded also.loads) joined joined2
          (reads alike.entries alike.one_is)
          (subst (λ files. Joins alike.entries files (supplied_state also.between) (supplied_state after2)
          joined2) (sym alike.files) (reads2 alike.entries alike.other_is)) is.found also.found
          (lacked joined result given memory) (lacked joined2 result2 given2 memory2) in
          subst (λ r. SameResult r result2) (sym given) (subst (SameResult (graph_loaded joined)) (sym given2)
          (results-alike joined joined2 l l2 ends at at2 from from2))

      pub loads-alike : SameResult result result2
      loads-alike = by is.loaded also.loaded first.0 is.main_is also.main_is is.gives also.gives
        where
          by : (a b : Result LoadedModel GraphFault) → EndAlike a b
              → IfOk a (λ l. main_of l.graph.origins ≡ main) → IfOk b (λ l. main_of l.graph.origins ≡ main)
              → GivesGraph (supplied_state is.between) (supplied_state after) joins a result
              → GivesGraph (supplied_state also.between) (supplied_state after2) joins b result2
              → SameResult result result2
          by (Ok l) (Ok l2) alike at at2 gives gives2 = by-loaded joins l l2 alike at at2 gives gives2
          by (Ok l) (Err f) alike at at2 gives gives2 = absurd alike
          by (Err e) (Ok l2) alike at at2 gives gives2 = absurd alike
          by (Err e) (Err f) alike at at2 gives gives2 =
              subst (λ r. SameResult r result2) (sym gives.1)
              (subst (SameResult (Err e)) (sym gives2.1) alike)

-- ---- what is wanted

module _ (kept : Kept) (main : List ℕ) (joins : Bool) where
  pub wants-alike : (new new2 : Kept) → WantsFiles kept new main joins → WantsFiles kept new2 main joins
      → map (λ p. p.items) new.wanted.items ≡ map (λ p. p.items) new2.wanted.items
  wants-alike new new2 is also =
      is.are ∙ to-load-alike kept.files new.files new2.files main is.loaded also.loaded is.loads also.loads
      (all-found kept.files new.files main is.loaded is.loads is.found)
      (all-found kept.files new2.files main also.loaded also.loads also.found) is.in_memory also.in_memory
      joins
      ∙ sym also.are

  pub loaded-or-wanted : (after : Supplied) (new : Kept) (result : Result GraphModel GraphFault)
      → LoadsFiles kept.files after main joins result → result ≢ Err no_memory
      → WantsFiles kept new main joins → ⊥
  loaded-or-wanted after new result is memory wants = wants.some
      (sym (to-load-alike kept.files is.between new.files main is.loaded wants.loaded is.loads wants.loads
      (read-as-supplied kept.files main joins after result is)
      (all-found kept.files new.files main wants.loaded wants.loads wants.found)
      (in-memory kept.files main joins after result is memory) wants.in_memory joins) ∙ is.none_to_load)

-- ---- what a call comes to

pub data Comes (kept new : Kept) (main : List ℕ) (joins : Bool) : Status → Type 0 where
  loaded : (graph : GraphModel) → new.graph ≡ Some graph → new.fault ≡ None → new.wanted.items ≡ []
      → LoadsFiles kept.files new.files main joins (Ok graph) → Comes kept new main joins Done
  faulty : (fault : GraphFault) → new.graph ≡ None → new.fault ≡ Some fault → new.wanted.items ≡ []
      → fault ≢ no_memory
      → LoadsFiles kept.files new.files main joins (Err fault) → Comes kept new main joins Fault
  wanted : new.graph ≡ None → new.fault ≡ None → WantsFiles kept new main joins
      → Comes kept new main joins Wanted
  no_text : KeepsNothing new → is_utf8 main ≡ false → Comes kept new main joins NotUtf8

module _ (kept new : Kept) (main : List ℕ) (joins : Bool) where
  comes : (status : Status) → status ≢ OutOfMemory → LoadsAs kept new main joins status
      → Comes kept new main joins status
  comes Done memory (graph, at, fault, none, is) = loaded graph at fault none is
  comes Fault memory (fault, at, there, none, other, is) = faulty fault at there none other is
  comes Wanted memory (at, fault, is) = wanted at fault is
  comes NotUtf8 memory (none, text) = no_text none text
  comes OutOfMemory memory is = absurd (memory refl)
  comes Nothing memory is = absurd is
  comes Short memory is = absurd is
  comes NotLoaded memory is = absurd is
  comes BadNumber memory is = absurd is
  comes BadMark memory is = absurd is
  comes NotOpen memory is = absurd is
  comes BadLog memory is = absurd is

module _ (kept new new2 : Kept) (main : List ℕ) (joins : Bool) (files : SameFiles kept.files new.files)
    (files2 : SameFiles kept.files new2.files)
    (nothing : LeavesNothing new) (nothing2 : LeavesNothing new2) (run : SameRun kept new)
    (run2 : SameRun kept new2)
  where
    abbrev Same : Type 0
    Same = SameContents SameGraph Equal new new2

    others-alike : SameOptions SameGraph new.graph new2.graph → new.fault ≡ new2.fault
        → map (λ p. p.items) new.wanted.items ≡ map (λ p. p.items) new2.wanted.items → Same
    others-alike graphs faults wants = record {
      files = λ path. files2 path ∙ sym (files path);
      wanted = wants;
      graph = graphs;
      fault = faults;
      found = ap (map (λ e. e.0)) (nothing.0 ∙ sym nothing2.0);
      mark = nothing.1 ∙ sym nothing2.1;
      stale = nothing.4 ∙ sym nothing2.4;
      joined = λ _. record {
        log = nothing.2 ∙ sym nothing2.2;
        unknown = nothing.3 ∙ sym nothing2.3;
      };
      output = ap (λ o. o.bytes) (run.output ∙ sym run2.output);
      errors = ap (λ o. o.bytes) (run.errors ∙ sym run2.errors);
    }

    none-alike : new.wanted.items ≡ [] → new2.wanted.items ≡ []
        → map (λ p. p.items) new.wanted.items ≡ map (λ p. p.items) new2.wanted.items
    none-alike none none2 = ap (map (λ p. p.items)) (none ∙ sym none2)

    text-or-not : is_utf8 main ≡ true → is_utf8 main ≡ false → ⊥
    text-or-not is not_text = let e = sym is ∙ not_text in cc

    ok-in-memory : (graph : GraphModel) → Ok graph ≢ Err no_memory
    ok-in-memory graph is = absurd cc

    abbrev failed : GraphFault → Result GraphModel GraphFault
    failed fault = Err fault

    err-in-memory : (fault : GraphFault) → fault ≢ no_memory → failed fault ≢ failed no_memory
    err-in-memory fault other is = other cc

    pub come-alike : (status status2 : Status) → Comes kept new main joins status
        → Comes kept new2 main joins status2 → (status ≡ status2) × Same
    come-alike _ _ (loaded g at fault none is) (loaded h at2 fault2 none2 is2) = (
      refl,
      others-alike (both-some SameGraph new.graph new2.graph g h at at2 (loads-alike kept.files main joins
          new.files new2.files (Ok g) (Ok h) is is2 (ok-in-memory g) (ok-in-memory h))) (fault ∙ sym fault2)
          (none-alike none none2),
    )
    come-alike _ _ (loaded g at fault none is) (faulty f at2 there2 none2 other2 is2) =
        absurd (loads-alike kept.files main joins new.files new2.files (Ok g) (Err f) is is2 (ok-in-memory g)
        (err-in-memory f other2))
    come-alike _ _ (loaded g at fault none is) (wanted at2 fault2 wants2) =
        absurd (loaded-or-wanted kept main joins new.files new2 (Ok g) is (ok-in-memory g) wants2)
    come-alike _ _ (loaded g at fault none is) (no_text none2 text2) = absurd (text-or-not is.text text2)
    come-alike _ _ (faulty f at there none other is) (loaded h at2 fault2 none2 is2) =
        absurd (loads-alike kept.files main joins new.files new2.files (Err f) (Ok h) is is2
        (err-in-memory f other) (ok-in-memory h))
    come-alike _ _ (faulty f at there none other is) (faulty e at2 there2 none2 other2 is2) = (
      refl,
      others-alike (both-none SameGraph new.graph new2.graph at at2) (there ∙ ap Some (loads-alike kept.files
          main joins new.files new2.files (Err f) (Err e) is is2 (err-in-memory f other)
          (err-in-memory e other2)) ∙ sym there2) (none-alike none none2),
    )
    come-alike _ _ (faulty f at there none other is) (wanted at2 fault2 wants2) =
        absurd (loaded-or-wanted kept main joins new.files new2 (Err f) is (err-in-memory f other) wants2)
    come-alike _ _ (faulty f at there none other is) (no_text none2 text2) =
        absurd (text-or-not is.text text2)
    come-alike _ _ (wanted at fault wants) (loaded h at2 fault2 none2 is2) =
        absurd (loaded-or-wanted kept main joins new2.files new (Ok h) is2 (ok-in-memory h) wants)
    come-alike _ _ (wanted at fault wants) (faulty e at2 there2 none2 other2 is2) =
        absurd (loaded-or-wanted kept main joins new2.files new (Err e) is2 (err-in-memory e other2) wants)
    come-alike _ _ (wanted at fault wants) (wanted at2 fault2 wants2) = (
      refl,
      others-alike (both-none SameGraph new.graph new2.graph at at2) (fault ∙ sym fault2)
          (wants-alike kept main joins new new2 wants wants2),
    )
    come-alike _ _ (wanted at fault wants) (no_text none2 text2) = absurd (text-or-not wants.text text2)
    come-alike _ _ (no_text none text) (loaded h at2 fault2 none2 is2) = absurd (text-or-not is2.text text)
    come-alike _ _ (no_text none text) (faulty e at2 there2 none2 other2 is2) =
        absurd (text-or-not is2.text text)
    come-alike _ _ (no_text none text) (wanted at2 fault2 wants2) = absurd (text-or-not wants2.text text)
    come-alike _ _ (no_text none text) (no_text none2 text2) = (
      refl,
      others-alike (both-none SameGraph new.graph new2.graph none.graph none2.graph)
          (none.fault ∙ sym none2.fault) (none-alike none.wanted none2.wanted),
    )

pub loads-agree : (main : List ℕ) (joins : Bool) (kept new new2 : Kept) (status status2 : Status)
    → status ≢ OutOfMemory → status2 ≢ OutOfMemory → LoadsKept kept new main joins status
    → LoadsKept kept new2 main joins status2 → (status ≡ status2) × SameContents SameGraph Equal new new2
loads-agree main joins kept new new2 status status2 memory memory2 (files, nothing, run, is)
    (files2, nothing2, run2, also) =
    come-alike kept new new2 main joins files files2 nothing nothing2 run run2 status status2
    (comes kept new main joins status memory is) (comes kept new2 main joins status2 memory2 also)
