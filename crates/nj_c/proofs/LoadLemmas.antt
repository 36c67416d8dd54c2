-- The result of a load, and the part that a session keeps.
use Rattle.std.specs.Global.{Vec}
use Rattle.std.proofs.Common.{◌≡◌, ◌≢◌, ◌⊎◌, inl, inr, ℕ, suc, ◌==◌, Bool, true, false, if◌then◌else◌, Some}
use Rattle.std.proofs.Common.{None, is_some, unwrap_or, Result, Ok, Err, IfOk, List, [], ◌∷◌, length, map}
use Rattle.std.proofs.Common.{refl}
use Rattle.std.proofs.Common.{sym, ap, subst, ◌∙◌, arith, true≢false}
use Rattle.std.proofs.lemmas.Bool.Decides.{eqb_tells}
use Rattle.std.specs.List.{AllByRecursion, filter_map}
use Rattle.std.specs.Str.{is_utf8}
use Rattle.nj_scope.specs.Sources.{SourceState}
use Rattle.nj_scope.specs.ReadingList.{ReadStatement}
use Rattle.nj_faults.specs.declared.fault.GraphFault.{GraphFault}
use Rattle.nj_faults.specs.Faults.{no_memory}
use Rattle.nj_graph.specs.Graph.{GraphModel, IsGraphOf}
use Rattle.nj_graph.specs.Origins.{main_of}
use Rattle.nj_graph.specs.Loads.{LoadedModel, Loads}
use Rattle.nj_graph.specs.Joining.{Joins}
use Rattle.nj_c.specs.declared.session_state.Kept.{Kept}
use Rattle.nj_c.specs.declared.status.Status.{Status}
use Rattle.nj_c.specs.declared.status.Status.TheVariants.{Done, Fault, Wanted, NotUtf8, OutOfMemory}
use Rattle.nj_c.specs.SuppliedFiles.{Supplied, supplied_for, supplied_state, wanted_paths, ReadsAsSupplied}
use Rattle.nj_c.specs.SuppliedFiles.{SameFiles}
use Rattle.nj_c.specs.Loading.{unread, graph_loaded, lacking_dyndeps, paths_or, paths_to_load, GivesGraph}
use Rattle.nj_c.specs.Loading.{KeepsNothing, LeavesNothing, LoadsFiles, LoadsKept, SameRun}
use Rattle.nj_c.specs.Inside.Results.{AreStatements, FinishesLoad, KeepsLoad, KeepsResult}
use Rattle.nj_c.proofs.JoinLemmas.{is-nil, not-nil, none-wanted-after, found-joined, same-files}

-- ---- where nothing is wanted

none-long : {X : Type 0} (xs : List X) → length xs ≡ 0 → xs ≡ []
none-long [] is = refl
none-long (x ∷ xs) is = let none : suc (length xs) ≡ 0 = is in absurd (omega (arith, none))

pub none-counted : {X : Type 0} (xs : List X) → true ≡ (length xs == 0) → xs ≡ []
none-counted xs is = by (eqb_tells (length xs) 0)
  where
    by : ((length xs == 0) ≡ true × (length xs ≡ 0)) ⊎ ((length xs == 0) ≡ false × (length xs ≢ 0)) → xs ≡ []
    by (inl (tells, none)) = none-long xs none
    by (inr (tells, some)) = absurd (true≢false (is ∙ tells))

first-none : (paths others : List (List ℕ)) → paths_or paths others ≡ [] → (paths ≡ []) × (others ≡ [])
first-none [] others is = (refl, is)
first-none (path ∷ paths) others is = absurd (not-nil path paths is)

-- the wanted paths, and the files found, by the state of the source
abbrev wanted-of : SourceState → List (List ℕ)
wanted-of s = filter_map (λ r. if is_some (s.files r.path) then None else Some r.path)
    (unwrap_or s.readings [])

abbrev FoundBy : SourceState → Type 0
FoundBy s = AllByRecursion (λ r. r.bytes ≡ unwrap_or (s.files r.path) (Some [])) (unwrap_or s.readings [])

-- all files read were supplied, and the same was supplied as before
pub record AllWasSupplied (between after : Supplied) : Type 0 where
  pub wanted : wanted_paths after ≡ []
  pub found : ReadsAsSupplied after
  pub same : SameFiles between after

as-before : (between after : Supplied) → supplied_state after ≡ supplied_state between
    → wanted_paths between ≡ []
    → ReadsAsSupplied between → AllWasSupplied between after
as-before between after is none found = record {
  wanted = ap wanted-of is ∙ none;
  found = subst FoundBy (sym is) found;
  same = λ path. ap (λ s. s.files path) is;
}

supplied-loaded : (main : List ℕ) (before : SourceState) (between after : Supplied) (loaded : LoadedModel)
    (joins : Bool) (result : Result GraphModel GraphFault)
    → Loads main before (supplied_state between) (Ok loaded) → paths_to_load between joins (Ok loaded) ≡ []
    → ReadsAsSupplied between
    → GivesGraph (supplied_state between) (supplied_state after) joins (Ok loaded) result
    → AllWasSupplied between after
supplied-loaded main before between after loaded false result loads none found gives =
    as-before between after gives.0 (first-none (wanted_paths between)
    (lacking_dyndeps between false loaded.graph) none).0 found
supplied-loaded main before between after loaded true result loads none found (joined, is, origins, joins) =
    let nothing = first-none (wanted_paths between) (lacking_dyndeps between true loaded.graph) none in
    let stated = loads.2.entries in let graph = loads.2.graph_is in let reads = joins stated graph in
    record {
      wanted = none-wanted-after between after loaded stated graph nothing.0 nothing.1 found joined reads;
      found = found-joined between after loaded stated graph nothing.0 nothing.1 found joined reads;
      same = same-files between after loaded stated graph nothing.0 nothing.1 found joined reads;
    }

all-was-supplied : (main : List ℕ) (before : SourceState) (between after : Supplied)
    (loaded : Result LoadedModel GraphFault) (joins : Bool) (result : Result GraphModel GraphFault)
    → Loads main before (supplied_state between) loaded → paths_to_load between joins loaded ≡ []
    → ReadsAsSupplied between
    → GivesGraph (supplied_state between) (supplied_state after) joins loaded result
    → AllWasSupplied between after
all-was-supplied main before between after (Ok loaded) joins result loads none found gives =
    supplied-loaded main before between after loaded joins result loads none found gives
all-was-supplied main before between after (Err fault) joins result loads none found gives =
    as-before between after gives.0 none found

-- ---- the kept result of a load

are-statements : (main : List ℕ) (before after : SourceState) (loaded : Result LoadedModel GraphFault)
    → Loads main before after loaded
    → (entries : List ReadStatement) × AreStatements loaded entries
are-statements main before after (Ok loaded) loads = (loads.2.entries, loads.2.graph_is)
are-statements main before after (Err fault) loads = ([], tt)

no-items : (paths : List (Vec ℕ)) → map (λ p. p.items) paths ≡ [] → paths ≡ []
no-items [] is = refl
no-items (p ∷ ps) is = absurd (true≢false (sym (ap is-nil is)))

module _ (before middle : Kept) (files : Supplied) (main : List ℕ) (joins : Bool)
    (loaded : Result LoadedModel GraphFault)
    (begun : middle.files ≡ unread before.files) (none : KeepsNothing middle) (nothing : LeavesNothing middle)
    (run : SameRun before middle) (text : is_utf8 main ≡ true)
    (named : IfOk loaded (λ l. main_of l.graph.origins ≡ main))
    (loads : Loads main (supplied_state (unread before.files)) (supplied_state files) loaded) where
  -- the session after the load, before anything of it is kept
  abbrev read : Kept
  read = record middle { files = files }

  same : SameFiles before.files files
  same path = loads.1.read.files path

  module _ (after : Kept) (others : Supplied) (same-then : SameFiles before.files others) where
    lacks : after ≡ record middle { files = others } → LoadsKept before after main joins OutOfMemory
    lacks is = subst (λ k. LoadsKept before k main joins OutOfMemory) (sym is) (
      same-then,
      nothing,
      record { output = run.output; errors = run.errors },
      record { graph = none.graph; fault = none.fault; wanted = none.wanted },
    )

    keeps : (result : Result GraphModel GraphFault) (status : Status)
        → LoadsFiles before.files others main joins result
        → KeepsResult (record middle { files = others }) after result status
        → LoadsKept before after main joins status
    keeps (Ok graph) status whole (is, done) = subst (LoadsKept before after main joins) (sym done)
        (subst (λ k. LoadsKept before k main joins Done) (sym is) (
          same-then,
          nothing,
          record { output = run.output; errors = run.errors },
          (graph, refl, none.fault, none.wanted, whole),
        ))
    keeps (Err fault) status whole (inl (failed, other, is)) =
        subst (LoadsKept before after main joins) (sym failed)
        (subst (λ k. LoadsKept before k main joins Fault) (sym is) (
          same-then,
          nothing,
          record { output = run.output; errors = run.errors },
          (fault, none.graph, refl, none.wanted, other, whole),
        ))
    keeps (Err fault) status whole (inr (failed, is)) =
        subst (LoadsKept before after main joins) (sym failed) (lacks is)

  out_of_memory : (after : Kept) → after ≡ read → LoadsKept before after main joins OutOfMemory
  out_of_memory after is = lacks after files same is

  finishes : (found : ReadsAsSupplied files) (wanted : Vec (Vec ℕ)) → loaded ≢ Err no_memory
      → map (λ p. p.items) wanted.items ≡ paths_to_load files joins loaded → (after : Kept) (status : Status)
      → KeepsLoad read after joins loaded wanted status → LoadsKept before after main joins status
  finishes found wanted memory are after status (inl (waits, is, some)) =
      subst (LoadsKept before after main joins) (sym waits)
      (subst (λ k. LoadsKept before k main joins Wanted) (sym is) (
        same,
        nothing,
        record { output = run.output; errors = run.errors },
        (
          none.graph,
          none.fault,
          record {
            text = text;
            loaded = loaded;
            loads = loads;
            found = found;
            in_memory = memory;
            are = are;
            some = λ empty. some (no-items wanted.items (are ∙ empty));
          },
        ),
      ))
  finishes found wanted memory are after status (inr (others, result, empty, gives, kept)) =
      let none-to-load : paths_to_load files joins loaded ≡ [] = sym are ∙ ap (map (λ p. p.items)) empty in
      let all = all-was-supplied main (supplied_state (unread before.files)) files others loaded joins result
      loads
      none-to-load found gives in
      keeps after others (λ path. all.same path ∙ same path) result status
      (record {
        text = text;
        between = files;
        loaded = loaded;
        loads = loads;
        main_is = named;
        none_to_load = none-to-load;
        gives = gives;
        found = all.found;
        none_wanted = all.wanted;
      }) kept

  pub loads_kept : (after : Kept) (status : Status) → FinishesLoad read after joins loaded status
      → LoadsKept before after main joins status
  loads_kept after status (inl (wanted, memory, are, found, keeps)) =
      let stated = are-statements main (supplied_state (unread before.files)) (supplied_state files) loaded
      loads
      in
      finishes found wanted memory (are stated.0 stated.1) after status keeps
  loads_kept after status (inr (is, left)) =
      subst (LoadsKept before after main joins) (sym is) (out_of_memory after left)

pub not_loaded : (before after : Kept) (main : List ℕ) (joins : Bool) → after.files ≡ unread before.files
    → KeepsNothing after → LeavesNothing after
    → SameRun before after → is_utf8 main ≡ false → LoadsKept before after main joins NotUtf8
not_loaded before after main joins files none nothing run text =
    ((λ path. ap (λ f. supplied_for f path) files), nothing, run, (none, text))

-- the main file of a load, by another text of its path
pub main-named : (loaded : Result LoadedModel GraphFault) (path main : List ℕ) → path ≡ main
    → IfOk loaded (λ l. main_of l.graph.origins ≡ path) → IfOk loaded (λ l. main_of l.graph.origins ≡ main)
main-named loaded path main same is =
    subst (λ p. IfOk loaded (λ l. main_of l.graph.origins ≡ p)) same is

-- ---- how the graph is given

pub gives_fault : (state : SourceState) (joins : Bool) (loaded : Result LoadedModel GraphFault)
    (fault : GraphFault) → loaded ≡ Err fault
    → GivesGraph state state joins loaded (Err fault)
gives_fault state joins loaded fault is =
    subst (λ l. GivesGraph state state joins l (Err fault)) (sym is) (refl, refl)

pub gives_loaded : (state : SourceState) (joins : Bool) (result : Result LoadedModel GraphFault)
    (loaded : LoadedModel) → result ≡ Ok loaded → joins ≡ false
    → GivesGraph state state joins result (Ok loaded.graph)
gives_loaded state joins result loaded is unjoined =
    subst (λ l. GivesGraph state state joins l (Ok loaded.graph)) (sym is)
    (subst (λ b. GivesGraph state state b (Ok loaded) (Ok loaded.graph)) (sym unjoined) (refl, refl))

pub gives_joined : (between after : SourceState) (joins : Bool) (whole : Result LoadedModel GraphFault)
    (loaded : LoadedModel) (joined : Result LoadedModel GraphFault)
    (result : Result GraphModel GraphFault) → whole ≡ Ok loaded → joins ≡ true
    → ((stated : List ReadStatement) → IsGraphOf loaded.graph stated
    → Joins stated loaded.files between after joined)
    → IfOk joined (λ j. j.graph.origins ≡ loaded.graph.origins) → result ≡ graph_loaded joined
    → GivesGraph between after joins whole result
gives_joined between after joins whole loaded joined result is asked reads origins given =
    subst (λ l. GivesGraph between after joins l result) (sym is)
    (subst (λ b. GivesGraph between after b (Ok loaded) result) (sym asked) (joined, given, origins, reads))
