-- The results of loads, worked out on the definitions: which files are wanted, and that none is
-- after any other status.
use Rattle.std.proofs.Common.{◌≡◌, ◌≢◌, ◌⊎◌, inl, inr, ℕ, Bool, true, false, cond, Option, Some, None}
use Rattle.std.proofs.Common.{is_some, unwrap_or, Result, Ok, Err, List, [], ◌∷◌, ◌++◌, map, bytes_eq, refl}
use Rattle.std.proofs.Common.{sym, ap, subst, ◌∙◌, arith, true≢false}
use Rattle.std.specs.Prelude.{codes}
use Rattle.std.specs.List.{AllByRecursion, cons_option, filter_map}
use Rattle.std.proofs.lemmas.Slice.Eq.{bytes_eq-Decides}
use Rattle.nj_text.specs.declared.spot.Spot.{Spot}
use Rattle.nj_text.specs.Words.{Text}
use Rattle.nj_manifest.specs.Statements.{IncludeModel}
use Rattle.nj_scope.specs.Readings.{Reading, reading_of, paths_of, IsPrefix}
use Rattle.nj_scope.specs.ReadingList.{ReadStatement}
use Rattle.nj_faults.specs.declared.fault.GraphFault.{GraphFault}
use Rattle.nj_graph.specs.Graph.{GraphModel}
use Rattle.nj_statements.specs.EdgeList.{AssignedModel}
use Rattle.nj_faults.specs.Limits.{most_within}
use Rattle.nj_graph.specs.Reading.{End, Whole, Refused, Lacking, ReadingModel, Opens, and_then, item_read}
use Rattle.nj_graph.specs.Reading.{main_place, main_read, main_site, opened_in, opened_site, outcome_read}
use Rattle.nj_graph.specs.Reading.{paths_come_to, place_at, text_read}
use Rattle.nj_graph.specs.Runs.{ReachedModel, IsEnd, IsLacking}
use Rattle.nj_graph.specs.Loads.{LoadedModel, LoadedOr, Loads, main_reached}
use Rattle.nj_graph.proofs.ReadingRows.{on_files}
use Rattle.nj_c.specs.declared.session_state.Kept.{Kept}
use Rattle.nj_c.specs.declared.status.Status.TheVariants.{Done, Fault, Wanted, OutOfMemory}
use Rattle.nj_c.specs.SuppliedFiles.{Supplied, supplied_for, supplied_state, reads_as, wanted_paths}
use Rattle.nj_c.specs.Loading.{unread, lacking_dyndeps, paths_or, paths_to_load, KeepsNothing, LeavesNothing}
use Rattle.nj_c.specs.Loading.{LoadsKept}

-- ---- after any other status than that files are wanted

none-after-done : (before after : Kept) (main : List ℕ) (joins : Bool)
    → LoadsKept before after main joins Done → after.wanted.items ≡ []
none-after-done before after main joins (same, lists, run, (graph, is, sound, none, whole)) = none

none-after-a-fault : (before after : Kept) (main : List ℕ) (joins : Bool)
    → LoadsKept before after main joins Fault → after.wanted.items ≡ []
none-after-a-fault before after main joins (same, lists, run, (fault, unloaded, is, none, other, whole)) =
    none

nothing-without-memory : (before after : Kept) (main : List ℕ) (joins : Bool)
    → LoadsKept before after main joins OutOfMemory → KeepsNothing after × LeavesNothing after
nothing-without-memory before after main joins (same, lists, run, nothing) = (nothing, lists)

-- ---- `m` was supplied, which includes `a`, and nothing else was

abbrev m : List ℕ
m = codes "m"

abbrev a : List ℕ
a = codes "a"

abbrev begun : Supplied
begun = record { paths = m ∷ []; files = Some (codes "include a\n") ∷ []; read = [] }

-- the reading of a path
abbrev given : List ℕ → Reading
given path = record { path = path; bytes = reads_as begun path }

abbrev AreGiven : List Reading → Type 0
AreGiven files = AllByRecursion (λ r. r.bytes ≡ reads_as begun r.path) files

is-given : (r : Reading) (path : List ℕ) → r.bytes ≡ reads_as begun r.path → bytes_eq path r.path ≡ true
    → r ≡ given path
is-given r path is same = made ∙ ap given (sym ((bytes_eq-Decides path r.path).0 same))
  where
    made : r ≡ given r.path
    made = ap (λ (b : Option (List ℕ)). record { path = r.path; bytes = b }) is

found-in : (files others : List Reading) (path : List ℕ) → AreGiven files
    → reading_of others path ≡ Some (given path)
    → reading_of (files ++ others) path ≡ Some (given path)
found-in [] others path are there = there
found-in (r ∷ rs) others path are there =
    by_test (bytes_eq path r.path) refl (found-in rs others path are.1 there)
  where
    by_test : (t : Bool) → bytes_eq path r.path ≡ t → reading_of (rs ++ others) path ≡ Some (given path)
        → cond t (Some r) (reading_of (rs ++ others) path) ≡ Some (given path)
    by_test true same later = ap Some (is-given r path are.0 same)
    by_test false same later = later

found-or-not : (files : List Reading) (path : List ℕ) → AreGiven files
    → (reading_of files path ≡ None) ⊎ (reading_of files path ≡ Some (given path))
found-or-not [] path are = inl refl
found-or-not (r ∷ rs) path are = by_test (bytes_eq path r.path) refl (found-or-not rs path are.1)
  where
    by_test : (t : Bool) → bytes_eq path r.path ≡ t
        → (reading_of rs path ≡ None) ⊎ (reading_of rs path ≡ Some (given path))
        → (cond t (Some r) (reading_of rs path) ≡ None)
        ⊎ (cond t (Some r) (reading_of rs path) ≡ Some (given path))
    by_test true same later = inr (ap Some (is-given r path are.0 same))
    by_test false same later = later

-- ---- the readings of the given files

abbrev at : ℕ → Spot
at column = record { line = 1; column = column }

abbrev the_include : ReadStatement
the_include = record {
  file = m;
  spot = at 1;
  depth = 0;
  scope = 0;
  around = [];
  item = IncludeModel (record { spot = at 9; parts = Text a ∷ [] });
  was_joined = false;
  discovered = None;
}

abbrev whole : ReadingModel
whole = record { entries = the_include ∷ []; end = Whole }

abbrev up_to_the_end : List ReadStatement → ReadingModel
up_to_the_end entries = record { entries = entries; end = Whole }

-- by the reading at `m`
abbrev by_main : List Reading → Option Reading → ReadingModel
by_main files found = outcome_read m (main_place m) []
    (λ text. text_read (opened_in files most_within) (main_site m) text []) found

-- by the reading at `a`
abbrev by_other : List Reading → Option Reading → ReadingModel
by_other files found = and_then
    (outcome_read a (place_at the_include (at 9)) []
    (λ text. text_read (opened_in files 30)
    (opened_site the_include [] (record { spot = at 9; parts = Text a ∷ [] }) 0 []) text
    (the_include ∷ [])) found)
    up_to_the_end

main-includes : (opens : Opens) → text_read opens (main_site m) (codes "include a\n") []
    ≡ and_then (item_read opens the_include [] the_include.item) up_to_the_end
unfolding on_files
main-includes opens = refl

by-main : (files : List Reading) → main_read files m ≡ by_main files (reading_of files m)
unfolding main_read
by-main files = refl

then-other : (files : List Reading) → and_then
    (item_read (opened_in files most_within) the_include [] the_include.item) up_to_the_end
    ≡ by_other files (reading_of files a)
unfolding on_files
then-other files = refl

by-other : (files : List Reading) → reading_of files m ≡ Some (given m)
    → main_read files m ≡ by_other files (reading_of files a)
by-other files found = by-main files ∙ ap (by_main files) found ∙ main-includes (opened_in files most_within)
    ∙ then-other files

no-more : (files : List Reading) → by_other files (Some (given a)) ≡ whole
unfolding on_files
no-more files = refl

reads-whole : (files : List Reading) → reading_of files m ≡ Some (given m)
    → reading_of files a ≡ Some (given a) → main_read files m ≡ whole
reads-whole files first second = by-other files first ∙ ap (by_other files) second ∙ no-more files

abbrev reached_from : (main : List ℕ) → ReadingModel → ReachedModel
reached_from main r = record { read = r; paths = paths_come_to main r }

come-to : (reached_from m whole).paths ≡ m ∷ a ∷ []
unfolding on_files
come-to = refl

-- ---- the files that a load of them reads

abbrev is-whole : End → Bool
is-whole Whole = true
is-whole (Refused fault) = false
is-whole (Lacking path place) = false

whole-paths : (files : List Reading) → AreGiven files → (main_reached m files).read.end ≡ Whole
    → (main_reached m files).paths ≡ paths_of files
    → paths_of files ≡ m ∷ a ∷ []
whole-paths files are ends came = by_found (found-or-not files m are) (found-or-not files a are)
  where
    by_found : (reading_of files m ≡ None) ⊎ (reading_of files m ≡ Some (given m))
        → (reading_of files a ≡ None) ⊎ (reading_of files a ≡ Some (given a))
        → paths_of files ≡ m ∷ a ∷ []
    by_found (inl none) other = absurd (true≢false
        (ap is-whole (sym ends) ∙ ap (λ r. is-whole r.end) (by-main files ∙ ap (by_main files) none)))
    by_found (inr first) (inl none) = absurd
        (true≢false (ap is-whole (sym ends) ∙ ap (λ r. is-whole r.end)
        (by-other files first ∙ ap (by_other files) none)))
    by_found (inr first) (inr second) = sym came
        ∙ ap (λ r. (reached_from m r).paths) (reads-whole files first second) ∙ come-to

-- the given files and the two
abbrev with-both : List Reading → List Reading
with-both files = files ++ given m ∷ given a ∷ []

reads-both : (files : List Reading) → AreGiven files → main_reached m (with-both files) ≡ reached_from m whole
reads-both files are = ap (reached_from m)
    (reads-whole (with-both files) (found-in files (given m ∷ given a ∷ []) m are refl)
    (found-in files (given m ∷ given a ∷ []) a are refl))

abbrev AreFirst : List Reading → Type 0
AreFirst files = IsPrefix (paths_of files) (m ∷ a ∷ [])

both-first : (files : List Reading) → paths_of files ≡ m ∷ a ∷ [] → AreFirst files
both-first files are = subst (λ paths. IsPrefix paths (m ∷ a ∷ [])) (sym are) ([], refl)

never-ends : (after : Supplied) (files : List Reading) (fault : GraphFault) (reached : ReachedModel)
    (end : End)
    → AreGiven files → reached.read.end ≡ end
    → IsEnd (supplied_state begun) (supplied_state after) end fault
    → (IsLacking end (with-both files) → main_reached m (with-both files) ≡ reached) → ⊥
never-ends after files fault reached Whole are is answered read = answered
never-ends after files fault reached (Refused f) are is answered read =
    true≢false (ap (λ r. is-whole r.read.end) (sym (reads-both files are) ∙ read tt) ∙ ap is-whole is)
never-ends after files fault reached (Lacking path place) are is answered read = let below =
    answered.1.above (omega arith) in absurd (omega (arith, below))

first-paths : (after : Supplied) (files : List Reading) (result : Result LoadedModel GraphFault)
    → AreGiven files
    → LoadedOr (supplied_state begun) (supplied_state after) files (main_reached m) result → AreFirst files
first-paths after files (Ok loaded) are ok =
    both-first files (whole-paths files are (ap (λ r. r.end) ok.whole.read) ok.whole.came_to)
first-paths after files (Err fault) are (inl (inl lacks)) =
    subst (IsPrefix (paths_of files)) (ap (λ r. r.paths) (reads-both files are) ∙ come-to)
    (lacks.came_to (with-both files) (given m ∷ given a ∷ [], refl))
first-paths after files (Err fault) are (inl (inr ends)) =
    absurd (never-ends after files fault ends.reached ends.reached.read.end are refl ends.answered
    (ends.read (with-both files) (given m ∷ given a ∷ [], refl)))
first-paths after files (Err fault) are (inr cycle) =
    both-first files (whole-paths files are (ap (λ r. r.end) cycle.whole.read) cycle.whole.came_to)

-- ---- the files that it wants

abbrev wanted_of : List (List ℕ) → List (List ℕ)
wanted_of paths = filter_map (λ path. cond (is_some (supplied_for begun path)) None (Some path)) paths

abbrev first_two : List (List ℕ) → List (List ℕ)
first_two [] = []
first_two (p ∷ []) = p ∷ []
first_two (p ∷ q ∷ ps) = p ∷ q ∷ []

abbrev first_one : List (List ℕ) → List (List ℕ)
first_one [] = []
first_one (p ∷ ps) = p ∷ []

abbrev are_more : List (List ℕ) → Bool
are_more [] = false
are_more (p ∷ []) = false
are_more (p ∷ q ∷ []) = false
are_more (p ∷ q ∷ r ∷ ps) = true

one-wanted : (paths : List (List ℕ)) → IsPrefix paths (m ∷ a ∷ []) → wanted_of paths ≢ []
    → wanted_of paths ≡ a ∷ []
one-wanted [] first some = absurd (some refl)
one-wanted (p ∷ []) (others, is) some = absurd (some (ap wanted_of (sym (ap first_one is))))
one-wanted (p ∷ q ∷ []) (others, is) some = ap wanted_of (sym (ap first_two is))
one-wanted (p ∷ q ∷ r ∷ ps) (others, is) some = absurd (true≢false (sym (ap are_more is)))

module _ (before after : Kept) (is : unread before.files ≡ begun)
    (same : (path : List ℕ) → supplied_for after.files path ≡ supplied_for before.files path) where
  as-begun : (path : List ℕ) → supplied_for after.files path ≡ supplied_for begun path
  as-begun path = same path ∙ ap (λ h. supplied_for h path) is

  are-given : (files : List Reading) → AllByRecursion (λ r. r.bytes ≡ reads_as after.files r.path) files
      → AreGiven files
  are-given [] found = tt
  are-given (r ∷ rs) found = (
    found.0 ∙ ap (λ file. unwrap_or file (Some [])) (as-begun r.path),
    are-given rs found.1,
  )

  are-wanted : (files : List Reading) → filter_map
      (λ r. cond (is_some (supplied_for after.files r.path)) None (Some r.path)) files
      ≡ wanted_of (paths_of files)
  are-wanted [] = refl
  are-wanted (r ∷ rs) =
      let others = filter_map (λ r. cond (is_some (supplied_for after.files r.path)) None (Some r.path)) rs in
      ap (λ file. cons_option (cond (is_some file) None (Some r.path)) others) (as-begun r.path)
      ∙ ap (cons_option (cond (is_some (supplied_for begun r.path)) None (Some r.path))) (are-wanted rs)

  loaded-by : (loaded : Result LoadedModel GraphFault)
      → Loads m (supplied_state (unread before.files)) (supplied_state after.files) loaded
      → Loads m (supplied_state begun) (supplied_state after.files) loaded
  loaded-by loaded loads = subst (λ s. Loads m s (supplied_state after.files) loaded) (ap supplied_state is)
      loads

  are-first : (loaded : Result LoadedModel GraphFault)
      → Loads m (supplied_state begun) (supplied_state after.files) loaded
      → AreGiven after.files.read → AreFirst after.files.read
  are-first loaded (files, read, or) are =
      let these : files ≡ after.files.read = read.added ∙ sym (ap (λ o. unwrap_or o []) read.read.reported) in
      first-paths after.files after.files.read loaded are
      (subst (λ fs. LoadedOr (supplied_state begun) (supplied_state after.files) fs (main_reached m) loaded)
      these or)

-- without dyndep files, the files that were read and not supplied are wanted
paths_or-none : (paths : List (List ℕ)) → paths_or paths [] ≡ paths
paths_or-none [] = refl
paths_or-none (path ∷ paths) = refl

read-alone : (h : Supplied) (loaded : Result LoadedModel GraphFault)
    → paths_to_load h false loaded ≡ wanted_paths h
read-alone h (Ok loaded) = paths_or-none (wanted_paths h)
read-alone h (Err fault) = refl

-- The file that is included is wanted, and no other.
pub wants-what-is-named : (before after : Kept) → unread before.files ≡ begun
    → LoadsKept before after m false Wanted → map (λ p. p.items) after.wanted.items ≡ a ∷ []
wants-what-is-named before after is (same, lists, run, (no-graph, no-fault, wants)) =
    let are = read-alone after.files wants.loaded ∙ are-wanted before after is same after.files.read in
    let loaded = loaded-by before after is same wants.loaded wants.loads in
    let first = are-first before after is same wants.loaded loaded
    (are-given before after is same after.files.read wants.found) in
    wants.are ∙ are ∙ one-wanted (paths_of after.files.read) first (λ none. wants.some (are ∙ none))

-- So a load cannot invent another wanted file.
wants-no-other : (before after : Kept) → unread before.files ≡ begun → LoadsKept before after m false Wanted
    → map (λ p. p.items) after.wanted.items ≡ a ∷ codes "zz" ∷ [] → ⊥
wants-no-other before after is loads other =
    true≢false (ap has_two (sym other ∙ wants-what-is-named before after is loads))
  where
    has_two : List (List ℕ) → Bool
    has_two [] = false
    has_two (p ∷ []) = false
    has_two (p ∷ q ∷ ps) = true

-- ---- dyndep files

abbrev bound_to : Option (List ℕ) → AssignedModel
bound_to file = record { pool = None; dyndep = file }

abbrev with_bound : GraphModel → List (Option (List ℕ)) → GraphModel
with_bound g files = record g { built = record g.built { assigned = map bound_to files } }

abbrev with_d : Supplied
with_d = record { paths = m ∷ codes "d" ∷ []; files = Some [] ∷ None ∷ []; read = given m ∷ [] }

-- Both missing files are wanted, without duplicates, in the order of their first edges; `d` is known to be
-- absent, and one path is not UTF-8.
all-at-once : (g : GraphModel) → lacking_dyndeps with_d true
    (with_bound g (Some (codes "b") ∷ Some (codes "d") ∷ None ∷ Some (255 ∷ []) ∷ Some a ∷ Some (codes "b") ∷
    []))
    ≡ codes "b" ∷ a ∷ []
unfolding on_files
all-at-once g = refl

none-unless-joined : (g : GraphModel) → lacking_dyndeps with_d false (with_bound g (Some a ∷ [])) ≡ []
none-unless-joined g = refl

-- Before them come the files that were read and not supplied.
read-files-first : (file : LoadedModel)
    → paths_to_load (record with_d { read = given m ∷ given a ∷ [] }) true
    (Ok (record file { graph = with_bound file.graph (Some (codes "b") ∷ []) })) ≡ a ∷ []
unfolding on_files
read-files-first file = refl
