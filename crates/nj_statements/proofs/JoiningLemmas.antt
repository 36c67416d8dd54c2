-- The state while dyndep files are joined is that of the statements.
use Rattle.std.proofs.Common.{◌≡◌, ◌⊎◌, inl, inr, ℕ, zero, suc, ◌+◌, ◌-◌, ◌<◌, ◌≤◌, ◌==◌, ◌||◌, Bool, true}
use Rattle.std.proofs.Common.{false, not, if◌then◌else◌, true≢false, ◌≢◌, List, [], ◌∷◌, length, get_or, set}
use Rattle.std.proofs.Common.{map, slice_get, Option, Some, None, Result, Ok, Err, IsErrAnd, option_map}
use Rattle.std.proofs.Common.{option_and_then, IfSome, is_some, unwrap_or, find, bytes_eq, refl, sym, ap}
use Rattle.std.proofs.Common.{subst, ◌∙◌, arith}
use Rattle.nj_scope.specs.Scopes.{first_given}
use Rattle.std.specs.Bool.{then_some}
use Rattle.std.specs.Option.{option_or}
use Rattle.std.specs.List.{AllByRecursion, IsDistinct, filter}
use Rattle.std.proofs.lemmas.List.{get_or_read, length-map, length-set, get_or-set_same}
use Rattle.std.proofs.lemmas.List.{get_or-set_other}
use Rattle.std.proofs.lemmas.Bool.Decides.{eqb_tells}
use Rattle.std.proofs.lemmas.Option.{same_Some, slice_get-get_or, slice_get_within, slice_get-map}
use Rattle.std.proofs.lemmas.Option.{get_or_from_slice_get}
use Rattle.nj_text.specs.Words.{WordModel}
use Rattle.nj_manifest.specs.Dyndeps.{EntryModel}
use Rattle.nj_scope.specs.Readings.{IsPrefix}
use Rattle.nj_scope.specs.ReadingList.{Discovered, ReadStatement}
use Rattle.nj_names.specs.declared.files.FileNo.{FileNo}
use Rattle.nj_edges.specs.Edges.{EdgePaths, edge_at, outputs_of, first_edge, maker_of}
use Rattle.nj_edges.specs.Inside.EdgesHeld.{paths_at}
use Rattle.nj_names.specs.Files.{path_at, AreFiles}
use Rattle.nj_edges.specs.Joining.{AddedFiles, JoinTable, changed_at, with_added, with_joined, is_joined}
use Rattle.nj_edges.proofs.EdgeLemmas.{path_at-more, same-number}
use Rattle.nj_faults.specs.declared.fault.GraphFault.{GraphFault}
use Rattle.nj_faults.specs.declared.fault.Cause.TheVariants.{DyndepExtra, DyndepTwice, DyndepNoStatement}
use Rattle.nj_faults.specs.Faults.{IsFault, fault_at}
use Rattle.nj_statements.specs.declared.edge_record.Detail.{Detail}
use Rattle.nj_statements.specs.declared.records.DyndepEdge.{DyndepEdge}
use Rattle.nj_statements.specs.EdgeList.{Pending, EdgeModel, path_given, edges_read, paths_of_edges}
use Rattle.nj_statements.specs.EdgeList.{pending_read}
use Rattle.nj_statements.specs.BuildFaults.{empty_path, outputs_fault}
use Rattle.nj_statements.specs.Built.{EdgeDetail, detail_at, detail_of}
use Rattle.nj_statements.specs.Joining.{no_values, discover, discovered_by, edge_meant, with_entry}
use Rattle.nj_statements.specs.Joining.{pending_on, meaning_fault, entry_fault, no_statement, lacking_fault}
use Rattle.nj_statements.specs.JoiningHeld.{unless_joined, still_pending, pending_from, left_pending_from}
use Rattle.nj_statements.specs.JoiningHeld.{KeepsEdges, JoiningModel, HasJoined, JoinsEntry, JoinsNothing}
use Rattle.nj_statements.specs.Inside.JoiningSteps.{also_restat, with_restat, is_bound_to, count_pending}
use Rattle.nj_statements.specs.Inside.JoiningSteps.{fault_of_pending}
use Rattle.nj_statements.specs.Inside.JoiningSteps.{file_named, if_bound, maker_fault, edge_bound, IsMeant}
use Rattle.nj_statements.specs.Inside.JoiningSteps.{discover_for}
use Rattle.nj_statements.specs.Inside.JoiningFields.{JoiningFields, JoiningIsHeld, graph_stated, joining_of}
use Rattle.nj_statements.proofs.RecordLemmas.{are-longer, paths-same, pending-more, pending-same}
use Rattle.nj_statements.proofs.RecordLemmas.{strings-more}
use Rattle.nj_statements.specs.Records.{RecordsModel, detail_named, assigned_named, pending_named, IsNumbered}
use Rattle.nj_statements.proofs.PendingLemmas.{is_path, find-first, find-none, none-first, first-passes}
use Rattle.nj_statements.proofs.PendingLemmas.{still-at, still-length, still-map, still-changed, unjoined-at}
use Rattle.nj_statements.proofs.PendingLemmas.{without-one, count-removed, count-less}
use Rattle.nj_statements.proofs.DiscoverLemmas.{defaults_read-discover}
use Rattle.nj_statements.proofs.DiscoverEdges.{details-discover, assigned-discover, map-changed}
use Rattle.nj_statements.proofs.DiscoverEdges.{restats-discover, block_at-discover, block_names_at-discover}
use Rattle.nj_statements.proofs.DiscoverEdges.{pending-discover, paths-discover, is_pending-from_pending}

-- ---- results

-- the error that the exit of a `?` returns
pub joins-err : (after : JoiningModel) (expected : Option GraphFault) (stated joined : List ReadStatement)
    (r : Result (Unit {0}) GraphFault) (f : GraphFault)
    → IsErrAnd r (λ y. y ≡ f) → IsFault expected f → JoinsEntry after expected stated joined r
joins-err after expected stated joined (Err y) f is h = subst (IsFault expected) (sym is) h
joins-err after expected stated joined (Ok x) f is h = absurd is

-- ---- files and their numbers

-- the edges are bound to files below the given number
abbrev pub AreKnown : (count : ℕ) → List (Option DyndepEdge) → Type 0
AreKnown count bound = AllByRecursion (λ b. IfSome b (λ d. d.file.0 < count)) bound

pub path-there : (files : List (List ℕ)) (f : FileNo) → f.0 < length files
    → slice_get files f.0 ≡ Some (path_at files f)
path-there files f below = let at = slice_get-get_or files f.0 [] below in
    at ∙ sym (ap (λ o. Some (unwrap_or o [])) at)

known-at : (count : ℕ) (bound : List (Option DyndepEdge)) → AreKnown count bound → (n : ℕ)
    → IfSome (get_or bound n None) (λ d. d.file.0 < count)
known-at count [] known n = tt
known-at count (b ∷ bound) (here, known) zero = here
known-at count (b ∷ bound) (here, known) (suc n) = known-at count bound known n

pub known-weaker : (count more : ℕ) (bound : List (Option DyndepEdge)) → count ≤ more
    → AreKnown count bound → AreKnown more bound
known-weaker count more [] rises known = tt
known-weaker count more (None ∷ bound) rises (here, known) = (tt, known-weaker count more bound rises known)
known-weaker count more (Some d ∷ bound) rises (here, known) =
    (omega (arith, here, rises), known-weaker count more bound rises known)

pub known-still : (count : ℕ) (bound : List (Option DyndepEdge)) (was : List Bool) → AreKnown count bound
    → AreKnown count (still_pending bound was)
known-still count [] was known = tt
known-still count (b ∷ bound) [] known = known
known-still count (b ∷ bound) (true ∷ was) (here, known) = (tt, known-still count bound was known)
known-still count (b ∷ bound) (false ∷ was) (here, known) = (here, known-still count bound was known)

pub get-named : (files : List (List ℕ)) (bound : List (Option DyndepEdge)) (n : ℕ)
    → get_or (map (file_named files) bound) n None ≡ file_named files (get_or bound n None)
get-named files [] n = refl
get-named files (b ∷ bound) zero = refl
get-named files (b ∷ bound) (suc n) = get-named files bound n

-- A path is the path of one file.
pub path-bound : (files : List (List ℕ)) → IsDistinct bytes_eq files
    → (b : Option DyndepEdge) (file : FileNo) (path : List ℕ) → slice_get files file.0 ≡ Some path
    → IfSome b (λ d. d.file.0 < length files)
    → is_path (file_named files b) path ≡ is_bound_to b file
path-bound files once None file path here known = refl
path-bound files once (Some d) file path here known =
    ap (bytes_eq (path_at files d.file)) (sym (ap (λ o. unwrap_or o []) here))
    ∙ sym (same-number files once d.file.0 (path_at files d.file) (path-there files d.file known) file
    (slice_get_within files file.0 path here))

pub first-path : (files : List (List ℕ)) → IsDistinct bytes_eq files
    → (ws : List (Option DyndepEdge)) (file : FileNo) (path : List ℕ) → slice_get files file.0 ≡ Some path
    → AreKnown (length files) ws
    → first_edge (λ w. is_path w path) (map (file_named files) ws) ≡ first_edge (λ w. is_bound_to w file) ws
first-path files once [] file path here known = refl
first-path files once (w ∷ ws) file path here (first, known) =
    ap (λ b. if b then Some 0 else option_map (λ n. n + 1)
    (first_edge (λ w. is_path w path) (map (file_named files) ws)))
    (path-bound files once w file path here first)
    ∙ ap (λ o. if is_bound_to w file then Some 0 else option_map (λ n. n + 1) o)
    (first-path files once ws file path here known)

-- the first of some files
pub file-first : (files : List (List ℕ)) (ns : List FileNo) (paths : List (List ℕ)) (n : FileNo)
    → AreFiles files ns paths → slice_get ns 0 ≡ Some n
    → (path : List ℕ) × (slice_get files n.0 ≡ Some path) × (slice_get paths 0 ≡ Some path)
file-first files [] paths n are first = absurd (true≢false (sym (ap is_some first)))
file-first files (m ∷ ns) [] n are first = absurd (omega (arith, ap length are))
file-first files (m ∷ ns) (p ∷ paths) n are first =
    (p, ap (λ (f : FileNo). slice_get files f.0) (sym (same_Some m n first)) ∙ ap head are, refl)
  where
    head : List (Option (List ℕ)) → Option (List ℕ)
    head [] = None
    head (o ∷ os) = o

pub no-first : (files : List (List ℕ)) (ns : List FileNo) (paths : List (List ℕ)) → AreFiles files ns paths
    → slice_get ns 0 ≡ None → slice_get paths 0 ≡ None
no-first files [] [] are none = refl
no-first files [] (p ∷ paths) are none = absurd (omega (arith, ap length are))
no-first files (m ∷ ns) paths are none = absurd (true≢false (ap is_some none))

-- ---- lists with one changed item

pub length-changed : {A : Type 0} (f : A → A) (n : ℕ) (xs : List A) → length (changed_at f n xs) ≡ length xs
unfolding changed_at
length-changed f n [] = refl
length-changed f zero (x ∷ xs) = refl
length-changed f (suc n) (x ∷ xs) = ap suc (length-changed f n xs)

changed-other : {A : Type 0} (f : A → A) (n : ℕ) (xs : List A) (m : ℕ) → m ≢ n
    → slice_get (changed_at f n xs) m ≡ slice_get xs m
unfolding changed_at
changed-other f n [] m apart = refl
changed-other f zero (x ∷ xs) zero apart = absurd (apart refl)
changed-other f zero (x ∷ xs) (suc m) apart = refl
changed-other f (suc n) (x ∷ xs) zero apart = refl
changed-other f (suc n) (x ∷ xs) (suc m) apart = changed-other f n xs m (λ e. apart (ap suc e))

-- the edges to which nothing is joined, after a file is joined to one more edge
was-other : (n : ℕ) (was : List Bool) (m : ℕ) → n < length was
    → get_or (changed_at (λ w. true) n was) m false ≡ false → (m ≢ n) × (get_or was m false ≡ false)
unfolding changed_at
was-other n [] m below h = absurd (omega arith)
was-other zero (w ∷ was) zero below h = absurd (true≢false h)
was-other zero (w ∷ was) (suc m) below h = ((λ e. omega (arith, e)), h)
was-other (suc n) (w ∷ was) zero below h = ((λ e. omega (arith, e)), h)
was-other (suc n) (w ∷ was) (suc m) below h =
    let later = was-other n was m (omega arith) h in
    ((λ e. later.0 (omega (arith, e))), later.1)

-- ---- files that are named besides

bound-kept : (files more : List (List ℕ)) (bs : List (Option DyndepEdge)) → IsPrefix files more
    → AreKnown (length files) bs → map (file_named more) bs ≡ map (file_named files) bs
bound-kept files more [] grows known = refl
bound-kept files more (None ∷ bs) grows (here, known) =
    ap (λ os. None ∷ os) (bound-kept files more bs grows known)
bound-kept files more (Some d ∷ bs) grows (here, known) =
    ap (λ p. Some p ∷ map (file_named more) bs)
    (ap (λ fs. path_at fs d.file) grows.1 ∙ path_at-more files grows.0 d.file here)
    ∙ ap (λ os. Some (path_at files d.file) ∷ os) (bound-kept files more bs grows known)

-- the edge that is meant is bound to the file
pub meant-binds : (bound : List (Option DyndepEdge)) (file : FileNo) (edge : ℕ) (maker : Option ℕ)
    → if_bound bound file maker ≡ Some edge
    → (maker ≡ Some edge) × (is_bound_to (get_or bound edge None) file ≡ true)
meant-binds bound file edge None h = absurd (true≢false (sym (ap is_some h)))
meant-binds bound file edge (Some m) h = by (is_bound_to (get_or bound m None) file) refl h
  where
    by : (b : Bool) → is_bound_to (get_or bound m None) file ≡ b → (if b then Some m else None) ≡ Some edge
        → (Some m ≡ Some edge) × (is_bound_to (get_or bound edge None) file ≡ true)
    by true binds h = (h, ap (λ n. is_bound_to (get_or bound n None) file) (sym (same_Some m edge h)) ∙ binds)
    by false binds h = absurd (true≢false (sym (ap is_some h)))

-- ---- details that change in a part that nothing reads

map-same-at : {A B : Type 0} (g : A → B) (f : A → A) → ((a : A) → g (f a) ≡ g a) → (n : ℕ) (xs : List A)
    → map g (changed_at f n xs) ≡ map g xs
unfolding changed_at
map-same-at g f same n [] = refl
map-same-at g f same zero (x ∷ xs) = ap (λ y. y ∷ map g xs) (same x)
map-same-at g f same (suc n) (x ∷ xs) = ap (λ ys. g x ∷ ys) (map-same-at g f same n xs)

-- a changed item is set
pub set-changed : {A : Type 0} (f : A → A) (n : ℕ) (xs : List A) (d : A) → n < length xs
    → set xs n (f (get_or xs n d)) ≡ changed_at f n xs
unfolding changed_at
set-changed f n [] d below = absurd (omega (arith, below))
set-changed f zero (x ∷ xs) d below = refl
set-changed f (suc n) (x ∷ xs) d below = ap (λ ys. x ∷ ys) (set-changed f n xs d (omega (arith, below)))

all-same-at : {A : Type 0} (P : A → Type 0) (f : A → A) → ((a : A) → P a → P (f a)) → (n : ℕ) (xs : List A)
    → AllByRecursion P xs → AllByRecursion P (changed_at f n xs)
unfolding changed_at
all-same-at P f kept n [] all = tt
all-same-at P f kept zero (x ∷ xs) (here, all) = (kept x here, all)
all-same-at P f kept (suc n) (x ∷ xs) (here, all) = (here, all-same-at P f kept n xs all)

-- the fields hold whatever a dyndep file binds
pub noted-held : (j : JoiningFields) → JoiningIsHeld j → (restat : Bool) (edge : ℕ) (noted : RecordsModel)
    → noted ≡ with_restat restat edge j.records → JoiningIsHeld (record j { records = noted })
noted-held j held restat edge noted is =
    subst (λ r. JoiningIsHeld (record j { records = r })) (sym is) (record {
      each_path_once = held.each_path_once;
      as_many_joined = held.as_many_joined;
      as_many_was = held.as_many_was;
      as_many_bound = held.as_many_bound;
      unchanged = held.unchanged;
      fits = record {
        as_many = length-changed (also_restat restat) edge j.records.details ∙ held.fits.as_many;
        names_known = all-same-at (λ (d : Detail). d.file < length j.records.names) (also_restat restat)
            (λ d known. known) edge j.records.details held.fits.names_known;
        assigned_known = all-same-at
            (λ (d : Detail). IsNumbered j.records.names d.pool × IsNumbered j.records.names d.dyndep)
            (also_restat restat) (λ d known. known) edge j.records.details held.fits.assigned_known;
        defaults_known = held.fits.defaults_known;
        files_known = held.fits.files_known;
        edges_known = held.fits.edges_known;
      };
      dyndep_files_known = held.dyndep_files_known;
      dyndep_edges_known = held.dyndep_edges_known;
      bound_by_number = held.bound_by_number;
      bound_known = held.bound_known;
      pending_known = held.pending_known;
      enough_pending = held.enough_pending;
    })

-- the details without what a dyndep file binds
pub noted-details : (r noted : RecordsModel) (restat : Bool) (edge : ℕ) → noted ≡ with_restat restat edge r
    → map (detail_named noted.names) noted.details ≡ map (detail_named r.names) r.details
noted-details r noted restat edge is =
    ap (λ (x : RecordsModel). map (detail_named x.names) x.details) is
    ∙ map-same-at (detail_named r.names) (also_restat restat) (λ d. refl) edge r.details

-- ---- the fields

module _ (j : JoiningFields) (held : JoiningIsHeld j) where
  pub bound-files : AreKnown (length j.table.files) j.bound
  bound-files = known-weaker (length j.unjoined) (length j.table.files) j.bound held.pending_known
      held.bound_known

  pub unjoined-known : (file : FileNo) (edge : ℕ)
      → first_edge (λ w. is_bound_to w file) (still_pending j.bound j.table.was_joined) ≡ Some edge
      → edge < length j.table.stated
  unjoined-known file edge first =
      let h = (first-passes (λ (w : Option DyndepEdge). is_bound_to w file)
      (still_pending j.bound j.table.was_joined)
      edge None first).0 in
      let a = still-length j.bound j.table.was_joined in
      let b = held.as_many_bound in
      omega (arith, h, a, b)

  -- ---- without an edge more

  module _ (after : JoinTable) (keeps : KeepsEdges j.table after) where
    pub still-held : JoiningIsHeld (record j { table = after })
    still-held =
        let rises = strings-more j.table.files after.files keeps.files in
        let known = held.pending_known in
        record {
          each_path_once = keeps.each_path_once held.each_path_once;
          as_many_joined = ap length keeps.joined ∙ held.as_many_joined ∙ sym (ap length keeps.stated);
          as_many_was = ap length keeps.was_joined ∙ held.as_many_was ∙ sym (ap length keeps.stated);
          as_many_bound = held.as_many_bound ∙ sym (ap length keeps.stated);
          unchanged = λ n h. ap (λ (es : List EdgePaths). slice_get es n) keeps.joined
              ∙ held.unchanged n (ap (λ was. get_or was n false) (sym keeps.was_joined) ∙ h)
              ∙ ap (λ (es : List EdgePaths). slice_get es n) (sym keeps.stated);
          fits = are-longer (graph_stated j.table) (graph_stated after) j.records held.fits keeps.files
              (ap length keeps.stated);
          dyndep_files_known = pending-more j.table.files after.files keeps.files j.dyndep_files
              held.dyndep_files_known;
          dyndep_edges_known = subst (λ (es : List EdgePaths). AllByRecursion
              (λ (d : DyndepEdge). d.edge.0 < length es) j.dyndep_files) (sym keeps.stated)
              held.dyndep_edges_known;
          bound_by_number = held.bound_by_number;
          bound_known = held.bound_known;
          pending_known = omega (arith, rises, known);
          enough_pending = λ file. subst (λ was. count_pending file (still_pending j.bound was) ≤ get_or
              j.unjoined file.0 0) (sym keeps.was_joined) (held.enough_pending file);
        }

    pub same-defaults : paths_at after.files j.records.defaults ≡ paths_at j.table.files j.records.defaults
    same-defaults = paths-same j.table.files after.files keeps.files j.records.defaults
        held.fits.defaults_known

    pub same-firsts : map (pending_named after.files) j.dyndep_files
        ≡ map (pending_named j.table.files) j.dyndep_files
    same-firsts = pending-same j.table.files after.files keeps.files j.dyndep_files
        held.dyndep_files_known

    pub same-bound : map (file_named after.files) j.bound ≡ map (file_named j.table.files) j.bound
    same-bound = bound-kept j.table.files after.files j.bound keeps.files bound-files

    -- the fields then
    pub joins-nothing : (b : JoiningModel) → joining_of j ≡ b
        → JoinsNothing b (joining_of (record j { table = after }))
    joins-nothing b is =
        subst (λ (h : JoiningModel). JoinsNothing h
        (joining_of (record j { table = after }))) is
        (record {
          edges = keeps;
          blocks = refl;
          details = refl;
          defaults = same-defaults;
          dyndep_files =
              same-firsts;
          bound = same-bound;
          assigned = refl;
          restats = refl;
        })

  -- ---- with a file joined to an edge

  module _ (edge : ℕ) (file : FileNo) (below : edge < length j.table.stated)
      (first : is_joined j.table edge ≡ false) (binds : is_bound_to (get_or j.bound edge None) file ≡ true)
    where
      pends : is_bound_to (get_or (still_pending j.bound j.table.was_joined) edge None) file ≡ true
      pends = ap (λ b. is_bound_to b file) (still-at j.bound j.table.was_joined edge
          ∙ ap (unless_joined (get_or j.bound edge None)) first) ∙ binds

      inside : edge < length j.table.was_joined
      inside = subst (λ n. edge < n) (sym held.as_many_was) below

      left : still_pending j.bound (with_joined j.table edge).was_joined
          ≡ changed_at (λ w. None) edge (still_pending j.bound j.table.was_joined)
      left = still-changed j.bound j.table.was_joined edge inside

      pub unjoined-inside : file.0 < length j.unjoined
      unjoined-inside = by (get_or j.bound edge None) binds
          (known-at (length j.unjoined) j.bound held.bound_known edge)
        where
          by : (b : Option DyndepEdge) → is_bound_to b file ≡ true
              → IfSome b (λ d. d.file.0 < length j.unjoined) → file.0 < length j.unjoined
          by None h known = absurd (true≢false (sym h))
          by (Some d) h known = same (eqb_tells d.file.0 file.0) known
            where
              same : ((d.file.0 == file.0) ≡ true × (d.file.0 ≡ file.0))
                  ⊎ ((d.file.0 == file.0) ≡ false × (d.file.0 ≢ file.0))
                  → d.file.0 < length j.unjoined → file.0 < length j.unjoined
              same (inl (is, e)) known = subst (λ n. n < length j.unjoined) e known
              same (inr (is, apart)) known = absurd (true≢false (sym h ∙ is))

      pub unjoined-some : 0 < get_or j.unjoined file.0 0
      unjoined-some =
          let enough = held.enough_pending file in
          let one = count-removed file (still_pending j.bound j.table.was_joined) edge pends in
          omega (arith, enough, one)

      pub joined-held : (count : ℕ) → count ≡ get_or j.unjoined file.0 0
          → JoiningIsHeld (record j {
            table = with_joined j.table edge;
            unjoined =
                set j.unjoined file.0 (count - 1);
          })
      joined-held count is = record {
        each_path_once = held.each_path_once;
        as_many_joined = length-changed (with_added j.table.«open») edge j.table.joined ∙ held.as_many_joined;
        as_many_was = length-changed (λ was. true) edge j.table.was_joined ∙ held.as_many_was;
        as_many_bound = held.as_many_bound;
        unchanged = λ n h.
            let other = was-other edge j.table.was_joined n inside h in
            changed-other (with_added j.table.«open») edge j.table.joined n other.0
            ∙ held.unchanged n other.1;
        fits = held.fits;
        dyndep_files_known = held.dyndep_files_known;
        dyndep_edges_known = held.dyndep_edges_known;
        bound_by_number = held.bound_by_number;
        bound_known = subst (λ n. AreKnown n j.bound) (sym (length-set j.unjoined file.0 (count - 1)))
            held.bound_known;
        pending_known = subst (λ n. n ≤ length j.table.files) (sym (length-set j.unjoined file.0 (count - 1)))
            held.pending_known;
        enough_pending = λ other. subst (λ ws. count_pending other ws ≤ get_or
            (set j.unjoined file.0 (count - 1))
            other.0 0) (sym left) (enough other (eqb_tells file.0 other.0));
      }
        where
          ws : List (Option DyndepEdge)
          ws = still_pending j.bound j.table.was_joined

          enough : (other : FileNo) → ((file.0 == other.0) ≡ true × (file.0 ≡ other.0))
              ⊎ ((file.0 == other.0) ≡ false × (file.0 ≢ other.0))
              → count_pending other (changed_at (λ w. None) edge ws) ≤ get_or
              (set j.unjoined file.0 (count - 1))
              other.0 0
          enough other (inl (same, e)) =
              let now : get_or (set j.unjoined file.0 (count - 1)) other.0 0 ≡ count - 1 =
              ap (λ n. get_or (set j.unjoined file.0 (count - 1)) n 0) (sym e)
              ∙ get_or-set_same j.unjoined file.0 (count - 1) 0 unjoined-inside in
              let one = count-removed other ws edge (same-bound-to (get_or ws edge None) e pends) in
              let most = held.enough_pending other in
              let was : count ≡ get_or j.unjoined other.0 0 = is ∙ ap (λ n. get_or j.unjoined n 0) e in
              omega (arith, now, one, most, was)
            where
              same-bound-to : (b : Option DyndepEdge) → file.0 ≡ other.0 → is_bound_to b file ≡ true
                  → is_bound_to b other ≡ true
              same-bound-to None e h = h
              same-bound-to (Some d) e h = ap (λ n. d.file.0 == n) (sym e) ∙ h
          enough other (inr (differ, apart)) =
              let now = get_or-set_other j.unjoined file.0 other.0 (count - 1) 0 (λ e. apart (sym e)) in
              let less = count-less other ws edge in
              let most = held.enough_pending other in
              omega (arith, now, less, most)

  -- ---- by the statements

  module _ (stated joined : List ReadStatement)
      (has : HasJoined (joining_of j) stated joined) where
    module _ (file : FileNo) (name : List ℕ) (here : slice_get j.table.files file.0 ≡ Some name) where
      pub bound-pends : (edge : ℕ) → pending_on name (pending_read stated) (Some edge)
          ≡ is_bound_to (get_or j.bound edge None) file
      bound-pends edge =
          ap (λ ps. pending_on name ps (Some edge)) has.bound
          ∙ unjoined-at name 0 (map (file_named j.table.files) j.bound) edge edge
          (let e : edge ≡ 0 + edge = omega arith in e)
          ∙ ap (λ o. is_path o name) (get-named j.table.files j.bound edge)
          ∙ path-bound j.table.files held.each_path_once (get_or j.bound edge None) file name here
          (known-at (length j.table.files) j.bound bound-files edge)

      pub still-pends : (edge : ℕ) → pending_on name (pending_read joined) (Some edge)
          ≡ is_bound_to (unless_joined (get_or j.bound edge None) (is_joined j.table edge)) file
      still-pends edge =
          let ws = still_pending j.bound j.table.was_joined in
          ap (λ ps. pending_on name ps (Some edge))
          (has.unjoined ∙ ap (pending_from 0)
          (sym (still-map (λ (d : DyndepEdge). path_at j.table.files d.file) j.bound j.table.was_joined)))
          ∙ unjoined-at name 0 (map (file_named j.table.files) ws) edge edge
          (let e : edge ≡ 0 + edge = omega arith in e)
          ∙ ap (λ o. is_path o name) (get-named j.table.files ws edge)
          ∙ path-bound j.table.files held.each_path_once (get_or ws edge None) file name here
          (known-at (length j.table.files) ws (known-still (length j.table.files) j.bound j.table.was_joined
          bound-files) edge)
          ∙ ap (λ b. is_bound_to b file) (still-at j.bound j.table.was_joined edge)

      -- the first edge that is pending on a file
      pub first-lacking : find (λ p. bytes_eq p.file name) (pending_read joined)
          ≡ find (λ p. bytes_eq p.file name) (pending_from 0
          (map (file_named j.table.files) (still_pending j.bound j.table.was_joined)))
      first-lacking = ap (find (λ (p : Pending). bytes_eq p.file name))
          (has.unjoined ∙ ap (pending_from 0)
          (sym (still-map (λ (d : DyndepEdge). path_at j.table.files d.file) j.bound j.table.was_joined)))

      pub first-unjoined : first_edge (λ w. is_path w name)
          (map (file_named j.table.files) (still_pending j.bound j.table.was_joined))
          ≡ first_edge (λ w. is_bound_to w file) (still_pending j.bound j.table.was_joined)
      first-unjoined = first-path j.table.files held.each_path_once (still_pending j.bound j.table.was_joined)
          file
          name here (known-still (length j.table.files) j.bound j.table.was_joined bound-files)

      pub none-lacks : first_edge (λ w. is_bound_to w file) (still_pending j.bound j.table.was_joined) ≡ None
          → lacking_fault name joined ≡ None
      none-lacks none =
          ap (λ o. option_and_then (λ (p : Pending). option_map (no_statement name)
          (slice_get (edges_read joined) p.edge)) o)
          (first-lacking ∙ find-none name 0 (map (file_named j.table.files)
          (still_pending j.bound j.table.was_joined)) (first-unjoined ∙ none))

      pub zero-lacks : get_or j.unjoined file.0 0 ≡ 0 → lacking_fault name joined ≡ None
      zero-lacks zero_is =
          let enough = held.enough_pending file in
          none-lacks (none-first file (still_pending j.bound j.table.was_joined)
          (let e : count_pending file (still_pending j.bound j.table.was_joined) ≡ 0 =
          omega (arith, enough, zero_is) in e))

      pub one-lacks : (edge : ℕ) → first_edge (λ w. is_bound_to w file)
          (still_pending j.bound j.table.was_joined)
          ≡ Some edge
          → lacking_fault name joined ≡ Some (fault_of_pending name
          (detail_at (map (detail_named j.records.names) j.records.details) edge)
          (edge_at j.table.stated edge))
      one-lacks edge first =
          ap (λ o. option_and_then (λ (p : Pending). option_map (no_statement name)
          (slice_get (edges_read joined) p.edge)) o)
          (first-lacking ∙ find-first name 0 (map (file_named j.table.files) ws) edge edge path
          (let e : edge ≡ 0 + edge = omega arith in e) (first-unjoined ∙ first)
          (get-named j.table.files ws edge ∙ path-is))
          ∙ ap (option_map (no_statement name)) there.1
          ∙ ap Some (
          ap (λ (d : EdgeDetail). fault_at d.file d.spot
          (DyndepNoStatement (unwrap_or (slice_get (outputs_of there.0.paths) 0) []) name))
          (sym detail-is)
          ∙ ap (λ (p : EdgePaths). fault_at (detail_at (map (detail_named j.records.names) j.records.details)
          edge).file
          (detail_at (map (detail_named j.records.names) j.records.details) edge).spot
          (DyndepNoStatement (unwrap_or (slice_get (outputs_of p) 0) []) name)) (sym paths-are)
          )
        where
          ws : List (Option DyndepEdge)
          ws = still_pending j.bound j.table.was_joined

          passes : (edge < length ws) × (is_bound_to (get_or ws edge None) file ≡ true)
          passes = first-passes (λ (w : Option DyndepEdge). is_bound_to w file) ws edge None first

          below : edge < length j.table.stated
          below = let h = passes.0 in let a = still-length j.bound j.table.was_joined in let b =
              held.as_many_bound in omega (arith, h, a, b)

          free : (b : Option DyndepEdge) (was : Bool) → is_bound_to (unless_joined b was) file ≡ true
              → was ≡ false
          free b false h = refl
          free b true h = absurd (true≢false (sym h))

          not-joined : is_joined j.table edge ≡ false
          not-joined = free (get_or j.bound edge None) (is_joined j.table edge)
              (ap (λ b. is_bound_to b file) (sym (still-at j.bound j.table.was_joined edge)) ∙ passes.1)

          named : (b : Option DyndepEdge) → is_bound_to b file ≡ true → (d : DyndepEdge) × (b ≡ Some d)
          named None h = absurd (true≢false (sym h))
          named (Some d) h = (d, refl)

          bound-edge : (d : DyndepEdge) × (get_or ws edge None ≡ Some d)
          bound-edge = named (get_or ws edge None) passes.1

          path : List ℕ
          path = path_at j.table.files bound-edge.0.file

          path-is : file_named j.table.files (get_or ws edge None) ≡ Some path
          path-is = ap (file_named j.table.files) bound-edge.1

          edges-count : length j.table.stated ≡ length (edges_read joined)
          edges-count = sym held.as_many_joined ∙ ap length has.joined_paths
              ∙ length-map (edges_read joined) (λ (e : EdgeModel). e.paths)

          get-some : (es : List EdgeModel) (n : ℕ) → n < length es
              → (e : EdgeModel) × (slice_get es n ≡ Some e)
          get-some [] n h = absurd (omega (arith, h))
          get-some (e ∷ es) zero h = (e, refl)
          get-some (e ∷ es) (suc n) h = get-some es n (omega (arith, h))

          there : (e : EdgeModel) × (slice_get (edges_read joined) edge ≡ Some e)
          there = get-some (edges_read joined) edge (subst (λ n. edge < n) edges-count below)

          detail-is : detail_at (map (detail_named j.records.names) j.records.details) edge
              ≡ detail_of there.0
          detail-is =
              ap (λ ds. detail_at ds edge) has.details
              ∙ get_or_from_slice_get (map detail_of (edges_read joined)) edge (detail_of there.0)
              (record { file = []; spot = record { line = 0; column = 0 }; scope = 0; rule = 0 })
              (slice_get-map detail_of (edges_read joined) edge ∙ ap (option_map detail_of) there.1)

          paths-are : edge_at j.table.stated edge ≡ there.0.paths
          paths-are =
              get_or_from_slice_get j.table.stated edge there.0.paths
              (record {
                explicit_outputs = [];
                implicit_outputs = [];
                explicit_inputs = [];
                implicit_inputs = [];
                order_only_inputs = [];
                validations = [];
                is_phony = false;
              })
              (sym (held.unchanged edge not-joined)
              ∙ ap (λ (es : List EdgePaths). slice_get es edge) has.joined_paths
              ∙ slice_get-map (λ (e : EdgeModel). e.paths) (edges_read joined) edge
              ∙ ap (option_map (λ (e : EdgeModel). e.paths)) there.1)

      -- which statement an entry denotes
      pub meaning-held : (entry : EntryModel)
          → maker_fault name entry.out j.table (edge_bound j.table j.bound file entry.out)
          ≡ meaning_fault name stated joined entry
      meaning-held entry =
          by (maker_of j.table.stated path)
          ∙ ap (λ (es : List EdgePaths). option_or
          (then_some (not (pending_on name (pending_read stated) (maker_of es path))) extra)
          (then_some (not (pending_on name (pending_read joined) (maker_of es path))) twice)) has.stated_paths
        where
          path : List ℕ
          path = path_given no_values entry.out

          extra : GraphFault
          extra = fault_at name entry.out.spot (DyndepExtra path)

          twice : GraphFault
          twice = fault_at name entry.out.spot (DyndepTwice path)

          unless : (b : Option DyndepEdge) (was : Bool) → is_bound_to b file ≡ true
              → is_bound_to (unless_joined b was) file ≡ not was
          unless b true h = refl
          unless b false h = h

          step : (edge : ℕ) (binds : Bool) → is_bound_to (get_or j.bound edge None) file ≡ binds
              → maker_fault name entry.out j.table (if binds then Some edge else None)
              ≡ option_or (then_some (not binds) extra)
              (then_some (not (is_bound_to (unless_joined (get_or j.bound edge None) (is_joined j.table edge))
              file)) twice)
          step edge false is = refl
          step edge true is = sym (ap (λ b. then_some (not b) twice)
              (unless (get_or j.bound edge None) (is_joined j.table edge) is)
              ∙ ap (λ b. then_some b twice) (not-not (is_joined j.table edge)))
            where
              not-not : (b : Bool) → not (not b) ≡ b
              not-not true = refl
              not-not false = refl

          by : (maker : Option ℕ)
              → maker_fault name entry.out j.table (if_bound j.bound file maker)
              ≡ option_or (then_some (not (pending_on name (pending_read stated) maker)) extra)
              (then_some (not (pending_on name (pending_read joined) maker)) twice)
          by None = refl
          by (Some edge) =
              step edge (is_bound_to (get_or j.bound edge None) file) refl
              ∙ ap (λ b. option_or (then_some (not b) extra)
              (then_some (not (is_bound_to (unless_joined (get_or j.bound edge None) (is_joined j.table edge))
              file)) twice)) (sym (bound-pends edge))
              ∙ ap (λ b. option_or (then_some (not (pending_on name (pending_read stated) (Some edge))) extra)
              (then_some (not b) twice)) (sym (still-pends edge))

      -- the fault of an entry
      pub fault-is : (entry : EntryModel)
          → entry_fault name stated joined entry
          ≡ option_or (option_or (empty_path name no_values entry.out)
          (maker_fault name entry.out j.table (edge_bound j.table j.bound file entry.out)))
          (option_or (outputs_fault name no_values j.table.joined j.table.«open».outputs entry.outs)
          (first_given (empty_path name no_values) entry.ins))
      fault-is entry =
          ap (λ o. option_or (empty_path name no_values entry.out)
          (option_or o (option_or (outputs_fault name no_values (paths_of_edges (edges_read joined)) []
          entry.outs) inputs))) (sym (meaning-held entry))
          ∙ ap (λ (es : List EdgePaths). option_or (empty_path name no_values entry.out)
          (option_or meaning (option_or (outputs_fault name no_values es [] entry.outs) inputs)))
          (sym has.joined_paths)
          ∙ ap (λ (added : AddedFiles). option_or (empty_path name no_values entry.out)
          (option_or meaning (option_or (outputs_fault name no_values j.table.joined added.outputs entry.outs)
          inputs))) (sym has.none_open)
          ∙ sym (or_then-assoc (empty_path name no_values entry.out) meaning
          (option_or (outputs_fault name no_values j.table.joined j.table.«open».outputs entry.outs) inputs))
        where
          meaning : Option GraphFault
          meaning = maker_fault name entry.out j.table (edge_bound j.table j.bound file entry.out)

          inputs : Option GraphFault
          inputs = first_given (empty_path name no_values) entry.ins

          or_then-assoc : (a b d : Option GraphFault)
              → option_or (option_or a b) d ≡ option_or a (option_or b d)
          or_then-assoc (Some x) b d = refl
          or_then-assoc None b d = refl

      -- the statements with the additions of an entry
      pub joined-has : (entry : EntryModel) (edge : ℕ) → IsMeant j.table j.bound file entry.out edge
          → (after last : JoinTable) → KeepsEdges j.table after
          → after.«open» ≡ record {
            outputs = (discovered_by entry).outputs;
            inputs =
                (discovered_by entry).inputs;
          } → last ≡ with_joined after edge
          → (noted : RecordsModel) → noted ≡ with_restat entry.restat edge j.records
          → HasJoined (joining_of (record j { table = last; records = noted })) stated
          (with_entry stated joined entry)
      joined-has entry edge meant after last keeps opens is noted noted_are =
          subst (λ (t : JoinTable). HasJoined (joining_of (record j { table = t; records = noted }))
          stated
          (with_entry stated joined entry)) (sym is)
          (subst (λ es. HasJoined (joining_of
          (record j { table = with_joined after edge; records = noted })) stated es)
          (sym (ap (λ m. discover_for m found joined) means))
          (subst (λ r. HasJoined (joining_of (record j { table = with_joined after edge; records = r }))
          stated (discover edge found joined))
          (sym noted_are) has-after))
        where
          found : Discovered
          found = discovered_by entry

          also : Detail → Detail
          also = also_restat entry.restat

          same-details : map (detail_named j.records.names) (changed_at also edge j.records.details)
              ≡ map (detail_named j.records.names) j.records.details
          same-details = map-same-at (detail_named j.records.names) also (λ d. refl) edge j.records.details

          of : (maker_of j.table.stated (path_given no_values entry.out) ≡ Some edge)
              × (is_bound_to (get_or j.bound edge None) file ≡ true)
          of = meant-binds j.bound file edge (maker_of j.table.stated (path_given no_values entry.out))
              meant.is

          means : edge_meant stated entry ≡ Some edge
          means = ap (λ (es : List EdgePaths). maker_of es (path_given no_values entry.out))
              (sym has.stated_paths) ∙ of.0

          waited : pending_on name (pending_read joined) (Some edge) ≡ true
          waited = still-pends edge ∙ ap (λ was. is_bound_to (unless_joined (get_or j.bound edge None) was)
              file) meant.first ∙ of.1

          inside : edge < length j.table.was_joined
          inside = subst (λ n. edge < n) (sym held.as_many_was) meant.known

          named : List (Option (List ℕ))
          named = map (file_named j.table.files) j.bound

          unjoined-after : pending_read (discover edge found joined)
              ≡ left_pending_from 0 (map (file_named after.files) j.bound)
              (changed_at (λ was. true) edge after.was_joined)
          unjoined-after =
              pending-discover edge found joined
              ∙ ap (filter (λ (p : Pending). not (p.edge == edge))) has.unjoined
              ∙ without-one 0 (still_pending named j.table.was_joined) edge edge
              (let e : edge ≡ 0 + edge = omega arith in e)
              ∙ ap (pending_from 0) (sym (still-changed named j.table.was_joined edge inside))
              ∙ ap (λ (bs : List (Option (List ℕ))). left_pending_from 0 bs
              (changed_at (λ was. true) edge j.table.was_joined)) (sym (same-bound after keeps))
              ∙ ap (λ was. left_pending_from 0 (map (file_named after.files) j.bound)
              (changed_at (λ w. true) edge was)) (sym keeps.was_joined)

          has-after : HasJoined (joining_of (record j
              { table = with_joined after edge; records = with_restat entry.restat edge j.records })) stated
              (discover edge found joined)
          has-after = record {
            stated_paths = keeps.stated ∙ has.stated_paths;
            joined_paths =
                ap (λ added. changed_at (with_added added) edge after.joined) opens
                ∙ ap (changed_at (with_added (record { outputs = found.outputs; inputs = found.inputs }))
                edge) (keeps.joined ∙ has.joined_paths)
                ∙ sym (paths-discover edge found joined (is_pending-from_pending name joined edge waited));
            none_open = refl;
            stated_details = same-details ∙ has.stated_details;
            details = same-details ∙ has.details ∙ sym (details-discover edge found joined);
            blocks = λ number name. has.blocks number name
                ∙ sym (block_at-discover edge found joined number name);
            block_names = λ number. has.block_names number
                ∙ sym (block_names_at-discover edge found joined number);
            defaults = same-defaults after keeps ∙ has.defaults
                ∙ sym (defaults_read-discover edge found joined);
            dyndep_files = same-firsts after keeps ∙ has.dyndep_files;
            bound = has.bound ∙ ap (pending_from 0) (sym (same-bound after keeps));
            unjoined = unjoined-after;
            assigned =
                map-same-at (assigned_named j.records.names) also (λ d. refl) edge j.records.details
                ∙ has.assigned ∙ sym (assigned-discover edge found joined);
            restats =
                map-changed (λ (d : Detail). d.restat) also (λ had. had || entry.restat) (λ d. refl) edge
                j.records.details
                ∙ ap (changed_at (λ had. had || entry.restat) edge) has.restats
                ∙ sym (restats-discover edge found joined);
          }

-- the dyndep files after an entry
pub entry-keeps : (j : JoiningFields) → JoiningIsHeld j → (edge : ℕ) (after last : JoinTable)
    → KeepsEdges j.table after → last ≡ with_joined after edge
    → map (pending_named last.files) j.dyndep_files ≡ map (pending_named j.table.files) j.dyndep_files
entry-keeps j held edge after last keeps is =
    ap (λ (t : JoinTable). map (pending_named t.files) j.dyndep_files) is ∙ same-firsts j held after keeps

-- the fields after an entry, whose files were collected
module _ (j : JoiningFields) (held : JoiningIsHeld j) (given : List (Option DyndepEdge))
    (same : given ≡ j.bound) (file : FileNo) (word : WordModel) (edge : ℕ)
    (means : IsMeant j.table given file word edge) where
  meant : IsMeant j.table j.bound file word edge
  meant = subst (λ (bs : List (Option DyndepEdge)). IsMeant j.table bs file word edge) same means

  binds : is_bound_to (get_or j.bound edge None) file ≡ true
  binds = (meant-binds j.bound file edge (maker_of j.table.stated (path_given no_values word)) meant.is).1

  pub entry-inside : file.0 < length j.unjoined
  entry-inside = unjoined-inside j held edge file meant.known meant.first binds

  pub entry-pends : (count : ℕ) → count ≡ get_or j.unjoined file.0 count → count ≡ get_or j.unjoined file.0 0
  entry-pends count is = get_or_read j.unjoined file.0 count entry-inside is 0

  pub entry-some : (count : ℕ) → count ≡ get_or j.unjoined file.0 count → 1 ≤ count
  entry-some count is =
      let some = unjoined-some j held edge file meant.known meant.first binds in
      let left = entry-pends count is in
      omega (arith, some, left)

  pub entry-held : (after last : JoinTable) (count : ℕ) → KeepsEdges j.table after
      → last ≡ with_joined after edge → count ≡ get_or j.unjoined file.0 count
      → JoiningIsHeld (record j { table = last; unjoined = set j.unjoined file.0 (count - 1) })
  entry-held after last count keeps is now =
      subst (λ (t : JoinTable). JoiningIsHeld
      (record j { table = t; unjoined = set j.unjoined file.0 (count - 1) })) (sym is)
      (joined-held (record j { table = after })
      (still-held j held after keeps) edge file
      (subst (λ (es : List EdgePaths). edge < length es) (sym keeps.stated) meant.known)
      (ap (λ was. get_or was edge false) keeps.was_joined ∙ meant.first) binds count
      (entry-pends count now))
