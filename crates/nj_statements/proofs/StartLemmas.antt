-- The fields before anything is joined, and after it.
use Rattle.std.proofs.Common.{Bool, true, ◌≡◌, ℕ, ◌+◌, ◌<◌, ◌≤◌, false, List, [], ◌∷◌, ◌++◌, length, get_or}
use Rattle.std.proofs.Common.{replicate, map, Option, Some, None, IfSome, bytes_eq, refl, sym, ap, subst, ◌∙◌}
use Rattle.std.proofs.Common.{arith}
use Rattle.std.specs.List.{AllByRecursion, IsDistinct}
use Rattle.std.proofs.lemmas.List.{length-map, length-append, length-replicate}
use Rattle.nj_manifest.specs.Statements.{StatementModel, BindingModel, RuleModel, PoolModel, BuildModel}
use Rattle.nj_manifest.specs.Statements.{DefaultModel, IncludeModel, SubninjaModel}
use Rattle.nj_scope.specs.ReadingList.{ReadStatement}
use Rattle.nj_names.specs.declared.files.FileNo.{FileNo}
use Rattle.nj_names.specs.Files.{path_at}
use Rattle.nj_edges.specs.EdgeGraphs.{EdgeGraph}
use Rattle.nj_edges.specs.Joining.{join_of}
use Rattle.nj_statements.specs.declared.records.DyndepEdge.{DyndepEdge}
use Rattle.nj_statements.specs.EdgeList.{EdgeModel, edge_of_build, edges_read, pending_at, dyndep_of}
use Rattle.nj_statements.specs.EdgeList.{pending_read}
use Rattle.nj_statements.specs.Built.{IsBuiltOf}
use Rattle.nj_statements.specs.Records.{AreOfGraph, RecordsModel, pending_named, with_graph}
use Rattle.nj_statements.specs.Joining.{dyndep_files}
use Rattle.nj_statements.specs.JoiningHeld.{pending_of, pending_from, still_pending, HasJoined}
use Rattle.nj_statements.specs.Inside.JoiningFields.{JoiningFields, JoiningIsHeld, joining_of}
use Rattle.nj_statements.specs.Inside.JoiningSteps.{count_pending, count_bound, bind_all, first_edges}
use Rattle.nj_statements.specs.Inside.JoiningSteps.{AreByNumber, edges_in, file_named}
use Rattle.nj_statements.proofs.PendingLemmas.{still-all, still-map, still-length, still-known}
use Rattle.nj_statements.proofs.PendingLemmas.{still-by-number, from-zero, edges-named, edges-files}
use Rattle.nj_statements.proofs.PendingLemmas.{edges-below, pending-more}
use Rattle.nj_statements.proofs.PendingLemmas.{firsts-all, firsts-named, bind-unjoined, bind-length}
use Rattle.nj_statements.proofs.PendingLemmas.{bind-known, none-known, count-bind, count-none}
use Rattle.nj_statements.proofs.PendingLemmas.{bind-by-number, none-by-number}

-- ---- the files on which edges are pending

-- the given files are those on which edges are pending
pub record AreAwaited (entries : List ReadStatement) (unjoined : List (Option (List ℕ))) : Type 0 where
  pub are : pending_read entries ≡ pending_from 0 unjoined
  pub count : length unjoined ≡ length (edges_read entries)

abbrev awaited-at : Bool → Option (List ℕ) → Option (List ℕ)
awaited-at true file = None
awaited-at false file = file

pending-at : (edge : ℕ) (joined : Bool) (file : Option (List ℕ))
    → pending_at edge joined file ≡ pending_of edge (awaited-at joined file)
pending-at edge true file = refl
pending-at edge false (Some file) = refl
pending-at edge false None = refl

awaited-more : (e : ReadStatement) (before : List ReadStatement) (item : StatementModel)
    (unjoined : List (Option (List ℕ))) → AreAwaited before unjoined
    → (more : List (Option (List ℕ))) × AreAwaited (record e { item = item } ∷ before) more
unfolding edges_read pending_read
awaited-more e before (BuildModel outputs rule inputs lines) unjoined is = (
  unjoined ++ next ∷ [],
  record {
    are =
        ap (λ ps. ps ++ pending_at (length (edges_read before)) e.was_joined (dyndep_of before edge)) is.are
        ∙ ap (λ ps. pending_from 0 unjoined ++ ps)
        (pending-at (length (edges_read before)) e.was_joined (dyndep_of before edge)
        ∙ ap (λ n. pending_of n next) (sym is.count
        ∙ (let z : length unjoined ≡ 0 + length unjoined = omega arith in z)))
        ∙ sym (pending-more 0 unjoined next);
    count = length-append unjoined (next ∷ []) ∙ ap (λ n. n + 1) is.count
        ∙ sym (length-append (edges_read before) (edge ∷ []));
  },
)
  where
    edge : EdgeModel
    edge = edge_of_build e before outputs rule inputs lines

    next : Option (List ℕ)
    next = awaited-at e.was_joined (dyndep_of before edge)
awaited-more e before (BindingModel bound word) unjoined is =
    (unjoined, record { are = is.are; count = is.count })
awaited-more e before (RuleModel name lines) unjoined is =
    (unjoined, record { are = is.are; count = is.count })
awaited-more e before (PoolModel name lines) unjoined is =
    (unjoined, record { are = is.are; count = is.count })
awaited-more e before (DefaultModel words) unjoined is = (unjoined, record { are = is.are; count = is.count })
awaited-more e before (IncludeModel word) unjoined is = (unjoined, record { are = is.are; count = is.count })
awaited-more e before (SubninjaModel word) unjoined is = (unjoined, record { are = is.are; count = is.count })

pub awaited : (entries : List ReadStatement)
    → (unjoined : List (Option (List ℕ))) × AreAwaited entries unjoined
unfolding edges_read pending_read
awaited [] = ([], record { are = refl; count = refl })
awaited (e ∷ before) = let rest = awaited before in awaited-more e before e.item rest.0 rest.1

-- ---- nothing is joined yet

module _ (graph : EdgeGraph) (r : RecordsModel) (fits : AreOfGraph graph r)
    (once : IsDistinct bytes_eq graph.files) (j : JoiningFields) (table_is : j.table ≡ join_of graph)
    (records_are : j.records ≡ r) (firsts_are : j.dyndep_files ≡ first_edges r.dyndeps)
    (bound_are : j.bound ≡ bind_all r.dyndeps (replicate (length graph.edges) None))
    (count : length j.unjoined ≡ length graph.files)
    (pending_are : (file : FileNo) → get_or j.unjoined file.0 0 ≡ count_bound file r.dyndeps) where
  abbrev bound : List (Option DyndepEdge)
  bound = bind_all r.dyndeps (replicate (length graph.edges) None)

  abbrev start : JoiningFields
  start = record {
    table = join_of graph;
    records = r;
    dyndep_files = first_edges r.dyndeps;
    bound = bound;
    unjoined = j.unjoined;
  }

  start-is : start ≡ j
  start-is =
      ap (λ t. record start { table = t }) (sym table_is)
      ∙ ap (λ ds. record start { table = j.table; dyndep_files = ds }) (sym firsts_are)
      ∙ ap (λ bs. record start { table = j.table; dyndep_files = j.dyndep_files; bound = bs }) (sym bound_are)
      ∙ ap (λ rs. record j { records = rs }) (sym records_are)

  pub start-held : JoiningIsHeld j
  start-held = subst JoiningIsHeld start-is (record {
    each_path_once = once;
    as_many_joined = refl;
    as_many_was = length-map graph.edges (λ e. false);
    as_many_bound = bind-length r.dyndeps (replicate (length graph.edges) None)
        ∙ length-replicate (length graph.edges) None;
    unchanged = λ edge h. refl;
    fits = fits;
    dyndep_files_known = firsts-all (λ (d : DyndepEdge). d.file.0 < length graph.files) r.dyndeps
        fits.files_known;
    dyndep_edges_known = firsts-all (λ (d : DyndepEdge). d.edge.0 < length graph.edges) r.dyndeps
        fits.edges_known;
    bound_by_number = bind-by-number r.dyndeps (replicate (length graph.edges) None)
        (none-by-number (length graph.edges));
    bound_known =
        bind-known (length j.unjoined) r.dyndeps (replicate (length graph.edges) None)
        (subst (λ n. AllByRecursion (λ (d : DyndepEdge). d.file.0 < n) r.dyndeps) (sym count)
        fits.files_known)
        (none-known (length j.unjoined) (length graph.edges));
    pending_known = omega (arith, count);
    enough_pending = λ file.
        let all = still-all bound graph.edges in
        let most = count-bind file r.dyndeps (replicate (length graph.edges) None) in
        let none = count-none file (length graph.edges) in
        let is = pending_are file in
        subst (λ ws. count_pending file ws ≤ get_or j.unjoined file.0 0) (sym all)
        (omega (arith, most, none, is));
  })

  module _ (stated : List ReadStatement) (is : IsBuiltOf (with_graph graph r) stated) where
    abbrev ws : List (Option (List ℕ))
    ws = (awaited stated).0

    named : map (file_named graph.files) bound ≡ ws
    named = bind-unjoined graph.files r.dyndeps ws (length graph.edges) (is.pending ∙ (awaited stated).1.are)
        ((awaited stated).1.count ∙ sym (length-map (edges_read stated) (λ (e : EdgeModel). e.paths))
        ∙ sym (ap length is.paths))

    pub start-keeps : HasJoined (joining_of j) stated stated
    start-keeps = subst (λ (k : JoiningFields). HasJoined (joining_of k) stated stated) start-is (record {
      stated_paths = is.paths;
      joined_paths = is.paths;
      none_open = refl;
      stated_details = is.details;
      details = is.details;
      blocks = is.blocks;
      block_names = is.block_names;
      defaults = is.defaults;
      dyndep_files = firsts-named graph.files once r.dyndeps fits.files_known ∙ ap dyndep_files is.pending;
      bound = (awaited stated).1.are ∙ ap (pending_from 0) (sym named);
      assigned = is.assigned;
      restats = is.restats;
      unjoined = (awaited stated).1.are ∙ ap (pending_from 0)
          (sym named ∙ sym (still-all (map (file_named graph.files) bound) graph.edges));
    })

-- ---- after joining

-- the records with the edges that are still pending
module _ (j : JoiningFields) (held : JoiningIsHeld j) (dyndeps : List DyndepEdge)
    (are : dyndeps ≡ edges_in (still_pending j.bound j.table.was_joined)) where
  abbrev left : List (Option DyndepEdge)
  left = still_pending j.bound j.table.was_joined

  many : length left ≡ length j.table.joined
  many = still-length j.bound j.table.was_joined ∙ held.as_many_bound ∙ sym held.as_many_joined

  numbered : AreByNumber left
  numbered = still-by-number j.bound j.table.was_joined held.bound_by_number

  known : (bs : List (Option DyndepEdge))
      → AllByRecursion (λ b. IfSome b (λ d. d.file.0 < length j.unjoined)) bs
      → AllByRecursion (λ b. IfSome b (λ d. d.file.0 < length j.table.files)) bs
  known [] all = tt
  known (None ∷ bs) all = (tt, known bs all.1)
  known (Some d ∷ bs) all = (let most = held.pending_known in omega (arith, all.0, most), known bs all.1)

  pub left-fits : AreOfGraph (record { files = j.table.files; edges = j.table.joined })
      (record j.records { dyndeps = dyndeps })
  left-fits = record {
    as_many = held.fits.as_many ∙ sym held.as_many_joined;
    names_known = held.fits.names_known;
    assigned_known = held.fits.assigned_known;
    defaults_known = held.fits.defaults_known;
    files_known = subst (AllByRecursion (λ (d : DyndepEdge). d.file.0 < length j.table.files)) (sym are)
        (edges-files (length j.table.files) left
        (still-known (λ d. d.file.0 < length j.table.files) j.bound j.table.was_joined
        (known j.bound held.bound_known)));
    edges_known = subst (AllByRecursion (λ (d : DyndepEdge). d.edge.0 < length j.table.joined)) (sym are)
        (edges-below (length j.table.joined) 0 left (from-zero left numbered) (omega (arith, many)));
  }

  pub left-built : (stated joined : List ReadStatement) → HasJoined (joining_of j) stated joined
      → IsBuiltOf (with_graph (record { files = j.table.files; edges = j.table.joined })
      (record j.records { dyndeps = dyndeps })) joined
  left-built stated joined has = record {
    paths = has.joined_paths;
    details = has.details;
    blocks = has.blocks;
    block_names = has.block_names;
    defaults = has.defaults;
    pending = ap (map (pending_named j.table.files)) are
        ∙ edges-named j.table.files 0 left (from-zero left numbered)
        ∙ ap (pending_from 0)
        (still-map (λ (d : DyndepEdge). path_at j.table.files d.file) j.bound j.table.was_joined)
        ∙ sym has.unjoined;
    assigned = has.assigned;
    restats = has.restats;
  }
