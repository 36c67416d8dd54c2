-- Inputs named for build statements: which edges they change, and that nothing else changes.
use Rattle.std.proofs.Common.{◌≡◌, ℕ, suc, ◌+◌, ◌||◌, Bool, true, false, List, [], ◌∷◌, ◌++◌, length, map}
use Rattle.std.proofs.Common.{Option, Some, None, slice_index_or, refl, sym, ap, ◌∙◌, subst, arith}
use Rattle.std.proofs.Common.{append-nil}
use Rattle.std.specs.Prelude.{codes}
use Rattle.std.specs.List.{AllByRecursion, AllZip}
use Rattle.std.proofs.lemmas.List.{length-map, map-append}
use Rattle.std.proofs.lemmas.List.Elements.{AllZip-push}
use Rattle.nj_manifest.specs.LineSteps.{NameModel}
use Rattle.nj_manifest.specs.Statements.{LineModel, OutputsModel, InputsModel, StatementModel, BindingModel}
use Rattle.nj_manifest.specs.Statements.{RuleModel, PoolModel, BuildModel, DefaultModel, IncludeModel}
use Rattle.nj_manifest.specs.Statements.{SubninjaModel}
use Rattle.nj_scope.specs.ReadingList.{Discovered, ReadStatement}
use Rattle.nj_edges.specs.Edges.{EdgePaths}
use Rattle.nj_edges.specs.Joining.{with_added}
use Rattle.nj_edges.specs.MoreInputs.{with_inputs_added}
use Rattle.nj_edge_env.specs.LateStrings.{LateNames, asked_text}
use Rattle.nj_statements.specs.EdgeList.{EdgeModel, edge_of_build, edges_read, paths_of_edges}
use Rattle.nj_statements.specs.EdgeList.{file_given, name_given, dyndep_of, pending_at, pending_read}
use Rattle.nj_statements.specs.EdgeList.{assigned_of, assigned_read, binds_restat, restats_read}
use Rattle.nj_statements.specs.Built.{BuiltModel, IsBuiltOf, detail_of}
use Rattle.nj_statements.specs.Logged.{NamedInputsAreAdded, and_inputs, inputs_named, with_inputs_named}
use Rattle.nj_statements.proofs.DiscoverEdges.{SameEdge, all-same, block-same, count-same, edge-also}
use Rattle.nj_statements.proofs.DiscoverEdges.{edge-by_same, map-same}
use Rattle.nj_statements.proofs.DiscoverLemmas.{as_read, defaults_read-same, names_of_edge-same, unseen}

-- ---- statements

-- The statements are the same but for their discoveries.
pub as_read-named : (named : ℕ → List (List ℕ)) (entries : List ReadStatement)
    → as_read (with_inputs_named named entries) ≡ as_read entries
unfolding with_inputs_named
as_read-named named [] = refl
as_read-named named (e ∷ before) =
    ap (λ es. unseen e ∷ es) (as_read-named named before)

-- A property of each statement, whatever was discovered for it, stays true.
pub all-named : (P : ReadStatement → Type 0)
    → ((e : ReadStatement) (d : Option Discovered) → P e → P (record e { discovered = d }))
    → (named : ℕ → List (List ℕ)) (entries : List ReadStatement) → AllByRecursion P entries
    → AllByRecursion P (with_inputs_named named entries)
unfolding with_inputs_named
all-named P kept named [] all = tt
all-named P kept named (e ∷ before) all = (
  kept e (and_inputs e.discovered (inputs_named named before e.item)) all.0,
  all-named P kept named before all.1,
)

-- ---- edges

adds-none : (paths : EdgePaths) → with_added (record { outputs = []; inputs = [] }) paths ≡ paths
adds-none paths =
    ap (λ outs. record paths { implicit_outputs = outs; implicit_inputs = paths.implicit_inputs ++ [] })
    (append-nil paths.implicit_outputs)
    ∙ ap (λ ins. record paths { implicit_inputs = ins }) (append-nil paths.implicit_inputs)

-- an edge with more inputs
abbrev pub edge_with : List (List ℕ) → EdgeModel → EdgeModel
edge_with inputs e = record e { paths = with_added (record { outputs = []; inputs = inputs }) e.paths }

edge-more : (more : List (List ℕ)) (e : ReadStatement) (before : List ReadStatement) (outputs : OutputsModel)
    (rule : NameModel) (inputs : InputsModel) (lines : List LineModel)
    → edge_of_build (record e { discovered = and_inputs e.discovered more }) before outputs rule inputs lines
    ≡ edge_with more (edge_of_build e before outputs rule inputs lines)
edge-more [] e before outputs rule inputs lines =
    ap (λ (p : EdgePaths). record own { paths = p }) (sym (adds-none own.paths))
  where
    own : EdgeModel
    own = edge_of_build e before outputs rule inputs lines
edge-more (path ∷ paths) e before outputs rule inputs lines =
    edge-also (record { outputs = []; inputs = path ∷ paths; restat = false }) e before outputs rule inputs
    lines

added-last : (named : ℕ → List (List ℕ)) (n : ℕ) (edges : List EdgePaths) (e : EdgePaths)
    → with_inputs_added named n (edges ++ e ∷ [])
    ≡ with_inputs_added named n edges ++ with_added
    (record { outputs = []; inputs = named (n + length edges) }) e ∷ []
added-last named n [] e = ap (λ m. with_added (record { outputs = []; inputs = named m }) e ∷ [])
    (let z : n ≡ n + 0 = omega arith in z)
added-last named n (x ∷ edges) e =
    ap (λ es. with_added (record { outputs = []; inputs = named n }) x ∷ es)
    (added-last named (n + 1) edges e ∙ ap
    (λ m. with_inputs_added named (n + 1) edges
    ++ with_added (record { outputs = []; inputs = named m }) e ∷ [])
    (let z : n + 1 + length edges ≡ n + suc (length edges) = omega arith in z))

module _ (named : ℕ → List (List ℕ)) (e : ReadStatement) (before : List ReadStatement)
    (outputs : OutputsModel) (rule : NameModel) (inputs : InputsModel) (lines : List LineModel) where
  abbrev others : List ReadStatement
  others = with_inputs_named named before

  abbrev count : ℕ
  count = length (edges_read before)

  abbrev build : ReadStatement
  build = record e { item = BuildModel outputs rule inputs lines }

  abbrev own : EdgeModel
  own = edge_of_build build before outputs rule inputs lines

  abbrev pub more-build : ReadStatement
  more-build = record build { discovered = and_inputs e.discovered (named count) }

  abbrev other : EdgeModel
  other = edge_of_build more-build others outputs rule inputs lines

  pub own-more : other ≡ edge_with (named count) own
  own-more = edge-by_same more-build before others (as_read-named named before) outputs rule inputs lines
      ∙ edge-more (named count) build before outputs rule inputs lines

  pub paths-build : paths_of_edges (edges_read others)
      ≡ with_inputs_added named 0 (paths_of_edges (edges_read before))
      → paths_of_edges (edges_read others ++ other ∷ [])
      ≡ with_inputs_added named 0 (paths_of_edges (edges_read before ++ own ∷ []))
  paths-build rest =
      map-append (λ (x : EdgeModel). x.paths) (edges_read others) (other ∷ [])
      ∙ ap (λ es. es ++ other.paths ∷ []) rest
      ∙ ap (λ (x : EdgeModel). with_inputs_added named 0 (paths_of_edges (edges_read before)) ++ x.paths ∷ [])
      own-more
      ∙ ap (λ n. with_inputs_added named 0 (paths_of_edges (edges_read before))
      ++ with_added (record { outputs = []; inputs = named n }) own.paths ∷ [])
      (sym (length-map (edges_read before) (λ (x : EdgeModel). x.paths))
      ∙ (let z : length (paths_of_edges (edges_read before))
      ≡ 0 + length (paths_of_edges (edges_read before)) = omega arith in z))
      ∙ sym (added-last named 0 (paths_of_edges (edges_read before)) own.paths)
      ∙ ap (with_inputs_added named 0) (sym
      (map-append (λ (x : EdgeModel). x.paths) (edges_read before) (own ∷ [])))

  pub same-build : AllZip SameEdge (edges_read before) (edges_read others)
      → AllZip SameEdge (edges_read before ++ own ∷ []) (edges_read others ++ other ∷ [])
  same-build rest = AllZip-push SameEdge (edges_read before) (edges_read others) own other rest
      (subst (SameEdge own) (sym own-more) refl)

  pub dyndep-build : dyndep_of others other ≡ dyndep_of before own
  dyndep-build =
      ap (λ (n : LateNames). file_given (asked_text n (codes "dyndep")))
      (names_of_edge-same before others (as_read-named named before) other)
      ∙ ap (dyndep_of before) own-more

  pub assigned-build : assigned_of others other ≡ assigned_of before own
  assigned-build =
      ap (λ (n : LateNames). record {
        pool = name_given (asked_text n (codes "pool"));
        dyndep =
            file_given (asked_text n (codes "dyndep"));
      })
      (names_of_edge-same before others (as_read-named named before) other)
      ∙ ap (assigned_of before) own-more

  pub pending-build : pending_read others ≡ pending_read before → length (edges_read others) ≡ count
      → pending_read others ++ pending_at (length (edges_read others)) e.was_joined (dyndep_of others other)
      ≡ pending_read before ++ pending_at count e.was_joined (dyndep_of before own)
  pending-build rest same =
      ap (λ ps. ps ++ pending_at (length (edges_read others)) e.was_joined (dyndep_of others other)) rest
      ∙ ap (λ n. pending_read before ++ pending_at n e.was_joined (dyndep_of others other)) same
      ∙ ap (λ f. pending_read before ++ pending_at count e.was_joined f) dyndep-build

-- ---- all statements

-- inputs bind nothing
more-binds : (d : Option Discovered) (paths : List (List ℕ))
    → binds_restat (and_inputs d paths) ≡ binds_restat d
more-binds d [] = refl
more-binds None (path ∷ paths) = refl
more-binds (Some earlier) (path ∷ paths) = or-false earlier.restat
  where
    or-false : (b : Bool) → (b || false) ≡ b
    or-false true = refl
    or-false false = refl

module _ (named : ℕ → List (List ℕ)) where
  -- one more statement, by its kind
  same-item : (e : ReadStatement) (before : List ReadStatement) (item : StatementModel)
      → AllZip SameEdge (edges_read before) (edges_read (with_inputs_named named before))
      → AllZip SameEdge (edges_read (record e { item = item } ∷ before))
      (edges_read (with_inputs_named named (record e { item = item } ∷ before)))
  unfolding edges_read with_inputs_named
  same-item e before (BuildModel outputs rule inputs lines) rest =
      same-build named e before outputs rule inputs lines rest
  same-item e before (BindingModel bound word) rest = rest
  same-item e before (RuleModel name lines) rest = rest
  same-item e before (PoolModel name lines) rest = rest
  same-item e before (DefaultModel words) rest = rest
  same-item e before (IncludeModel word) rest = rest
  same-item e before (SubninjaModel word) rest = rest

  pub same-edges : (entries : List ReadStatement)
      → AllZip SameEdge (edges_read entries) (edges_read (with_inputs_named named entries))
  unfolding edges_read with_inputs_named
  same-edges [] = tt
  same-edges (e ∷ before) = same-item e before e.item (same-edges before)

  pub count-named : (entries : List ReadStatement)
      → length (edges_read (with_inputs_named named entries)) ≡ length (edges_read entries)
  count-named entries = count-same (edges_read entries) (edges_read (with_inputs_named named entries))
      (same-edges entries)

  paths-item : (e : ReadStatement) (before : List ReadStatement) (item : StatementModel)
      → paths_of_edges (edges_read (with_inputs_named named before))
      ≡ with_inputs_added named 0 (paths_of_edges (edges_read before))
      → paths_of_edges (edges_read (with_inputs_named named (record e { item = item } ∷ before)))
      ≡ with_inputs_added named 0 (paths_of_edges (edges_read (record e { item = item } ∷ before)))
  unfolding edges_read with_inputs_named
  paths-item e before (BuildModel outputs rule inputs lines) rest =
      paths-build named e before outputs rule inputs lines rest
  paths-item e before (BindingModel bound word) rest = rest
  paths-item e before (RuleModel name lines) rest = rest
  paths-item e before (PoolModel name lines) rest = rest
  paths-item e before (DefaultModel words) rest = rest
  paths-item e before (IncludeModel word) rest = rest
  paths-item e before (SubninjaModel word) rest = rest

  pub paths-named : (entries : List ReadStatement)
      → paths_of_edges (edges_read (with_inputs_named named entries))
      ≡ with_inputs_added named 0 (paths_of_edges (edges_read entries))
  unfolding edges_read with_inputs_named
  paths-named [] = refl
  paths-named (e ∷ before) = paths-item e before e.item (paths-named before)

  pending-item : (e : ReadStatement) (before : List ReadStatement) (item : StatementModel)
      → pending_read (with_inputs_named named before) ≡ pending_read before
      → pending_read (with_inputs_named named (record e { item = item } ∷ before))
      ≡ pending_read (record e { item = item } ∷ before)
  unfolding pending_read with_inputs_named
  pending-item e before (BuildModel outputs rule inputs lines) rest =
      pending-build named e before outputs rule inputs lines rest (count-named before)
  pending-item e before (BindingModel bound word) rest = rest
  pending-item e before (RuleModel name lines) rest = rest
  pending-item e before (PoolModel name lines) rest = rest
  pending-item e before (DefaultModel words) rest = rest
  pending-item e before (IncludeModel word) rest = rest
  pending-item e before (SubninjaModel word) rest = rest

  pub pending-named : (entries : List ReadStatement)
      → pending_read (with_inputs_named named entries) ≡ pending_read entries
  unfolding pending_read with_inputs_named
  pending-named [] = refl
  pending-named (e ∷ before) = pending-item e before e.item (pending-named before)

  assigned-item : (e : ReadStatement) (before : List ReadStatement) (item : StatementModel)
      → assigned_read (with_inputs_named named before) ≡ assigned_read before
      → assigned_read (with_inputs_named named (record e { item = item } ∷ before))
      ≡ assigned_read (record e { item = item } ∷ before)
  unfolding assigned_read with_inputs_named
  assigned-item e before (BuildModel outputs rule inputs lines) rest =
      ap (λ others. others ++ assigned_of (with_inputs_named named before)
      (edge_of_build (more-build named e before outputs rule inputs lines)
      (with_inputs_named named before) outputs rule inputs lines) ∷ []) rest
      ∙ ap (λ a. assigned_read before ++ a ∷ []) (assigned-build named e before outputs rule inputs lines)
  assigned-item e before (BindingModel bound word) rest = rest
  assigned-item e before (RuleModel name lines) rest = rest
  assigned-item e before (PoolModel name lines) rest = rest
  assigned-item e before (DefaultModel words) rest = rest
  assigned-item e before (IncludeModel word) rest = rest
  assigned-item e before (SubninjaModel word) rest = rest

  pub assigned-named : (entries : List ReadStatement)
      → assigned_read (with_inputs_named named entries) ≡ assigned_read entries
  unfolding assigned_read with_inputs_named
  assigned-named [] = refl
  assigned-named (e ∷ before) = assigned-item e before e.item (assigned-named before)

  restats-item : (e : ReadStatement) (before : List ReadStatement) (item : StatementModel)
      → restats_read (with_inputs_named named before) ≡ restats_read before
      → restats_read (with_inputs_named named (record e { item = item } ∷ before))
      ≡ restats_read (record e { item = item } ∷ before)
  unfolding edges_read restats_read with_inputs_named
  restats-item e before (BuildModel outputs rule inputs lines) rest =
      ap (λ rs. rs ++ binds_restat (and_inputs e.discovered (named (length (edges_read before)))) ∷ []) rest
      ∙ ap (λ r. restats_read before ++ r ∷ []) (more-binds e.discovered (named (length (edges_read before))))
  restats-item e before (BindingModel bound word) rest = rest
  restats-item e before (RuleModel name lines) rest = rest
  restats-item e before (PoolModel name lines) rest = rest
  restats-item e before (DefaultModel words) rest = rest
  restats-item e before (IncludeModel word) rest = rest
  restats-item e before (SubninjaModel word) rest = rest

  pub restats-named : (entries : List ReadStatement)
      → restats_read (with_inputs_named named entries) ≡ restats_read entries
  unfolding restats_read with_inputs_named
  restats-named [] = refl
  restats-named (e ∷ before) = restats-item e before e.item (restats-named before)

  -- A property of each edge, whatever its implicit files are, stays true.
  pub all_edges-named : (P : EdgeModel → Type 0)
      → ((e : EdgeModel) (outs ins : List (List ℕ)) → P e
      → P (record e { paths = record e.paths { implicit_outputs = outs; implicit_inputs = ins } }))
      → (entries : List ReadStatement) → AllByRecursion P (edges_read entries)
      → AllByRecursion P (edges_read (with_inputs_named named entries))
  all_edges-named P kept entries = all-same P kept (edges_read entries)
      (edges_read (with_inputs_named named entries)) (same-edges entries)

  pub details-named : (entries : List ReadStatement)
      → map detail_of (edges_read (with_inputs_named named entries)) ≡ map detail_of (edges_read entries)
  details-named entries = map-same detail_of (λ e outs ins. refl) (edges_read entries)
      (edges_read (with_inputs_named named entries)) (same-edges entries)

  -- a value with the edges and the inputs named for them, and all else that was held
  pub built-named : (built new : BuiltModel) (entries : List ReadStatement) → IsBuiltOf built entries
      → new.graph.edges ≡ with_inputs_added named 0 built.graph.edges
      → new ≡ record built { graph = new.graph } → IsBuiltOf new (with_inputs_named named entries)
  built-named built new entries is paths same =
      subst (λ (b : BuiltModel). IsBuiltOf b (with_inputs_named named entries)) (sym same) (record {
        paths = paths ∙ ap (with_inputs_added named 0) is.paths ∙ sym (paths-named entries);
        details = is.details ∙ sym (details-named entries);
        blocks = λ number name. is.blocks number name
            ∙ sym (block-same number name (edges_read entries) (edges_read (with_inputs_named named entries))
            (same-edges entries));
        block_names = λ number. is.block_names number
            ∙ sym (ap (λ all. slice_index_or all number [])
            (map-same (λ (e : EdgeModel). e.block_names) (λ e outs ins. refl) (edges_read entries)
            (edges_read (with_inputs_named named entries)) (same-edges entries)));
        defaults = is.defaults ∙ sym (defaults_read-same entries (with_inputs_named named entries)
            (as_read-named named entries));
        pending = is.pending ∙ sym (pending-named entries);
        assigned = is.assigned ∙ sym (assigned-named entries);
        restats = is.restats ∙ sym (restats-named entries);
      })

pub named_inputs : NamedInputsAreAdded
named_inputs named entries = record {
  edges = paths-named named entries;
  pending =
      pending-named named entries;
}
