-- The fields for no statement, and for one more statement.
use Rattle.std.proofs.Common.{◌≡◌, ◌⊎◌, inl, inr, take, ℕ, ◌+◌, ◌<◌, ◌≤◌, ◌==◌, Bool, true, false, true≢false}
use Rattle.std.proofs.Common.{if◌then◌else◌, List, [], ◌∷◌, ◌++◌, length, get_or, Option, Some, None, is_some}
use Rattle.std.proofs.Common.{unwrap_or, Result, Ok, Err, OnOk, OnErr, IsErrAnd, map, slice_get, refl, sym}
use Rattle.std.proofs.Common.{ap, subst, ◌∙◌, arith, ◌≢◌, IfSome}
use Rattle.std.specs.List.{AllByRecursion}
use Rattle.std.specs.Option.{option_or}
use Rattle.std.proofs.lemmas.List.{append_assoc, append-nil, length-append, length-map, get_or_past}
use Rattle.std.proofs.lemmas.List.{map-append, map-id, take_more}
use Rattle.std.proofs.lemmas.Simd.{map-map}
use Rattle.std.proofs.lemmas.Bool.{cases_lt}
use Rattle.std.proofs.lemmas.Bool.Decides.{eqb_tells}
use Rattle.std.proofs.Math.Seq.{get_or-append_seam}
use Rattle.std.proofs.lemmas.Option.{slice_get_past, slice_get-get_or, slice_get_within}
use Rattle.std.proofs.lemmas.Option.{get_or_from_slice_get}
use Rattle.std.proofs.Math.ListN.{get_or-append}
use Rattle.nj_text.specs.declared.word.Word.{Word}
use Rattle.nj_text.specs.Words.{WordModel, word_model}
use Rattle.nj_manifest.specs.LineSteps.{NameModel}
use Rattle.nj_manifest.specs.Contents.{words_model}
use Rattle.nj_manifest.specs.Statements.{LineModel, OutputsModel, InputsModel, StatementModel, BindingModel}
use Rattle.nj_manifest.specs.Statements.{RuleModel, PoolModel, BuildModel, DefaultModel, IncludeModel}
use Rattle.nj_manifest.specs.Statements.{SubninjaModel}
use Rattle.nj_scope.specs.Rules.{line_kept}
use Rattle.nj_scope.specs.Readings.{IsPrefix}
use Rattle.nj_scope.specs.ReadingList.{ReadStatement, scope_of, value_after, rules_read}
use Rattle.nj_edge_env.specs.Blocks.{BlocksModel, bound_in, names_in}
use Rattle.nj_names.specs.declared.files.FileNo.{FileNo}
use Rattle.nj_edges.specs.declared.edges.EdgeNo.{EdgeNo}
use Rattle.nj_edges.specs.EdgeTables.{EdgeTable, no_files}
use Rattle.nj_edges.specs.Inside.EdgesHeld.{AreNumbers, paths_at}
use Rattle.nj_edges.proofs.EdgeLemmas.{all-append, all-of, all-push}
use Rattle.nj_edges.proofs.GraphLemmas.{files-numbers}
use Rattle.nj_names.specs.Files.{AreFiles, path_at}
use Rattle.nj_faults.specs.declared.fault.GraphFault.{GraphFault}
use Rattle.nj_faults.specs.Faults.{IsFault}
use Rattle.nj_statements.specs.EdgeList.{AssignedModel, Values, Block, EdgeModel, build_block, path_given}
use Rattle.nj_statements.specs.EdgeList.{paths_given, edge_of_build, edges_read, defaults_read, dyndep_of}
use Rattle.nj_statements.specs.EdgeList.{pending_at, pending_read, block_at, block_names_at, names_bound}
use Rattle.nj_statements.specs.EdgeList.{block_of_edge, assigned_of, assigned_read, restats_read}
use Rattle.nj_statements.specs.EdgeList.{paths_of_edges}
use Rattle.nj_statements.specs.declared.edge_record.Detail.{Detail}
use Rattle.nj_statements.specs.declared.records.DyndepEdge.{DyndepEdge}
use Rattle.nj_statements.specs.Built.{detail_of}
use Rattle.nj_statements.specs.Records.{IsNumbered, RecordsModel, assigned_named, detail_named, numbered}
use Rattle.nj_statements.specs.Records.{numbered_at}
use Rattle.nj_names.specs.NameTables.{name_at}
use Rattle.nj_statements.specs.Records.{pending_named, spot_of}
use Rattle.nj_statements.specs.Answers.{AddsNothing, BuildingModel, HasEdges, HasReferences, KeepsRead}
use Rattle.nj_statements.specs.Answers.{ReadsStatement}
use Rattle.nj_statements.specs.Inside.EdgeSteps.{IsFileGiven, with_dyndep, AddsEdge, AddsTargets}
use Rattle.nj_edge_env.specs.ReferencesHeld.{ReferringKeyModel}
use Rattle.nj_statements.proofs.Lists.{get-longer}
use Rattle.nj_statements.proofs.RecordLemmas.{all-assigned-same, assigned-more, details-same, files-more}
use Rattle.nj_statements.proofs.RecordLemmas.{names-more, paths-same, pending-more, pending-same}
use Rattle.nj_statements.proofs.ReferenceLemmas.{references-none, references-longer}

-- there are as many records as edges
pub details-count : (held : BuildingModel) (before : List ReadStatement) → HasEdges held before
    → length held.records.details ≡ length (edges_read before)
details-count held before has = has.fits.as_many ∙ ap length has.built.paths
    ∙ length-map (edges_read before) (λ (e : EdgeModel). e.paths)

pub has-none : (held : BuildingModel) → held.table ≡ record { files = []; edges = []; «open» = no_files }
    → ((edge : ℕ) (name : List ℕ) → bound_in held.records.blocks edge name ≡ None)
    → ((edge : ℕ) → names_in held.records.blocks edge ≡ []) → held.records.details ≡ []
    → held.records.defaults ≡ [] → held.records.dyndeps ≡ [] → held.references ≡ [] → HasEdges held []
unfolding edges_read defaults_read pending_read assigned_read restats_read
has-none held table blocks block_names details defaults dyndeps references = record {
  none_open = ap (λ t. t.«open») table;
  fits = record {
    as_many = ap length details ∙ sym (ap (λ t. length t.edges) table);
    names_known = subst (AllByRecursion (λ (d : Detail). d.file < length names)) (sym details) tt;
    assigned_known = subst (AllByRecursion
        (λ (d : Detail). IsNumbered names d.pool × IsNumbered names d.dyndep))
        (sym details) tt;
    defaults_known = subst (AreNumbers (length held.table.files)) (sym defaults) tt;
    files_known = subst (AllByRecursion (λ (p : DyndepEdge). p.file.0 < length held.table.files))
        (sym dyndeps)
        tt;
    edges_known = subst (AllByRecursion (λ (p : DyndepEdge). p.edge.0 < length held.table.edges))
        (sym dyndeps)
        tt;
  };
  built = record {
    paths = ap (λ t. t.edges) table;
    details = ap (map (detail_named names)) details;
    blocks = blocks;
    block_names = block_names;
    defaults = ap (paths_at held.table.files) defaults;
    pending = ap (map (pending_named held.table.files)) dyndeps;
    assigned = ap (map (assigned_named names)) details;
    restats = ap (map (λ (d : Detail). d.restat)) details;
  };
  references = subst (λ kept. HasReferences kept (rules_read [])) (sym references)
      (references-none (rules_read []));
}
  where
    names : List (List ℕ)
    names = held.records.names

pub on-ok : {X Y P Q : Type 0} (r : Result X Y) → OnOk r P → (P → Q) → OnOk r Q
on-ok (Ok x) h then_so = then_so h
on-ok (Err e) h then_so = tt

pub on-err : {X Y P : Type 0} (r : Result X Y) → P → OnErr r P
on-err (Ok x) p = tt
on-err (Err e) p = p

-- no edge is added after a fault of its statement, where room was made for it
pub refuses : {X Y : Type 0} (r : Result X Y) (old b : BuildingModel) → old ≡ b
    → (table : EdgeTable) (blocks : BlocksModel) (names : List (List ℕ)) (details : List Detail)
    (dyndeps : List DyndepEdge) (references : List (Option (List ReferringKeyModel)))
    → KeepsRead old.table table → IsPrefix old.records.names names → details ≡ old.records.details
    → dyndeps ≡ old.records.dyndeps
    → ((number : ℕ) (name : List ℕ) → number < length old.records.details
    → bound_in blocks number name ≡ bound_in old.records.blocks number name)
    → ((number : ℕ) → number < length old.records.details
    → names_in blocks number ≡ names_in old.records.blocks number)
    → OnErr r (AddsNothing b (record {
      table = table;
      records = record {
        blocks = blocks;
        names = names;
        details = details;
        defaults = old.records.defaults;
        dyndeps = dyndeps;
      };
      references = references;
    }))
refuses r old b is table blocks names details dyndeps references keeps grows same unbound bound named =
    on-err r (subst (λ x. AddsNothing x (record {
      table = table;
      records = record {
        blocks = blocks;
        names = names;
        details = details;
        defaults = old.records.defaults;
        dyndeps = dyndeps;
      };
      references = references;
    })) is (record {
      edges = keeps;
      blocks = bound;
      block_names = named;
      names = grows;
      details = same;
      defaults = refl;
      dyndeps = unbound;
    }))

pub reads-err : (after : BuildingModel) (expected : Option GraphFault) (e : ReadStatement)
    (before : List ReadStatement) (r : Result (Unit {0}) GraphFault) (f : GraphFault)
    → IsErrAnd r (λ y. y ≡ f) → IsFault expected f → ReadsStatement after expected e before r
reads-err after expected e before (Err y) f is h = subst (IsFault expected) (sym is) h
reads-err after expected e before (Ok x) f is h = absurd is

-- ---- lists that grow

pub get-prefix : {X : Type 0} (xs ys : List X) (i : ℕ) (x : X) → IsPrefix xs ys → slice_get xs i ≡ Some x
    → slice_get ys i ≡ Some x
get-prefix xs ys i x (more, is) h = subst (λ zs. slice_get zs i ≡ Some x) (sym is) (get-longer xs more i x h)

-- files have the paths of their numbers
files-paths : (files : List (List ℕ)) (ns : List FileNo) (paths : List (List ℕ)) → AreFiles files ns paths
    → paths_at files ns ≡ paths
files-paths files ns paths are =
    sym (map-map (λ (o : Option (List ℕ)). unwrap_or o []) (λ (f : FileNo). slice_get files f.0) ns)
    ∙ ap (map (λ (o : Option (List ℕ)). unwrap_or o [])) are
    ∙ map-map (λ (o : Option (List ℕ)). unwrap_or o []) Some paths ∙ map-id paths

files-append : (files : List (List ℕ)) (ns ms : List FileNo) (ps qs : List (List ℕ)) → AreFiles files ns ps
    → AreFiles files ms qs → AreFiles files (ns ++ ms) (ps ++ qs)
files-append files ns ms ps qs are others =
    map-append (λ (file : FileNo). slice_get files file.0) ns ms
    ∙ ap (λ os. os ++ map (λ (file : FileNo). slice_get files file.0) ms) are
    ∙ ap (λ os. map Some ps ++ os) others ∙ sym (map-append Some ps qs)

-- ---- a default statement

-- the file that one more word names
pub targets-turn : (values : Values) (files : List (List ℕ)) (before held new : List FileNo) (file : FileNo)
    (words : List Word) (i : ℕ) (word : Word) → i < length words → word ≡ get_or words i word
    → AddsTargets files before held (paths_given values (words_model (take i words)))
    → new ≡ held ++ file ∷ [] → slice_get files file.0 ≡ Some (path_given values (word_model word))
    → AddsTargets files before new (paths_given values (words_model (take (i + 1) words)))
targets-turn values files before held new file words i word below at adds is there = record {
  added = adds.added ++ file ∷ [];
  after_is = is ∙ ap (λ fs. fs ++ file ∷ []) adds.after_is ∙ append_assoc before adds.added (file ∷ []);
  are = subst (AreFiles files (adds.added ++ file ∷ [])) (sym more)
      (files-append files adds.added (file ∷ []) (meant (take i words))
      (path_given values (word_model word) ∷ []) adds.are (ap (λ o. o ∷ []) there));
}
  where
    meant : List Word → List (List ℕ)
    meant ws = paths_given values (words_model ws)

    more : meant (take (i + 1) words) ≡ meant (take i words) ++ path_given values (word_model word) ∷ []
    more =
        ap meant (take_more words i word below ∙ ap (λ w. take i words ++ w ∷ []) (sym at))
        ∙ ap (map (path_given values)) (map-append word_model (take i words) (word ∷ []))
        ∙ map-append (path_given values) (words_model (take i words)) (word_model word ∷ [])

pub has-default : (old : BuildingModel) (targets : List FileNo) (e : ReadStatement)
    (before : List ReadStatement) (words : List WordModel) → HasEdges old before
    → AddsTargets old.table.files old.records.defaults targets
    (paths_given (value_after before (scope_of e)) words)
    → HasEdges (record old { records = record old.records { defaults = targets } })
    (record e { item = DefaultModel words } ∷ before)
unfolding edges_read defaults_read pending_read assigned_read restats_read
has-default old targets e before words has adds = record {
  none_open = has.none_open;
  fits = record {
    as_many = has.fits.as_many;
    names_known = has.fits.names_known;
    assigned_known = has.fits.assigned_known;
    files_known = has.fits.files_known;
    edges_known = has.fits.edges_known;
    defaults_known = subst (AreNumbers (length files)) (sym adds.after_is)
        (all-append (λ (f : FileNo). f.0 < length files) old.records.defaults adds.added
        has.fits.defaults_known (files-numbers files adds.added paths adds.are));
  };
  built = record {
    paths = has.built.paths;
    details = has.built.details;
    blocks = has.built.blocks;
    block_names = has.built.block_names;
    pending = has.built.pending;
    assigned = has.built.assigned;
    restats = has.built.restats;
    defaults = ap (paths_at files) adds.after_is
        ∙ map-append (path_at files) old.records.defaults adds.added
        ∙ ap (λ ps. ps ++ paths_at files adds.added) has.built.defaults
        ∙ ap (λ ps. defaults_read before ++ ps) (files-paths files adds.added paths adds.are);
  };
  references = has.references;
}
  where
    files : List (List ℕ)
    files = old.table.files

    paths : List (List ℕ)
    paths = paths_given (value_after before (scope_of e)) words

-- ---- a build statement

-- the detail is that of the edge, with this assignment, before a dyndep file is joined to it
pub record IsRecordOf (names : List (List ℕ)) (d : Detail) (e : EdgeModel) (a : AssignedModel) : Type 0 where
  pub file : slice_get names d.file ≡ Some e.file
  pub spot : spot_of d ≡ e.spot
  pub scope : d.scope ≡ e.scope
  pub rule : d.rule ≡ e.rule
  pub pool : slice_get (numbered names) d.pool ≡ Some a.pool
  pub dyndep : slice_get (numbered names) d.dyndep ≡ Some a.dyndep
  pub restat : d.restat ≡ false

detail-is : (names : List (List ℕ)) (d : Detail) (e : EdgeModel) (a : AssignedModel) → IsRecordOf names d e a
    → detail_named names d ≡ detail_of e
detail-is names d e a is =
    let file : name_at names d.file ≡ e.file = ap (λ o. unwrap_or o []) is.file in
    let spot = is.spot in
    let scope = is.scope in
    let rule = is.rule in
    cc

assigned-is : (names : List (List ℕ)) (d : Detail) (e : EdgeModel) (a : AssignedModel)
    → IsRecordOf names d e a → assigned_named names d ≡ a
assigned-is names d e a is =
    ap (λ o. record { pool = o; dyndep = numbered_at names d.dyndep })
    (get_or_from_slice_get (numbered names) d.pool a.pool None is.pool)
    ∙ ap (λ o. record { pool = a.pool; dyndep = o })
    (get_or_from_slice_get (numbered names) d.dyndep a.dyndep None is.dyndep)

-- the blocks of one more edge
abbrev bound-by : Option EdgeModel → (name : List ℕ) → Option (List ℕ)
bound-by o name = block_of_edge o name

block-more : (edges : List EdgeModel) (e : EdgeModel) (n : ℕ) (name : List ℕ)
    → (if n == length edges then option_or (e.block name) (block_at edges n name) else block_at edges n name)
    ≡ block_at (edges ++ e ∷ []) n name
block-more edges e n name = by (eqb_tells n (length edges)) (cases_lt n (length edges))
  where
    whole : length (edges ++ e ∷ []) ≡ length edges + 1
    whole = length-append edges (e ∷ [])

    with-none : (o : Option (List ℕ)) → option_or o None ≡ o
    with-none (Some x) = refl
    with-none None = refl

    by : ((n == length edges) ≡ true × (n ≡ length edges))
        ⊎ ((n == length edges) ≡ false × (n ≢ length edges)) → (n < length edges) ⊎ (length edges ≤ n)
        → (if n == length edges then option_or (e.block name) (block_at edges n name) else block_at edges n
        name) ≡ block_at (edges ++ e ∷ []) n name
    by (inl (same, is)) h =
        ap (λ b. if b then option_or (e.block name) (block_at edges n name) else block_at edges n name) same
        ∙ ap (λ o. option_or (e.block name) (bound-by o name)) (slice_get_past edges n (omega (arith, is)))
        ∙ with-none (e.block name)
        ∙ ap (λ o. bound-by o name) (sym (slice_get-get_or (edges ++ e ∷ []) n e (omega (arith, is, whole))
        ∙ ap Some (ap (λ m. get_or (edges ++ e ∷ []) m e) is ∙ get_or-append_seam edges e [] e)))
    by (inr (other, apart)) (inl below) =
        ap (λ b. if b then option_or (e.block name) (block_at edges n name) else block_at edges n name) other
        ∙ ap (λ o. bound-by o name) (slice_get-get_or edges n e below
        ∙ ap Some (sym (get_or-append edges (e ∷ []) e n below))
        ∙ sym (slice_get-get_or (edges ++ e ∷ []) n e (omega (arith, below, whole))))
    by (inr (other, apart)) (inr above) =
        ap (λ b. if b then option_or (e.block name) (block_at edges n name) else block_at edges n name) other
        ∙ ap (λ o. bound-by o name) (slice_get_past edges n above
        ∙ sym (slice_get_past (edges ++ e ∷ []) n (omega (arith, above, apart, whole))))

-- the names of one more block
names-next : (edges : List EdgeModel) (e : EdgeModel) (n : ℕ) → (new old : List (List ℕ))
    → old ≡ block_names_at edges n
    → (n ≡ length edges → new ≡ e.block_names) → ((n == length edges) ≡ false → new ≡ old)
    → new ≡ block_names_at (edges ++ e ∷ []) n
names-next edges e n new old was here others = by (eqb_tells n (length edges)) (cases_lt n (length edges))
  where
    all : List (List (List ℕ))
    all = map (λ (x : EdgeModel). x.block_names) edges

    one : List (List (List ℕ))
    one = e.block_names ∷ []

    count : length all ≡ length edges
    count = length-map edges (λ (x : EdgeModel). x.block_names)

    whole : length (all ++ one) ≡ length all + 1
    whole = length-append all one

    appended : block_names_at (edges ++ e ∷ []) n ≡ get_or (all ++ one) n []
    appended = ap (λ xs. get_or xs n []) (map-append (λ (x : EdgeModel). x.block_names) edges (e ∷ []))

    by : ((n == length edges) ≡ true × (n ≡ length edges))
        ⊎ ((n == length edges) ≡ false × (n ≢ length edges)) → (n < length edges) ⊎ (length edges ≤ n)
        → new ≡ block_names_at (edges ++ e ∷ []) n
    by (inl (same, is)) h =
        here is ∙ sym (ap (λ m. get_or (all ++ one) m []) (is ∙ sym count)
        ∙ get_or-append_seam all e.block_names [] []) ∙ sym appended
    by (inr (other, apart)) (inl below) = others other ∙ was
        ∙ sym (get_or-append all one [] n (omega (arith, below, count))) ∙ sym appended
    by (inr (other, apart)) (inr above) =
        others other ∙ was ∙ get_or_past all n [] (omega (arith, above, count))
        ∙ sym (get_or_past (all ++ one) n [] (omega (arith, above, apart, whole, count))) ∙ sym appended

-- the pending edges with one more edge
dyndep-all : (P : DyndepEdge → Type 0) (edge : EdgeNo) (file : Option FileNo) (held : List DyndepEdge)
    → AllByRecursion P held → IfSome file (λ f. P (record { edge = edge; file = f }))
    → AllByRecursion P (with_dyndep edge file held)
dyndep-all P edge None held all one = all
dyndep-all P edge (Some file) held all one = all-push P held (record { edge = edge; file = file }) all one

file-known : (files : List (List ℕ)) (number : Option FileNo) (file : Option (List ℕ))
    → IsFileGiven files number file → IfSome number (λ f. f.0 < length files)
file-known files None file meant = tt
file-known files (Some f) None meant = absurd (true≢false (ap is_some meant))
file-known files (Some f) (Some path) meant =
    slice_get_within files f.0 path (ap (λ (o : Option (Option (List ℕ))). unwrap_or o None) meant)

any-known : {P : Type 0} (number : Option FileNo) → P → IfSome number (λ f. P)
any-known None p = tt
any-known (Some f) p = p

pending-next : (files : List (List ℕ)) (held : List DyndepEdge) (edge : EdgeNo) (number : Option FileNo)
    (file : Option (List ℕ)) → IsFileGiven files number file
    → map (pending_named files) (with_dyndep edge number held)
    ≡ map (pending_named files) held ++ pending_at edge.0 false file
pending-next files held edge None None meant = sym (append-nil (map (pending_named files) held))
pending-next files held edge None (Some path) meant = absurd (true≢false (sym (ap is_some meant)))
pending-next files held edge (Some f) None meant = absurd (true≢false (ap is_some meant))
pending-next files held edge (Some f) (Some path) meant =
    map-append (pending_named files) held (record { edge = edge; file = f } ∷ [])
    ∙ ap (λ p. map (pending_named files) held ++ record { edge = edge.0; file = p } ∷ [])
    (ap (λ (o : Option (Option (List ℕ))). unwrap_or (unwrap_or o None) []) meant)

-- a statement to which nothing was joined
abbrev fresh : ReadStatement → ReadStatement
fresh e = record e { was_joined = false; discovered = None }

pub has-build : (old new : BuildingModel) (e : ReadStatement) (before : List ReadStatement)
    (outputs : OutputsModel) (rule : NameModel) (inputs : InputsModel) (lines : List LineModel)
    (d : Detail) (at : EdgeNo) (dyndep : Option FileNo) → HasEdges old before
    → AddsEdge old.table new.table (edge_of_build (fresh e) before outputs rule inputs lines).paths
    → ((n : ℕ) (name : List ℕ) → bound_in new.records.blocks n name
    ≡ (if n == length old.records.details then option_or (build_block e before lines name)
    (bound_in old.records.blocks n name) else bound_in old.records.blocks n name))
    → ((n : ℕ) → n ≡ length old.records.details → names_in new.records.blocks n ≡ names_bound lines)
    → ((n : ℕ) → (n == length old.records.details) ≡ false
    → names_in new.records.blocks n ≡ names_in old.records.blocks n)
    → IsPrefix old.records.names new.records.names
    → new.records.details ≡ old.records.details ++ d ∷ []
    → IsRecordOf new.records.names d (edge_of_build (fresh e) before outputs rule inputs lines)
    (assigned_of before (edge_of_build (fresh e) before outputs rule inputs lines))
    → new.records.defaults ≡ old.records.defaults
    → at.0 ≡ length old.records.details
    → new.records.dyndeps ≡ with_dyndep at dyndep old.records.dyndeps
    → IsFileGiven new.table.files dyndep (dyndep_of before
    (edge_of_build (fresh e) before outputs rule inputs lines))
    → HasReferences new.references (rules_read before)
    → HasEdges new (record e {
      item = BuildModel outputs rule inputs lines;
      was_joined = false;
      discovered =
          None;
    } ∷ before)
unfolding edges_read defaults_read pending_read assigned_read restats_read
has-build old new e before outputs rule inputs lines d at dyndep has adds blocks own_names other_names names
    details is defaults last dyndeps meant references = record {
      none_open = adds.none_open;
      fits = record {
        as_many = ap length details ∙ length-append was.details (d ∷ []) ∙ ap (λ n. n + 1) has.fits.as_many
            ∙ sym edges;
        names_known = subst (AllByRecursion (λ (x : Detail). x.file < length strings)) (sym details)
            (all-push (λ (x : Detail). x.file < length strings) was.details d
            (names-more was.names strings names was.details has.fits.names_known)
            (slice_get_within strings d.file edge.file is.file));
        assigned_known = subst (AllByRecursion AreNumbered) (sym details)
            (all-push AreNumbered was.details d
            (assigned-more was.names strings names was.details has.fits.assigned_known) (
              slice_get_within (numbered strings) d.pool (assigned_of before edge).pool is.pool,
              slice_get_within (numbered strings) d.dyndep (assigned_of before edge).dyndep is.dyndep,
            ));
        defaults_known = subst (AreNumbers (length files)) (sym defaults)
            (files-more old.table.files files adds.files was.defaults has.fits.defaults_known);
        files_known = subst (AllByRecursion (λ (p : DyndepEdge). p.file.0 < length files)) (sym dyndeps)
            (dyndep-all (λ (p : DyndepEdge). p.file.0 < length files) at dyndep was.dyndeps
            (pending-more old.table.files files adds.files was.dyndeps has.fits.files_known)
            (file-known files dyndep (dyndep_of before edge) meant));
        edges_known = subst (AllByRecursion (λ (p : DyndepEdge). p.edge.0 < length new.table.edges))
            (sym dyndeps) (dyndep-all (λ (p : DyndepEdge). p.edge.0 < length new.table.edges) at dyndep
            was.dyndeps
            (all-of (λ (p : DyndepEdge). p.edge.0 < length old.table.edges)
            (λ (p : DyndepEdge). p.edge.0 < length new.table.edges)
            (λ p below. let count = edges in omega (arith, below, count)) was.dyndeps has.fits.edges_known)
            (any-known dyndep (let count = edges in let many = has.fits.as_many
            in omega (arith, count, many, last))));
      };
      built = record {
        paths = adds.edges ∙ ap (λ es. es ++ edge.paths ∷ []) has.built.paths
            ∙ sym (map-append (λ (x : EdgeModel). x.paths) (edges_read before) (edge ∷ []));
        details =
            ap (map (detail_named strings)) details ∙ map-append (detail_named strings) was.details (d ∷ [])
            ∙ ap (λ xs. xs ++ detail_named strings d ∷ [])
            (details-same was.names strings names was.details has.fits.names_known ∙ has.built.details)
            ∙ ap (λ x. map detail_of (edges_read before) ++ x ∷ [])
            (detail-is strings d edge (assigned_of before edge) is)
            ∙ sym (map-append detail_of (edges_read before) (edge ∷ []));
        blocks = λ n name.
            blocks n name
            ∙ ap (λ count. if n == count then option_or (edge.block name) (bound_in was.blocks n name) else
            bound_in was.blocks n name) count
            ∙ ap (λ o. if n == length (edges_read before) then option_or (edge.block name) o else o)
            (has.built.blocks n name)
            ∙ block-more (edges_read before) edge n name;
        block_names = λ n. names-next (edges_read before) edge n (names_in new.records.blocks n)
            (names_in was.blocks n) (has.built.block_names n) (λ here. own_names n (here ∙ sym count))
            (λ other. other_names n (ap (λ count. n == count) count ∙ other));
        defaults = ap (paths_at files) defaults
            ∙ paths-same old.table.files files adds.files was.defaults has.fits.defaults_known
            ∙ has.built.defaults;
        pending =
            ap (map (pending_named files)) dyndeps
            ∙ pending-next files was.dyndeps at dyndep (dyndep_of before edge) meant
            ∙ ap (λ ps. ps ++ pending_at at.0 false (dyndep_of before edge))
            (pending-same old.table.files files adds.files was.dyndeps has.fits.files_known
            ∙ has.built.pending)
            ∙ ap (λ n. pending_read before ++ pending_at n false (dyndep_of before edge)) (last ∙ count);
        assigned =
            ap (map (assigned_named strings)) details
            ∙ map-append (assigned_named strings) was.details (d ∷ [])
            ∙ ap (λ xs. xs ++ assigned_named strings d ∷ [])
            (all-assigned-same was.names strings names was.details has.fits.assigned_known
            ∙ has.built.assigned)
            ∙ ap (λ x. assigned_read before ++ x ∷ [])
            (assigned-is strings d edge (assigned_of before edge) is);
        restats =
            ap (map (λ (x : Detail). x.restat)) details
            ∙ map-append (λ (x : Detail). x.restat) was.details (d ∷ [])
            ∙ ap (λ rs. rs ++ d.restat ∷ []) has.built.restats
            ∙ ap (λ r. restats_read before ++ r ∷ []) is.restat;
      };
      references = references;
    }
  where
    edge : EdgeModel
    edge = edge_of_build (fresh e) before outputs rule inputs lines

    was : RecordsModel
    was = old.records

    number : ℕ
    number = length was.details

    strings : List (List ℕ)
    strings = new.records.names

    files : List (List ℕ)
    files = new.table.files

    AreNumbered : Detail → Type 0
    AreNumbered x = IsNumbered strings x.pool × IsNumbered strings x.dyndep

    edges : length new.table.edges ≡ length old.table.edges + 1
    edges = ap length adds.edges ∙ length-append old.table.edges (edge.paths ∷ [])

    count : number ≡ length (edges_read before)
    count = details-count old before has

-- the edge that would be read next binds nothing
pub no-block : (held : BuildingModel) (before : List ReadStatement) (edge : ℕ) → HasEdges held before
    → edge ≡ length held.records.details → (name : List ℕ)
    → bound_in held.records.blocks edge name ≡ None
no-block held before edge has is name =
    has.built.blocks edge name ∙ ap (λ o. bound-by o name)
    (slice_get_past (edges_read before) edge (omega (arith, is, details-count held before has)))

pub no-names : (held : BuildingModel) (before : List ReadStatement) (edge : ℕ) → HasEdges held before
    → edge ≡ length held.records.details → names_in held.records.blocks edge ≡ []
no-names held before edge has is = has.built.block_names edge
    ∙ get_or_past (map (λ (x : EdgeModel). x.block_names) (edges_read before)) edge []
    (omega (
      arith,
      is,
      details-count held before has,
      length-map (edges_read before) (λ (x : EdgeModel). x.block_names),
    ))

-- the bindings of the block of the edge that is being read
pub open-block : (old : BuildingModel) (before : List ReadStatement) (block : Block) (new : BlocksModel)
    (edge : ℕ) → HasEdges old before → edge ≡ length old.records.details
    → ((n : ℕ) (name : List ℕ) → bound_in new n name
    ≡ (if n == edge then option_or (block name) (bound_in old.records.blocks n name) else bound_in
    old.records.blocks n name))
    → (name : List ℕ) → bound_in new edge name ≡ block name
open-block old before block new edge has is bound name =
    bound edge name ∙ by (eqb_tells edge edge)
    ∙ ap (option_or (block name)) (no-block old before edge has is name)
    ∙ with-none (block name)
  where
    with-none : (o : Option (List ℕ)) → option_or o None ≡ o
    with-none (Some x) = refl
    with-none None = refl

    by : ((edge == edge) ≡ true × (edge ≡ edge)) ⊎ ((edge == edge) ≡ false × (edge ≢ edge))
        → (if edge == edge then option_or (block name) (bound_in old.records.blocks edge name) else bound_in
        old.records.blocks edge name) ≡ option_or (block name) (bound_in old.records.blocks edge name)
    by (inl (same, h)) = ap (λ b. if b then option_or (block name) (bound_in old.records.blocks edge name)
        else
        bound_in old.records.blocks edge name) same
    by (inr (other, apart)) = absurd (apart refl)

-- ---- any other statement

-- a statement that names files of edges
abbrev pub names_files : StatementModel → Bool
names_files (BuildModel outputs rule inputs lines) = true
names_files (DefaultModel words) = true
names_files item = false

-- statements with the same edges and defaults
same-edges : (held : BuildingModel) (entries before : List ReadStatement) → HasEdges held before
    → edges_read entries ≡ edges_read before → defaults_read entries ≡ defaults_read before
    → pending_read entries ≡ pending_read before → assigned_read entries ≡ assigned_read before
    → restats_read entries ≡ restats_read before → HasReferences held.references (rules_read entries)
    → HasEdges held entries
same-edges held entries before has edges defaults pending assigned restats references = record {
  none_open = has.none_open;
  fits = has.fits;
  built = record {
    paths = has.built.paths ∙ sym (ap paths_of_edges edges);
    details = has.built.details ∙ sym (ap (map detail_of) edges);
    blocks = λ n name. has.built.blocks n name ∙ sym (ap (λ es. block_at es n name) edges);
    block_names = λ n. has.built.block_names n ∙ sym (ap (λ es. block_names_at es n) edges);
    defaults = has.built.defaults ∙ sym defaults;
    pending = has.built.pending ∙ sym pending;
    assigned = has.built.assigned ∙ sym assigned;
    restats = has.built.restats ∙ sym restats;
  };
  references = references;
}

has-item : (held : BuildingModel) (e : ReadStatement) (before : List ReadStatement) (item : StatementModel)
    → names_files item ≡ false → HasEdges held before → HasEdges held (record e { item = item } ∷ before)
unfolding edges_read defaults_read pending_read assigned_read restats_read
has-item held e before (BindingModel bound word) other has =
    same-edges held _ before has refl refl refl refl refl has.references
has-item held e before (RuleModel declared lines) other has =
    same-edges held _ before has refl refl refl refl refl
    (references-longer held.references (rules_read before)
    (record { scope = e.scope; name = declared.name; lines = map line_kept lines } ∷ []) has.references)
has-item held e before (PoolModel declared lines) other has =
    same-edges held _ before has refl refl refl refl refl has.references
has-item held e before (BuildModel outputs rule inputs lines) other has = absurd (true≢false other)
has-item held e before (DefaultModel words) other has = absurd (true≢false other)
has-item held e before (IncludeModel word) other has =
    same-edges held _ before has refl refl refl refl refl has.references
has-item held e before (SubninjaModel word) other has =
    same-edges held _ before has refl refl refl refl refl has.references

-- The fields stay right after a statement that names no files.
pub kept-other : (held : BuildingModel) (e : ReadStatement) (before : List ReadStatement)
    → names_files e.item ≡ false → HasEdges held before → HasEdges held (e ∷ before)
kept-other held e before other has = has-item held e before e.item other has
