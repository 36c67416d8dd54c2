-- A joining reads the dyndep files of edges, and nothing else.
use Rattle.std.proofs.Common.{◌≡◌, inl, inr, ℕ, Bool, true, false, cond, not, ◌&&◌, Option, Some, None}
use Rattle.std.proofs.Common.{is_some, unwrap_or, Result, Ok, Err, List, [], ◌∷◌, ◌++◌, length, bytes_eq}
use Rattle.std.proofs.Common.{refl, sym, ap, subst, ◌∙◌, append-nil, arith, true≢false, IfSome}
use Rattle.std.specs.Prelude.{filter, ⊤}
use Rattle.std.specs.Str.{is_utf8}
use Rattle.std.specs.List.{AllByRecursion, cons_option, filter_map}
use Rattle.std.proofs.lemmas.List.{append_cancel_left, append_assoc, map-append}
use Rattle.nj_manifest.specs.Statements.{StatementModel, BindingModel, RuleModel, PoolModel, BuildModel}
use Rattle.nj_manifest.specs.Statements.{DefaultModel, IncludeModel, SubninjaModel}
use Rattle.nj_scope.specs.Readings.{Reading, paths_of, IsPrefix}
use Rattle.nj_scope.specs.Sources.{IsAsGiven}
use Rattle.nj_scope.specs.ReadingList.{ReadStatement}
use Rattle.nj_edges.specs.Edges.{is_among}
use Rattle.nj_edges.specs.Repeats.{each_once}
use Rattle.nj_edges.proofs.EdgeLemmas.{all-append}
use Rattle.nj_faults.specs.declared.fault.GraphFault.{GraphFault}
use Rattle.nj_statements.specs.EdgeList.{AssignedModel, EdgeModel, Pending, assigned_of, assigned_read}
use Rattle.nj_statements.specs.EdgeList.{dyndep_of, edge_of_build, edges_read, pending_at, pending_read}
use Rattle.nj_statements.specs.Joining.{dyndep_files}
use Rattle.nj_graph.specs.Graph.{IsGraphOf}
use Rattle.nj_graph.specs.Reading.{End, Whole, Refused, Lacking}
use Rattle.nj_graph.specs.Runs.{IsEnd, IsLacking, EndsSo, ReachedModel, paths_with}
use Rattle.nj_graph.specs.Loads.{LoadedModel, LoadedOr}
use Rattle.nj_graph.specs.Joining.{all_joined, continued, file_joined, files_joined, joined_after, path_asked}
use Rattle.nj_graph.specs.Joining.{Joins}
use Rattle.nj_c.specs.SuppliedFiles.{Supplied, supplied_for, supplied_state, wanted_paths, ReadsAsSupplied}
use Rattle.nj_c.specs.Loading.{dyndeps_of, is_lacking}

-- ---- lists

abbrev pub is-nil : {X : Type 0} → List X → Bool
is-nil [] = true
is-nil (x ∷ xs) = false

pub not-nil : {X : Type 0} (x : X) (xs : List X) → x ∷ xs ≡ [] → ⊥
not-nil x xs is = true≢false (sym (ap is-nil is))

all-left : {X : Type 0} (P : X → Type 0) (xs ys : List X) → AllByRecursion P (xs ++ ys) → AllByRecursion P xs
all-left P [] ys all = tt
all-left P (x ∷ xs) ys all = (all.0, all-left P xs ys all.1)

all-right : {X : Type 0} (P : X → Type 0) (xs ys : List X) → AllByRecursion P (xs ++ ys) → AllByRecursion P ys
all-right P [] ys all = all
all-right P (x ∷ xs) ys all = all-right P xs ys all.1

all-filter : {X : Type 0} (P : X → Type 0) (test : X → Bool) (xs : List X) → AllByRecursion P xs
    → AllByRecursion P (filter test xs)
all-filter P test [] all = tt
all-filter {X} P test (x ∷ xs) all = by (test x) (all-filter P test xs all.1)
  where
    by : (b : Bool) → AllByRecursion P (filter test xs)
        → AllByRecursion P (cond b (x ∷ filter test xs) (filter test xs))
    by true others = (all.0, others)
    by false others = others

all-once : {X : Type 0} (P : X → Type 0) (same : X → X → Bool) (xs : List X) → AllByRecursion P xs
    → AllByRecursion P (each_once same xs)
all-once P same [] all = tt
all-once P same (x ∷ xs) all = (
  all.0,
  all-filter P (λ y. not (same y x)) (each_once same xs)
      (all-once P same xs all.1),
)

once-nil : (xs : List (List ℕ)) → each_once bytes_eq xs ≡ [] → xs ≡ []
once-nil [] is = refl
once-nil (x ∷ xs) is = absurd (not-nil x (filter (λ y. not (bytes_eq y x)) (each_once bytes_eq xs)) is)

-- ---- the files that are read

module _ (h : Supplied) where
  -- something was supplied for a path
  abbrev Has : List ℕ → Type 0
  Has path = is_some (supplied_for h path) ≡ true

  -- or it is never read
  abbrev IsGiven : List ℕ → Type 0
  IsGiven path = is_lacking h path ≡ false

  abbrev GivenIfBound : Option (List ℕ) → Type 0
  GivenIfBound None = ⊤
  GivenIfBound (Some path) = IsGiven path

  has-given : (has : Bool) → not has ≡ false → has ≡ true
  has-given true is = refl
  has-given false is = absurd (true≢false is)

  asked-one : (p : Pending) → IsGiven p.file → AllByRecursion Has (path_asked p)
  asked-one p given = by (is_utf8 p.file) given
    where
      by : (text : Bool) → (text && not (is_some (supplied_for h p.file))) ≡ false
          → AllByRecursion Has (cond text (p.file ∷ []) [])
      by true is = (has-given (is_some (supplied_for h p.file)) is, tt)
      by false is = tt

  asked-files : (files : List Reading) (stated : List ReadStatement) (ps : List Pending)
      (joined : List ReadStatement) → AllByRecursion (λ p. IsGiven p.file) ps
      → AllByRecursion Has (files_joined files stated ps joined).paths
  unfolding files_joined
  asked-files files stated [] joined given = tt
  asked-files files stated (p ∷ others) joined given =
      by (file_joined files stated p joined).end (asked-files files stated others next given.1)
    where
      next : List ReadStatement
      next = (file_joined files stated p joined).entries

      by : (end : End) → AllByRecursion Has (files_joined files stated others next).paths
          → AllByRecursion Has (continued end p next (files_joined files stated others)).paths
      by Whole more = all-append Has (path_asked p) (files_joined files stated others next).paths
          (asked-one p given.0) more
      by (Refused fault) more = asked-one p given.0
      by (Lacking path place) more = asked-one p given.0

  asked-all : (files : List Reading) (stated : List ReadStatement)
      → AllByRecursion (λ p. IsGiven p.file) (pending_read stated)
      → AllByRecursion Has (all_joined files stated).paths
  unfolding all_joined
  asked-all files stated given =
      asked-files files stated (dyndep_files (pending_read stated)) stated
      (all-once (λ p. IsGiven p.file) (λ q p. bytes_eq q.file p.file) (pending_read stated) given)

  -- ---- by the files to which edges are bound

  given-at : (edge : ℕ) (was_joined : Bool) (file : Option (List ℕ)) → GivenIfBound file
      → AllByRecursion (λ p. IsGiven p.file) (pending_at edge was_joined file)
  given-at edge true file given = tt
  given-at edge false (Some file) given = (given, tt)
  given-at edge false None given = tt

  abbrev AreGiven : List AssignedModel → Type 0
  AreGiven assigned = AllByRecursion (λ a. GivenIfBound a.dyndep) assigned

  given-item : (e : ReadStatement) (before : List ReadStatement) (item : StatementModel)
      → (AreGiven (assigned_read before) → AllByRecursion (λ p. IsGiven p.file) (pending_read before))
      → AreGiven (assigned_read (record e { item = item } ∷ before))
      → AllByRecursion (λ p. IsGiven p.file) (pending_read (record e { item = item } ∷ before))
  unfolding assigned_read pending_read
  given-item e before (BuildModel outputs rule inputs lines) others given =
      let own : EdgeModel = edge_of_build e before outputs rule inputs lines in
      let P : AssignedModel → Type 0 = λ a. GivenIfBound a.dyndep in
      all-append (λ p. IsGiven p.file) (pending_read before)
      (pending_at (length (edges_read before)) e.was_joined (dyndep_of before own))
      (others (all-left P (assigned_read before) (assigned_of before own ∷ []) given))
      (given-at (length (edges_read before)) e.was_joined (dyndep_of before own)
      (all-right P (assigned_read before) (assigned_of before own ∷ []) given).0)
  given-item e before (BindingModel bound word) others given = others given
  given-item e before (RuleModel name lines) others given = others given
  given-item e before (PoolModel name lines) others given = others given
  given-item e before (DefaultModel words) others given = others given
  given-item e before (IncludeModel word) others given = others given
  given-item e before (SubninjaModel word) others given = others given

  given-pending : (stated : List ReadStatement) → AreGiven (assigned_read stated)
      → AllByRecursion (λ p. IsGiven p.file) (pending_read stated)
  unfolding assigned_read pending_read
  given-pending [] given = tt
  given-pending (e ∷ before) given = given-item e before e.item (given-pending before) given

  none-lacking : (assigned : List AssignedModel)
      → filter (is_lacking h) (filter_map (λ a. a.dyndep) assigned) ≡ [] → AreGiven assigned
  none-lacking [] none = tt
  none-lacking (a ∷ assigned) none = by a.dyndep none (none-lacking assigned)
    where
      others : List (List ℕ)
      others = filter_map (λ (b : AssignedModel). b.dyndep) assigned

      by_test : (path : List ℕ) (b : Bool) → is_lacking h path ≡ b
          → cond b (path ∷ filter (is_lacking h) others) (filter (is_lacking h) others) ≡ []
          → (filter (is_lacking h) others ≡ [] → AreGiven assigned) → IsGiven path × AreGiven assigned
      by_test path true is nothing rest = absurd (not-nil path (filter (is_lacking h) others) nothing)
      by_test path false is nothing rest = (is, rest nothing)

      by : (bound : Option (List ℕ)) → filter (is_lacking h) (cons_option bound others) ≡ []
          → (filter (is_lacking h) others ≡ [] → AreGiven assigned)
          → GivenIfBound bound × AreGiven assigned
      by None nothing rest = (tt, rest nothing)
      by (Some path) nothing rest = by_test path (is_lacking h path) refl nothing rest

  -- ---- so the files that a joining reads were supplied

  module _ (old : List Reading) (stated : List ReadStatement)
      (given : AllByRecursion (λ p. IsGiven p.file) (pending_read stated)) where
    abbrev news : (files : List Reading) → List (List ℕ)
    news files = filter (λ path. not (is_among (paths_of old) path))
        (each_once bytes_eq (all_joined files stated).paths)

    news-given : (files : List Reading) → AllByRecursion Has (news files)
    news-given files =
        all-filter Has (λ path. not (is_among (paths_of old) path))
        (each_once bytes_eq (all_joined files stated).paths)
        (all-once Has bytes_eq (all_joined files stated).paths (asked-all files stated given))

    from-prefix : (rs : List Reading) → IsPrefix (paths_of (old ++ rs))
        (joined_after old stated (old ++ rs)).paths → AllByRecursion Has (paths_of rs)
    from-prefix rs (others, is) =
        let split : paths_of old ++ news (old ++ rs) ≡ paths_of old ++ (paths_of rs ++ others) =
        is ∙ ap (λ ps. ps ++ others) (map-append (λ (r : Reading). r.path) old rs)
        ∙ append_assoc (paths_of old) (paths_of rs) others in
        let same : news (old ++ rs) ≡ paths_of rs ++ others =
        append_cancel_left (paths_of old) (news (old ++ rs)) (paths_of rs ++ others) split in
        all-left Has (paths_of rs) others (subst (AllByRecursion Has) same (news-given (old ++ rs)))

    from-same : (rs : List Reading) → (joined_after old stated (old ++ rs)).paths ≡ paths_of (old ++ rs)
        → AllByRecursion Has (paths_of rs)
    from-same rs is = from-prefix rs ([], is ∙ sym (append-nil (paths_of (old ++ rs))))

    from-end : (rs : List Reading) (before after : Supplied) (fault : GraphFault) (reached : ReachedModel)
        (end : End) → reached.read.end ≡ end
        → IsEnd (supplied_state before) (supplied_state after) end fault
        → (IsLacking end (old ++ rs) → joined_after old stated (old ++ rs) ≡ reached)
        → reached.paths ≡ paths_with end (old ++ rs) → AllByRecursion Has (paths_of rs)
    from-end rs before after fault reached Whole is answered read came = absurd answered
    from-end rs before after fault reached (Refused f) is answered read came =
        from-same rs (ap (λ (r : ReachedModel). r.paths) (read tt) ∙ came)
    from-end rs before after fault reached (Lacking path place) is answered read came = let below =
        answered.1.above (omega arith) in absurd (omega (arith, below))

    ends-given : (rs : List Reading) (before after : Supplied) (fault : GraphFault)
        → EndsSo (supplied_state before) (supplied_state after) (old ++ rs) (joined_after old stated) fault
        → AllByRecursion Has (paths_of rs)
    ends-given rs before after fault ends =
        from-end rs before after fault ends.reached ends.reached.read.end refl ends.answered
        (ends.read (old ++ rs) ([], sym (append-nil (old ++ rs)))) ends.came_to

    reads-given : (rs : List Reading) (before after : Supplied) (result : Result LoadedModel GraphFault)
        → LoadedOr (supplied_state before) (supplied_state after) (old ++ rs) (joined_after old stated) result
        → AllByRecursion Has (paths_of rs)
    reads-given rs before after (Ok loaded) ok = from-same rs ok.whole.came_to
    reads-given rs before after (Err fault) (inl (inl lacks)) =
        from-prefix rs (lacks.came_to (old ++ rs) ([], sym (append-nil (old ++ rs))))
    reads-given rs before after (Err fault) (inl (inr ends)) = ends-given rs before after fault ends
    reads-given rs before after (Err fault) (inr cycle) = from-same rs cycle.whole.came_to

-- ---- of readings

-- each reading is of a path for which something was supplied, and found what was supplied
abbrev AllSupplied : Supplied → List Reading → Type 0
AllSupplied h read = AllByRecursion (λ r. is_some (supplied_for h r.path) ≡ true) read

none-wanted : (h : Supplied) (read : List Reading) → AllSupplied h read
    → filter_map (λ r. cond (is_some (supplied_for h r.path)) None (Some r.path)) read ≡ []
none-wanted h [] are = refl
none-wanted h (r ∷ rs) are =
    let others = filter_map (λ (r : Reading). cond (is_some (supplied_for h r.path)) None (Some r.path)) rs in
    ap (λ b. cons_option (cond b None (Some r.path)) others) are.0 ∙ none-wanted h rs are.1

all-supplied : (h : Supplied) (read : List Reading)
    → filter_map (λ r. cond (is_some (supplied_for h r.path)) None (Some r.path)) read ≡ []
    → AllSupplied h read
all-supplied h [] none = tt
all-supplied h (r ∷ rs) none = by (is_some (supplied_for h r.path)) refl none (all-supplied h rs)
  where
    others : List (List ℕ)
    others = filter_map (λ (r : Reading). cond (is_some (supplied_for h r.path)) None (Some r.path)) rs

    by : (b : Bool) → is_some (supplied_for h r.path) ≡ b
        → cons_option (cond b None (Some r.path)) others ≡ []
        → (others ≡ [] → AllSupplied h rs)
        → (is_some (supplied_for h r.path) ≡ true) × AllSupplied h rs
    by true is nothing rest = (is, rest nothing)
    by false is nothing rest = absurd (not-nil r.path others nothing)

of-paths : (h : Supplied) (read : List Reading)
    → AllByRecursion (λ path. is_some (supplied_for h path) ≡ true) (paths_of read) → AllSupplied h read
of-paths h [] are = tt
of-paths h (r ∷ rs) are = (are.0, of-paths h rs are.1)

module _ (between after : Supplied) (same : (path : List ℕ)
    → supplied_for after path ≡ supplied_for between path)
  where
    supplied-after : (read : List Reading) → AllSupplied between read → AllSupplied after read
    supplied-after [] are = tt
    supplied-after (r ∷ rs) are = (ap is_some (same r.path) ∙ are.0, supplied-after rs are.1)

    found-after : (read : List Reading) → AllByRecursion
        (λ r. r.bytes ≡ unwrap_or (supplied_for between r.path) (Some [])) read
        → AllByRecursion (λ r. r.bytes ≡ unwrap_or (supplied_for after r.path) (Some [])) read
    found-after [] found = tt
    found-after (r ∷ rs) found = (
      found.0 ∙ ap (λ f. unwrap_or f (Some [])) (sym (same r.path)),
      found-after rs found.1,
    )

    as-given : (read : List Reading) → AllSupplied between read
        → AllByRecursion (IsAsGiven (supplied_state between)) read
        → AllByRecursion (λ r. r.bytes ≡ unwrap_or (supplied_for between r.path) (Some [])) read
    as-given [] are found = tt
    as-given (r ∷ rs) are found = (by (supplied_for between r.path) are.0 found.0, as-given rs are.1 found.1)
      where
        by : (f : Option (Option (List ℕ))) → is_some f ≡ true → IfSome f (λ meant. r.bytes ≡ meant)
            → r.bytes ≡ unwrap_or f (Some [])
        by None some is = absurd (true≢false (sym some))
        by (Some meant) some is = is

-- After a joining without lacking files, as before it, all files read were supplied.
module _ (between after : Supplied) (loaded : LoadedModel) (stated : List ReadStatement)
    (is : IsGraphOf loaded.graph stated) where
  module _ (none : wanted_paths between ≡ [])
      (lacking : each_once bytes_eq (filter (is_lacking between) (dyndeps_of loaded.graph)) ≡ [])
      (found : ReadsAsSupplied between)
      (joined : Result LoadedModel GraphFault)
      (joins : Joins stated loaded.files (supplied_state between) (supplied_state after) joined) where
    pub same-files : (path : List ℕ) → supplied_for after path ≡ supplied_for between path
    same-files path = joins.1.read.files path

    abbrev rs : List Reading
    rs = joins.1.readings

    given-bound : AreGiven between (assigned_read stated)
    given-bound = subst (AreGiven between) is.built.assigned
        (none-lacking between loaded.graph.built.assigned
        (once-nil (filter (is_lacking between) (dyndeps_of loaded.graph)) lacking))

    new-supplied : AllSupplied between rs
    new-supplied =
        of-paths between rs
        (reads-given between loaded.files stated (given-pending between stated given-bound) rs between after
        joined
        (subst (λ files. LoadedOr (supplied_state between) (supplied_state after) files
        (joined_after loaded.files stated) joined) joins.1.added joins.2))

    read-after : after.read ≡ between.read ++ rs
    read-after = ap (λ o. unwrap_or o []) joins.1.read.reported

    pub none-wanted-after : wanted_paths after ≡ []
    none-wanted-after =
        none-wanted after after.read
        (subst (AllSupplied after) (sym read-after)
        (supplied-after between after same-files (between.read ++ rs)
        (all-append (λ r. is_some (supplied_for between r.path) ≡ true) between.read rs
        (all-supplied between between.read none) new-supplied)))

    pub found-joined : ReadsAsSupplied after
    found-joined =
        subst (AllByRecursion (λ r. r.bytes ≡ unwrap_or (supplied_for after r.path) (Some [])))
        (sym read-after)
        (found-after between after same-files (between.read ++ rs)
        (all-append (λ r. r.bytes ≡ unwrap_or (supplied_for between r.path) (Some [])) between.read rs found
        (as-given between after same-files rs new-supplied joins.1.read.as_given)))
