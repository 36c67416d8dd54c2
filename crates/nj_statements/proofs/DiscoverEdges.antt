-- Discoveries for an edge: which edges they change, and which edges are pending from then on.
use Rattle.std.proofs.Common.{slice_index_or, ◌≡◌, ◌≢◌, ◌⊎◌, inl, inr, ℕ, zero, suc, ◌+◌, ◌<◌, ◌≤◌, ◌==◌}
use Rattle.std.proofs.Common.{◌||◌, Bool, true, false, not, cond, true≢false, if◌then◌else◌, List, [], ◌∷◌}
use Rattle.std.proofs.Common.{◌++◌, length, map, Option, Some, None, unwrap_or, slice_get, bytes_eq, is_some}
use Rattle.std.proofs.Common.{refl, sym, ap, ◌∙◌, subst, arith}
use Rattle.nj_statements.specs.Inside.JoiningSteps.{discover_for}
use Rattle.std.specs.Bool.{then_some}
use Rattle.std.specs.Option.{option_or}
use Rattle.std.specs.Prelude.{codes, filter, ◌&&◌}
use Rattle.std.specs.List.{AllByRecursion, AllZip, list_any}
use Rattle.std.proofs.lemmas.Bool.{ne_eqb, eqb-true}
use Rattle.std.proofs.lemmas.Bool.Decides.{eqb_tells}
use Rattle.std.proofs.lemmas.List.{length-append, append_assoc}
use Rattle.std.proofs.lemmas.List.Elements.{AllZip-push, filter-append}
use Rattle.std.proofs.lemmas.List.Folds.{list_any-append}
use Rattle.nj_manifest.specs.LineSteps.{NameModel}
use Rattle.nj_manifest.specs.Statements.{LineModel, OutputsModel, InputsModel, StatementModel, BindingModel}
use Rattle.nj_manifest.specs.Statements.{RuleModel, PoolModel, BuildModel, DefaultModel, IncludeModel}
use Rattle.nj_manifest.specs.Statements.{SubninjaModel}
use Rattle.nj_scope.specs.Rules.{phony}
use Rattle.nj_scope.specs.Scopes.{Bounds, first_given, value_in}
use Rattle.nj_scope.specs.ReadingList.{Discovered, ReadStatement, scope_of, bounds, rules}
use Rattle.nj_edges.specs.Edges.{EdgePaths}
use Rattle.nj_edges.specs.Joining.{with_added, changed_at}
use Rattle.nj_faults.specs.declared.fault.GraphFault.{GraphFault}
use Rattle.nj_faults.specs.declared.fault.Cause.TheVariants.{DyndepExtra, DyndepTwice}
use Rattle.nj_faults.specs.Faults.{fault_at}
use Rattle.nj_edge_env.specs.LateStrings.{LateNames, asked_text}
use Rattle.nj_statements.specs.EdgeList.{EdgeModel, Pending, path_given, block_of, names_bound}
use Rattle.nj_statements.specs.EdgeList.{block_names_at, on_line, line_values, rule_number, stated_paths}
use Rattle.nj_statements.specs.EdgeList.{edge_paths, with_discovered, edge_of_build, edges_read}
use Rattle.nj_statements.specs.EdgeList.{paths_of_edges, block_of_edge, block_at}
use Rattle.nj_statements.specs.EdgeList.{file_given, name_given, dyndep_of, pending_at, pending_read}
use Rattle.nj_statements.specs.EdgeList.{assigned_of, assigned_read, binds_restat, restats_read}
use Rattle.nj_statements.specs.Joining.{no_values, and_found, also_discovered, discover, discovered_by}
use Rattle.nj_statements.specs.Joining.{edge_meant, pending_on, meaning_fault}
use Rattle.nj_statements.specs.BuildFaults.{empty_path, outputs_fault}
use Rattle.nj_statements.specs.Built.{detail_of}
use Rattle.nj_statements.specs.Laws.{is_pending, with_found, AreRising, AreByNumber, AddsToOneEdge}
use Rattle.nj_statements.specs.Laws.{OthersArePendingAsBefore, PendingEdgesRise, AddsToItsEdge}
use Rattle.nj_statements.specs.Laws.{EntriesAddToTheirEdges}
use Rattle.nj_statements.proofs.DiscoverLemmas.{Declared, as_read, as_read-discover, bounds-same, rules-same}
use Rattle.nj_statements.proofs.DiscoverLemmas.{names_of_edge-discover}

-- ---- an item of a list is changed

changed-last : {A : Type 0} (f : A → A) (xs : List A) (x : A) (n : ℕ) → length xs ≡ n
    → changed_at f n (xs ++ x ∷ []) ≡ xs ++ f x ∷ []
unfolding changed_at
changed-last f [] x zero is = refl
changed-last f [] x (suc n) is = absurd (omega (arith, is))
changed-last f (y ∷ ys) x zero is = absurd (omega (arith, is))
changed-last f (y ∷ ys) x (suc n) is = ap (λ zs. y ∷ zs) (changed-last f ys x n (omega (arith, is)))

changed-front : {A : Type 0} (f : A → A) (xs : List A) (x : A) (n : ℕ) → length xs ≢ n
    → changed_at f n (xs ++ x ∷ []) ≡ changed_at f n xs ++ x ∷ []
unfolding changed_at
changed-front f [] x zero apart = absurd (apart refl)
changed-front f [] x (suc n) apart = refl
changed-front f (y ∷ ys) x zero apart = refl
changed-front f (y ∷ ys) x (suc n) apart =
    ap (λ zs. y ∷ zs) (changed-front f ys x n (λ is. apart (ap suc is)))

pub map-changed : {A B : Type 0} (g : A → B) (f : A → A) (h : B → B) → ((a : A) → g (f a) ≡ h (g a))
    → (n : ℕ) (xs : List A) → map g (changed_at f n xs) ≡ changed_at h n (map g xs)
unfolding changed_at
map-changed g f h same n [] = refl
map-changed g f h same zero (x ∷ xs) = ap (λ y. y ∷ map g xs) (same x)
map-changed g f h same (suc n) (x ∷ xs) = ap (λ ys. g x ∷ ys) (map-changed g f h same n xs)

-- ---- one edge, by the values that its statement sees

abbrev number_by : ReadStatement → Declared → NameModel → ℕ
number_by e own rule = unwrap_or (if bytes_eq rule.name phony then Some 0 else first_given
    (λ s. own s rule.name) (scope_of e)) 0

abbrev edge_by : ReadStatement → Bounds → Declared → OutputsModel → NameModel → InputsModel → List LineModel
    → EdgeModel
edge_by e bound own outputs rule inputs lines = record {
  file = e.file;
  spot = e.spot;
  scope = e.scope;
  around = e.around;
  rule = number_by e own rule;
  block = block_of (value_in bound (scope_of e)) lines;
  block_names = names_bound lines;
  paths = with_discovered e.discovered
      (edge_paths (stated_paths (on_line (value_in bound (scope_of e))
      (block_of (value_in bound (scope_of e)) lines)) outputs inputs (number_by e own rule == 0)));
}

pub edge-by_same : (e : ReadStatement) (before others : List ReadStatement) → as_read others ≡ as_read before
    → (outputs : OutputsModel) (rule : NameModel) (inputs : InputsModel) (lines : List LineModel)
    → edge_of_build e others outputs rule inputs lines ≡ edge_of_build e before outputs rule inputs lines
edge-by_same e before others are outputs rule inputs lines =
    ap (λ (b : Bounds). edge_by e b (rules others) outputs rule inputs lines) (bounds-same before others are)
    ∙ ap (λ (own : Declared). edge_by e (bounds before) own outputs rule inputs lines)
    (rules-same before others are)

edge-same : (edge : ℕ) (found : Discovered) (e : ReadStatement) (before : List ReadStatement)
    (outputs : OutputsModel) (rule : NameModel) (inputs : InputsModel) (lines : List LineModel)
    → edge_of_build e (discover edge found before) outputs rule inputs lines
    ≡ edge_of_build e before outputs rule inputs lines
edge-same edge found e before = edge-by_same e before (discover edge found before)
    (as_read-discover edge found before)

-- ---- all edges are the same but for their implicit files

abbrev pub with_files : EdgeModel → (outs ins : List (List ℕ)) → EdgeModel
with_files e outs ins = record e { paths = record e.paths { implicit_outputs = outs; implicit_inputs = ins } }

abbrev pub SameEdge : (e other : EdgeModel) → Type 0
SameEdge e other = other ≡ with_files e other.paths.implicit_outputs other.paths.implicit_inputs

pub same-all : (edges : List EdgeModel) → AllZip SameEdge edges edges
same-all [] = tt
same-all (e ∷ edges) = (refl, same-all edges)

-- discoveries after the others are added after them
found-after : (d : Option Discovered) (found : Discovered) (paths : EdgePaths)
    → with_discovered (Some (and_found d found)) paths
    ≡ with_discovered (Some found) (with_discovered d paths)
found-after None found paths = refl
found-after (Some earlier) found paths =
    ap (λ outs. record paths {
      implicit_outputs = outs;
      implicit_inputs =
          paths.implicit_inputs ++ (earlier.inputs ++ found.inputs);
    })
    (sym (append_assoc paths.implicit_outputs earlier.outputs found.outputs))
    ∙ ap (λ ins. record paths {
      implicit_outputs =
          (paths.implicit_outputs ++ earlier.outputs) ++ found.outputs;
      implicit_inputs = ins;
    })
    (sym (append_assoc paths.implicit_inputs earlier.inputs found.inputs))

-- the edge of a statement for which more is discovered
pub edge-also : (found : Discovered) (e : ReadStatement) (before : List ReadStatement)
    (outputs : OutputsModel) (rule : NameModel) (inputs : InputsModel) (lines : List LineModel)
    → edge_of_build (also_discovered found e) before outputs rule inputs lines
    ≡ with_found found (edge_of_build e before outputs rule inputs lines)
edge-also found e before outputs rule inputs lines =
    ap (λ paths. record stated { paths = paths })
    (found-after e.discovered found (edge_paths
    (stated_paths (line_values e before lines) outputs inputs (rule_number e before rule == 0))))
  where
    stated : EdgeModel
    stated = edge_of_build e before outputs rule inputs lines

same-found : (e : EdgeModel) (found : Discovered) → SameEdge e (with_found found e)
same-found e found = refl

same-build : (edge : ℕ) (found : Discovered) (e : ReadStatement) (before : List ReadStatement)
    (outputs : OutputsModel) (rule : NameModel) (inputs : InputsModel) (lines : List LineModel)
    → AllZip SameEdge (edges_read before) (edges_read (discover edge found before))
    → AllZip SameEdge (edges_read (record e { item = BuildModel outputs rule inputs lines } ∷ before))
    (edges_read (discover edge found (record e { item = BuildModel outputs rule inputs lines } ∷ before)))
unfolding edges_read discover
same-build edge found e before outputs rule inputs lines others = by (length (edges_read before) == edge)
  where
    own : EdgeModel
    own = edge_of_build e before outputs rule inputs lines

    by : (b : Bool) → AllZip SameEdge (edges_read before ++ own ∷ [])
        (edges_read (if b then record (also_discovered found
        (record e { item = BuildModel outputs rule inputs lines })) { was_joined = true } ∷ before else
        record e { item = BuildModel outputs rule inputs lines } ∷ discover edge found before))
    by true = AllZip-push SameEdge (edges_read before) (edges_read before) own
        (edge_of_build (also_discovered found e) before outputs rule inputs lines)
        (same-all (edges_read before))
        (subst (SameEdge own) (sym (edge-also found e before outputs rule inputs lines))
        (same-found own found))
    by false =
        AllZip-push SameEdge (edges_read before) (edges_read (discover edge found before)) own
        (edge_of_build e (discover edge found before) outputs rule inputs lines) others
        (subst (SameEdge own) (sym (edge-same edge found e before outputs rule inputs lines)) refl)

same-item : (edge : ℕ) (found : Discovered) (e : ReadStatement) (before : List ReadStatement)
    (item : StatementModel)
    → AllZip SameEdge (edges_read before) (edges_read (discover edge found before))
    → AllZip SameEdge (edges_read (record e { item = item } ∷ before))
    (edges_read (discover edge found (record e { item = item } ∷ before)))
unfolding edges_read discover
same-item edge found e before (BuildModel outputs rule inputs lines) others =
    same-build edge found e before outputs rule inputs lines others
same-item edge found e before (BindingModel bound word) others = others
same-item edge found e before (RuleModel name lines) others = others
same-item edge found e before (PoolModel name lines) others = others
same-item edge found e before (DefaultModel words) others = others
same-item edge found e before (IncludeModel word) others = others
same-item edge found e before (SubninjaModel word) others = others

same-edges : (edge : ℕ) (found : Discovered) (entries : List ReadStatement)
    → AllZip SameEdge (edges_read entries) (edges_read (discover edge found entries))
unfolding edges_read discover
same-edges edge found [] = tt
same-edges edge found (e ∷ before) = same-item edge found e before e.item (same-edges edge found before)

pub map-same : {X : Type 0} (g : EdgeModel → X)
    → ((e : EdgeModel) (outs ins : List (List ℕ))
    → g (record e { paths = record e.paths { implicit_outputs = outs; implicit_inputs = ins } }) ≡ g e)
    → (edges others : List EdgeModel) → AllZip SameEdge edges others → map g others ≡ map g edges
map-same g unseen [] [] same = refl
map-same g unseen [] (o ∷ others) same = absurd same
map-same g unseen (e ∷ edges) [] same = absurd same
map-same g unseen (e ∷ edges) (o ∷ others) same =
    ap (λ x. x ∷ map g others) (ap g same.0 ∙ unseen e o.paths.implicit_outputs o.paths.implicit_inputs)
    ∙ ap (λ xs. g e ∷ xs) (map-same g unseen edges others same.1)

-- A function that does not look at implicit files has the same result for each edge.
pub map-discover : {X : Type 0} (g : EdgeModel → X)
    → ((e : EdgeModel) (outs ins : List (List ℕ))
    → g (record e { paths = record e.paths { implicit_outputs = outs; implicit_inputs = ins } }) ≡ g e)
    → (edge : ℕ) (found : Discovered) (entries : List ReadStatement)
    → map g (edges_read (discover edge found entries)) ≡ map g (edges_read entries)
map-discover g unseen edge found entries =
    map-same g unseen (edges_read entries) (edges_read (discover edge found entries))
    (same-edges edge found entries)

pub details-discover : (edge : ℕ) (found : Discovered) (entries : List ReadStatement)
    → map detail_of (edges_read (discover edge found entries)) ≡ map detail_of (edges_read entries)
details-discover = map-discover detail_of (λ e outs ins. refl)

pub count-same : (edges others : List EdgeModel) → AllZip SameEdge edges others → length others ≡ length edges
count-same [] [] same = refl
count-same [] (o ∷ others) same = absurd same
count-same (e ∷ edges) [] same = absurd same
count-same (e ∷ edges) (o ∷ others) same = ap suc (count-same edges others same.1)

pub count-discover : (edge : ℕ) (found : Discovered) (entries : List ReadStatement)
    → length (edges_read (discover edge found entries)) ≡ length (edges_read entries)
count-discover edge found entries = count-same (edges_read entries) (edges_read (discover edge found entries))
    (same-edges edge found entries)

pub block-same : (n : ℕ) (name : List ℕ) (edges others : List EdgeModel) → AllZip SameEdge edges others
    → block_of_edge (slice_get others n) name ≡ block_of_edge (slice_get edges n) name
block-same n name [] [] same = refl
block-same n name [] (o ∷ others) same = absurd same
block-same n name (e ∷ edges) [] same = absurd same
block-same zero name (e ∷ edges) (o ∷ others) same = ap (λ (x : EdgeModel). x.block name) same.0
block-same (suc n) name (e ∷ edges) (o ∷ others) same = block-same n name edges others same.1

pub block_at-discover : (edge : ℕ) (found : Discovered) (entries : List ReadStatement) (n : ℕ) (name : List ℕ)
    → block_at (edges_read (discover edge found entries)) n name ≡ block_at (edges_read entries) n name
block_at-discover edge found entries n name =
    block-same n name (edges_read entries) (edges_read (discover edge found entries))
    (same-edges edge found entries)

pub block_names_at-discover : (edge : ℕ) (found : Discovered) (entries : List ReadStatement) (n : ℕ)
    → block_names_at (edges_read (discover edge found entries)) n ≡ block_names_at (edges_read entries) n
block_names_at-discover edge found entries n =
    ap (λ all. slice_index_or all n []) (map-discover (λ (e : EdgeModel). e.block_names) (λ e outs ins. refl)
    edge found entries)

pub all-same : (P : EdgeModel → Type 0)
    → ((e : EdgeModel) (outs ins : List (List ℕ)) → P e
    → P (record e { paths = record e.paths { implicit_outputs = outs; implicit_inputs = ins } }))
    → (edges others : List EdgeModel) → AllZip SameEdge edges others → AllByRecursion P edges
    → AllByRecursion P others
all-same P kept [] [] same all = tt
all-same P kept [] (o ∷ others) same all = absurd same
all-same P kept (e ∷ edges) [] same all = absurd same
all-same P kept (e ∷ edges) (o ∷ others) same all = (
  subst P (sym same.0) (kept e o.paths.implicit_outputs o.paths.implicit_inputs all.0),
  all-same P kept edges others same.1 all.1,
)

-- A property of each edge, whatever its implicit files are, stays true.
pub all_edges-discover : (P : EdgeModel → Type 0)
    → ((e : EdgeModel) (outs ins : List (List ℕ)) → P e
    → P (record e { paths = record e.paths { implicit_outputs = outs; implicit_inputs = ins } }))
    → (edge : ℕ) (found : Discovered) (entries : List ReadStatement) → AllByRecursion P (edges_read entries)
    → AllByRecursion P (edges_read (discover edge found entries))
all_edges-discover P kept edge found entries =
    all-same P kept (edges_read entries) (edges_read (discover edge found entries))
    (same-edges edge found entries)

-- ---- lists of pending edges

all-append : {X : Type 0} (P : X → Type 0) (xs ys : List X) → AllByRecursion P xs → AllByRecursion P ys
    → AllByRecursion P (xs ++ ys)
all-append P [] ys all others = others
all-append P (x ∷ xs) ys all others = (all.0, all-append P xs ys all.1 others)

all-weaker : {X : Type 0} (P Q : X → Type 0) → ((x : X) → P x → Q x) → (xs : List X) → AllByRecursion P xs
    → AllByRecursion Q xs
all-weaker P Q so [] all = tt
all-weaker P Q so (x ∷ xs) all = (so x all.0, all-weaker P Q so xs all.1)

abbrev pub AreBelow : ℕ → List Pending → Type 0
AreBelow n ps = AllByRecursion (λ p. p.edge < n) ps

none-unjoined : (n : ℕ) (ps : List Pending) → AreBelow n ps → list_any (λ p. p.edge == n) ps ≡ false
none-unjoined n [] below = refl
none-unjoined n (p ∷ ps) below = ap (λ b. b || list_any (λ q. q.edge == n) ps)
    (ne_eqb p.edge n (λ is. omega (arith, is, below.0))) ∙ none-unjoined n ps below.1

-- the number of a pending edge is below the bound
pub unjoined-below : (n : ℕ) (most : ℕ) (ps : List Pending) → AreBelow most ps
    → list_any (λ p. p.edge == n) ps ≡ true → n < most
unjoined-below n most [] below pends = absurd (true≢false (sym pends))
unjoined-below n most (p ∷ ps) below pends =
    by (p.edge == n) (eqb-true p.edge n) (unjoined-below n most ps below.1) pends
  where
    by : (b : Bool) → (b ≡ true → p.edge ≡ n) → (list_any (λ q. q.edge == n) ps ≡ true → n < most)
        → (b || list_any (λ q. q.edge == n) ps) ≡ true → n < most
    by true is others pends = omega (arith, is refl, below.0)
    by false is others pends = others pends

none-dropped : (n : ℕ) (ps : List Pending) → AreBelow n ps → filter (λ p. not (p.edge == n)) ps ≡ ps
none-dropped n [] below = refl
none-dropped n (p ∷ ps) below =
    ap (λ b. cond (not b) (p ∷ filter (λ q. not (q.edge == n)) ps) (filter (λ q. not (q.edge == n)) ps))
    (ne_eqb p.edge n (λ is. omega (arith, is, below.0)))
    ∙ ap (λ qs. p ∷ qs) (none-dropped n ps below.1)

rising-append : (n : ℕ) (ps qs : List Pending) → AreRising ps → AreBelow n ps → AreRising qs
    → AllByRecursion (λ q. n ≤ q.edge) qs → AreRising (ps ++ qs)
rising-append n [] qs rising below others above = others
rising-append n (p ∷ ps) qs rising below others above = (
  all-append (λ q. p.edge < q.edge) ps qs rising.0
      (all-weaker (λ q. n ≤ q.edge) (λ q. p.edge < q.edge) (λ q least. omega (arith, least, below.0)) qs
      above),
  rising-append n ps qs rising.1 below.1 others above,
)

-- ---- the edge of a statement that may be pending

at-below : (n : ℕ) (joined : Bool) (file : Option (List ℕ)) (most : ℕ) → n < most
    → AreBelow most (pending_at n joined file)
at-below n true file most within = tt
at-below n false (Some file) most within = (within, tt)
at-below n false None most within = tt

at-above : (n : ℕ) (joined : Bool) (file : Option (List ℕ))
    → AllByRecursion (λ p. n ≤ p.edge) (pending_at n joined file)
at-above n true file = tt
at-above n false (Some file) = (omega arith, tt)
at-above n false None = tt

at-rising : (n : ℕ) (joined : Bool) (file : Option (List ℕ)) → AreRising (pending_at n joined file)
at-rising n true file = tt
at-rising n false (Some file) = (tt, tt)
at-rising n false None = tt

at-other : (n edge : ℕ) (joined : Bool) (file : Option (List ℕ)) → (n == edge) ≡ false
    → list_any (λ p. p.edge == edge) (pending_at n joined file) ≡ false
at-other n edge true file other = refl
at-other n edge false (Some file) other = ap (λ b. b || false) other
at-other n edge false None other = refl

at-dropped : (n edge : ℕ) (joined : Bool) (file : Option (List ℕ)) → (n == edge) ≡ true
    → filter (λ p. not (p.edge == edge)) (pending_at n joined file) ≡ []
at-dropped n edge true file same = refl
at-dropped n edge false (Some file) same =
    ap (λ b. cond (not b) (record { edge = n; file = file } ∷ []) []) same
at-dropped n edge false None same = refl

at-kept : (n edge : ℕ) (joined : Bool) (file : Option (List ℕ)) → (n == edge) ≡ false
    → filter (λ p. not (p.edge == edge)) (pending_at n joined file) ≡ pending_at n joined file
at-kept n edge true file other = refl
at-kept n edge false (Some file) other =
    ap (λ b. cond (not b) (record { edge = n; file = file } ∷ []) []) other
at-kept n edge false None other = refl

-- ---- they are ordered by number

comes-build : (e : ReadStatement) (before : List ReadStatement) (outputs : OutputsModel) (rule : NameModel)
    (inputs : InputsModel) (lines : List LineModel) → AreByNumber before
    → AreByNumber (record e { item = BuildModel outputs rule inputs lines } ∷ before)
unfolding edges_read pending_read
comes-build e before outputs rule inputs lines comes = record {
  within = all-append (λ p. p.edge < length (edges_read before ++ own ∷ [])) (pending_read before)
      (pending_at (length (edges_read before)) e.was_joined (dyndep_of before own))
      (all-weaker (λ p. p.edge < length (edges_read before))
      (λ p. p.edge < length (edges_read before ++ own ∷ [])) (λ p below. omega (arith, below, more))
      (pending_read before) comes.within)
      (at-below (length (edges_read before)) e.was_joined (dyndep_of before own)
      (length (edges_read before ++ own ∷ [])) (omega (arith, more)));
  rising = rising-append (length (edges_read before)) (pending_read before)
      (pending_at (length (edges_read before)) e.was_joined (dyndep_of before own)) comes.rising comes.within
      (at-rising (length (edges_read before)) e.was_joined (dyndep_of before own))
      (at-above (length (edges_read before)) e.was_joined (dyndep_of before own));
}
  where
    own : EdgeModel
    own = edge_of_build e before outputs rule inputs lines

    more : length (edges_read before ++ own ∷ []) ≡ length (edges_read before) + 1
    more = length-append (edges_read before) (own ∷ [])

comes-item : (e : ReadStatement) (before : List ReadStatement) (item : StatementModel) → AreByNumber before
    → AreByNumber (record e { item = item } ∷ before)
unfolding edges_read pending_read
comes-item e before (BuildModel outputs rule inputs lines) comes =
    comes-build e before outputs rule inputs lines comes
comes-item e before (BindingModel bound word) comes = record { within = comes.within; rising = comes.rising }
comes-item e before (RuleModel name lines) comes = record { within = comes.within; rising = comes.rising }
comes-item e before (PoolModel name lines) comes = record { within = comes.within; rising = comes.rising }
comes-item e before (DefaultModel words) comes = record { within = comes.within; rising = comes.rising }
comes-item e before (IncludeModel word) comes = record { within = comes.within; rising = comes.rising }
comes-item e before (SubninjaModel word) comes = record { within = comes.within; rising = comes.rising }

pub pending_rise : PendingEdgesRise
unfolding edges_read pending_read
pending_rise [] = record { within = tt; rising = tt }
pending_rise (e ∷ before) = comes-item e before e.item (pending_rise before)

pub pending-within : (entries : List ReadStatement)
    → AllByRecursion (λ p. p.edge < length (edges_read entries)) (pending_read entries)
pending-within entries = (pending_rise entries).within

pub pending-rising : (entries : List ReadStatement) → AreRising (pending_read entries)
pending-rising entries = (pending_rise entries).rising

-- ---- which edges are pending from then on

dyndep-same : (edge : ℕ) (found : Discovered) (before : List ReadStatement) (e : EdgeModel)
    → dyndep_of (discover edge found before) e ≡ dyndep_of before e
dyndep-same edge found before e = ap (λ (n : LateNames). file_given (asked_text n (codes "dyndep")))
    (names_of_edge-discover edge found before e)

pending-build : (edge : ℕ) (found : Discovered) (e : ReadStatement) (before : List ReadStatement)
    (outputs : OutputsModel) (rule : NameModel) (inputs : InputsModel) (lines : List LineModel)
    → pending_read (discover edge found before) ≡ filter (λ p. not (p.edge == edge)) (pending_read before)
    → pending_read (discover edge found (record e { item = BuildModel outputs rule inputs lines } ∷ before))
    ≡ filter (λ p. not (p.edge == edge)) (pending_read
    (record e { item = BuildModel outputs rule inputs lines } ∷ before))
unfolding edges_read pending_read discover
pending-build edge found e before outputs rule inputs lines rest =
    by (eqb_tells (length (edges_read before)) edge)
    ∙ sym (filter-append (λ p. not (p.edge == edge)) (pending_read before) last)
  where
    number : ℕ
    number = length (edges_read before)

    own : EdgeModel
    own = edge_of_build e before outputs rule inputs lines

    last : List Pending
    last = pending_at number e.was_joined (dyndep_of before own)

    after : Bool → List ReadStatement
    after b = if b then record (also_discovered found
        (record e { item = BuildModel outputs rule inputs lines })) { was_joined = true } ∷ before else record
        e { item = BuildModel outputs rule inputs lines } ∷ discover edge found before

    by : ((number == edge) ≡ true × (number ≡ edge)) ⊎ ((number == edge) ≡ false × (number ≢ edge))
        → pending_read (after (number == edge))
        ≡ filter (λ p. not (p.edge == edge)) (pending_read before) ++ filter (λ p. not (p.edge == edge)) last
    by (inl (same, is)) =
        ap (λ b. pending_read (after b)) same
        ∙ ap (λ ps. ps ++ []) (sym (none-dropped edge (pending_read before)
        (subst (λ n. AreBelow n (pending_read before)) is (pending-within before))))
        ∙ ap (λ ps. filter (λ p. not (p.edge == edge)) (pending_read before) ++ ps)
        (sym (at-dropped number edge e.was_joined (dyndep_of before own) same))
    by (inr (other, apart)) =
        ap (λ b. pending_read (after b)) other
        ∙ ap (λ ps. ps ++ pending_at (length (edges_read (discover edge found before))) e.was_joined
        (dyndep_of (discover edge found before)
        (edge_of_build e (discover edge found before) outputs rule inputs lines))) rest
        ∙ ap (λ n. filter (λ p. not (p.edge == edge)) (pending_read before)
        ++ pending_at n e.was_joined (dyndep_of (discover edge found before)
        (edge_of_build e (discover edge found before) outputs rule inputs lines)))
        (count-discover edge found before)
        ∙ ap (λ f. filter (λ p. not (p.edge == edge)) (pending_read before)
        ++ pending_at number e.was_joined f)
        (ap (dyndep_of (discover edge found before)) (edge-same edge found e before outputs rule inputs lines)
        ∙ dyndep-same edge found before own)
        ∙ ap (λ ps. filter (λ p. not (p.edge == edge)) (pending_read before) ++ ps)
        (sym (at-kept number edge e.was_joined (dyndep_of before own) other))

pending-item : (edge : ℕ) (found : Discovered) (e : ReadStatement) (before : List ReadStatement)
    (item : StatementModel)
    → pending_read (discover edge found before) ≡ filter (λ p. not (p.edge == edge)) (pending_read before)
    → pending_read (discover edge found (record e { item = item } ∷ before))
    ≡ filter (λ p. not (p.edge == edge)) (pending_read (record e { item = item } ∷ before))
unfolding edges_read pending_read discover
pending-item edge found e before (BuildModel outputs rule inputs lines) rest =
    pending-build edge found e before outputs rule inputs lines rest
pending-item edge found e before (BindingModel bound word) rest = rest
pending-item edge found e before (RuleModel name lines) rest = rest
pending-item edge found e before (PoolModel name lines) rest = rest
pending-item edge found e before (DefaultModel words) rest = rest
pending-item edge found e before (IncludeModel word) rest = rest
pending-item edge found e before (SubninjaModel word) rest = rest

pub pending-discover : (edge : ℕ) (found : Discovered) (entries : List ReadStatement)
    → pending_read (discover edge found entries) ≡ filter (λ p. not (p.edge == edge)) (pending_read entries)
unfolding edges_read pending_read discover
pending-discover edge found [] = refl
pending-discover edge found (e ∷ before) =
    pending-item edge found e before e.item (pending-discover edge found before)

-- ---- the assignments of edges

assigned-same : (edge : ℕ) (found : Discovered) (before : List ReadStatement) (e : EdgeModel)
    → assigned_of (discover edge found before) e ≡ assigned_of before e
assigned-same edge found before e =
    ap (λ (n : LateNames). record {
      pool = name_given (asked_text n (codes "pool"));
      dyndep =
          file_given (asked_text n (codes "dyndep"));
    }) (names_of_edge-discover edge found before e)

assigned-build : (edge : ℕ) (found : Discovered) (e : ReadStatement) (before : List ReadStatement)
    (outputs : OutputsModel) (rule : NameModel) (inputs : InputsModel) (lines : List LineModel)
    → assigned_read (discover edge found before) ≡ assigned_read before
    → assigned_read (discover edge found (record e { item = BuildModel outputs rule inputs lines } ∷ before))
    ≡ assigned_read (record e { item = BuildModel outputs rule inputs lines } ∷ before)
unfolding edges_read assigned_read discover
assigned-build edge found e before outputs rule inputs lines rest = by (length (edges_read before) == edge)
  where
    own : EdgeModel
    own = edge_of_build e before outputs rule inputs lines

    after : Bool → List ReadStatement
    after b = if b then record (also_discovered found
        (record e { item = BuildModel outputs rule inputs lines })) { was_joined = true } ∷ before else record
        e { item = BuildModel outputs rule inputs lines } ∷ discover edge found before

    by : (b : Bool) → assigned_read (after b) ≡ assigned_read before ++ assigned_of before own ∷ []
    by true = ap (λ a. assigned_read before ++ a ∷ [])
        (ap (assigned_of before) (edge-also found e before outputs rule inputs lines))
    by false =
        ap (λ others. others ++ assigned_of (discover edge found before)
        (edge_of_build e (discover edge found before) outputs rule inputs lines) ∷ []) rest
        ∙ ap (λ a. assigned_read before ++ a ∷ [])
        (ap (assigned_of (discover edge found before))
        (edge-same edge found e before outputs rule inputs lines) ∙ assigned-same edge found before own)

assigned-item : (edge : ℕ) (found : Discovered) (e : ReadStatement) (before : List ReadStatement)
    (item : StatementModel) → assigned_read (discover edge found before) ≡ assigned_read before
    → assigned_read (discover edge found (record e { item = item } ∷ before))
    ≡ assigned_read (record e { item = item } ∷ before)
unfolding edges_read assigned_read discover
assigned-item edge found e before (BuildModel outputs rule inputs lines) rest =
    assigned-build edge found e before outputs rule inputs lines rest
assigned-item edge found e before (BindingModel bound word) rest = rest
assigned-item edge found e before (RuleModel name lines) rest = rest
assigned-item edge found e before (PoolModel name lines) rest = rest
assigned-item edge found e before (DefaultModel words) rest = rest
assigned-item edge found e before (IncludeModel word) rest = rest
assigned-item edge found e before (SubninjaModel word) rest = rest

pub assigned-discover : (edge : ℕ) (found : Discovered) (entries : List ReadStatement)
    → assigned_read (discover edge found entries) ≡ assigned_read entries
unfolding edges_read assigned_read discover
assigned-discover edge found [] = refl
assigned-discover edge found (e ∷ before) =
    assigned-item edge found e before e.item (assigned-discover edge found before)

-- ---- `restat`

also-binds : (d : Option Discovered) (found : Discovered)
    → binds_restat (Some (and_found d found)) ≡ (binds_restat d || found.restat)
also-binds None found = refl
also-binds (Some earlier) found = refl

restats-count-item : (e : ReadStatement) (before : List ReadStatement) (item : StatementModel)
    → length (restats_read before) ≡ length (edges_read before)
    → length (restats_read (record e { item = item } ∷ before))
    ≡ length (edges_read (record e { item = item } ∷ before))
unfolding edges_read restats_read
restats-count-item e before (BuildModel outputs rule inputs lines) rest =
    length-append (restats_read before) (binds_restat e.discovered ∷ [])
    ∙ ap (λ n. n + 1) rest
    ∙ sym (length-append (edges_read before) (edge_of_build e before outputs rule inputs lines ∷ []))
restats-count-item e before (BindingModel bound word) rest = rest
restats-count-item e before (RuleModel name lines) rest = rest
restats-count-item e before (PoolModel name lines) rest = rest
restats-count-item e before (DefaultModel words) rest = rest
restats-count-item e before (IncludeModel word) rest = rest
restats-count-item e before (SubninjaModel word) rest = rest

-- there is one `restat` flag for each edge
restats-count : (entries : List ReadStatement) → length (restats_read entries) ≡ length (edges_read entries)
unfolding edges_read restats_read
restats-count [] = refl
restats-count (e ∷ before) = restats-count-item e before e.item (restats-count before)

module _ (edge : ℕ) (found : Discovered) where
  abbrev also : Bool → Bool
  also had = had || found.restat

  restats-build : (e : ReadStatement) (before : List ReadStatement) (outputs : OutputsModel)
      (rule : NameModel)
      (inputs : InputsModel) (lines : List LineModel)
      → restats_read (discover edge found before) ≡ changed_at also edge (restats_read before)
      → restats_read (discover edge found (record e { item = BuildModel outputs rule inputs lines } ∷ before))
      ≡ changed_at also edge (restats_read (record e { item = BuildModel outputs rule inputs lines } ∷
      before))
  unfolding edges_read restats_read discover
  restats-build e before outputs rule inputs lines rest = by (eqb_tells (length (edges_read before)) edge)
    where
      build : ReadStatement
      build = record e { item = BuildModel outputs rule inputs lines }

      own : Bool
      own = binds_restat e.discovered

      after : Bool → List ReadStatement
      after b = if b then record (also_discovered found build) { was_joined = true } ∷ before else build ∷
          discover edge found before

      by : ((length (edges_read before) == edge) ≡ true × (length (edges_read before) ≡ edge))
          ⊎ ((length (edges_read before) == edge) ≡ false × (length (edges_read before) ≢ edge))
          → restats_read (after (length (edges_read before) == edge))
          ≡ changed_at also edge (restats_read before ++ own ∷ [])
      by (inl (same, is)) =
          ap (λ b. restats_read (after b)) same
          ∙ ap (λ r. restats_read before ++ r ∷ []) (also-binds e.discovered found)
          ∙ sym (changed-last also (restats_read before) own edge (restats-count before ∙ is))
      by (inr (other, apart)) =
          ap (λ b. restats_read (after b)) other
          ∙ ap (λ rs. rs ++ own ∷ []) rest
          ∙ sym (changed-front also (restats_read before) own edge
          (λ is. apart (sym (restats-count before) ∙ is)))

  restats-item : (e : ReadStatement) (before : List ReadStatement) (item : StatementModel)
      → restats_read (discover edge found before) ≡ changed_at also edge (restats_read before)
      → restats_read (discover edge found (record e { item = item } ∷ before))
      ≡ changed_at also edge (restats_read (record e { item = item } ∷ before))
  unfolding edges_read restats_read discover
  restats-item e before (BuildModel outputs rule inputs lines) rest =
      restats-build e before outputs rule inputs lines rest
  restats-item e before (BindingModel bound word) rest = rest
  restats-item e before (RuleModel name lines) rest = rest
  restats-item e before (PoolModel name lines) rest = rest
  restats-item e before (DefaultModel words) rest = rest
  restats-item e before (IncludeModel word) rest = rest
  restats-item e before (SubninjaModel word) rest = rest

  pub restats-discover : (entries : List ReadStatement)
      → restats_read (discover edge found entries) ≡ changed_at also edge (restats_read entries)
  unfolding edges_read restats_read discover changed_at
  restats-discover [] = refl
  restats-discover (e ∷ before) = restats-item e before e.item (restats-discover before)

pub others_are_pending : OthersArePendingAsBefore
others_are_pending entries edge found = pending-discover edge found entries

-- ---- the edge that changes

edges-build : (edge : ℕ) (found : Discovered) (e : ReadStatement) (before : List ReadStatement)
    (outputs : OutputsModel) (rule : NameModel) (inputs : InputsModel) (lines : List LineModel)
    → (is_pending before edge ≡ true → edges_read (discover edge found before)
    ≡ changed_at (with_found found) edge (edges_read before))
    → is_pending (record e { item = BuildModel outputs rule inputs lines } ∷ before) edge ≡ true
    → edges_read (discover edge found (record e { item = BuildModel outputs rule inputs lines } ∷ before))
    ≡ changed_at (with_found found) edge (edges_read
    (record e { item = BuildModel outputs rule inputs lines } ∷ before))
unfolding edges_read pending_read discover
edges-build edge found e before outputs rule inputs lines rest pends = by (eqb_tells number edge)
  where
    number : ℕ
    number = length (edges_read before)

    own : EdgeModel
    own = edge_of_build e before outputs rule inputs lines

    last : List Pending
    last = pending_at number e.was_joined (dyndep_of before own)

    pends-either : (list_any (λ p. p.edge == edge) (pending_read before)
        || list_any (λ p. p.edge == edge) last) ≡ true
    pends-either = sym (list_any-append (λ p. p.edge == edge) (pending_read before) last) ∙ pends

    after : Bool → List ReadStatement
    after b = if b then record (also_discovered found
        (record e { item = BuildModel outputs rule inputs lines })) { was_joined = true } ∷ before else record
        e { item = BuildModel outputs rule inputs lines } ∷ discover edge found before

    either : (a b : Bool) → b ≡ false → (a || b) ≡ true → a ≡ true
    either true b none some = refl
    either false b none some = absurd (true≢false (sym some ∙ none))

    by : ((number == edge) ≡ true × (number ≡ edge)) ⊎ ((number == edge) ≡ false × (number ≢ edge))
        → edges_read (after (number == edge))
        ≡ changed_at (with_found found) edge (edges_read before ++ own ∷ [])
    by (inl (same, is)) =
        ap (λ b. edges_read (after b)) same
        ∙ ap (λ o. edges_read before ++ o ∷ []) (edge-also found e before outputs rule inputs lines)
        ∙ sym (changed-last (with_found found) (edges_read before) own edge is)
    by (inr (other, apart)) =
        ap (λ b. edges_read (after b)) other
        ∙ ap (λ o. edges_read (discover edge found before) ++ o ∷ [])
        (edge-same edge found e before outputs rule inputs lines)
        ∙ ap (λ es. es ++ own ∷ []) (rest (either (is_pending before edge)
        (list_any (λ p. p.edge == edge) last) (at-other number edge e.was_joined (dyndep_of before own) other)
        pends-either))
        ∙ sym (changed-front (with_found found) (edges_read before) own edge apart)

edges-item : (edge : ℕ) (found : Discovered) (e : ReadStatement) (before : List ReadStatement)
    (item : StatementModel)
    → (is_pending before edge ≡ true → edges_read (discover edge found before)
    ≡ changed_at (with_found found) edge (edges_read before))
    → is_pending (record e { item = item } ∷ before) edge ≡ true
    → edges_read (discover edge found (record e { item = item } ∷ before))
    ≡ changed_at (with_found found) edge (edges_read (record e { item = item } ∷ before))
unfolding edges_read pending_read discover
edges-item edge found e before (BuildModel outputs rule inputs lines) rest pends =
    edges-build edge found e before outputs rule inputs lines rest pends
edges-item edge found e before (BindingModel bound word) rest pends = rest pends
edges-item edge found e before (RuleModel name lines) rest pends = rest pends
edges-item edge found e before (PoolModel name lines) rest pends = rest pends
edges-item edge found e before (DefaultModel words) rest pends = rest pends
edges-item edge found e before (IncludeModel word) rest pends = rest pends
edges-item edge found e before (SubninjaModel word) rest pends = rest pends

pub edges-discover : (edge : ℕ) (found : Discovered) (entries : List ReadStatement)
    → is_pending entries edge ≡ true
    → edges_read (discover edge found entries) ≡ changed_at (with_found found) edge (edges_read entries)
unfolding edges_read pending_read discover changed_at
edges-discover edge found [] pends = refl
edges-discover edge found (e ∷ before) pends =
    edges-item edge found e before e.item (edges-discover edge found before) pends

pub adds_to_one : AddsToOneEdge
adds_to_one entries edge found pends = edges-discover edge found entries pends

pub paths-discover : (edge : ℕ) (found : Discovered) (entries : List ReadStatement)
    → is_pending entries edge ≡ true
    → paths_of_edges (edges_read (discover edge found entries))
    ≡ changed_at (with_added (record { outputs = found.outputs; inputs = found.inputs })) edge
    (paths_of_edges (edges_read entries))
paths-discover edge found entries pends =
    ap paths_of_edges (edges-discover edge found entries pends)
    ∙ map-changed (λ (e : EdgeModel). e.paths) (with_found found)
    (with_added (record { outputs = found.outputs; inputs = found.inputs })) (λ e. refl) edge
    (edges_read entries)

-- ---- an edge that is pending on a file

pends-some : (file : List ℕ) (edge : ℕ) (ps : List Pending) → pending_on file ps (Some edge) ≡ true
    → list_any (λ p. p.edge == edge) ps ≡ true
pends-some file edge [] pends = absurd (true≢false (sym pends))
pends-some file edge (p ∷ ps) pends = by (p.edge == edge) (bytes_eq p.file file) (pends-some file edge ps)
    pends
  where
    by : (a b : Bool) → (pending_on file ps (Some edge) ≡ true → list_any (λ q. q.edge == edge) ps ≡ true)
        → ((a && b) || pending_on file ps (Some edge)) ≡ true
        → (a || list_any (λ q. q.edge == edge) ps) ≡ true
    by true b rest pends = refl
    by false b rest pends = rest pends

pub is_pending-from_pending : (file : List ℕ) (entries : List ReadStatement) (edge : ℕ)
    → pending_on file (pending_read entries) (Some edge) ≡ true → is_pending entries edge ≡ true
is_pending-from_pending file entries edge pends = pends-some file edge (pending_read entries) pends

-- ---- an entry that has no fault

pub fault_if-none : (b : Bool) (fault : GraphFault) → then_some (not b) fault ≡ None → b ≡ true
fault_if-none true fault none = refl
fault_if-none false fault none = absurd (true≢false (ap is_some none))

pub or_then-none : (a b : Option GraphFault) → option_or a b ≡ None → (a ≡ None) × (b ≡ None)
or_then-none None b none = (refl, none)
or_then-none (Some fault) b none = absurd (true≢false (ap is_some none))

pub entries_add : EntriesAddToTheirEdges
entries_add file stated joined entry none = by (edge_meant stated entry) refl pends
  where
    meaning : meaning_fault file stated joined entry ≡ None
    meaning = (or_then-none (meaning_fault file stated joined entry) others
        (or_then-none (empty_path file no_values entry.out)
        (option_or (meaning_fault file stated joined entry) others) none).1).0
      where
        others : Option GraphFault
        others = option_or (outputs_fault file no_values (paths_of_edges (edges_read joined)) [] entry.outs)
            (first_given (empty_path file no_values) entry.ins)

    extra : Option GraphFault
    extra = then_some (not (pending_on file (pending_read stated) (edge_meant stated entry)))
        (fault_at file entry.out.spot (DyndepExtra (path_given no_values entry.out)))

    twice : GraphFault
    twice = fault_at file entry.out.spot (DyndepTwice (path_given no_values entry.out))

    pends : pending_on file (pending_read joined) (edge_meant stated entry) ≡ true
    pends = fault_if-none (pending_on file (pending_read joined) (edge_meant stated entry)) twice
        (or_then-none extra (then_some (not (pending_on file (pending_read joined) (edge_meant stated entry)))
        twice) meaning).1

    by : (meant : Option ℕ) → edge_meant stated entry ≡ meant
        → pending_on file (pending_read joined) meant ≡ true
        → (edge : ℕ) × AddsToItsEdge file stated joined entry edge
    by None is waited = absurd (true≢false (sym waited))
    by (Some edge) is waited = (
      edge,
      record {
        meant = is;
        waited = waited;
        edges = ap (λ m. edges_read (discover_for m (discovered_by entry) joined)) is
            ∙ edges-discover edge (discovered_by entry) joined
            (is_pending-from_pending file joined edge waited);
        pending = ap (λ m. pending_read (discover_for m (discovered_by entry) joined)) is
            ∙ pending-discover edge (discovered_by entry) joined;
        restats = ap (λ m. restats_read (discover_for m (discovered_by entry) joined)) is
            ∙ restats-discover edge (discovered_by entry) joined;
      },
    )
