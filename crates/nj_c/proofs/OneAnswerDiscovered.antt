-- Two sessions after the same discovered inputs were joined.
use Rattle.std.proofs.Common.{◌≡◌, ◌≢◌, ◌⊎◌, inl, inr, ℕ, zero, suc, ◌+◌, ◌<◌, ◌≤◌, Bool, true, false, cond}
use Rattle.std.proofs.Common.{Option}
use Rattle.std.proofs.Common.{Some, None, Result, Ok, Err, List, [], ◌∷◌, length, map, refl, sym, ap, subst}
use Rattle.std.proofs.Common.{◌∙◌, slice_get, bytes_eq, is_some, arith}
use Rattle.std.specs.Prelude.{codes, filter, not, option_map, option_and_then, position, unwrap_or, ◌||◌}
use Rattle.std.specs.Prelude.{◌&&◌}
use Rattle.std.specs.List.{cons_option, filter_map, list_any, range_with_len}
use Rattle.std.specs.Str.{is_utf8}
use Rattle.std.proofs.lemmas.Bool.{cases_order}
use Rattle.std.proofs.lemmas.List.{length-map}
use Rattle.std.proofs.lemmas.Option.{same_Some}
use Rattle.std.proofs.lemmas.Slice.Eq.{bytes_eq-Decides}
use Rattle.nj_text.specs.Calls.{is_empty}
use Rattle.nj_names.specs.Files.{path_at}
use Rattle.nj_deps.specs.Logs.{LogModel, IsLogOf}
use Rattle.nj_deps.proofs.LawLemmas.{says_one_thing}
use Rattle.nj_scope.specs.ReadingList.{ReadStatement}
use Rattle.nj_scope.specs.Sources.{Rises}
use Rattle.nj_discovered.specs.Discoveries.{DiscoveriesModel, discovery_at}
use Rattle.nj_edges.specs.Edges.{EdgePaths, edge_at, first_edge, first_output, is_among, is_named, maker_of}
use Rattle.nj_edges.specs.Edges.{inputs_of, names, outputs_of}
use Rattle.nj_edges.specs.Repeats.{each_once}
use Rattle.nj_faults.specs.declared.fault.GraphFault.{GraphFault}
use Rattle.nj_faults.specs.Faults.{no_memory}
use Rattle.nj_statements.specs.EdgeList.{EdgeModel, edges_read, paths_of_edges}
use Rattle.nj_graph.specs.Graph.{GraphModel, IsGraphOf, edges_of, files_of, late_text_of}
use Rattle.nj_graph.specs.DepsLogs.{with_named, JoinsNamed}
use Rattle.nj_agreement.specs.Graphs.{SameDiscoveries, SameGraph}
use Rattle.nj_agreement.proofs.DiscoverAnswers.{told-agree, IsTold}
use Rattle.nj_agreement.proofs.FoundTwice.{all-inputs, inputs, tests-same}
use Rattle.nj_agreement.proofs.GraphAnswers.{joined-or-none, same-graph}
use Rattle.nj_c.specs.declared.session_state.Kept.{Kept}
use Rattle.nj_c.specs.declared.status.Status.{Status}
use Rattle.nj_c.specs.declared.status.Status.TheVariants.{Done, Nothing, Short, Fault, Wanted, NotLoaded}
use Rattle.nj_c.specs.declared.status.Status.TheVariants.{BadNumber, BadMark, NotUtf8, NotOpen, OutOfMemory}
use Rattle.nj_c.specs.declared.status.Status.TheVariants.{BadLog}
use Rattle.nj_c.specs.DiscoveredInputs.{depfile_at, given_read, is_unknown, lacking_depfiles, log_bytes}
use Rattle.nj_c.specs.DiscoveredInputs.{maker_at, times_of, unknown_of, FindsInputs, JoinsDiscovered}
use Rattle.nj_c.specs.DiscoveredInputs.{JoinsFound, KeepsOthers}
use Rattle.nj_c.specs.JoinedLogs.{IsNoLog}
use Rattle.nj_c.specs.Loading.{is_lacking, unread}
use Rattle.nj_c.specs.OneAnswer.{Equal, SameContents, SameJoined, SameOptions}
use Rattle.nj_c.specs.SuppliedFiles.{Supplied, supplied_for, supplied_state}
use Rattle.nj_c.proofs.OneAnswerChanges.{both-none, both-some, parts-agree, unchanged-contents}
use Rattle.nj_c.proofs.OneAnswerJoins.{one-fault, refused-alike}
use Rattle.nj_c.proofs.OneAnswerUndeclared.{log-or-none}
use Rattle.nj_c.proofs.SuppliedLemmas.{position-no, position-yes}

-- ---- the times of first outputs are told

-- an edge that passes a test is found
passes : (test : EdgePaths → Bool) (edges : List EdgePaths) (e : ℕ) → e < length edges
    → test (edge_at edges e) ≡ true
    → (is_some (first_edge test edges) ≡ true) × (list_any test edges ≡ true)
passes test [] e below is = absurd (omega (arith, below))
passes test (x ∷ edges) zero below is = (
  ap (λ b. is_some (cond b (Some 0) (option_map (λ n. n + 1) (first_edge test edges)))) is,
  ap (λ b. b || list_any test edges) is,
)
passes test (x ∷ edges) (suc e) below is =
    by (test x) (passes test edges e (omega (arith, below)) is)
  where
    more : (o : Option ℕ) → is_some o ≡ true → is_some (option_map (λ n. n + 1) o) ≡ true
    more None bad = absurd cc
    more (Some n) there = refl

    by : (b : Bool) → (is_some (first_edge test edges) ≡ true) × (list_any test edges ≡ true)
        → (is_some (cond b (Some 0) (option_map (λ n. n + 1) (first_edge test edges))) ≡ true)
        × (b || list_any test edges ≡ true)
    by true found = (refl, refl)
    by false found = (more (first_edge test edges) found.0, found.1)

-- a path that is among some has a place there
placed : (path : List ℕ) (files : List (List ℕ)) → list_any (bytes_eq path) files ≡ true
    → (n : ℕ) × (position (bytes_eq path) files ≡ Some n) × (slice_get files n ≡ Some path)
placed path [] is = absurd cc
placed path (f ∷ files) is = by (bytes_eq path f) refl (placed path files)
  where
    by : (b : Bool) → bytes_eq path f ≡ b
        → (list_any (bytes_eq path) files ≡ true
        → (n : ℕ) × (position (bytes_eq path) files ≡ Some n) × (slice_get files n ≡ Some path))
        → (n : ℕ) × (position (bytes_eq path) (f ∷ files) ≡ Some n) × (slice_get (f ∷ files) n ≡ Some path)
    by true same rest = (
      0,
      position-yes path f files same,
      ap Some (sym ((bytes_eq-Decides path f).0 same)),
    )
    by false other rest =
        let found = rest (ap (λ b. b || list_any (bytes_eq path) files) (sym other) ∙ is) in (
          suc found.0,
          position-no path f files other ∙ ap (option_map suc) found.1,
          found.2,
        )

first-among : (paths : List (List ℕ)) (path : List ℕ) → slice_get paths 0 ≡ Some path
    → list_any (bytes_eq path) paths ≡ true
first-among [] path is = absurd cc
first-among (p ∷ paths) path is =
    ap (λ b. b || list_any (bytes_eq path) paths)
    ((bytes_eq-Decides path p).1 (sym (same_Some p path is)))

module _ (g : GraphModel)
    (named : (path : List ℕ) → list_any (bytes_eq path) (files_of g) ≡ is_named (edges_of g) path)
  where
    maker-found : (e : ℕ) → e < length (edges_of g) → (output : List ℕ)
        → first_output (edge_at (edges_of g) e) ≡ Some output → is_some (maker_at g output) ≡ true
    maker-found e below output is =
        let mine : is_among (outputs_of (edge_at (edges_of g) e)) output ≡ true =
        first-among (outputs_of (edge_at (edges_of g) e)) output is in
        let makes = passes (λ (x : EdgePaths). is_among (outputs_of x) output) (edges_of g) e below mine in
        let is_there = passes (λ (x : EdgePaths). names x output) (edges_of g) e below
        (ap (λ b. b || is_among (inputs_of (edge_at (edges_of g) e)) output
        || is_among (edge_at (edges_of g) e).validations output) mine) in
        let at = placed output (files_of g) (named output ∙ is_there.1) in
        let maker : maker_at g output ≡ maker_of (edges_of g) output =
        ap (option_and_then (λ file. maker_of (edges_of g) (path_at (files_of g) (record { 0 = file })))) at.1
        ∙ ap (λ o. maker_of (edges_of g) (unwrap_or o [])) at.2 in
        ap is_some maker ∙ makes.0

    times-told : (times : List ℕ) (e : ℕ) → e < length (edges_of g) → (output : List ℕ)
        → first_output (edge_at (edges_of g) e) ≡ Some output → is_some (times_of g times output) ≡ true
    times-told times e below output is = mapped _ (maker_at g output) (maker-found e below output is)
      where
        mapped : {A B : Type 0} (f : A → B) (o : Option A) → is_some o ≡ true
            → is_some (option_map f o) ≡ true
        mapped f None bad = absurd cc
        mapped f (Some x) there = refl

-- ---- the depfiles that Ninja would read are supplied

module _ {X : Type 0} (f : ℕ → Option X) (p : X → Bool) where
  none-passes : (x : X) (rest : List X) → filter p (x ∷ rest) ≡ [] → (p x ≡ false) × (filter p rest ≡ [])
  none-passes x rest is = by (p x) refl
    where
      by : (b : Bool) → p x ≡ b → (p x ≡ false) × (filter p rest ≡ [])
      by true passing =
          absurd (let e = sym (ap (λ b. cond b (x ∷ filter p rest) (filter p rest)) passing) ∙ is in cc)
      by false failing =
          (failing, sym (ap (λ b. cond b (x ∷ filter p rest) (filter p rest)) failing) ∙ is)

  rest-none : (o : Option X) (rest : List X) → filter p (cons_option o rest) ≡ [] → filter p rest ≡ []
  rest-none None rest is = is
  rest-none (Some x) rest is = (none-passes x rest is).1

  none-in-range : (start count e : ℕ) → start ≤ e → e < start + count → (x : X) → f e ≡ Some x
      → filter p (filter_map f (range_with_len start count)) ≡ [] → p x ≡ false
  none-in-range start zero e low high x is none = absurd (omega (arith, low, high))
  none-in-range start (suc count) e low high x is none =
      by (cases_order start e) (none-in-range (start + 1) count e)
    where
      tail : filter p (filter_map f (range_with_len (start + 1) count)) ≡ []
      tail = rest-none (f start) (filter_map f (range_with_len (start + 1) count)) none

      by : (start ≡ e) ⊎ ((start < e) ⊎ (e < start))
          → (start + 1 ≤ e → e < start + 1 + count → (y : X) → f e ≡ Some y
          → filter p (filter_map f (range_with_len (start + 1) count)) ≡ [] → p y ≡ false) → p x ≡ false
      by (inl same) later = (none-passes x (filter_map f (range_with_len (start + 1) count))
          (ap (λ o. filter p (cons_option o (filter_map f (range_with_len (start + 1) count))))
          (sym (ap f same ∙ is)) ∙ none)).0
      by (inr (inl below)) later = later (omega (arith, below)) (omega (arith, high)) x is tail
      by (inr (inr above)) later = absurd (omega (arith, low, above))

no-once : (paths : List (List ℕ)) → each_once bytes_eq paths ≡ [] → paths ≡ []
no-once [] is = refl
no-once (p ∷ paths) is = absurd cc

supplied-or : (utf8 there : Bool) → utf8 ≡ true → (utf8 && not there) ≡ false → there ≡ true
supplied-or true true is none = refl
supplied-or true false is none = absurd cc
supplied-or false there is none = absurd cc

module _ (h : Supplied) (g : GraphModel) (stated : List ReadStatement) (graph : IsGraphOf g stated)
    (named : (path : List ℕ) → list_any (bytes_eq path) (files_of g) ≡ is_named (edges_of g) path)
    (times : List ℕ)
    (none : lacking_depfiles h stated (length (edges_of g)) ≡ [])
  where
    count-is : length (edges_of g) ≡ length (edges_read stated)
    count-is = ap length graph.built.paths ∙ length-map (edges_read stated) (λ (e : EdgeModel). e.paths)

    depfile-given : (e : ℕ) → e < length (edges_read stated)
        → is_empty (late_text_of stated e (codes "deps")) ≡ true
        → is_empty (late_text_of stated e (codes "depfile")) ≡ false
        → is_utf8 (late_text_of stated e (codes "depfile")) ≡ true
        → is_some (supplied_for h (late_text_of stated e (codes "depfile"))) ≡ true
    depfile-given e below deps some utf8 =
        let depfile = late_text_of stated e (codes "depfile") in
        let counts : depfile_at stated e ≡ Some depfile =
        ap (λ b. cond (b && not (is_empty depfile)) (Some depfile) None) deps
        ∙ ap (λ b. cond (true && not b) (Some depfile) None) some in
        let lacks : is_lacking h depfile ≡ false =
        none-in-range (depfile_at stated) (is_lacking h) 0 (length (edges_of g)) e (omega arith)
        (omega (arith, below, count-is)) depfile counts (no-once
        (filter (is_lacking h) (filter_map (depfile_at stated) (range_with_len 0 (length (edges_of g)))))
        none)
        in
        supplied-or (is_utf8 depfile) (is_some (supplied_for h depfile)) utf8 lacks

    told : (e : ℕ) → e < length (edges_read stated)
        → IsTold (supplied_for h) (times_of g times) (edge_at (paths_of_edges (edges_read stated)) e)
        (late_text_of stated e (codes "deps")) (late_text_of stated e (codes "depfile"))
    told e below = record {
      time = λ output is. times-told g named times e (omega (arith, below, count-is)) output
          (ap (λ es. first_output (edge_at es e)) graph.built.paths ∙ is);
      text = depfile-given e below;
    }

    never : ¬ Rises 0 0
    never rises = let above = rises.above (omega arith) in omega (arith, above)

    pub found-alike : (after after2 : Supplied) (log : LogModel) (found found2 : DiscoveriesModel)
        (result result2 : Result GraphModel GraphFault)
        → FindsInputs g h after log times stated found result
        → FindsInputs g h after2 log times stated found2 result2 → SameDiscoveries found found2
    found-alike after after2 log found found2 result result2 is also =
        told-agree (supplied_state (unread h)) (supplied_state after) (supplied_state (unread h))
        (supplied_state after2) (λ path. refl) never never (times_of g times) log stated found found2 told
        is.discovered also.discovered

-- ---- what a call comes to

module _ (g : GraphModel) (kept : Kept) (bytes times : List ℕ) where
  pub data Comes (new : Kept) : Status → Type 0 where
    joined : (j : GraphModel) (log : LogModel) (found : DiscoveriesModel) → length times ≡ length (edges_of g)
        → IsLogOf (log_bytes bytes) log → KeepsOthers kept new → new.graph ≡ Some j → new.fault ≡ kept.fault
        → new.log ≡ Some (given_read bytes log) → new.unknown.items ≡ unknown_of found
        → j.origins ≡ g.origins
        → ((stated : List ReadStatement) → IsGraphOf g stated
        → (lacking_depfiles kept.files stated (length (edges_of g)) ≡ [])
        × FindsInputs g kept.files new.files log times stated found (Ok j)) → Comes new Done
    faulty : (fault : GraphFault) (log : LogModel) (found : DiscoveriesModel)
        → length times ≡ length (edges_of g)
        → IsLogOf (log_bytes bytes) log → KeepsOthers kept new → new.graph ≡ None → new.fault ≡ Some fault
        → fault ≢ no_memory
        → ((stated : List ReadStatement) → IsGraphOf g stated
        → (lacking_depfiles kept.files stated (length (edges_of g)) ≡ [])
        × FindsInputs g kept.files new.files log times stated found (Err fault)) → Comes new Fault
    wanted : (log : LogModel) → length times ≡ length (edges_of g) → IsLogOf (log_bytes bytes) log
        → new ≡ record kept { graph = Some g; wanted = new.wanted } → new.wanted.items ≢ []
        → ((stated : List ReadStatement) → IsGraphOf g stated
        → map (λ p. p.items) new.wanted.items ≡ lacking_depfiles kept.files stated (length (edges_of g)))
        → Comes new Wanted
    bad_number : new ≡ kept → length times ≢ length (edges_of g) → Comes new BadNumber
    bad_log : new ≡ kept → length times ≡ length (edges_of g) → IsNoLog (log_bytes bytes) → Comes new BadLog

  module _ (new : Kept) (at : kept.graph ≡ Some g) where
    of-one : (h : GraphModel) → kept.graph ≡ Some h → h ≡ g
    of-one h there = same_Some h g (sym there ∙ at)

    comes-found : (log : LogModel) → length times ≡ length (edges_of g) → IsLogOf (log_bytes bytes) log
        → (status : Status)
        → status ≢ OutOfMemory → JoinsFound g kept new log (given_read bytes log) times status
        → Comes new status
    comes-found log count is Done memory (j, found, k, graph, fault, how_far, unknown, numbers, finds) =
        joined j log found count is k graph fault how_far unknown numbers.2 finds
    comes-found log count is Fault memory (fault, found, k, graph, there, other, finds) =
        faulty fault log found count is k graph there other finds
    comes-found log count is Wanted memory (left, some, wants) = wanted log count is left some wants
    comes-found log count is OutOfMemory memory lacks = absurd (memory refl)
    comes-found log count is Nothing memory none = absurd none
    comes-found log count is Short memory none = absurd none
    comes-found log count is NotLoaded memory none = absurd none
    comes-found log count is BadNumber memory none = absurd none
    comes-found log count is BadMark memory none = absurd none
    comes-found log count is NotUtf8 memory none = absurd none
    comes-found log count is NotOpen memory none = absurd none
    comes-found log count is BadLog memory none = absurd none

    -- by a log of any graph of the session
    abbrev Known : Status → Type 0
    Known status = (h : GraphModel) × (log : LogModel) × (kept.graph ≡ Some h)
        × (length times ≡ length (edges_of h)) × IsLogOf (log_bytes bytes) log
        × JoinsFound h kept new log (given_read bytes log) times status

    by-log : (status : Status) → status ≢ OutOfMemory → Known status → Comes new status
    by-log status memory (h, log, there, count, is, found) =
        let same = of-one h there in
        comes-found log (subst (λ k. length times ≡ length (edges_of k)) same count) is status memory
        (subst (λ k. JoinsFound k kept new log (given_read bytes log) times status) same found)

    pub comes : (status : Status) → status ≢ OutOfMemory → JoinsDiscovered kept new bytes times status
        → Comes new status
    comes Done memory is = by-log Done memory is
    comes Fault memory is = by-log Fault memory is
    comes Wanted memory is = by-log Wanted memory is
    comes NotLoaded memory (none, left) = absurd (let e = sym none ∙ at in cc)
    comes BadNumber memory (h, there, left, count) =
        bad_number left (subst (λ k. length times ≢ length (edges_of k)) (of-one h there) count)
    comes BadLog memory (h, there, count, left, none) =
        bad_log left (subst (λ k. length times ≡ length (edges_of k)) (of-one h there) count) none
    comes OutOfMemory memory is = absurd (memory refl)
    comes Nothing memory is = by-log Nothing memory is
    comes Short memory is = by-log Short memory is
    comes BadMark memory is = by-log BadMark memory is
    comes NotUtf8 memory is = by-log NotUtf8 memory is
    comes NotOpen memory is = by-log NotOpen memory is

-- ---- two of them

module _ (g : GraphModel) (stated : List ReadStatement) (graph : IsGraphOf g stated)
    (named : (path : List ℕ) → list_any (bytes_eq path) (files_of g) ≡ is_named (edges_of g) path)
    (kept new new2 : Kept) (bytes times : List ℕ)
    (at : kept.graph ≡ Some g)
  where
    abbrev Same : Type 0
    Same = SameContents SameGraph Equal new new2

    abbrev inputs_found : DiscoveriesModel → (edge : ℕ) → List (List ℕ)
    inputs_found found edge = (discovery_at found edge).inputs

    abbrev lacking : List (List ℕ)
    lacking = lacking_depfiles kept.files stated (length (edges_of g))

    abbrev Finds : Supplied → LogModel → DiscoveriesModel → Result GraphModel GraphFault → Type 0
    Finds after log found result = FindsInputs g kept.files after log times stated found result

    one-log : (log log2 : LogModel) → IsLogOf (log_bytes bytes) log → IsLogOf (log_bytes bytes) log2
        → log2 ≡ log
    one-log log log2 is is2 = says_one_thing (log_bytes bytes) log2 log is2 is

    module _ (none : lacking ≡ []) (log log2 : LogModel) (is : IsLogOf (log_bytes bytes) log)
        (is2 : IsLogOf (log_bytes bytes) log2)
        (found found2 : DiscoveriesModel) (result result2 : Result GraphModel GraphFault)
        (finds : Finds new.files log found result) (finds2 : Finds new2.files log2 found2 result2)
      where
        alike : SameDiscoveries found found2
        alike = found-alike kept.files g stated graph named times none new.files new2.files log found found2
            result
            result2 finds (subst (λ l. Finds new2.files l found2 result2) (one-log log log2 is is2) finds2)

        moved : JoinsNamed (inputs_found found) stated result2
        moved = subst (λ (n : ℕ → List (List ℕ)). JoinsNamed n stated result2)
            (sym (all-inputs found found2 alike)) finds2.joins

    others-alike : KeepsOthers kept new → KeepsOthers kept new2 → SameOptions SameGraph new.graph new2.graph
        → new.fault ≡ new2.fault → (new.graph ≢ None → SameJoined new new2) → Same
    others-alike k k2 graphs faults joins = record {
      files = λ path. k2.files path ∙ sym (k.files path);
      wanted = ap (map (λ p. p.items)) (k.wanted ∙ sym k2.wanted);
      graph = graphs;
      fault = faults;
      found = ap (λ v. map (λ e. e.0) v.items) (k.found ∙ sym k2.found);
      mark = ap (λ m. m.items) (k.mark ∙ sym k2.mark);
      stale = ap (λ v. v.items) (k.stale ∙ sym k2.stale);
      joined = joins;
      output = ap (λ o. o.bytes) (k.run.output ∙ sym k2.run.output);
      errors = ap (λ o. o.bytes) (k.run.errors ∙ sym k2.run.errors);
    }

    both-wanted : new ≡ record kept { graph = Some g; wanted = new.wanted }
        → new2 ≡ record kept { graph = Some g; wanted = new2.wanted }
        → map (λ p. p.items) new.wanted.items ≡ map (λ p. p.items) new2.wanted.items → Same
    both-wanted left left2 wants = record {
      files = λ path. sym (part (λ (k : Kept). supplied_for k.files path) refl);
      wanted = wants;
      graph = both-some SameGraph new.graph new2.graph g g (ap (λ (k : Kept). k.graph) left)
          (ap (λ (k : Kept). k.graph) left2) (same-graph g g stated graph graph refl);
      fault = part (λ (k : Kept). k.fault) refl;
      found = part (λ (k : Kept). map (λ e. e.0) k.found.items) refl;
      mark = part (λ (k : Kept). k.mark.items) refl;
      stale = part (λ (k : Kept). k.stale.items) refl;
      joined = λ _. record {
        log = part (λ (k : Kept). k.log) refl;
        unknown = part (λ (k : Kept). k.unknown.items) refl;
      };
      output = part (λ (k : Kept). k.output.bytes) refl;
      errors = part (λ (k : Kept). k.errors.bytes) refl;
    }
      where
        part : {A : Type 0} (of : Kept → A) → of (record kept { graph = Some g; wanted = new.wanted })
            ≡ of (record kept { graph = Some g; wanted = new2.wanted }) → of new ≡ of new2
        part of = parts-agree of new new2 (record kept { graph = Some g; wanted = new.wanted })
            (record kept { graph = Some g; wanted = new2.wanted }) left left2

    both-unchanged : new ≡ kept → new2 ≡ kept → Same
    both-unchanged left left2 = unchanged-contents SameGraph Equal kept new new2 left left2
        (both-some SameGraph kept.graph kept.graph g g at at (same-graph g g stated graph graph refl)) refl

    lacks-none : (k : Kept) → k.wanted.items ≢ []
        → map (λ p. p.items) k.wanted.items ≡ lacking → lacking ≡ [] → ⊥
    lacks-none k some are none = some (no-map _ k.wanted.items (are ∙ none))
      where
        no-map : {A B : Type 0} (f : A → B) (xs : List A) → map f xs ≡ [] → xs ≡ []
        no-map f [] is = refl
        no-map f (x ∷ xs) is = absurd cc

    pub joins-agree : (status status2 : Status) → Comes g kept bytes times new status
        → Comes g kept bytes times new2 status2 → (status ≡ status2) × Same
    joins-agree _ _ (joined j log found count is k there fault how_far unknown from finds)
        (joined j2 log2 found2 count2 is2 k2 there2 fault2 how_far2 unknown2 from2 finds2) =
        let f = finds stated graph in
        let f2 = finds2 stated graph in
        let moves = moved f.0 log log2 is is2 found found2 (Ok j) (Ok j2) f.1 f2.1 in
        let same = alike f.0 log log2 is is2 found found2 (Ok j) (Ok j2) f.1 f2.1 in (
          refl,
          others-alike k k2 (both-some SameGraph new.graph new2.graph j j2 there there2
              (same-graph j j2 (with_named (inputs_found found) stated) f.1.joins moves (from ∙ sym from2)))
              (fault ∙ sym fault2)
              (λ _. record {
                log = how_far ∙ ap (λ l. Some (given_read bytes l)) (sym (one-log log log2 is is2))
                    ∙ sym how_far2;
                unknown = unknown ∙ tests-same found found2 same is_unknown ∙ sym unknown2;
              }),
        )
    joins-agree _ _ (joined j log found count is k there fault how_far unknown from finds)
        (faulty fault2 log2 found2 count2 is2 k2 there2 has2 memory2 finds2) =
        let f = finds stated graph in
        let f2 = finds2 stated graph in
        absurd (memory2 (joined-or-none (inputs_found found) stated j fault2 f.1.joins
        (moved f.0 log log2 is is2 found found2 (Ok j) (Err fault2) f.1 f2.1)))
    joins-agree _ _ (joined j log found count is k there fault how_far unknown from finds)
        (wanted log2 count2 is2 left2 some2 wants2) =
        absurd (lacks-none new2 some2 (wants2 stated graph) (finds stated graph).0)
    joins-agree _ _ (joined j log found count is k there fault how_far unknown from finds)
        (bad_number left2 other2) = absurd (other2 count)
    joins-agree _ _ (joined j log found count is k there fault how_far unknown from finds)
        (bad_log left2 count2 none2) = absurd (log-or-none (log_bytes bytes) log is none2)
    joins-agree _ _ (faulty fault log found count is k there has memory finds)
        (joined j log2 found2 count2 is2 k2 there2 fault2 how_far2 unknown2 from2 finds2) =
        let f = finds stated graph in
        let f2 = finds2 stated graph in
        absurd (memory (joined-or-none (inputs_found found) stated j fault
        (moved f.0 log log2 is is2 found found2 (Err fault) (Ok j) f.1 f2.1) f.1.joins))
    joins-agree _ _ (faulty fault log found count is k there has memory finds)
        (faulty fault2 log2 found2 count2 is2 k2 there2 has2 memory2 finds2) =
        let f = finds stated graph in
        let f2 = finds2 stated graph in (
          refl,
          others-alike k k2 (both-none SameGraph new.graph new2.graph there there2)
              (has ∙ ap Some (one-fault (inputs_found found) stated fault fault2 memory memory2 f.1.joins
              (moved f.0 log log2 is is2 found found2 (Err fault) (Err fault2) f.1 f2.1)) ∙ sym has2)
              (λ some. absurd (some there)),
        )
    joins-agree _ _ (faulty fault log found count is k there has memory finds)
        (wanted log2 count2 is2 left2 some2 wants2) =
        absurd (lacks-none new2 some2 (wants2 stated graph) (finds stated graph).0)
    joins-agree _ _ (faulty fault log found count is k there has memory finds) (bad_number left2 other2) =
        absurd (other2 count)
    joins-agree _ _ (faulty fault log found count is k there has memory finds) (bad_log left2 count2 none2) =
        absurd (log-or-none (log_bytes bytes) log is none2)
    joins-agree _ _ (wanted log count is left some wants)
        (joined j log2 found2 count2 is2 k2 there2 fault2 how_far2 unknown2 from2 finds2) =
        absurd (lacks-none new some (wants stated graph) (finds2 stated graph).0)
    joins-agree _ _ (wanted log count is left some wants)
        (faulty fault2 log2 found2 count2 is2 k2 there2 has2 memory2 finds2) =
        absurd (lacks-none new some (wants stated graph) (finds2 stated graph).0)
    joins-agree _ _ (wanted log count is left some wants) (wanted log2 count2 is2 left2 some2 wants2) =
        (refl, both-wanted left left2 (wants stated graph ∙ sym (wants2 stated graph)))
    joins-agree _ _ (wanted log count is left some wants) (bad_number left2 other2) = absurd (other2 count)
    joins-agree _ _ (wanted log count is left some wants) (bad_log left2 count2 none2) =
        absurd (log-or-none (log_bytes bytes) log is none2)
    joins-agree _ _ (bad_number left other)
        (joined j log2 found2 count2 is2 k2 there2 fault2 how_far2 unknown2 from2 finds2) =
        absurd (other count2)
    joins-agree _ _ (bad_number left other)
        (faulty fault2 log2 found2 count2 is2 k2 there2 has2 memory2 finds2) =
        absurd (other count2)
    joins-agree _ _ (bad_number left other) (wanted log2 count2 is2 left2 some2 wants2) =
        absurd (other count2)
    joins-agree _ _ (bad_number left other) (bad_number left2 other2) = (refl, both-unchanged left left2)
    joins-agree _ _ (bad_number left other) (bad_log left2 count2 none2) = absurd (other count2)
    joins-agree _ _ (bad_log left count none)
        (joined j log2 found2 count2 is2 k2 there2 fault2 how_far2 unknown2 from2 finds2) =
        absurd (log-or-none (log_bytes bytes) log2 is2 none)
    joins-agree _ _ (bad_log left count none)
        (faulty fault2 log2 found2 count2 is2 k2 there2 has2 memory2 finds2) =
        absurd (log-or-none (log_bytes bytes) log2 is2 none)
    joins-agree _ _ (bad_log left count none) (wanted log2 count2 is2 left2 some2 wants2) =
        absurd (log-or-none (log_bytes bytes) log2 is2 none)
    joins-agree _ _ (bad_log left count none) (bad_number left2 other2) = absurd (other2 count)
    joins-agree _ _ (bad_log left count none) (bad_log left2 count2 none2) = (refl, both-unchanged left left2)

-- ---- without a graph

module _ (kept new : Kept) (bytes times : List ℕ) (none : kept.graph ≡ None) where
  no-graph : (g : GraphModel) → kept.graph ≡ Some g → ⊥
  no-graph g at = let e = sym none ∙ at in cc

  not-loaded : (status : Status) → status ≢ OutOfMemory → JoinsDiscovered kept new bytes times status
      → (status ≡ NotLoaded) × (new ≡ kept)
  not-loaded NotLoaded memory (at, left) = (refl, left)
  not-loaded BadNumber memory (g, at, left, count) = absurd (no-graph g at)
  not-loaded BadLog memory (g, at, count, left, bad) = absurd (no-graph g at)
  not-loaded OutOfMemory memory is = absurd (memory refl)
  not-loaded Done memory (g, log, at, count, is, found) = absurd (no-graph g at)
  not-loaded Fault memory (g, log, at, count, is, found) = absurd (no-graph g at)
  not-loaded Wanted memory (g, log, at, count, is, found) = absurd (no-graph g at)
  not-loaded Nothing memory (g, log, at, count, is, found) = absurd (no-graph g at)
  not-loaded Short memory (g, log, at, count, is, found) = absurd (no-graph g at)
  not-loaded BadMark memory (g, log, at, count, is, found) = absurd (no-graph g at)
  not-loaded NotUtf8 memory (g, log, at, count, is, found) = absurd (no-graph g at)
  not-loaded NotOpen memory (g, log, at, count, is, found) = absurd (no-graph g at)

pub discovered-agree : (bytes times : List ℕ) (kept new new2 : Kept)
    → ((g : GraphModel) → kept.graph ≡ Some g → (stated : List ReadStatement) × IsGraphOf g stated)
    → ((g : GraphModel) → kept.graph ≡ Some g → (path : List ℕ)
    → list_any (bytes_eq path) (files_of g) ≡ is_named (edges_of g) path)
    → (status status2 : Status) → status ≢ OutOfMemory → status2 ≢ OutOfMemory
    → JoinsDiscovered kept new bytes times status → JoinsDiscovered kept new2 bytes times status2
    → (status ≡ status2) × SameContents SameGraph Equal new new2
discovered-agree bytes times kept new new2 has named status status2 memory memory2 is also =
    by kept.graph refl
  where
    by : (o : Option GraphModel) → kept.graph ≡ o → (status ≡ status2) × SameContents SameGraph Equal new new2
    by None none = refused-alike kept new new2 status status2 NotLoaded none
        (not-loaded kept new bytes times none status memory is)
        (not-loaded kept new2 bytes times none status2 memory2 also)
    by (Some g) at =
        let statements = has g at in
        joins-agree g statements.0 statements.1 (named g at) kept new new2 bytes times at status status2
        (comes g kept bytes times new at status memory is)
        (comes g kept bytes times new2 at status2 memory2 also)
