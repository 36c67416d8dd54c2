-- The reading of a statement, where it has a fault of its own, and where it names a file.
use Rattle.std.proofs.lemmas.Grind.{common_steps}
use Rattle.std.proofs.Common.{◌≡◌, ℕ, ◌+◌, ◌<◌, Result, Ok, Err, IfOk, OnOk, length, arith, Bool, true, false}
use Rattle.std.proofs.Common.{inl, inr, Option, Some, None, option_map, List, [], ◌∷◌, ◌++◌, refl, sym, ap}
use Rattle.std.proofs.Common.{subst, ◌∙◌}
use Rattle.nj_graph.specs.Inside.PathsReached.{with_news, with_new, paths_read, come_to, reached_by}
use Rattle.nj_graph.proofs.OriginLemmas.{origins-more}
use Rattle.nj_graph.proofs.Continuing.{unless_fault}
use Rattle.std.specs.Bool.{then_some}
use Rattle.std.specs.Option.{option_or, option_to_list}
use Rattle.nj_text.specs.declared.spot.Spot.{Spot}
use Rattle.nj_text.specs.Words.{WordModel}
use Rattle.nj_manifest.specs.Faults.{Fault, Placed, OutOfMemory}
use Rattle.nj_manifest.specs.Statements.{StatementModel, BindingModel, RuleModel, PoolModel, BuildModel}
use Rattle.nj_manifest.specs.Statements.{DefaultModel, IncludeModel, SubninjaModel, LineModel, OutputsModel}
use Rattle.nj_manifest.specs.Statements.{InputsModel}
use Rattle.nj_scope.specs.Readings.{Reading, EachPathOnce, IsPrefix, paths_of}
use Rattle.nj_scope.specs.Scopes.{child, parent_at, first_given}
use Rattle.nj_scope.specs.Declarations.{DeclarationsModel, DeclaredBy, TakesIn}
use Rattle.nj_scope.specs.ReadingList.{ReadStatement, scope_of, value_after, path_named}
use Rattle.nj_scope.specs.Sources.{SourceState}
use Rattle.nj_faults.specs.declared.fault.GraphFault.{GraphFault}
use Rattle.nj_graph.specs.declared.file_statements.Naming.{Naming}
use Rattle.nj_graph.specs.declared.file_statements.Naming.TheVariants as naming
use Rattle.nj_graph.specs.declared.reader.Reader.{Reader}
use Rattle.nj_scope.specs.declared.scopes.ScopeNo.{ScopeNo}
use Rattle.nj_graph.specs.declared.reader.OpenFile.{OpenFile}
use Rattle.nj_faults.specs.declared.fault.Place.{Place}
use Rattle.nj_faults.specs.declared.fault.Cause.{Cause}
use Rattle.nj_faults.specs.Faults.{IsFault, fault_at, fault_in, no_memory}
use Rattle.nj_graph.specs.Reading.{Site, entry_at, expanded_in, place_at, path_fault, depth_fault, item_fault}
use Rattle.nj_graph.specs.Reading.{own_fault, Whole, Refused, ReadingModel, Opens, item_read, statement_read}
use Rattle.nj_graph.specs.Reading.{opened_in, text_read}
use Rattle.nj_graph.specs.Inside.Outcomes.{path_at_fault}
use Rattle.nj_graph.specs.Inside.ReaderContracts.{site_scope}
use Rattle.nj_edges.specs.Edges.{EdgePaths}
use Rattle.nj_statements.specs.EdgeList.{Values, EdgeModel, path_given, line_values, edges_read}
use Rattle.nj_statements.specs.EdgeList.{paths_of_edges, edge_of_build}
use Rattle.nj_statements.specs.BuildFaults.{empty_path, unknown_rule, two_makers, outputs_fault, paths_fault}
use Rattle.nj_statements.specs.BuildFaults.{late_fault, target_fault}
use Rattle.nj_statements.specs.Answers.{HasEdges}
use Rattle.nj_statements.proofs.Holding.{names_files, kept-other}
use Rattle.nj_graph.specs.Runs.{IsRead, Stops}
use Rattle.nj_graph.specs.Graph.{IsOpenScope}
use Rattle.nj_graph.specs.Origins.{OriginsModel, place_of}
use Rattle.nj_graph.specs.Inside.OriginsHeld.{origins_with}
use Rattle.nj_graph.specs.Inside.ReaderContracts.{named_item, named_site, site_of, EntersScope, Has, Grows}
use Rattle.nj_graph.specs.Inside.ReaderContracts.{IsOpenIn, ReadsOne, StopsAt, OpensText, OpensNamed}
use Rattle.nj_graph.proofs.Comes.{item-comes, statements-come}
use Rattle.nj_graph.proofs.OpenScopes.{open-grown, open-next}

-- ---- no fault of a statement by itself names a path

abbrev NamesNone : Option GraphFault → Type 0
NamesNone found = (fault : GraphFault) → found ≡ Some fault → path_at_fault fault.cause ≡ []

some-is : {A : Type 0} (x y : A) → Some x ≡ Some y → x ≡ y
some-is x y h = cc

if-names : (b : Bool) (file : List ℕ) (spot : Spot) (cause : Cause) → path_at_fault cause ≡ []
    → NamesNone (then_some b (fault_at file spot cause))
if-names true file spot cause none fault h = ap (λ f. path_at_fault f.cause) (sym (some-is _ fault h)) ∙ none
if-names false file spot cause none fault h = absurd cc

or-names : (first others : Option GraphFault) → NamesNone first → NamesNone others
    → NamesNone (option_or first others)
or-names (Some first) others one more = one
or-names None others one more = more

depth-names : (file : List ℕ) (found : Option LineModel) (cause : Cause) → path_at_fault cause ≡ []
    → NamesNone (option_map (λ l. fault_at file l.spot cause) found)
depth-names file (Some l) cause none fault h =
    ap (λ f. path_at_fault f.cause) (sym (some-is _ fault h)) ∙ none
depth-names file None cause none fault h = absurd cc

first-names : (fault_of : WordModel → Option GraphFault) → ((word : WordModel) → NamesNone (fault_of word))
    → (words : List WordModel) → NamesNone (first_given fault_of words)
first-names fault_of none [] = λ fault h. absurd cc
first-names fault_of none (word ∷ words) =
    or-names (fault_of word) (first_given fault_of words) (none word) (first-names fault_of none words)

empty-names : (file : List ℕ) (values : Values) (word : WordModel) → NamesNone (empty_path file values word)
empty-names file values word = if-names _ file word.spot _ refl

target-names : (file : List ℕ) (values : Values) (edges : List EdgePaths) (word : WordModel)
    → NamesNone (target_fault file values edges word)
target-names file values edges word = grind (arith, common_steps)

outputs-name : (file : List ℕ) (values : Values) (edges : List EdgePaths) (left : List (List ℕ))
    (words : List WordModel) → NamesNone (outputs_fault file values edges left words)
outputs-name file values edges left [] = λ fault h. absurd cc
outputs-name file values edges left (word ∷ words) =
    or-names (option_or (empty_path file values word) (two_makers file values edges left word)) _
    (or-names (empty_path file values word) _ (empty-names file values word)
    (if-names _ file word.spot _ refl))
    (outputs-name file values edges (left ++ path_given values word ∷ []) words)

paths-name : (file : List ℕ) (values : Values) (edges : List EdgePaths) (outputs : OutputsModel)
    (inputs : InputsModel) → NamesNone (paths_fault file values edges outputs inputs)
paths-name file values edges outputs inputs =
    or-names (outputs_fault file values edges [] (outputs.explicit ++ outputs.implicit)) _
    (outputs-name file values edges [] (outputs.explicit ++ outputs.implicit))
    (first-names (empty_path file values) (empty-names file values)
    (inputs.explicit ++ (inputs.implicit ++ (inputs.order_only ++ inputs.validations))))

late-names : (before : List ReadStatement) (edge : EdgeModel) → NamesNone (late_fault before edge)
late-names before edge = grind (arith, common_steps)

item-names : (e : ReadStatement) (before : List ReadStatement) (item : StatementModel)
    → NamesNone (item_fault e before item)
item-names e before (BindingModel name value) = if-names _ e.file e.spot _ refl
item-names e before (RuleModel name lines) = if-names _ e.file name.spot _ refl
item-names e before (PoolModel name lines) =
    or-names _ (depth_fault e.file (scope_of e) before lines) (if-names _ e.file name.spot _ refl)
    (depth-names e.file _ _ refl)
item-names e before (BuildModel outputs rule inputs lines) =
    or-names (unknown_rule e before rule) _ (if-names _ e.file rule.spot _ refl)
    (or-names (paths_fault e.file (line_values e before lines) (paths_of_edges (edges_read before)) outputs
    inputs) _
    (paths-name e.file (line_values e before lines) (paths_of_edges (edges_read before)) outputs inputs)
    (late-names before (edge_of_build e before outputs rule inputs lines)))
item-names e before (DefaultModel words) =
    first-names _ (target-names e.file (value_after before (scope_of e)) (paths_of_edges (edges_read before)))
    words
item-names e before (IncludeModel word) =
    or-names _ _ (if-names _ e.file word.spot _ refl) (if-names _ e.file word.spot _ refl)
item-names e before (SubninjaModel word) =
    or-names _ _ (if-names _ e.file word.spot _ refl) (if-names _ e.file word.spot _ refl)

pub syntax-names : (file : List ℕ) (fault : Fault) → path_at_fault (fault_in file fault).cause ≡ []
syntax-names file (Placed spot cause) = refl
syntax-names file OutOfMemory = refl

-- ---- the two kinds of statements that name a file

module _ (kind : Naming) (site : Site) (start : Spot) (entries : List ReadStatement) (word : WordModel) where
  abbrev names : ReadStatement
  names = entry_at site (record { spot = start; item = named_item kind word })

  pub named-fault : own_fault names entries
      ≡ path_fault site.file word.spot (expanded_in (site_scope site) entries word)
  named-fault = grind (arith, common_steps)

  pub named-path : path_named names entries names.item ≡ Some (expanded_in (site_scope site) entries word)
  named-path = grind (arith, common_steps)

  pub named-file : (named_site kind names entries word).file ≡ expanded_in (site_scope site) entries word
  named-file = grind (arith, common_steps)

  -- where it is opened from
  pub named-origins : (o : OriginsModel) → origins_with names entries o ≡ record o {
    openings = o.openings ++ record {
      path = expanded_in (site_scope site) entries word;
      named_at =
          Some (place_of names);
      scope = (named_site kind names entries word).scope;
    } ∷ [];
  }
  named-origins o =
      elim kind as (λ k. origins_with (entry_at site (record { spot = start; item = named_item k word }))
      entries o ≡ record o {
        openings = o.openings ++ record {
          path = expanded_in (site_scope site) entries word;
          named_at =
              Some (place_of (entry_at site (record { spot = start; item = named_item k word })));
          scope =
              (named_site k (entry_at site (record { spot = start; item = named_item k word })) entries
              word).scope;
        } ∷ [];
      })
      [ naming.Include ↦ refl | naming.Subninja ↦ refl ]

  pub named-builds : names_files names.item ≡ false
  named-builds = grind (arith, common_steps)

  -- without a fault of its own
  pub named-read : path_fault site.file word.spot (expanded_in (site_scope site) entries word) ≡ None
      → (opens : Opens) → statement_read opens names entries
      ≡ opens (named_site kind names entries word) (place_at names word.spot) names entries
  named-read none opens = grind (arith, common_steps)

-- a new scope for the file after `subninja`
pub enters-new : {X : Type 0} (old : Reader) (new : DeclarationsModel) (file : OpenFile) (start : Spot)
    (word : WordModel) (entries : List ReadStatement) (around : List ℕ) (depth : ℕ)
    (result : Result ScopeNo X)
    → IfOk result (λ n. n.0 ≡ length old.declarations.scopes)
    → OnOk result (parent_at new.scopes (length old.declarations.scopes) ≡ Some file.scope.0)
    → ((n : ℕ) → n < length old.declarations.scopes
    → parent_at new.scopes n ≡ parent_at old.declarations.scopes n)
    → OnOk result (length new.scopes ≡ length old.declarations.scopes + 1)
    → OnOk result (TakesIn old.declarations new file.scope.0 around (SubninjaModel word))
    → DeclaredBy old.declarations entries → IsOpenIn old file around
    → IfOk result (λ n. EntersScope (record
    { declarations = new; building = old.building; files = old.files; origins = old.origins }) n.0
    (named_site naming.Subninja (entry_at (site_of file around depth)
    (record { spot = start; item = SubninjaModel word })) entries word)
    (entry_at (site_of file around depth) (record { spot = start; item = SubninjaModel word })) entries)
enters-new old new file start word entries around depth (Err e) number within others count opened declares
    inside = tt
enters-new old new file start word entries around depth (Ok n) number within others count opened declares
    inside =
    let grown = open-grown old.declarations.scopes new.scopes file.scope.0 around
    (record { count = omega (arith, count); parents = others }) inside in
    record {
      number_is = sym (number ∙ declares.scopes);
      scope = record {
        within = child (ap (parent_at new.scopes) number ∙ within) grown.within;
        there = (rw number (omega (arith, count)), grown.there);
      };
      declares = opened entries file.name.now start depth declares;
    }

-- ---- a run that stops

pub stops-same : (main : List ℕ) (before after : SourceState) (old : List Reading)
    (first second : List Reading → ReadingModel) (fault : GraphFault)
    → ((all : List Reading) → second all ≡ first all) → StopsAt main before after old first fault
    → StopsAt main before after old second fault
stops-same main before after old first second fault same s =
    record { files = s.files; reads = s.reads; stops = by s.stops }
  where
    by : Stops before after s.files (λ all. reached_by main (first all)) fault
        → Stops before after s.files (λ all. reached_by main (second all)) fault
    by (inl m) = inl (record {
      answered = m.answered;
      failures = m.failures;
      came_to =
          λ all e. subst (λ r. IsPrefix (paths_of s.files) (come_to main r)) (sym (same all))
          (m.came_to all e);
    })
    by (inr e) = inr (record {
      reached = e.reached;
      answered = e.answered;
      read =
          λ all ext lacks. ap (reached_by main) (same all) ∙ e.read all ext lacks;
      came_to = e.came_to;
    })

module _ (main : List ℕ) (before after : SourceState) (old : Reader) (entries : List ReadStatement)
    (has : Has main old entries) (same : after ≡ before) where
  read-no_more : IsRead before after old.files old.files
  read-no_more = grind (arith, common_steps)

  -- there was no memory, and nothing more was read
  pub stops-memory : (reading : List Reading → ReadingModel) (fault : GraphFault)
      → ((all : List Reading) → IsPrefix (paths_read main entries) (come_to main (reading all)))
      → fault ≡ no_memory
      → StopsAt main before after old.files reading fault
  stops-memory reading fault comes none = record {
    files = old.files;
    reads = read-no_more;
    stops = inl (record {
      answered = none;
      failures = ap (λ source. source.failures) same;
      came_to =
          λ all e. subst (λ ps. IsPrefix ps (come_to main (reading all))) (sym has.paths_are) (comes all);
    });
  }

  -- a fault before which nothing more was read
  pub stops-refused : (reading : List Reading → ReadingModel) (fault : GraphFault) (expected : GraphFault)
      → ((all : List Reading) → reading all ≡ record { entries = entries; end = Refused expected })
      → path_at_fault expected.cause ≡ [] → fault ≡ expected
      → StopsAt main before after old.files reading fault
  stops-refused reading fault expected is none reported = record {
    files = old.files;
    reads = read-no_more;
    stops = inr (record {
      reached = reached_by main (record { entries = entries; end = Refused expected });
      answered = (reported, ap (λ source. source.failures) same);
      read =
          λ all e lacks. ap (reached_by main) (is all);
      came_to =
          ap (with_news (paths_read main entries)) none ∙ sym has.paths_are;
    });
  }

  -- a fault of a statement by itself
  pub stops-own : (left : ℕ) (e : ReadStatement) (fault : GraphFault) → IsFault (own_fault e entries) fault
      → StopsAt main before after old.files (λ all. statement_read (opened_in all left) e entries) fault
  stops-own left e fault (inl none) = stops-memory (λ all. statement_read (opened_in all left) e entries)
      fault (λ all. item-comes main all left e entries) none
  stops-own left e fault (inr reported) =
      stops-refused (λ all. statement_read (opened_in all left) e entries) fault fault
      (λ all. ap (λ f. unless_fault f entries (item_read (opened_in all left) e entries e.item)) reported)
      (item-names e entries e.item fault reported) refl

  -- the same where this is the statement
  pub stops-item : (left : ℕ) (site : Site) (spot : Spot) (item meant : StatementModel) (fault : GraphFault)
      → item ≡ meant
      → IsFault (own_fault (entry_at site (record { spot = spot; item = meant })) entries) fault
      → StopsAt main before after old.files
      (λ all. statement_read (opened_in all left) (entry_at site (record { spot = spot; item = item }))
      entries) fault
  stops-item left site spot item meant fault is reported =
      subst (λ i. StopsAt main before after old.files
      (λ all. statement_read (opened_in all left) (entry_at site (record { spot = spot; item = i }))
      entries) fault) (sym is)
      (stops-own left (entry_at site (record { spot = spot; item = meant })) fault reported)

-- ---- a file that is named

module _ (main : List ℕ) (before after : SourceState) (old mid held : Reader) (left : ℕ) (place : Place)
    (path : List ℕ) (e : ReadStatement) (entries : List ReadStatement) (text : List ℕ) where
  pub opens-file : (inner : Site) → Has main old entries
      → OpensText main before after old mid left place path entries text → held.files ≡ mid.files
      → held.origins ≡ origins_with e entries old.origins → held.building ≡ old.building
      → names_files e.item ≡ false → Grows old.declarations.scopes held.declarations.scopes
      → IsOpenScope old.declarations.scopes e.scope e.around
      → DeclaredBy held.declarations (e ∷ entries) → inner.file ≡ path
      → path_named e entries e.item ≡ Some path
      → ((opens : Opens) → statement_read opens e entries ≡ opens inner place e entries)
      → OpensNamed main before after old held left inner text e entries
  opens-file inner has o files origins building builds grows inside declares is names read = record {
    files = o.files;
    reads = record { reads = o.reads.reads; held_is = files ∙ o.reads.held_is; failures = o.reads.failures };
    has = record {
      declares = declares;
      edges = subst (λ b. HasEdges b (e ∷ entries)) (sym building)
          (kept-other old.building e entries builds has.edges);
      scopes = open-next old.declarations.scopes held.declarations.scopes e entries grows inside has.scopes;
      origins = origins ∙ ap (origins_with e entries) has.origins ∙ origins-more main e entries;
      paths_are = ap paths_of (files ∙ o.reads.held_is) ∙ o.came_to
          ∙ ap (λ ps. with_new ps path) has.paths_are
          ∙ ap (λ o. with_news (paths_read main entries) (option_to_list o)) (sym names);
      once = subst EachPathOnce (sym (files ∙ o.reads.held_is)) o.reads.reads.once;
    };
    within = o.within;
    left_is = o.left_is;
    read = λ all ext. read (opened_in all left) ∙ o.read inner e all is ext;
  }

  -- there was no memory for the scope of a file that is open
  pub stops-open : (inner : Site) (fault : GraphFault) → Has main old entries
      → OpensText main before after old mid left place path entries text
      → inner.file ≡ path → path_named e entries e.item ≡ Some path
      → ((opens : Opens) → statement_read opens e entries ≡ opens inner place e entries)
      → fault ≡ no_memory
      → StopsAt main before after old.files (λ all. statement_read (opened_in all left) e entries) fault
  stops-open inner fault has o is names read none = record {
    files = o.files;
    reads = o.reads.reads;
    stops = inl (record {
      answered = none;
      failures = o.reads.failures;
      came_to =
          λ all ext. subst (λ r. IsPrefix (paths_of o.files) (come_to main r))
          (sym (read (opened_in all left) ∙ o.read inner e all is ext)) (comes all);
    });
  }
    where
      listed : paths_read main (e ∷ entries) ≡ paths_of o.files
      listed = ap (λ o. with_news (paths_read main entries) (option_to_list o)) names
          ∙ ap (λ ps. with_new ps path) (sym has.paths_are) ∙ sym o.came_to

      comes : (all : List Reading) → IsPrefix (paths_of o.files)
          (come_to main (text_read (opened_in all o.within) inner text (e ∷ entries)))
      comes all = subst (λ ps. IsPrefix ps (come_to main
          (text_read (opened_in all o.within) inner text (e ∷ entries)))) listed
          (statements-come main all o.within inner _ _ (e ∷ entries))

-- ---- a statement that does not name a file

pub reads-one : (main : List ℕ) (source : SourceState) (old held : Reader) (e : ReadStatement)
    (entries : List ReadStatement)
    → Has main old entries → Has main held (e ∷ entries) → own_fault e entries ≡ None → held.files ≡ old.files
    → ((opens : Opens) → item_read opens e entries e.item ≡ record { entries = e ∷ entries; end = Whole })
    → ReadsOne main source source old held e entries
reads-one main source old held e entries has after none files reads = grind (arith, common_steps)
