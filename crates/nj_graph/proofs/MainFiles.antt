-- The main file of a run.
use Rattle.std.proofs.lemmas.Grind.{common_steps}
use Rattle.std.proofs.Common.{◌≡◌, ℕ, true, false, ◌||◌, cond, inl, inr, is_some, Option, Some, None, Result}
use Rattle.std.proofs.Common.{Ok, Err, List, [], ◌∷◌, ◌++◌, length, refl, sym, ap, subst, ◌∙◌, arith}
use Rattle.std.proofs.Common.{true≢false}
use Rattle.nj_graph.proofs.FirstTimes.{loads}
use Rattle.nj_graph.specs.Inside.PathsReached.{with_new, come_to, reached_by, reached_of}
use Rattle.std.specs.Prelude.{◌⊎◌, IfOk}
use Rattle.std.specs.List.{AllByRecursion}
use Rattle.std.proofs.lemmas.List.{length-map}
use Rattle.std.proofs.lemmas.Slice.Eq.{bytes_eq-Decides}
use Rattle.nj_scope.specs.Readings.{Reading, EachPathOnce, reading_of, is_read, IsPrefix, paths_of}
use Rattle.nj_scope.specs.Scopes.{outermost, parent_at}
use Rattle.nj_scope.specs.ReadingList.{ReadStatement}
use Rattle.nj_scope.specs.Sources.{SourceState}
use Rattle.nj_faults.specs.declared.fault.GraphFault.{GraphFault}
use Rattle.nj_graph.specs.declared.reader.Reader.{Reader}
use Rattle.nj_faults.specs.declared.fault.Cause.TheVariants.{Missing}
use Rattle.nj_faults.specs.Faults.{no_memory}
use Rattle.nj_faults.specs.Limits.{most_within}
use Rattle.nj_graph.specs.Reading.{Refused, Lacking, ReadingModel, opened_in, text_read, outcome_read}
use Rattle.nj_graph.specs.Reading.{main_site, main_place, main_read}
use Rattle.nj_graph.specs.Inside.ReaderContracts.{IsNew, Has, ReadsAll, ReadsText, ReadsOrStops, StopsAt}
use Rattle.nj_graph.specs.Inside.ReaderContracts.{FinishesReading}
use Rattle.nj_cycles.specs.Cycles.{IsAcyclic}
use Rattle.nj_edges.specs.Needs.{makers_of_inputs}
use Rattle.nj_statements.specs.EdgeList.{edges_read, paths_of_edges}
use Rattle.nj_statements.specs.Built.{BuiltModel, ComesTo, detail_of}
use Rattle.nj_graph.specs.Origins.{main_of}
use Rattle.nj_graph.specs.Graph.{IsOpenScope, HasRule, IsGraphOf}
use Rattle.nj_graph.specs.Inside.GraphHeld.{HasMainRules, IsKnown, IsGraph}
use Rattle.nj_graph.specs.Laws.{Faultless}
use Rattle.nj_graph.proofs.OriginLemmas.{origins-of_main, main-named}
use Rattle.nj_graph.proofs.EdgeRules.{edges-have, edges-open, known-details}
use Rattle.nj_graph.proofs.ReadingLaws.{read_is_faultless}
use Rattle.nj_graph.specs.Runs.{IsRead}
use Rattle.nj_graph.specs.Loads.{LoadedModel, IsWhole, Loads}
use Rattle.nj_graph.proofs.Found.{FindsText, FindsNone, CannotTell, HasNoMemory}
use Rattle.nj_graph.proofs.Comes.{main-comes}
use Rattle.nj_graph.proofs.Tables.{extends-trans, reading-kept, read-extends, reads-all-then}
use Rattle.nj_graph.proofs.Turns.{stops-then}

abbrev main_reading : (main : List ℕ) → List Reading → ReadingModel
main_reading main all = main_read all main

-- a path is in the list of itself
itself : (path : List ℕ) → with_new (path ∷ []) path ≡ path ∷ []
itself path = ap (λ b. cond (b || false) (path ∷ []) (path ∷ [] ++ path ∷ []))
    ((bytes_eq-Decides path path).1 refl)

-- ---- the main file is not there

module _ (main : List ℕ) (before after : SourceState) (fault : GraphFault) where
  -- there was no memory before the first reading
  pub main-nothing : after ≡ before → fault ≡ no_memory
      → StopsAt main before after [] (main_reading main) fault
  main-nothing same none = grind (arith, common_steps)

  main-memory : HasNoMemory before after [] main fault
      → StopsAt main before after [] (main_reading main) fault
  main-memory h = record {
    files = h.files;
    reads = h.reads;
    stops =
        inl (record { answered = h.answered; failures = h.failures; came_to = λ all ext. by all h.came_to });
  }
    where
      by : (all : List Reading) → (paths_of h.files ≡ [])
          ⊎ ((paths_of h.files ≡ main ∷ []) × (is_read h.files main ≡ true))
          → IsPrefix (paths_of h.files) (come_to main (main_read all main))
      by all (inl none) = subst (λ ps. IsPrefix ps (come_to main (main_read all main))) (sym none)
          (come_to main (main_read all main), refl)
      by all (inr (one, there)) = subst (λ ps. IsPrefix ps (come_to main (main_read all main))) (sym one)
          (main-comes main all)

  main-unread : CannotTell before after [] (main_place main) main fault
      → StopsAt main before after [] (main_reading main) fault
  unfolding main_read
  main-unread h = record {
    files = [];
    reads = h.reads;
    stops = inr (record {
      reached = reached_by main (record { entries = []; end = Lacking main (main_place main) });
      answered = (h.answered, h.failures);
      read = λ all ext lacks. ap (λ r. reached_by main
          (outcome_read main (main_place main) []
          (λ t. text_read (opened_in all most_within) (main_site main) t []) r))
          (none (reading_of all main) lacks);
      came_to = itself main;
    });
  }
    where
      none : (r : Option Reading) → is_some r ≡ false → r ≡ None
      none None e = refl
      none (Some r) e = absurd (true≢false e)

  main-none : FindsNone before after [] (main_place main) main fault
      → StopsAt main before after [] (main_reading main) fault
  unfolding main_read
  main-none h = record {
    files = h.files;
    reads = h.reads;
    stops = inr (record {
      reached = reached_by main (record {
        entries = [];
        end =
            Refused (record { place = Some (main_place main); cause = Missing main });
      });
      answered = (h.answered, h.failures);
      read = λ all ext lacks. ap (λ r. reached_by main
          (outcome_read main (main_place main) []
          (λ t. text_read (opened_in all most_within) (main_site main) t []) r))
          (reading-kept main (record { path = main; bytes = None }) all h.files ext h.found);
      came_to = itself main ∙ sym h.came_to;
    });
  }

  pub main-fault : (old : List Reading) → old ≡ []
      → HasNoMemory before after old main fault
      ⊎ (CannotTell before after old (main_place main) main fault
      ⊎ FindsNone before after old (main_place main) main fault)
      → StopsAt main before after old (main_reading main) fault
  main-fault old is h = subst (λ fs. StopsAt main before after fs (main_reading main) fault) (sym is)
      (by (subst (λ fs. HasNoMemory before after fs main fault
      ⊎ (CannotTell before after fs (main_place main) main fault
      ⊎ FindsNone before after fs (main_place main) main fault)) is h))
    where
      by : HasNoMemory before after [] main fault
          ⊎ (CannotTell before after [] (main_place main) main fault
          ⊎ FindsNone before after [] (main_place main) main fault)
          → StopsAt main before after [] (main_reading main) fault
      by (inl m) = main-memory m
      by (inr (inl m)) = main-unread m
      by (inr (inr m)) = main-none m

-- ---- the main file exists

-- its scope
pub main-placed : (main : List ℕ) (held : Reader) → IsNew main held
    → IsOpenScope held.declarations.scopes 0 []
main-placed main held new = record {
  within = outermost new.outermost;
  there =
      (rw new.declares.scopes (omega arith), tt);
}

module _ (main : List ℕ) (before mid after : SourceState) (old opened held : Reader) (text : List ℕ)
    (new : IsNew main old) (found : FindsText before mid old.files opened.files main text) where
  is-text : (all : List Reading) → IsPrefix found.files all
      → main_read all main ≡ text_read (opened_in all most_within) (main_site main) text []
  unfolding main_read
  is-text all ext = ap (λ r. outcome_read main (main_place main) []
      (λ t. text_read (opened_in all most_within) (main_site main) t []) r)
      (reading-kept main (record { path = main; bytes = Some text }) all found.files ext found.found)

  pub main-has : opened.declarations ≡ old.declarations → opened.building ≡ old.building
      → opened.origins ≡ old.origins → Has main opened []
  main-has declared building origins = grind (arith, common_steps)

  pub main-reads : (result : Result (Unit {0}) GraphFault)
      → ReadsOrStops main mid after opened held
      (λ all. text_read (opened_in all most_within) (main_site main) text []) result
      → ReadsOrStops main before after old held (main_reading main) result
  main-reads (Ok done) r = record {
    files = r.files;
    reads = reads-all-then before mid after old.files found.files r.files opened.files held.files found.reads
        there;
    entries = r.entries;
    has = r.has;
    read = λ all ext. is-text all (extends-trans all r.files found.files ext
        (read-extends mid after found.files r.files there.reads)) ∙ r.read all ext;
  }
    where
      there : ReadsAll mid after found.files r.files held.files
      there = subst (λ fs. ReadsAll mid after fs r.files held.files) found.reads.held_is r.reads
  main-reads (Err fault) s =
      stops-then main before mid after old.files found.files opened.files
      (λ all. text_read (opened_in all most_within) (main_site main) text []) (main_reading main)
      found.reads (record {
        comes = λ all ext front h. subst (λ r. IsPrefix front (come_to main r)) (sym (is-text all ext)) h;
        ends = λ all ext es end stops h. is-text all ext ∙ h;
      }) fault s

-- there was no memory for the graph of the statements that were read
pub reads-memory : (main : List ℕ) (before after : SourceState) (old held : Reader) (fault : GraphFault)
    → ReadsText main before after old held (main_reading main) → fault ≡ no_memory
    → StopsAt main before after old.files (main_reading main) fault
reads-memory main before after old held fault r none = grind (arith, common_steps)

-- ---- all was read

module _ (main : List ℕ) (held : Reader) (entries : List ReadStatement) (has : Has main held entries)
    (faultless : Faultless entries) where
  -- each edge has a rule, since no statement has a fault
  has-rules : AllByRecursion (HasRule held.declarations.rules) (edges_read entries)
  has-rules = subst (λ rules. AllByRecursion (HasRule rules) (edges_read entries)) (sym has.declares.rules)
      (edges-have entries faultless)

  module _ (built : BuiltModel) (comes : ComesTo entries (Ok built)) where
    -- the graph has the declarations and the edges
    pub graph-of : IsGraphOf (record {
      declarations = held.declarations;
      built = built;
      origins =
          held.origins;
    }) entries
    graph-of = record {
      declares = has.declares;
      scopes = has.scopes;
      built = comes.0;
      rules = has-rules;
      acyclic = subst (λ es. IsAcyclic (makers_of_inputs es) (length es)) (sym comes.0.paths)
          (subst (λ n. IsAcyclic (makers_of_inputs (paths_of_edges (edges_read entries))) n)
          (sym (length-map (edges_read entries) (λ e. e.paths))) comes.1);
      origins = origins-of_main held.origins main entries has.origins;
    }

    -- the main file is the main file of the run
    pub main-is : main_of held.origins ≡ main
    main-is = ap main_of has.origins ∙ main-named main entries

    -- and the facts about its fields
    pub graph-held : (numbers : List ℕ) → parent_at held.declarations.scopes 0 ≡ None
        → HasMainRules held.declarations.rules numbers → IsGraph held.declarations built numbers
    graph-held numbers outer listed = record {
      listed = listed;
      outermost = outer;
      count = ap length comes.0.details ∙ length-map (edges_read entries) detail_of
          ∙ sym (ap length comes.0.paths ∙ length-map (edges_read entries) (λ e. e.paths));
      known = subst (AllByRecursion (IsKnown held.declarations)) (sym comes.0.details)
          (known-details held.declarations (edges_read entries)
          (edges-open held.declarations.scopes entries has.scopes) has-rules);
    }

    pub loaded-held : EachPathOnce held.files
        × ((read : List ReadStatement) × IsGraphOf
        (record { declarations = held.declarations; built = built; origins = held.origins }) read)
    loaded-held = (has.once, (entries, graph-of))

module _ (main : List ℕ) (before after : SourceState) (old held : Reader)
    (r : ReadsText main before after old held (main_reading main)) where
  is-whole : IsWhole before after r.files (reached_of main) r.entries
  is-whole = grind (arith, common_steps)

  pub was-faultless : Faultless r.entries
  was-faultless = subst (λ (x : ReadingModel). Faultless x.entries) is-whole.read
      (read_is_faultless r.files main)

  -- the files and the graph are loaded; or the edges could not be finished
  pub finished-loads : (result : Result LoadedModel GraphFault) → old.files ≡ []
      → FinishesReading main held r.entries result → Loads main before after result
  finished-loads (Ok loaded) none f = loads main before after (Ok loaded) (
    r.files,
    subst (λ fs. IsRead before after fs r.files) none r.reads.reads,
    record { files_are = f.0 ∙ r.reads.held_is; entries = r.entries; whole = is-whole; graph_is = f.1 },
  )
  finished-loads (Err fault) none (inl lacks) =
      let s = subst (λ fs. StopsAt main before after fs (main_reading main) fault) none
      (reads-memory main before after old held fault r lacks) in
      loads main before after (Err fault) (s.files, s.reads, inl s.stops)
  finished-loads (Err fault) none (inr cycle) = loads main before after (Err fault) (
    r.files,
    subst (λ fs. IsRead before after fs r.files) none r.reads.reads,
    inr (record { entries = r.entries; whole = is-whole; cycle = cycle }),
  )

pub finished-main : (main : List ℕ) (held : Reader) (entries : List ReadStatement)
    (result : Result LoadedModel GraphFault) → FinishesReading main held entries result
    → IfOk result (λ loaded. main_of loaded.graph.origins ≡ main)
finished-main main held entries (Ok loaded) f = f.2
finished-main main held entries (Err fault) f = tt
