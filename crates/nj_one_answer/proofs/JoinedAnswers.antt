-- Two graphs with the inputs that builds discovered, in sources that declare the same.
use Rattle.std.proofs.Common.{◌≡◌, inl, inr, ℕ, suc, ◌<◌, ◌+◌, Bool, cond, Result, Ok, Err}
use Rattle.std.proofs.Common.{List, [], ◌∷◌, map, length, get_or, refl, sym, ap, subst, ◌∙◌, arith}
use Rattle.std.specs.List.{flat_map, range_with_len}
use Rattle.nj_scope.specs.ReadingList.{ReadStatement}
use Rattle.nj_scope.specs.Sources.{SourceState, Rises}
use Rattle.nj_deps.specs.Logs.{LogModel}
use Rattle.nj_discovered.specs.Discoveries.{DiscoveriesModel, FoundModel, discovery_at}
use Rattle.nj_discovered.specs.Times.{DeclaredTimes}
use Rattle.nj_discovered.specs.declared.verdict.Verdict.{Verdict}
use Rattle.nj_discovered.specs.declared.verdict.Verdict.TheVariants.{Known}
use Rattle.nj_edges.specs.Edges.{EdgePaths, edge_at, edges_from}
use Rattle.nj_faults.specs.declared.fault.GraphFault.{GraphFault}
use Rattle.nj_statements.specs.EdgeList.{edges_read, paths_of_edges}
use Rattle.nj_graph.specs.DepsLogs.{JoinsNamed, with_named}
use Rattle.nj_graph.specs.Discovering.{AreDiscovered}
use Rattle.nj_graph.specs.Graph.{GraphModel}
use Rattle.nj_ask.specs.declared.discovered.Discovered.{Discovered}
use Rattle.nj_ask.specs.declared.doubts.EdgeFault.{EdgeFault}
use Rattle.nj_graph.specs.declared.EdgeNo.{EdgeNo}
use Rattle.nj_tools.specs.declared.EdgeDiscovery.{EdgeDiscovery}
use Rattle.nj_ask.specs.DiscoveredGraphs.{JoinsDiscovered, doubt_line, doubt_lines, doubtful_edges}
use Rattle.nj_ask.specs.DiscoveredGraphs.{edge_discoveries, fault_text, fault_texts, faulty_edges}
use Rattle.nj_ask.specs.DiscoveredGraphs.{is_doubtful}
use Rattle.nj_ask.specs.DiscoveredGraphs.{is_faulty, state_of}
use Rattle.nj_ask.specs.DiscoveredGraphs.JoinsDiscovered.{joined, out_of_memory, refused}
use Rattle.nj_agreement.specs.Agreement.{AgreeUpTo}
use Rattle.nj_one_answer.specs.Discovered.{SameDiscovered}
use Rattle.nj_agreement.specs.Graphs.{SameDiscoveries}
use Rattle.nj_agreement.specs.Memory.{IsGraphOutOfMemory}
use Rattle.nj_agreement.specs.Sources.{DeclareSame, TellAll}
use Rattle.nj_agreement.proofs.DiscoverAnswers.{searches-agree}
use Rattle.nj_agreement.proofs.FileNumbers.{same-edges}
use Rattle.nj_agreement.proofs.FoundTwice.{all-inputs, all-verdicts, verdicts, verdicts-same}
use Rattle.nj_agreement.proofs.GraphAnswers.{join-faults, joined-or-none, same-origins, same-stated}

-- ---- what was found for each edge

module _ (one other : DiscoveriesModel) (same : SameDiscoveries one other) where
  -- the edges whose verdicts pass a test
  passing-same : (test : Verdict → Bool) (number : ℕ) (xs ys : List FoundModel) → length xs ≡ length ys
      → ((edge : ℕ) → edge < length xs → (get_or xs edge (record { verdict = Known; inputs = [] })).verdict
      ≡ (get_or ys edge (record { verdict = Known; inputs = [] })).verdict)
      → edges_from number (λ (f : FoundModel). test f.verdict) xs
      ≡ edges_from number (λ (f : FoundModel). test f.verdict) ys
  passing-same test number [] [] count are = refl
  passing-same test number [] (y ∷ ys) count are = absurd (omega (arith, count))
  passing-same test number (x ∷ xs) [] count are = absurd (omega (arith, count))
  passing-same test number (x ∷ xs) (y ∷ ys) count are =
      let first : x.verdict ≡ y.verdict = are 0 (omega arith) in
      let rest = passing-same test (number + 1) xs ys (omega (arith, count))
      (λ edge below. are (suc edge) (omega (arith, below))) in
      ap (λ v. cond (test v) (number ∷ edges_from (number + 1) (λ (f : FoundModel). test f.verdict) xs)
      (edges_from (number + 1) (λ (f : FoundModel). test f.verdict) xs)) first
      ∙ ap (λ es. cond (test y.verdict) (number ∷ es) es) rest

  passing : (test : Verdict → Bool) → edges_from 0 (λ (f : FoundModel). test f.verdict) one.edges
      ≡ edges_from 0 (λ (f : FoundModel). test f.verdict) other.edges
  passing test = passing-same test 0 one.edges other.edges same.count
      (λ edge below. verdicts-same one other same edge)

  pub doubtful-same : doubtful_edges one ≡ doubtful_edges other
  doubtful-same = passing is_doubtful

  pub faulty-same : faulty_edges one ≡ faulty_edges other
  faulty-same = passing is_faulty

  pub texts-same : (entries : List ReadStatement) → fault_texts entries one ≡ fault_texts entries other
  texts-same entries =
      ap (λ (v : ℕ → Verdict). map (λ edge. fault_text entries edge (v edge)) (faulty_edges one))
      (all-verdicts one other same)
      ∙ ap (map (λ edge. fault_text entries edge (verdicts other edge))) faulty-same

  pub lines-same : (entries : List ReadStatement) → doubt_lines entries one ≡ doubt_lines entries other
  lines-same entries =
      ap (λ (v : ℕ → Verdict). flat_map (λ edge. doubt_line entries edge (v edge))
      (range_with_len 0 (length one.edges)))
      (all-verdicts one other same)
      ∙ ap (λ n. flat_map (λ edge. doubt_line entries edge (verdicts other edge)) (range_with_len 0 n))
      same.count

  pub discoveries-same : (edges : List EdgePaths) → edge_discoveries edges one ≡ edge_discoveries edges other
  discoveries-same edges =
      ap (λ (v : ℕ → Verdict). map (λ edge. let d : EdgeDiscovery = record {
        stated_inputs = length (edge_at edges edge).implicit_inputs;
        state = state_of (v edge);
      } in d) (range_with_len 0 (length edges)))
      (all-verdicts one other same)

-- ---- the graphs

module _ (before after before2 after2 : SourceState) (same : DeclareSame before before2)
    (quiet : ¬ Rises before.failures after.failures) (quiet2 : ¬ Rises before2.failures after2.failures)
    (times : DeclaredTimes) (all : TellAll times) (log : LogModel) (stated : List ReadStatement)
  where
    found-same : (one other : DiscoveriesModel) → AreDiscovered before after times log stated one
        → AreDiscovered before2 after2 times log stated other → SameDiscoveries one other
    found-same one other is also =
        searches-agree before after before2 after2 same quiet quiet2 times all log {E = Unit {0}} stated
        (Ok one)
        (Ok other) is also

    abbrev named : DiscoveriesModel → (edge : ℕ) → List (List ℕ)
    named found edge = (discovery_at found edge).inputs

    -- a result of joining what was found second, as of joining what was found first
    moved : (one other : DiscoveriesModel) → SameDiscoveries one other
        → (result : Result GraphModel GraphFault)
        → JoinsNamed (named other) stated result → JoinsNamed (named one) stated result
    moved one other found result joins =
        subst (λ (n : ℕ → List (List ℕ)). JoinsNamed n stated result) (sym (all-inputs one other found)) joins

    both-joined : (one other : DiscoveriesModel) (a b : Discovered) → SameDiscoveries one other
        → JoinsNamed (named one) stated (Ok a.graph) → JoinsNamed (named other) stated (Ok b.graph)
        → map (λ (edge : EdgeNo). edge.0) a.doubts.edges.items ≡ doubtful_edges one
        → map (λ (edge : EdgeNo). edge.0) b.doubts.edges.items ≡ doubtful_edges other
        → map (λ (fault : EdgeFault). fault.edge.0) a.doubts.faults.items ≡ faulty_edges one
        → map (λ (fault : EdgeFault). fault.edge.0) b.doubts.faults.items ≡ faulty_edges other
        → map (λ (fault : EdgeFault). fault.text.items) a.doubts.faults.items ≡ fault_texts stated one
        → map (λ (fault : EdgeFault). fault.text.items) b.doubts.faults.items ≡ fault_texts stated other
        → a.doubts.lines.items ≡ doubt_lines stated one → b.doubts.lines.items ≡ doubt_lines stated other
        → a.doubts.discoveries.items ≡ edge_discoveries (paths_of_edges (edges_read stated)) one
        → b.doubts.discoveries.items ≡ edge_discoveries (paths_of_edges (edges_read stated)) other
        → SameDiscovered a b
    both-joined one other a b found joins joins2 edges edges2 faults faults2 texts texts2 lines lines2 each
        each2 =
        record {
          graph = same-stated a.graph b.graph (with_named (named one) stated) joins
              (moved one other found (Ok b.graph) joins2);
          origins = same-origins a.graph b.graph (with_named (named one) stated) joins
              (moved one other found (Ok b.graph) joins2);
          edges = same-edges a.doubts.edges.items b.doubts.edges.items
              (edges ∙ doubtful-same one other found ∙ sym edges2);
          faulty = faults ∙ faulty-same one other found ∙ sym faults2;
          texts = texts ∙ texts-same one other found stated ∙ sym texts2;
          lines = lines ∙ lines-same one other found stated ∙ sym lines2;
          discoveries = each ∙ discoveries-same one other found (paths_of_edges (edges_read stated))
              ∙ sym each2;
        }

    pub discovered-agree : (one other : Result Discovered GraphFault)
        → JoinsDiscovered before after times log stated one
        → JoinsDiscovered before2 after2 times log stated other
        → AgreeUpTo SameDiscovered IsGraphOutOfMemory one other
    discovered-agree _ _ out_of_memory out_of_memory = inl refl
    discovered-agree _ _ out_of_memory (refused is joins) = inr (inl refl)
    discovered-agree _ _ out_of_memory (joined is joins edges faults texts lines each) = refl
    discovered-agree _ _ (refused is joins) out_of_memory = inr (inr refl)
    discovered-agree _ _ (refused {fault = e} {found = d} is joins)
        (refused {fault = f} {found = c} also joins2) =
        join-faults (named d) stated e f joins (moved d c (found-same d c is also) (Err f) joins2)
    discovered-agree _ _ (refused {fault = e} {found = d} is joins)
        (joined {known = b} {found = c} also joins2 edges faults texts lines each) =
        joined-or-none (named d) stated b.graph e (moved d c (found-same d c is also) (Ok b.graph) joins2)
        joins
    discovered-agree _ _ (joined is joins edges faults texts lines each) out_of_memory = refl
    discovered-agree _ _ (joined {known = a} {found = d} is joins edges faults texts lines each)
        (refused {fault = f} {found = c} also joins2) =
        joined-or-none (named d) stated a.graph f joins (moved d c (found-same d c is also) (Err f) joins2)
    discovered-agree _ _ (joined {known = a} {found = d} is joins edges faults texts lines each)
        (joined {known = b} {found = c} also joins2 edges2 faults2 texts2 lines2 each2) =
        both-joined d c a b (found-same d c is also) joins joins2 edges edges2 faults faults2 texts texts2
        lines
        lines2 each each2
