-- Lemmas on what edges discover, edge by edge.
use Rattle.std.proofs.lemmas.Grind.{common_steps}
use Rattle.std.proofs.Common.{◌≡◌, ◌<◌, ◌≤◌, ◌+◌, ◌^◌, ◌-◌, ◌⊎◌, inl, inr, ℕ, List, length, refl, sym, ap}
use Rattle.std.proofs.Common.{subst, ◌∙◌, arith}
use Rattle.std.specs.Prelude.{IfSome, codes}
use Rattle.std.proofs.lemmas.Bool.{cases_lt}
use Rattle.nj_scope.specs.ReadingList.{ReadStatement}
use Rattle.nj_scope.specs.Sources.{Rises, SourceState}
use Rattle.nj_deps.specs.Logs.{LogModel}
use Rattle.nj_discovered.specs.Discovered.{Discovery, IsDiscovered, IsLater, IsTextOf, TextFound}
use Rattle.nj_discovered.specs.Discovered.IsDiscovered.{from_depfile, from_log, from_neither}
use Rattle.nj_discovered.specs.Discovered.TextFound.{Text, Unreadable}
use Rattle.nj_discovered.specs.Discoveries.{AddsEdge, DiscoveriesModel, discovery_at}
use Rattle.nj_discovered.specs.Times.{DeclaredTimes}
use Rattle.nj_edges.specs.Edges.{EdgePaths, edge_at}
use Rattle.nj_statements.specs.EdgeList.{edges_read, paths_of_edges}
use Rattle.nj_graph.specs.Graph.{late_text_of}
use Rattle.nj_graph.specs.Inside.EdgesDiscovered.{AreFirstDiscovered}

-- ---- a source, later

pub later-refl : (s : SourceState) → IsLater s s
later-refl s = record { files = λ path. refl; failures = omega arith }

pub later-trans : (s t u : SourceState) → IsLater s t → IsLater t u → IsLater s u
later-trans s t u one other = grind (arith, common_steps)

rises-wider : (a b c d : ℕ) → a ≤ b → c ≤ d → Rises b c → Rises a d
rises-wider a b c d lower higher rises = record {
  above = λ below. by below (cases_lt b (2 ^ 64 - 1));
  never_falls = omega (arith, lower, higher, rises.never_falls);
}
  where
    by : a < 2 ^ 64 - 1 → (b < 2 ^ 64 - 1) ⊎ (2 ^ 64 - 1 ≤ b) → a < d
    by below (inl under) = let above = rises.above under in omega (arith, above, lower, higher)
    by below (inr at-most) = omega (arith, below, at-most, rises.never_falls, higher)

module _ (first before after last : SourceState) (early : IsLater first before) (late : IsLater after last)
  where
    text-wider : (depfile : List ℕ) (t : TextFound) → IsTextOf before after depfile t
        → IsTextOf first last depfile t
    text-wider depfile (Text bytes) is = (
      is.0,
      subst (λ o. IfSome o (λ meant. bytes ≡ meant)) (early.files depfile) is.1,
    )
    text-wider depfile Unreadable (inl not_text) = inl not_text
    text-wider depfile Unreadable (inr rises) =
        inr (rises-wider first.failures before.failures after.failures last.failures early.failures
        late.failures rises)

    pub discovered-wider : (times : DeclaredTimes) (log : LogModel) (edge : EdgePaths) (deps depfile : List ℕ)
        (found : Discovery)
        → IsDiscovered before after times log edge deps depfile found
        → IsDiscovered first last times log edge deps depfile found
    discovered-wider times log edge deps depfile found (from_log has by_log) = from_log has by_log
    discovered-wider times log edge deps depfile found (from_depfile none has (t, is, same)) =
        from_depfile none has (t, text-wider depfile t is, same)
    discovered-wider times log edge deps depfile found (from_neither none no_depfile same) =
        from_neither none no_depfile same

-- ---- edge by edge

-- one more edge: the discoveries for the first edges stay
module _ (start before after : SourceState) (times : DeclaredTimes) (log : LogModel)
    (entries : List ReadStatement) (count : ℕ) (deps depfile : List ℕ) (old new : DiscoveriesModel) where
  pub first-more : IsLater start before → IsLater before after
      → AreFirstDiscovered start before times log entries count old → length old.edges ≡ count
      → deps ≡ late_text_of entries count (codes "deps")
      → depfile ≡ late_text_of entries count (codes "depfile")
      → AddsEdge before after times log (edge_at (paths_of_edges (edges_read entries)) (length old.edges))
      deps depfile old new
      → AreFirstDiscovered start after times log entries (count + 1) new
  first-more early late are is deps-are depfile-are adds e below = by (cases_lt e count)
    where
      edge : ℕ → EdgePaths
      edge n = edge_at (paths_of_edges (edges_read entries)) n

      by : (e < count) ⊎ (count ≤ e) → IsDiscovered start after times log (edge e)
          (late_text_of entries e (codes "deps")) (late_text_of entries e (codes "depfile"))
          (discovery_at new e)
      by (inl before-it) =
          subst (IsDiscovered start after times log (edge e) (late_text_of entries e (codes "deps"))
          (late_text_of entries e (codes "depfile"))) (sym (adds.kept e (omega (arith, before-it, is))))
          (discovered-wider start start before after (later-refl start) late times log (edge e)
          (late_text_of entries e (codes "deps")) (late_text_of entries e (codes "depfile"))
          (discovery_at old e) (are e before-it))
      by (inr past) =
          let last : length old.edges ≡ e = omega (arith, past, below, is) in
          let here : count ≡ e = omega (arith, past, below) in
          subst (λ n. IsDiscovered start after times log (edge n) (late_text_of entries e (codes "deps"))
          (late_text_of entries e (codes "depfile")) (discovery_at new n)) last
          (subst (λ d. IsDiscovered start after times log (edge (length old.edges)) d
          (late_text_of entries e (codes "depfile")) (discovery_at new (length old.edges)))
          (deps-are ∙ ap (λ n. late_text_of entries n (codes "deps")) here)
          (subst (λ d. IsDiscovered start after times log (edge (length old.edges)) deps d
          (discovery_at new (length old.edges)))
          (depfile-are ∙ ap (λ n. late_text_of entries n (codes "depfile")) here)
          (discovered-wider start before after after early (later-refl after) times log
          (edge (length old.edges)) deps depfile (discovery_at new (length old.edges)) adds.added)))
