use Rattle.std.proofs.Common.{◌<◌, ◌≡◌, ◌∙◌, true, false, ap, length, subst, sym}
use Rattle.std.specs.Prelude.{slice_index_or}
use Rattle.std.specs.List.{filter, range_with_len}
use Rattle.nj_graph.specs.Graph.{edges_of}
use Rattle.nj_ask.specs.Manifest.{makes_manifest, opened_files}
use Rattle.nj_ask.specs.Settled.{IsManifestEdge}
use Rattle.nj_ask.specs.Inside.Flags.{AreFeeds}
use Rattle.nj_ask.specs.Inside.Reached.{IsReached, edge_numbers, numbers_of}
use Rattle.nj_ask.proofs.SettledLemmas.{flagged-edges, settled-result}
use Rattle.nj_ask.proofs.settled.settles.Goals as goal

pub returns : goal.returns
returns g c entries is =
    let known = c.args.known.now in
    let graph = known.graph in
    let opened = opened_files graph c.args.folder.now in
    let flags = c.deref-3.result.now in
    let files = ap numbers_of c.deref.ensures.value ∙ c.in_ok-opened.ensures.numbers in
    let edges = ap edge_numbers c.deref-2.ensures.value ∙ c.in_ok-edges.ensures.all in
    let reached = subst (λ fs. IsReached graph fs entries (edge_numbers c.deref-2.result.now)
    c.in_ok-feeds.field-0) files (c.in_ok-feeds.ensures entries is) in
    let all = subst (λ es. IsReached graph opened entries es c.in_ok-feeds.field-0) edges reached in
    let feeds = subst (AreFeeds (edges_of graph) (filter (makes_manifest graph opened entries)
    (range_with_len 0 (length (edges_of graph))))) (sym (c.deref-3.ensures.value)) all.feeds in
    settled-result known entries (g.T.FileTimes.times c.args.times.now) (edge_numbers c.args.commands.now)
    (IsManifestEdge graph opened entries)
    (λ edge. (edge < length (edges_of graph)) × (slice_index_or flags edge false ≡ true))
    (flagged-edges graph opened entries flags feeds) c.are_settled.result
    (c.are_settled.ensures entries is)
