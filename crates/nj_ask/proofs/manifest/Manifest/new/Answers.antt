use Rattle.std.proofs.Common.{ℕ, length, map, sym, ap, subst, ◌∙◌}
use Rattle.nj_graph.specs.declared.EdgeNo.{EdgeNo}
use Rattle.nj_graph.specs.declared.FileNo.{FileNo}
use Rattle.nj_graph.specs.Edges.{maker_of}
use Rattle.nj_graph.specs.Graph.{edges_of}
use Rattle.nj_ask.specs.Inside.Flags.{AreFeeds, AreFlags}
use Rattle.nj_ask.specs.Inside.Reached.{numbers_of}
use Rattle.nj_ask.specs.Manifest.{makers_of_opened}
use Rattle.nj_ask.specs.SameFiles.{path_of}
use Rattle.nj_ask.proofs.LineLemmas.{filter-map-map}
use Rattle.nj_ask.proofs.manifest.Manifest.new.Goals as goal

pub returns : goal.returns
returns c entries graph =
    let g = c.args.graph.now in
    let opened = numbers_of c.args.opened.now in
    let maker = λ (n : ℕ). maker_of (edges_of g) (path_of g n) in
    let flags = subst (AreFlags (length (edges_of g)) (makers_of_opened g opened)) (sym c.deref.ensures.value)
    (subst (λ ns. AreFlags (length (edges_of g)) ns c.in_ok-flags.flags.items)
    (sym (filter-map-map maker (λ (f : FileNo). f.0) c.args.opened.now)) c.in_ok-flags.ensures) in
    record {
      opened = subst (λ n. AreFlags n opened c.in_ok-opened.opened.items)
          (rw c.deref-3.ensures at c.file_count.ensures.count) c.in_ok-opened.ensures;
      feeds = subst (λ ns. AreFeeds (edges_of g) ns c.in_ok-feeds.feeds.items)
          (ap (map (λ (e : EdgeNo). e.0)) c.deref-2.ensures.value
          ∙ c.in_ok-makers.ensures.makers opened flags entries graph) c.in_ok-feeds.ensures;
    }
