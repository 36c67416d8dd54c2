use Rattle.std.proofs.Common.{◌<◌, ◌∙◌, ap, length, map, subst, sym}
use Rattle.std.specs.Prelude.{All}
use Rattle.std.specs.List.{flat_map}
use Rattle.nj_graph.specs.Graph.{GraphModel, edges_of}
use Rattle.nj_needs.specs.PageWalks.{written}
use Rattle.nj_keys.specs.Keys.{ListsKeys, edges_stated, line}
use Rattle.nj_keys.specs.Pages.{left_at}
use Rattle.nj_keys.specs.declared.pages.EdgeKey.{EdgeKey}
use Rattle.nj_keys.proofs.KeyLines.{lines-of}
use Rattle.nj_keys.proofs.pages.page_from.Goals as goal

pub key_lines-requires : goal.key_lines-requires
key_lines-requires c =
    subst (λ (h : GraphModel). All (λ (n : EdgeKey). n.edge.0 < length (edges_of h)) c.deref.result.now)
    (sym c.graph-graph.ensures)
    (subst (All (λ (n : EdgeKey). n.edge.0 < length (edges_of c.args.targets.now.graph)))
    (sym c.deref.ensures.value) c.in_ok-page.ensures.known)

pub returns-clause-lines : goal.returns-clause-lines
returns-clause-lines c entries graph =
    let files = c.args.targets.now in
    let edges = edges_of files.graph in
    let counts = c.args.counts.now in
    let additions = map (λ text. text.now) c.args.additions.now in
    let numbers = written c.args.take (left_at files c.args.mark.now) in
    let page = c.in_ok-page.page in
    let lines_are = c.in_ok-lines.ensures
    ∙ ap (flat_map (λ (n : EdgeKey). line (edges_of c.graph-graph.result.now) n.edge.0 n.key))
    c.deref.ensures.value
    ∙ ap (λ (h : GraphModel). flat_map (λ (n : EdgeKey). line (edges_of h) n.edge.0 n.key) page.keys.items)
    c.graph-graph.ensures in
    subst (ListsKeys additions c.args.bases.now (edges_stated counts edges) entries numbers) (sym lines_are)
    (lines-of additions c.args.bases.now counts edges entries numbers page.keys.items
    (c.in_ok-page.ensures.keys entries graph))
