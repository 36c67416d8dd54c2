use Rattle.std.proofs.Common.{length, ap, refl, subst, sym}
use Rattle.nj_edges.specs.Edges.{edge_at}
use Rattle.nj_discovered.specs.Discovered.{IsByLog, IsByText, IsDiscovered}
use Rattle.nj_discovered.specs.Discovered.IsDiscovered.{from_depfile, from_log, from_neither}
use Rattle.nj_discovered.specs.declared.discoveries.FoundEdge.{FoundEdge}
use Rattle.nj_discovered.specs.declared.verdict.Verdict.TheVariants.{Known}
use Rattle.nj_discovered.specs.Discoveries.{AddsEdge, FinderModel}
use Rattle.nj_discovered.specs.Inside.Finding.{Finds, found_held}
use Rattle.nj_discovered.specs.Inside.Numbers.{AreCleanNumbers}
use Rattle.nj_discovered.proofs.FinderLemmas.{count-with, empty-by_length, finds-moved, finds-none}
use Rattle.nj_discovered.proofs.FinderLemmas.{finds-weaker, found-with, held-with, kept-with}
use Rattle.nj_discovered.proofs.finder.Finder.with_edge.Given as given
use Rattle.nj_discovered.proofs.finder.Finder.with_edge.Goals as goal
use Rattle.nj_discovered.proofs.finder.Finder.with_edge.Goals.{then-not-is_empty+in_ok-verdict}
use Rattle.nj_discovered.proofs.finder.Finder.with_edge.Goals.{else-not-is_empty+then-is_empty}
use Rattle.nj_discovered.proofs.finder.Finder.with_edge.Goals.{else-not-is_empty+else-is_empty+in_ok-verdict-2}

found : (g : given.Over) (c : goal.In_ok-push g)
    → Finds (IsDiscovered (g.S.FileSource.state c.args.files.now)
    (g.S.FileSource.state c.if-not-is_empty.files) (g.T.FileTimes.times c.args.times.now)
    c.self.inside.log.now
    (edge_at c.self.inside.graph.now.edges c.args.edge.0) c.args.deps.now c.args.depfile.now)
    c.self.inside.names c.if-not-is_empty.names c.self.inside.inputs.items c.if-not-is_empty.inputs.items
    c.if-not-is_empty.verdict
found g c =
    let own = c.self.inside in
    let times = g.T.FileTimes.times c.args.times.now in
    let before = g.S.FileSource.state c.args.files.now in
    let log = own.log.now in
    let edge = edge_at own.graph.now.edges c.args.edge.0 in
    let deps = c.args.deps.now in
    let depfile = c.args.depfile.now in
    let P = IsDiscovered before (g.S.FileSource.state c.if-not-is_empty.files) times log edge deps depfile in
    elim c.if-not-is_empty.branch [
      | then-not-is_empty+in_ok-verdict w ↦
          finds-moved P own.names own.names c.if-not-is_empty.names own.inputs.items
          w.find_by_log.new.numbers.items c.if-not-is_empty.inputs.items w.in_ok-verdict.verdict
          c.if-not-is_empty.verdict
          (sym w.names-is) (ap (λ v. v.items) (sym w.inputs-is)) (sym w.verdict-is)
          (finds-weaker (IsByLog times log edge) P own.names own.names own.inputs.items
          w.find_by_log.new.numbers.items w.in_ok-verdict.verdict
          (λ f is. from_log (empty-by_length deps _ w.if-not-is_empty.ensures) is)
          (w.in_ok-verdict.ensures own.names (subst (λ ns. AreCleanNumbers log.paths own.names ns)
          (sym w.deref.ensures.value) c.self.invariant.numbers)))
      | else-not-is_empty+then-is_empty w ↦
          finds-moved P own.names own.names c.if-not-is_empty.names own.inputs.items own.inputs.items
          c.if-not-is_empty.inputs.items Known c.if-not-is_empty.verdict
          (sym w.names-is) (ap (λ v. v.items) (sym w.inputs-is)) (sym w.verdict-is)
          (finds-none P own.names own.inputs.items Known
          (from_neither (empty-by_length deps _ w.if-not-is_empty.ensures)
          (empty-by_length depfile _ w.if-is_empty.ensures) refl))
      | else-not-is_empty+else-is_empty+in_ok-verdict-2 w ↦
          finds-moved P own.names w.find_by_depfile.new.names c.if-not-is_empty.names own.inputs.items
          w.find_by_depfile.new.numbers.items c.if-not-is_empty.inputs.items w.in_ok-verdict-2.verdict
          c.if-not-is_empty.verdict
          (sym w.names-is) (ap (λ v. v.items) (sym w.inputs-is)) (sym w.verdict-is)
          (finds-weaker (IsByText before (g.S.FileSource.state w.find_by_depfile.new.files) edge depfile) P
          own.names w.find_by_depfile.new.names own.inputs.items w.find_by_depfile.new.numbers.items
          w.in_ok-verdict-2.verdict
          (λ f is. from_depfile (empty-by_length deps _ w.if-not-is_empty.ensures)
          (empty-by_length depfile _ w.if-is_empty.ensures)
          (subst (λ fs. IsByText before (g.S.FileSource.state fs) edge depfile f) (sym w.files-is) is))
          w.in_ok-verdict-2.ensures.found)
    ]

pub invariant_of-result : goal.invariant_of-result
invariant_of-result g c =
    let own = c.self.inside in
    let P = IsDiscovered (g.S.FileSource.state c.args.files.now)
    (g.S.FileSource.state c.if-not-is_empty.files) (g.T.FileTimes.times c.args.times.now) own.log.now
    (edge_at own.graph.now.edges c.args.edge.0) c.args.deps.now c.args.depfile.now in
    held-with P own.log.now.paths own.names c.if-not-is_empty.names own.log_numbers.items own.inputs.items
    c.if-not-is_empty.inputs.items own.edges.items c.push.new.self.items
    (record {
      verdict = c.if-not-is_empty.verdict;
      start = length c.as_slice-start.result.now;
      end =
          length c.as_slice-end.result.now;
    })
    c.self.invariant (found g c) (ap length c.as_slice-start.ensures.value)
    (ap length c.as_slice-end.ensures.value) c.in_ok-push.ensures.items

pub returns-clause-added : goal.returns-clause-added
returns-clause-added g c =
    let own = c.self.inside in
    let before = g.S.FileSource.state c.args.files.now in
    let after = g.S.FileSource.state c.if-not-is_empty.files in
    let times = g.T.FileTimes.times c.args.times.now in
    let log = own.log.now in
    let edges = own.graph.now.edges in
    let old = found_held own.names own.inputs.items own.edges.items in
    let new = found_held c.if-not-is_empty.names c.if-not-is_empty.inputs.items c.push.new.self.items in
    let P = IsDiscovered before after times log (edge_at edges c.args.edge.0) c.args.deps.now
    c.args.depfile.now in
    let edge : FoundEdge = record {
      verdict = c.if-not-is_empty.verdict;
      start =
          length c.as_slice-start.result.now;
      end = length c.as_slice-end.result.now;
    } in
    subst (λ (m : FinderModel). AddsEdge before after times m.log (edge_at m.edges c.args.edge.0)
    c.args.deps.now c.args.depfile.now m.found new) c.self.view_is
    (record {
      count = count-with P log.paths own.names c.if-not-is_empty.names own.log_numbers.items own.inputs.items
          c.if-not-is_empty.inputs.items own.edges.items c.push.new.self.items edge
          c.self.invariant (found g c) (ap length c.as_slice-start.ensures.value)
          (ap length c.as_slice-end.ensures.value) c.in_ok-push.ensures.items;
      kept = kept-with P log.paths own.names c.if-not-is_empty.names own.log_numbers.items own.inputs.items
          c.if-not-is_empty.inputs.items own.edges.items c.push.new.self.items edge
          c.self.invariant (found g c) (ap length c.as_slice-start.ensures.value)
          (ap length c.as_slice-end.ensures.value) c.in_ok-push.ensures.items;
      added = found-with P log.paths own.names c.if-not-is_empty.names own.log_numbers.items own.inputs.items
          c.if-not-is_empty.inputs.items own.edges.items c.push.new.self.items edge
          c.self.invariant (found g c) (ap length c.as_slice-start.ensures.value)
          (ap length c.as_slice-end.ensures.value) c.in_ok-push.ensures.items;
    })
