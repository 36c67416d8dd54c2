use Rattle.std.proofs.Common.{◌≡◌, Err, length, sym, subst, rules}
use Rattle.nj_graph.specs.Graph.{files_of}
use Rattle.nj_c.specs.Inside.PagesHeld.{numbers_of}
use Rattle.nj_c.specs.Inside.StaleHeld.{FindsStale}
use Rattle.nj_c.specs.DirtyEdges.{unknown_edges}
use Rattle.nj_c.specs.Pages.{numbered, AreKnown}
use Rattle.nj_c.proofs.StaleLemmas.{found-stale, log-refused}
use Rattle.nj_c.proofs.stale_edges.find_stale.Goals as goal

pub returns-in_err-log : goal.returns-in_err-log
returns-in_err-log c =
    let kept = c.args.kept.now in let g = c.in_ok-graph.graph.now in let numbers = c.args.targets.now in
    let bytes = c.args.bytes.now in let times = c.args.times.now in let status = c.in_err-log.field-0.0 in
    let is : c.from_residual-in_err-log.result ≡ Err status = search rules in
    let known : AreKnown g numbers = search rules in
    let count : length times ≡ length (files_of g) = search rules in
    subst (FindsStale kept bytes times numbers) (sym is)
    (log-refused kept g bytes times numbers status (search rules) known count c.in_err-log.ensures.refused)

pub returns : goal.returns
returns c =
    let kept = c.args.kept.now in let g = c.in_ok-graph.graph.now in let numbers = c.args.targets.now in
    let bytes = c.args.bytes.now in let times = c.args.times.now in let given =
    numbers_of c.deref-4.result.now in
    let known : AreKnown g numbers = search rules in
    let count : length times ≡ length (files_of g) = search rules in
    let unknown : given ≡ unknown_edges kept g = search rules in
    let are : c.deref-5.result.now ≡ numbered numbers = search rules in
    found-stale kept g c.in_ok-log.log bytes times numbers given c.deref-5.result.now c.stale_in.result
    (search rules) known count c.in_ok-log.ensures.log unknown are c.stale_in.ensures.stale
    c.stale_in.ensures.refused
