use Rattle.std.proofs.Common.{map, subst}
use Rattle.std.proofs.lemmas.Result.{IfOk-weaker}
use Rattle.nj_graph.specs.declared.FileNo.{FileNo}
use Rattle.nj_ask.specs.MissingSources.{stated_edges}
use Rattle.nj_ask.specs.Inside.Flags.{AreFlags}
use Rattle.nj_ask.proofs.StatedLemmas.{stated-flags}
use Rattle.nj_ask.proofs.stated.stated_flags.Goals as goal

pub returns : goal.returns
returns c =
    let g = c.args.graph.now in
    let files = c.in_ok-files.files.items in
    let numbers = map (λ (f : FileNo). f.0) files in
    IfOk-weaker c.file_flags.result _ _ (λ flags held.
    stated-flags g.files (stated_edges g.edges c.args.stated.now) files flags.items
    c.file_count.ensures.each_path_once c.in_ok-files.ensures.known c.in_ok-files.ensures.paths
    (subst (λ n. AreFlags n numbers flags.items) c.file_count.ensures.count
    (subst (λ fs. AreFlags c.file_count.result (map (λ (f : FileNo). f.0) fs) flags.items)
    c.deref.ensures.value held)))
    c.file_flags.ensures
