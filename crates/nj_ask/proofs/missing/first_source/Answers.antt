use Rattle.std.proofs.Common.{map}
use Rattle.std.proofs.lemmas.Result.{IfOk-weaker}
use Rattle.nj_graph.specs.Files.{path_at}
use Rattle.nj_graph.specs.Graph.{files_of}
use Rattle.nj_ask.proofs.StaleLemmas.{stop-for}
use Rattle.nj_ask.proofs.missing.first_source.Goals as goal

pub returns : goal.returns
returns c entries log times is =
    let known = c.args.known.now in
    let judged = c.args.judged.now in
    let files = c.in_ok-files.files.items in
    IfOk-weaker c.missing_source.result _ _ (λ found missing.
    stop-for known entries log times judged.build is (map (path_at (files_of known.graph)) c.args.targets.now)
    files judged.stated.items found (rw c.deref.ensures at c.in_ok-files.ensures.paths)
    c.requires.judged.stated
    (rw (
      c.deref-2.ensures,
      c.deref-3.ensures.value,
      c.deref-4.ensures.value,
      c.deref-5.ensures.value,
      c.deref-6.ensures.value,
    ) at missing))
    c.missing_source.ensures
