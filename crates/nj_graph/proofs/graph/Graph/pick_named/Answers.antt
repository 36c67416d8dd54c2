use Rattle.std.proofs.Common.{Ok, Err, [], ◌∷◌, ◌++◌, subst, sym}
use Rattle.nj_names.specs.Files.{AreFiles}
use Rattle.nj_graph.specs.Graph.{edges_of, files_of}
use Rattle.nj_graph.specs.Targets.{picked, Picks}
use Rattle.nj_graph.proofs.PickedTargets.{targets-next, targets-stop, files-push, PicksTargets-err}
use Rattle.nj_graph.proofs.graph.Graph.pick_named.Goals as goal

pub words-preserved : goal.words-preserved
words-preserved g c =
    let edges = edges_of c.args.self.now in
    let file = c.in_ok-file.file in
    let picks = subst (λ text. Picks (files_of c.args.self.now) (picked edges text) (Ok file))
    c.as_slice.ensures c.in_ok-file.ensures in (
      c.words.invariant.0 ++ picks.0 ∷ [],
      targets-next edges g.W.AsSlice.items c.args.words.now c.words.word-index c.word-item.result
          c.words.invariant.0 c.words-test.true c.word-item.is c.words.invariant.1 picks.0 picks.1,
      subst (λ numbers. AreFiles (files_of c.args.self.now) numbers (c.words.invariant.0 ++ picks.0 ∷ []))
          (sym c.in_ok-push.ensures.items)
          (files-push (files_of c.args.self.now) c.words.files.items c.words.invariant.0 file picks.0
          c.words.invariant.2 picks.2),
    )

pub returns-in_err-file : goal.returns-in_err-file
returns-in_err-file g c =
    let fault = c.in_err-file.field-0.0 in
    let edges = edges_of c.args.self.now in
    let why = subst (λ text. Picks (files_of c.args.self.now) (picked edges text) (Err fault))
    c.as_slice.ensures c.in_err-file.ensures in
    PicksTargets-err _ _ c.from_residual.result fault c.from_residual.ensures.1
    (targets-stop edges g.W.AsSlice.items c.args.words.now c.words.word-index c.word-item.result
    c.words.invariant.0 c.words-test.true c.word-item.is c.words.invariant.1 fault why)
