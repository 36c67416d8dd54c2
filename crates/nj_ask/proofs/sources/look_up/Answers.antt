use Rattle.std.proofs.Common.{◌++◌, [], ◌∷◌, append_assoc, append-nil, ap, refl, sym, subst, ◌∙◌}
use Rattle.nj_graph.specs.Graph.{files_of}
use Rattle.nj_graph.specs.Handles.{file_of}
use Rattle.nj_ask.specs.Audits.{LookUp, LooksUp}
use Rattle.nj_ask.specs.Audits.LookUp.{last, none}
use Rattle.nj_ask.proofs.AuditLemmas.{left-files, left-none}
use Rattle.nj_ask.proofs.sources.look_up.Goals as goal

pub files-init : goal.files-init
files-init g c = (
  [],
  files_of c.args.graph.now,
  rw (c.new-missing.ensures.items, c.new-unknown.ensures.items) none,
  c.into_iter-file-iterator.ensures.into_iter_gives ∙ c.files-file-items.ensures.files,
  refl,
)

pub files-preserved : goal.files-preserved
files-preserved g c =
    let graph = c.args.graph.now in
    let times = g.T.FileTimes.times c.args.times.now in
    let before = c.files.invariant in
    let file = file_of c.in-Some.file in
    let found = c.in_ok-found.found in
    let left = left-files graph before.1 file c.next.new.self (sym before.3 ∙ c.in-Some.ensures.steps) in (
      before.0 ++ file.path ∷ [],
      left.0,
      rw (c.in_ok-push.ensures.items, c.in_ok-push-2.ensures.items)
          (last before.2 (subst (λ h. LooksUp h times file.path found.is_missing found.is_unknown) left.3
          c.in_ok-found.ensures)),
      left.2,
      append_assoc before.0 (file.path ∷ []) left.0 ∙ ap (λ paths. before.0 ++ paths) (sym left.1) ∙ before.4,
    )

pub returns : goal.returns
returns g c =
    let times = g.T.FileTimes.times c.args.times.now in
    let all = c.files.invariant in
    subst (λ paths. LookUp c.args.graph.now times paths c.files.missing.items c.files.unknown.items)
    (sym (append-nil all.0)
    ∙ ap (λ paths. all.0 ++ paths) (sym (left-none c.args.graph.now all.1
    (sym all.3 ∙ c.in-None.ensures.steps.0)))
    ∙ all.4) all.2
