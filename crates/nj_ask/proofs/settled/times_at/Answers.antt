use Rattle.std.proofs.Common.{◌≡◌, ◌+◌, [], ◌∷◌, ◌++◌, ap, get_or, map, subst, sym, take}
use Rattle.std.specs.Prelude.{unwrap_or}
use Rattle.nj_discovered.specs.Times.{IsTimeOf}
use Rattle.nj_discovered.specs.declared.times.TimeFound.TheVariants.{Time}
use Rattle.nj_graph.specs.declared.FileNo.{FileNo}
use Rattle.nj_names.specs.Files.{path_at}
use Rattle.nj_state.specs.FileTimesFound.{HasTime, HaveTimes}
use Rattle.nj_ask.proofs.LineLemmas.{mapped-more}
use Rattle.nj_ask.proofs.SettledLemmas.{one-more-time}
use Rattle.nj_ask.proofs.settled.times_at.Goals as goal

pub files-preserved : goal.files-preserved
files-preserved g c =
    let declared = g.T.FileTimes.times c.args.times.now in
    let files = c.args.files.now in
    let i = c.files.file-index in
    let none : FileNo = record { 0 = 0 } in
    let at = path_at c.args.graph.now.files in
    let path = at (get_or files i none) in
    let is : c.path.result.now ≡ path = sym (ap (λ o. unwrap_or o []) c.path.ensures) in
    let has : HasTime declared path c.unwrap_or.result = (
      c.in-Time.time,
      subst (λ p. IsTimeOf declared p (Time c.in-Time.time)) is
          (subst (IsTimeOf declared c.path.result.now) c.in-Time.is
          c.in_ok-time.ensures),
      c.unwrap_or.ensures,
    ) in
    subst (HaveTimes declared (map at (take (i + 1) files))) (sym c.in_ok-push-in-Time.ensures.items)
    (subst (λ paths. HaveTimes declared paths (c.files.found.items ++ c.unwrap_or.result ∷ []))
    (mapped-more at files i none c.files-test.true)
    (one-more-time declared (map at (take i files)) c.files.found.items path c.unwrap_or.result
    c.files.invariant has))
