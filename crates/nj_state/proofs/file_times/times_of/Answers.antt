use Rattle.std.proofs.Common.{◌≡◌, ◌<◌, ◌+◌, ◌∙◌, [], ◌∷◌, ◌++◌, ap, get_or, length, subst, sym, take, arith}
use Rattle.std.proofs.lemmas.List.{take_more}
use Rattle.std.proofs.lemmas.Option.{get_or_from_slice_get}
use Rattle.nj_discovered.specs.Times.{IsTimeOf}
use Rattle.nj_state.specs.FileTimesFound.{HasTime, HaveTimes}
use Rattle.nj_state.proofs.TimeLemmas.{one_more_time}
use Rattle.nj_state.proofs.file_times.times_of.Goals as goal

pub files-preserved : goal.files-preserved
files-preserved g c =
    let declared = g.T.FileTimes.times c.args.times.now in
    let files = c.args.graph.now.files in
    let n = c.files.number in
    let lt : n < length files = omega (arith, c.files-test.true, c.file_count-number-end.ensures.count) in
    let path = c.path.result.now in
    let at : get_or files n [] ≡ path = get_or_from_slice_get files n path [] c.path.ensures in
    let has : HasTime declared path c.unwrap_or.result =
    (c.in-Time.time, subst (IsTimeOf declared path) c.in-Time.is c.in_ok-time.ensures, c.unwrap_or.ensures) in
    subst (HaveTimes declared (take (n + 1) files)) (sym c.in_ok-push-in-Time.ensures.items)
    (subst (λ paths. HaveTimes declared paths (c.files.found.items ++ c.unwrap_or.result ∷ []))
    (sym (take_more files n [] lt ∙ ap (λ p. take n files ++ p ∷ []) at))
    (one_more_time declared (take n files) c.files.found.items path c.unwrap_or.result c.files.invariant has))
