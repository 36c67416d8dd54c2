use Rattle.std.proofs.Common.{◌<◌, Some, length, ap, sym, ◌∙◌, arith}
use Rattle.std.proofs.lemmas.Option.{slice_get-get_or}
use Rattle.nj_build_log.specs.Logs.{entry_of}
use Rattle.nj_build_log.proofs.EntryLemmas.{found-at, not-found}
use Rattle.nj_build_log.proofs.line_table.LineTable.entry.Goals as goal

pub returns-in-Some : goal.returns-in-Some
returns-in-Some c =
    let own = c.self.inside in
    let held = c.self.invariant in
    let output = c.args.output.now in
    let at = found-at own.outputs own.entries.items output c.in-Some.number held.count
    (sym c.in-Some.ensures.index) in
    let within : c.in-Some.number < length own.entries.items = omega (arith, held.count, at.1) in
    ap Some c.index.ensures
    ∙ (sym (slice_get-get_or own.entries.items c.in-Some.number c.index.result.now within)
    ∙ (sym at.0 ∙ (sym (held.last output) ∙ ap (λ ls. entry_of ls output) c.self.view_is)))

pub returns-in-None : goal.returns-in-None
returns-in-None c =
    let own = c.self.inside in
    let output = c.args.output.now in
    sym (not-found own.outputs own.entries.items output (sym c.in-None.ensures.index))
    ∙ (sym (c.self.invariant.last output) ∙ ap (λ ls. entry_of ls output) c.self.view_is)
