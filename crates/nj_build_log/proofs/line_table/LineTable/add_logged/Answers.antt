use Rattle.std.proofs.Common.{[], ◌∷◌, ◌++◌, ap, ◌∙◌}
use Rattle.nj_build_log.specs.declared.line_table.HeldLine.{HeldLine}
use Rattle.nj_build_log.specs.Logs.{line_model}
use Rattle.nj_build_log.proofs.EntryLemmas.{held-added, view-added}
use Rattle.nj_build_log.proofs.line_table.LineTable.add_logged.Goals as goal

pub invariant_of-self-2 : goal.invariant_of-self-2
invariant_of-self-2 c =
    let own = c.self.inside in
    let line : HeldLine = record { output = c.in_ok-output.output; entry = c.args.logged.entry } in
    held-added own.outputs c.set_entry.new.outputs own.lines.items c.push_reserved.new.self.items
    own.entries.items c.set_entry.new.entries.items c.args.logged.output.now line c.self.invariant
    c.in_ok-output.ensures.named
    (c.push_reserved.ensures.items ∙ ap (λ ls. ls ++ line ∷ []) c.in_ok-reserve.ensures.items)
    c.in_ok-output.ensures.number c.in_ok-output.ensures.set

pub returns-clause-added : goal.returns-clause-added
returns-clause-added c =
    let own = c.self.inside in
    let line : HeldLine = record { output = c.in_ok-output.output; entry = c.args.logged.entry } in
    view-added own.outputs c.set_entry.new.outputs own.lines.items c.push_reserved.new.self.items
    own.entries.items c.args.logged.output.now line c.self.invariant c.in_ok-output.ensures.named
    (c.push_reserved.ensures.items ∙ ap (λ ls. ls ++ line ∷ []) c.in_ok-reserve.ensures.items)
    c.in_ok-output.ensures.number
    ∙ ap (λ v. v ++ line_model c.args.logged ∷ []) c.self.view_is
