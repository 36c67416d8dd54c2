use Rattle.std.proofs.Common.{◌≡◌, [], ◌∷◌, ◌++◌, sym, ap, ◌∙◌, subst, List, ℕ}
use Rattle.nj_build_log.specs.declared.entry.Entry.{Entry}
use Rattle.nj_build_log.specs.Inside.LinesHeld.{SetsEntry}
use Rattle.nj_build_log.proofs.EntryLemmas.{set-known, set-new, found-at, none-named}
use Rattle.nj_build_log.proofs.line_table.set_entry.Goals as goal

pub returns-in-Some-clause-set : goal.returns-in-Some-clause-set
returns-in-Some-clause-set c = set-known c.args.outputs.now c.args.entries.now.items c.args.output.now
    c.args.entry
    c.in-Some.number c.requires (sym c.in-Some.ensures.index)

pub returns-in-Some-clause-number : goal.returns-in-Some-clause-number
returns-in-Some-clause-number c = (found-at c.args.outputs.now c.args.entries.now.items c.args.output.now
    c.in-Some.number c.requires (sym c.in-Some.ensures.index)).2

pub returns-clause-set : goal.returns-clause-set
returns-clause-set c =
    let entries : c.push_reserved.new.self.items ≡ c.args.entries.now.items ++ c.args.entry ∷ [] =
    c.push_reserved.ensures.items ∙ ap (λ es. es ++ c.args.entry ∷ []) c.in_ok-reserve.ensures.items in
    let new = none-named c.number.result c.args.outputs.now c.args.output.now c.number.ensures.known
    c.in_default.not-Some in
    subst (λ (es : List Entry). SetsEntry c.args.output.now c.args.entry c.args.outputs.now c.add.new.self
    c.args.entries.now.items es) (sym entries)
    (subst (λ (os : List (List ℕ)). SetsEntry c.args.output.now c.args.entry c.args.outputs.now os
    c.args.entries.now.items (c.args.entries.now.items ++ c.args.entry ∷ []))
    (sym c.in_ok-number.ensures.added)
    (set-new c.args.outputs.now c.args.entries.now.items c.args.output.now c.args.entry c.requires new))
