use Rattle.std.proofs.Common.{true, false, [], refl, sym, ◌∙◌, append-nil}
use Rattle.nj_text.specs.Lines.{text_lines}
use Rattle.nj_manifest.specs.DyndepParsers.{entry_model}
use Rattle.nj_graph.proofs.Comes.{prefix-then}
use Rattle.nj_manifest.proofs.Handed.{handed}
use Rattle.nj_graph.proofs.JoiningTables.{get-prefix}
use Rattle.nj_graph.proofs.JoiningStrings.{text-at-first, text-ends, text-turn, text-refused, next-some}
use Rattle.nj_graph.proofs.JoiningStrings.{next-none, next-stops, fewer-to-come}
use Rattle.nj_graph.proofs.dyndep_files.join_text.Goals as goal

pub entries-init : goal.entries-init
entries-init c = (
  false,
  text_lines c.args.text.now,
  c.new-parser.ensures,
  c.requires,
  ([], sym (append-nil c.args.joining.now.table.files)),
  refl,
  λ stated joined has. text-at-first c.args.name.now stated c.args.text.now joined c.args.joining.now has,
)

pub returns-in_err-entry-clause-joins : goal.returns-in_err-entry-clause-joins
returns-in_err-entry-clause-joins c = λ stated joined has.
    rw (handed c.in_err-entry.field-0.0 c.from_residual.result c.from_residual.ensures)
    (next-stops c.args.name.now stated c.args.text.now joined c.entries.joining c.entries.invariant.0
    c.entries.invariant.1 c.entries.parser c.next_entry.new.parser c.in_err-entry.field-0.0
    (c.entries.invariant.6 stated joined has) c.entries.invariant.2 c.in_err-entry.ensures)

pub returns-in_err-join_entry-clause-joins : goal.returns-in_err-join_entry-clause-joins
returns-in_err-join_entry-clause-joins c = λ stated joined has.
    let next = next-some c.args.name.now c.entries.parser c.next_entry.new.parser c.entries.invariant.0
    c.entries.invariant.1 c.in_ok-entry.field-0 c.in-Some.entry c.entries.invariant.2 c.in-Some.is
    c.in_ok-entry.ensures in
    let u = c.entries.invariant.6 stated joined has in
    rw (handed c.in_err-join_entry.field-0.0 c.from_residual-in_err-join_entry.result
    c.from_residual-in_err-join_entry.ensures)
    (text-refused c.args.name.now stated c.args.text.now joined c.entries.joining c.entries.invariant.0
    c.entries.invariant.1 u (entry_model c.in-Some.entry) next.0 next.1 c.in_err-join_entry.field-0.0
    (c.in_err-join_entry.ensures.joins stated u.now u.has))

pub entries-smaller : goal.entries-smaller
entries-smaller c =
    let next = next-some c.args.name.now c.entries.parser c.next_entry.new.parser c.entries.invariant.0
    c.entries.invariant.1 c.in_ok-entry.field-0 c.in-Some.entry c.entries.invariant.2 c.in-Some.is
    c.in_ok-entry.ensures in
    fewer-to-come c.entries.parser c.next_entry.new.parser c.entries.invariant.0 c.entries.invariant.1 next.0
    (entry_model c.in-Some.entry) c.entries.invariant.2 next.2 next.1

pub entries-preserved : goal.entries-preserved
entries-preserved c =
    let next = next-some c.args.name.now c.entries.parser c.next_entry.new.parser c.entries.invariant.0
    c.entries.invariant.1 c.in_ok-entry.field-0 c.in-Some.entry c.entries.invariant.2 c.in-Some.is
    c.in_ok-entry.ensures in
    let later = c.join_entry.new.self in (
      true,
      next.0,
      next.2,
      get-prefix c.entries.joining.table.files later.table.files c.args.file.0 c.args.name.now
          c.in_ok-join_entry.ensures.files c.entries.invariant.3,
      prefix-then c.args.joining.now.table.files c.entries.joining.table.files later.table.files
          c.entries.invariant.4 c.in_ok-join_entry.ensures.files,
      c.in_ok-join_entry.ensures.dyndep_files ∙ c.entries.invariant.5,
      λ stated joined has.
          let u = c.entries.invariant.6 stated joined has in
          let joins = c.in_ok-join_entry.ensures.joins stated u.now u.has in
          text-turn c.args.name.now stated c.args.text.now joined c.entries.joining c.entries.invariant.0
          c.entries.invariant.1 u (entry_model c.in-Some.entry) next.0 next.1 later joins.0 joins.1,
    )

pub returns-clause-joins : goal.returns-clause-joins
returns-clause-joins c = λ stated joined has.
    let next = next-none c.args.name.now c.entries.parser c.next_entry.new.parser c.entries.invariant.0
    c.entries.invariant.1 c.in_ok-entry.field-0 c.entries.invariant.2 c.in_default.is
    c.in_ok-entry.ensures in
    text-ends c.args.name.now stated c.args.text.now joined c.entries.joining c.entries.invariant.0
    c.entries.invariant.1 (c.entries.invariant.6 stated joined has) next.0 next.1
