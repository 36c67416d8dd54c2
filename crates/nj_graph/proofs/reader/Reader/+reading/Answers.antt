use Rattle.std.proofs.Common.{◌-◌, suc, Ok, ◌∷◌, length, refl, sym, subst, ◌∙◌}
use Rattle.std.specs.Rc.{rc_slice_items}
use Rattle.nj_text.specs.Lines.{text_lines}
use Rattle.nj_manifest.specs.Contents.{placed_model}
use Rattle.nj_graph.specs.Reading.{Site, entry_at, opened_in, text_read}
use Rattle.nj_graph.specs.Inside.ReaderContracts.{ReadsItem, ReadsOrStops, site_of}
use Rattle.nj_graph.proofs.OpenScopes.{grows-self, grows-then, open-grown}
use Rattle.nj_manifest.proofs.Handed.{handed}
use Rattle.nj_graph.proofs.ParsedLemmas.{parsed-at-first}
use Rattle.nj_graph.proofs.Tables.{reads-all-nothing}
use Rattle.nj_graph.proofs.Turns.{reads-named, one-read, ends-text, turn, turn-stops, next-some, next-none}
use Rattle.nj_graph.proofs.Turns.{next-stops, fewer-left, site-same}
use Rattle.nj_graph.proofs.reader.Reader.+reading.Goals as goal

pub read_statement-returns-in-Some-clause-reads : goal.read_statement-returns-in-Some-clause-reads
read_statement-returns-in-Some-clause-reads g t c = λ main entries around depth has inside.
    let before = g.S.FileSource.state c.args.source.now in
    let mid = g.S.FileSource.state c.read_item.new.source in
    let after = g.S.FileSource.state c.read_text.new.source in
    let opened = c.read_item.new.self in
    let named = c.in-Some.named in
    let e = entry_at (site_of c.args.file around depth) (placed_model c.args.statement.now) in
    let reads = subst (λ o. ReadsItem main before mid c.args.self.now opened c.args.file.left e entries
    (Ok o)) c.in-Some.is (c.in_ok-read_item.ensures.reads main entries around depth has inside) in
    let inner : Site = reads.0 in
    let at = site-same inner c.as_str.result.now named.scope.0 (reads.1.file ∙ sym c.as_str.ensures.value)
    reads.1.number in
    let nested = c.read_text.ensures.reads main (e ∷ entries) inner.around inner.depth reads.2.has
    reads.1.scope in
    let same = subst (λ i. ReadsOrStops main mid after opened c.read_text.new.self
    (λ all. text_read (opened_in all (c.args.file.left - 1)) i c.as_slice.result.now (e ∷ entries))
    c.read_text.result) (sym at) nested in
    reads-named main before mid after c.args.self.now opened c.read_text.new.self c.args.file.left inner
    (rc_slice_items named.text) e entries reads.2 c.read_text.result
    (subst (λ text. ReadsOrStops main mid after opened c.read_text.new.self
    (λ all. text_read (opened_in all (c.args.file.left - 1)) inner text (e ∷ entries)) c.read_text.result)
    c.as_slice.ensures.value same)

pub read_statement-returns-in_err-read_item-clause-reads :
    goal.read_statement-returns-in_err-read_item-clause-reads
read_statement-returns-in_err-read_item-clause-reads g t c = λ main entries around depth has inside.
    rw (handed c.in_err-read_item.field-0.0 c.from_residual.result c.from_residual.ensures)
    (c.in_err-read_item.ensures.reads main entries around depth has inside)

pub read_statement-returns-in-None-clause-reads : goal.read_statement-returns-in-None-clause-reads
read_statement-returns-in-None-clause-reads g t c = λ main entries around depth has inside.
    let before = g.S.FileSource.state c.args.source.now in
    let after = g.S.FileSource.state c.read_item.new.source in
    let e = entry_at (site_of c.args.file around depth) (placed_model c.args.statement.now) in
    one-read main before after c.args.self.now c.read_item.new.self c.args.file.left e entries
    (subst (λ o. ReadsItem main before after c.args.self.now c.read_item.new.self c.args.file.left e entries
    (Ok o)) c.in-None.is (c.in_ok-read_item.ensures.reads main entries around depth has inside))

pub read_text-statements-init : goal.read_text-statements-init
read_text-statements-init g t c = (
  grows-self c.args.self.now.declarations.scopes,
  text_lines c.args.text.now,
  c.new-parser.ensures,
  λ main entries around depth has inside. record {
    files = c.args.self.now.files;
    reads = reads-all-nothing _ c.args.self.now.files has.once;
    now = entries;
    has = has;
    most = suc (length c.args.text.now);
    capacity = parsed-at-first c.args.text.now;
    continues = λ all ext. refl;
  },
)

pub read_text-returns-in_err-statement-clause-reads : goal.read_text-returns-in_err-statement-clause-reads
read_text-returns-in_err-statement-clause-reads g t c = λ main entries around depth has inside.
    let before = g.S.FileSource.state c.args.source.now in
    let after = g.S.FileSource.state c.statements.source in
    rw (handed c.in_err-statement.field-0.0 c.from_residual.result c.from_residual.ensures)
    (next-stops main before after c.args.self.now c.statements.self c.args.file.left
    (site_of c.args.file around depth) c.args.text.now entries c.statements.invariant.1
    c.statements.parser c.next_statement.new.parser c.in_err-statement.field-0.0
    (c.statements.invariant.3 main entries around depth has inside) c.statements.invariant.2
    c.in_err-statement.ensures)

pub read_text-returns-in_err-read_statement-clause-reads :
    goal.read_text-returns-in_err-read_statement-clause-reads
read_text-returns-in_err-read_statement-clause-reads g t c = λ main entries around depth has inside.
    let before = g.S.FileSource.state c.args.source.now in
    let mid = g.S.FileSource.state c.statements.source in
    let after = g.S.FileSource.state c.read_statement.new.source in
    let next = next-some c.args.file.name.now c.statements.parser c.next_statement.new.parser
    c.statements.invariant.1 c.in_ok-statement.field-0 c.in-Some.statement c.statements.invariant.2
    c.in-Some.is c.in_ok-statement.ensures in
    let u = c.statements.invariant.3 main entries around depth has inside in
    let there = open-grown c.args.self.now.declarations.scopes c.statements.self.declarations.scopes
    c.args.file.scope.0 around c.statements.invariant.0 inside in
    let fault = c.in_err-read_statement.field-0.0 in
    rw (handed fault c.from_residual-in_err-read_statement.result
    c.from_residual-in_err-read_statement.ensures)
    (turn-stops main before mid c.args.self.now c.statements.self c.args.file.left
    (site_of c.args.file around depth) c.args.text.now entries c.statements.invariant.1
    after c.read_statement.new.self (placed_model c.in-Some.statement) next.0 next.1 fault u
    (c.in_err-read_statement.ensures.reads main u.now around depth u.has there))

pub read_text-statements-smaller : goal.read_text-statements-smaller
read_text-statements-smaller g t c =
    let next = next-some c.args.file.name.now c.statements.parser c.next_statement.new.parser
    c.statements.invariant.1 c.in_ok-statement.field-0 c.in-Some.statement c.statements.invariant.2
    c.in-Some.is c.in_ok-statement.ensures in
    rw c.reuse.ensures (fewer-left c.statements.parser c.next_statement.new.parser c.statements.invariant.1
    next.0 (placed_model c.in-Some.statement) c.statements.invariant.2 next.2 next.1)

pub read_text-statements-preserved : goal.read_text-statements-preserved
read_text-statements-preserved g t c =
    let before = g.S.FileSource.state c.args.source.now in
    let mid = g.S.FileSource.state c.statements.source in
    let after = g.S.FileSource.state c.read_statement.new.source in
    let next = next-some c.args.file.name.now c.statements.parser c.next_statement.new.parser
    c.statements.invariant.1 c.in_ok-statement.field-0 c.in-Some.statement c.statements.invariant.2
    c.in-Some.is c.in_ok-statement.ensures in (
      grows-then c.args.self.now.declarations.scopes c.statements.self.declarations.scopes
          c.read_statement.new.self.declarations.scopes c.statements.invariant.0
          c.in_ok-read_statement.ensures.grows,
      next.0,
      c.reuse.ensures ∙ next.2,
      λ main entries around depth has inside.
          let u = c.statements.invariant.3 main entries around depth has inside in
          let there = open-grown c.args.self.now.declarations.scopes c.statements.self.declarations.scopes
          c.args.file.scope.0 around c.statements.invariant.0 inside in
          turn main before mid c.args.self.now c.statements.self c.args.file.left
          (site_of c.args.file around depth) c.args.text.now entries c.statements.invariant.1
          after c.read_statement.new.self (placed_model c.in-Some.statement) next.0 next.1 u
          (c.in_ok-read_statement.ensures.reads main u.now around depth u.has there),
    )

pub read_text-returns-clause-reads : goal.read_text-returns-clause-reads
read_text-returns-clause-reads g t c = λ main entries around depth has inside.
    let before = g.S.FileSource.state c.args.source.now in
    let after = g.S.FileSource.state c.statements.source in
    let next = next-none c.args.file.name.now c.statements.parser c.next_statement.new.parser
    c.statements.invariant.1 c.in_ok-statement.field-0 c.statements.invariant.2 c.in_default.is
    c.in_ok-statement.ensures in
    ends-text main before after c.args.self.now c.statements.self c.args.file.left
    (site_of c.args.file around depth) c.args.text.now entries c.statements.invariant.1
    next.0 (c.statements.invariant.3 main entries around depth has inside) next.1
