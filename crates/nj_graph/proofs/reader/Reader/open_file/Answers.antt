-- A file that a word names is opened.
use Rattle.std.proofs.Common.{◌≡◌, ℕ, zero, suc, ◌-◌, ◌<◌, ◌≤◌, length, refl, ap, subst, ◌∙◌, arith}
use Rattle.nj_statements.proofs.Faults.{by-fault}
use Rattle.nj_faults.specs.Limits.{most_opened}
use Rattle.nj_graph.specs.declared.reader.Reader.{Reader}
use Rattle.nj_graph.specs.Inside.ReaderContracts.{ReturnsText, place_in}
use Rattle.nj_graph.proofs.Holding.{placed-text}
use Rattle.nj_graph.proofs.OriginLemmas.{openings-count}
use Rattle.nj_graph.proofs.Openings.{stops-lacking, stops-closed, stops-full, opens-answered}
use Rattle.nj_graph.proofs.reader.Reader.open_file.Goals as goal

one_less : (left : ℕ) → (left ≡ 0 → ⊥) → left ≡ suc (left - 1)
one_less zero h = absurd (h refl)
one_less (suc n) h = omega arith

-- the fault of a file that may not be opened, or out of memory
pub returns-then-file-eq0-clause-opens : goal.returns-then-file-eq0-clause-opens
returns-then-file-eq0-clause-opens g c main entries has =
    by-fault _ _ c.fault.ensures
    (λ none. stops-lacking main _ _ _ _ _ entries has.paths_are _ has.once refl _ none)
    (λ is. stops-closed main _ _ _ _ _ entries has.paths_are _ c.if-file-eq0.true has.once refl _ is)

pub returns-then-opening_count-ge-MOST_OPENED-clause-opens :
    goal.returns-then-opening_count-ge-MOST_OPENED-clause-opens
returns-then-opening_count-ge-MOST_OPENED-clause-opens g c main entries has =
    by-fault _ _ c.fault-then-opening_count-ge-MOST_OPENED.ensures
    (λ none. stops-lacking main _ _ _ _ _ entries has.paths_are _ has.once refl _ none)
    (λ is. stops-full main _ _ _ _ _ entries has.paths_are _ _ (one_less c.args.file.left c.if-file-eq0.false)
    (subst (λ n. most_opened ≤ n) (c.opening_count.ensures ∙ ap (λ o. length o.openings) has.origins
    ∙ openings-count main entries) c.if-opening_count-ge-MOST_OPENED.true) has.once refl _ is)

pub returns-clause-opens : goal.returns-clause-opens
returns-clause-opens g c main entries has =
    let before = g.S.FileSource.state c.args.source.now in
    let after = g.S.FileSource.state c.text_at.new.source in
    let held : Reader = record {
      declarations = c.args.self.now.declarations;
      building =
          c.args.self.now.building;
      files = c.text_at.new.files;
      origins = c.args.self.now.origins;
    } in
    let place = place_in c.args.file c.args.spot in
    let capacity = subst (λ n. n < most_opened)
    (c.opening_count.ensures ∙ ap (λ o. length o.openings) has.origins ∙ openings-count main entries)
    c.if-opening_count-ge-MOST_OPENED.false in
    opens-answered main before after c.args.self.now held c.args.file.left (c.args.file.left - 1) place
    c.args.path.now entries has.paths_are (one_less c.args.file.left c.if-file-eq0.false) capacity
    has.once c.text_at.result
    (subst (λ p. ReturnsText before after c.args.self.now.files c.text_at.new.files p c.args.path.now
    c.text_at.result) (placed-text c.place.result c.args.file.name.now c.args.spot c.place.ensures.file
    c.place.ensures.spot) c.text_at.ensures)
