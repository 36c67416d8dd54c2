use Rattle.std.proofs.Common.{◌++◌, List, map, sym, ap, ◌∙◌}
use Rattle.std.proofs.lemmas.List.{append-nil, at_drop_all}
use Rattle.nj_text.specs.declared.word.Part.{Part}
use Rattle.nj_text.specs.Words.{part_model}
use Rattle.nj_scope.specs.Scopes.{expanded}
use Rattle.nj_statements.proofs.Texts.{text-turn}
use Rattle.nj_statements.proofs.context.Context.expand.Goals as goal

pub parts-preserved : goal.parts-preserved
parts-preserved c = λ values sees.
    text-turn values c.parts.text.items c.part_given.result.now c.extend_from_slice.new.self.items
    c.as_slice-part-items.result.now c.parts.part-index _ c.parts-test.true
    (c.part_given.ensures values sees) c.in_ok-extend_from_slice.ensures.items
    ∙ c.parts.invariant values sees

pub returns : goal.returns
returns c = λ values sees.
    sym (append-nil c.parts.text.items)
    ∙ sym (at_drop_all (λ (ps : List Part). c.parts.text.items ++ expanded values (map part_model ps))
    c.as_slice-part-items.result.now c.parts.part-index c.parts-test.false)
    ∙ c.parts.invariant values sees
    ∙ ap (λ (ps : List Part). expanded values (map part_model ps)) c.as_slice-part-items.ensures
