use Rattle.nj_text.specs.Words.{part_model}
use Rattle.nj_scope.proofs.LateLemmas.{written-turn}
use Rattle.nj_scope.proofs.deferred.LateValue.written.Goals as goal

pub parts-preserved : goal.parts-preserved
parts-preserved c = written-turn c.args.self.now c.parts.index (part_model c.part.result) c.parts.text.items
    c.append_written.new.text.items c.part.ensures c.parts.invariant c.in_ok-append_written.ensures
