use Rattle.std.proofs.Common.{map, string_bytes, sym, subst}
use Rattle.std.specs.List.{AllZip}
use Rattle.std.proofs.lemmas.List.{take_all}
use Rattle.nj_globs.specs.Patterns.{ArePartsOf, IsGlobFault}
use Rattle.nj_changes.specs.Ignored.{IsFirstWrong}
use Rattle.nj_changes.proofs.GlobLemmas.{first-wrong, zip-mapped, zip-more}
use Rattle.nj_changes.proofs.ignored.read_globs.Goals as goal

pub returns-in-Err : goal.returns-in-Err
returns-in-Err c = record {
  globs = tt;
  wrong = c.fault_of.ensures (map string_bytes c.args.patterns.now) (λ other.
      subst (λ pattern. IsFirstWrong (map string_bytes c.args.patterns.now) pattern c.in-Err.fault)
      (sym c.deref.ensures)
      (first-wrong string_bytes c.args.patterns.now c.patterns.globs.items c.patterns.pattern-index
      c.pattern-item.result c.patterns-test.true c.pattern-item.is c.patterns.invariant c.in-Err.fault
      (subst (λ bytes. IsGlobFault bytes c.in-Err.fault) c.as_bytes.ensures.value c.in-Err.ensures.fault)
      other));
}

pub returns-clause-globs : goal.returns-clause-globs
returns-clause-globs c =
    let patterns = c.args.patterns.now in
    zip-mapped ArePartsOf string_bytes patterns c.patterns.globs.items
    (subst (λ ps. AllZip (λ pattern glob. ArePartsOf (string_bytes pattern) glob) ps c.patterns.globs.items)
    (take_all c.patterns.pattern-index patterns c.patterns-test.false) c.patterns.invariant)

pub patterns-preserved : goal.patterns-preserved
patterns-preserved c =
    zip-more (λ pattern glob. ArePartsOf (string_bytes pattern) glob) c.args.patterns.now
    c.patterns.globs.items
    c.push.new.self.items c.patterns.pattern-index c.pattern-item.result c.in-Ok.glob c.patterns-test.true
    c.pattern-item.is c.patterns.invariant
    (subst (λ bytes. ArePartsOf bytes c.in-Ok.glob) c.as_bytes.ensures.value c.in-Ok.ensures.glob)
    c.in_ok-push-in-Ok.ensures.items
