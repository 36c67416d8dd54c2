use Rattle.std.proofs.Common.{take, string_bytes}
use Rattle.std.specs.List.{AllZip}
use Rattle.nj_globs.specs.Patterns.{ArePartsOf}
use Rattle.nj_changes.proofs.ignored.read_globs.Given as goal

abbrev pub invariant-patterns : goal.invariant-patterns
invariant-patterns l = AllZip (λ pattern glob. ArePartsOf (string_bytes pattern) glob)
    (take l.pattern-index l.patterns)
    l.globs.items
