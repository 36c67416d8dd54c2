use Rattle.std.proofs.Common.{length}
use Rattle.std.specs.Option.{option_copied}
use Rattle.nj_text.specs.Inside.Cleaning.{components_left}
use Rattle.nj_text.proofs.WrittenComponents.{IsPushing}
use Rattle.nj_text.proofs.cleaning.push_components.Given as goal

abbrev pub invariant-components : goal.invariant-components
invariant-components l = IsPushing l.absolute l.fn.out.items l.fn.path l.front l.floor (option_copied l.rest)
    l.out.items

abbrev pub decreases-components : goal.decreases-components
decreases-components l = length (components_left (option_copied l.rest))
