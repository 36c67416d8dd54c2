use Rattle.std.proofs.Common.{◌∙◌, ap, sym, ◌∷◌, ◌+◌, take}
use Rattle.std.specs.List.{slice_split}
use Rattle.std.proofs.lemmas.List.{take_rest}
use Rattle.nj_text.specs.Paths.{is_slash}
use Rattle.nj_text.proofs.SlashComponents.{scan-slash, scan-all}
use Rattle.nj_text.proofs.components.first_component.Goals as goal

pub returns-then-byte-eq47-clause-components : goal.returns-then-byte-eq47-clause-components
returns-then-byte-eq47-clause-components c =
    let text = c.args.text.now in
    scan-slash text c.loop-end.end c.loop-end-test.true c.loop-end.invariant c.if-byte-eq47.true
    ∙ ap (λ rest. take c.loop-end.end text ∷ slice_split is_slash rest)
    (sym (take_rest text (c.loop-end.end + 1)))

pub returns-clause-components : goal.returns-clause-components
returns-clause-components c = (scan-all c.args.text.now c.loop-end.end c.loop-end-test.false
    c.loop-end.invariant).0
