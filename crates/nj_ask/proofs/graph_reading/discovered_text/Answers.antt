use Rattle.std.proofs.Common.{◌≡◌, ◌++◌, ℕ, List, ap, sym, ◌∙◌, append_assoc, codes}
use Rattle.nj_faults.specs.FaultLines.{fault_line_for}
use Rattle.nj_ask.specs.Affected.{line}
use Rattle.nj_ask.proofs.graph_reading.discovered_text.Goals as goal

four : (a b c d : List ℕ) → a ++ (b ++ (c ++ d)) ≡ ((a ++ b) ++ c) ++ d
four a b c d = sym (append_assoc (a ++ b) c d ∙ append_assoc a b (c ++ d))

pub returns : goal.returns
returns c =
    let path = c.args.path.now in
    let before = fault_line_for (codes "ninja-graph") c.args.fault.now in
    ap line (c.in_ok-extend_from_slice.ensures.items
    ∙ ap (λ text. text ++ c.as_bytes.result.now) c.in_ok-text.ensures
    ∙ ap (λ by. before ++ by) (c.as_bytes.ensures.value ∙ c.in_ok-by.ensures.ok)
    ∙ four before (codes ", by the inputs of ") path (codes " and of depfiles"))
