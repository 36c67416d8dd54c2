use Rattle.std.proofs.Common.{rules, ◌≡◌, ◌++◌, ◌∙◌, subst}
use Rattle.std.specs.Prelude.{OnOk, codes}
use Rattle.std.specs.Fmt.{decimal}
use Rattle.nj_ask.proofs.DrawnLemmas.{nested-parts}
use Rattle.nj_ask.proofs.drawing.push_count.Goals as goal

pub returns : goal.returns
returns c =
    let old = c.args.text.now.items in
    let new = c.extend_from_slice.new.self.items in
    let added : OnOk c.extend_from_slice.result (new ≡ old ++ c.as_bytes.result.now) = search rules in
    subst (λ line. OnOk c.extend_from_slice.result (new ≡ old ++ line))
    (c.as_bytes.ensures.value ∙ c.in_ok-line.ensures.ok
    ∙ nested-parts (codes "  label=\"") (decimal c.args.count) (codes " of ") (decimal c.args.all)
    (codes " edges\";\n"))
    added
