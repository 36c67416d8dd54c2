use Rattle.std.proofs.Common.{rules, tests, ◌≡◌, sym, ◌∙◌}
use Rattle.std.specs.List.{list_any}
use Rattle.std.specs.Str.{bytes_eq}
use Rattle.std.proofs.lemmas.Iterator.{YieldsList-from_slice}
use Rattle.std.proofs.lemmas.Iterator.Search.{any_from_yields_List}
use Rattle.nj_manifest.specs.declared.statement.Line.{Line}
use Rattle.nj_manifest.proofs.GivenKeys.{names-lines}
use Rattle.nj_manifest.proofs.block_lines.names.Goals as goal

pub returns : goal.returns
returns c =
    let e : c.any.result ≡ list_any (λ (line : Line). bytes_eq line.name.now c.args.key.now)
    c.args.lines.now =
    any_from_yields_List (λ (line : Line). bytes_eq line.name.now c.args.key.now) _ _ c.any.result
    c.any.ensures.ran (YieldsList-from_slice c.args.lines.now cc) (λ x b q k. search (rules, tests)) in
    e ∙ sym (names-lines c.args.key.now c.args.lines.now)
