use Rattle.std.proofs.Common.{map, refl, string_bytes, subst, ◌∙◌, rules}
use Rattle.nj_tools.specs.Compdb.{unheld_edge}
use Rattle.nj_tools.specs.Inside.CompdbHeld.{Refuses}
use Rattle.nj_tools.proofs.OutputLemmas.{adds-is, front-is, sink-fails, sink-stops, sink-takes, stops-before}
use Rattle.nj_tools.proofs.CompdbLemmas.{fault-is, list-ends, list-is, list-stops, refused-is}
use Rattle.nj_tools.proofs.compdb.write_compdb.Goals as goal

pub returns-in_err-unheld : goal.returns-in_err-unheld
returns-in_err-unheld g c entries graph =
    let is = list-is entries c.args.directory.now c.in_ok-chosen.chosen (map string_bytes c.args.rules.now)
    c.args.expand c.in_ok-chosen.ensures c.deref.result.now
    (c.deref.ensures.value ∙ c.in_ok-directory.ensures) in
    list-stops _ _ _ _ c.in_err-unheld.field-0.0 c.from_residual-in_err-unheld.result
    c.from_residual-in_err-unheld.ensures.1
    (sink-stops c.args.out.now _ (search rules)
    (stops-before _ (front-is _ is) (c.in_err-unheld.ensures.text entries graph)))

pub returns-in_err-flush : goal.returns-in_err-flush
returns-in_err-flush g c entries graph =
    let is = list-is entries c.args.directory.now c.in_ok-chosen.chosen (map string_bytes c.args.rules.now)
    c.args.expand c.in_ok-chosen.ensures c.deref.result.now
    (c.deref.ensures.value ∙ c.in_ok-directory.ensures) in
    list-stops _ _ _ _ c.in_err-flush.field-0.0 c.from_residual-in_err-flush.result
    c.from_residual-in_err-flush.ensures.1
    (sink-fails c.args.out.now _ _ c.in_err-flush.field-0.0 (search rules)
    (adds-is _ is (c.in_ok-unheld.ensures.text entries graph)) c.in_err-flush.ensures.writes)

pub returns : goal.returns
returns g c entries graph =
    let chosen = c.in_ok-chosen.chosen in
    let rules_of = map string_bytes c.args.rules.now in
    let is = list-is entries c.args.directory.now chosen rules_of c.args.expand c.in_ok-chosen.ensures
    c.deref.result.now (c.deref.ensures.value ∙ c.in_ok-directory.ensures) in
    let refused = refused-is entries c.args.graph.now c.in_ok-unheld.unheld
    (unheld_edge entries chosen c.args.expand) (c.in_ok-unheld.ensures.unheld entries graph) graph in
    list-ends _ _ _ _ c.refuse.result
    (sink-takes c.args.out.now _ _ (search rules) (adds-is _ is (c.in_ok-unheld.ensures.text entries graph))
    c.in_ok-flush.ensures.writes)
    (subst (λ fault. Refuses fault c.refuse.result)
    (refused.1 ∙ fault-is entries c.args.directory.now chosen rules_of c.args.expand c.in_ok-chosen.ensures _
    refl)
    (c.refuse.ensures entries refused.0))
