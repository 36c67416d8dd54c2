use Rattle.std.proofs.Common.{◌≡◌, map, ap, subst, ◌∙◌, rules}
use Rattle.nj_ask.specs.MadeFrom.{TellMadeFrom}
use Rattle.nj_c.specs.Pages.{numbered, AreKnown}
use Rattle.nj_c.proofs.MadeLemmas.{numbers-back}
use Rattle.nj_c.proofs.made_from.made_from_numbers.Goals as goal

pub returns-clause-made : goal.returns-clause-made
returns-clause-made c =
    let g = c.args.graph.now in let numbers = c.args.numbers.now in
    let known : AreKnown g numbers = search rules in
    let are : c.deref.result.now ≡ numbered numbers = search rules in (
      known,
      subst (λ ns. TellMadeFrom g ns c.in_ok-made_from.field-0.items)
          (ap (map (λ file. file.0)) are ∙ numbers-back numbers) c.in_ok-made_from.ensures,
    )
