use Rattle.std.proofs.Common.{◌≡◌, ◌<◌, ◌-◌, ◌∙◌, arith, subst, sym}
use Rattle.nj_names.specs.Inside.NamesHeld.{held_names}
use Rattle.nj_names.proofs.NameLemmas.{length-names, searched-all, Searched, turn-falls, turn-next}
use Rattle.nj_names.proofs.NameLemmas.{turn-within}
use Rattle.nj_names.proofs.table.find_name.Goals as goal

pub name_at-requires-clause-number : goal.name_at-requires-clause-number
name_at-requires-clause-number c =
    let names = held_names c.args.text.now c.args.ends.now in
    subst (λ n. c.chain.at - 1 < n) (length-names c.args.text.now 0 c.args.ends.now)
    (turn-within names c.args.earlier.now c.args.name.now c.chain.at c.chain-test.true c.chain.invariant)

pub number_at-at-requires : goal.number_at-at-requires
number_at-at-requires c =
    let names = held_names c.args.text.now c.args.ends.now in
    subst (λ n. c.chain.at - 1 < n) (sym c.chain.invariant.1.count)
    (turn-within names c.args.earlier.now c.args.name.now c.chain.at c.chain-test.true c.chain.invariant)

pub chain-smaller : goal.chain-smaller
chain-smaller c =
    let names = held_names c.args.text.now c.args.ends.now in
    rw c.number_at-at.ensures (turn-falls names c.args.earlier.now c.args.name.now c.chain.at
    c.chain-test.true c.chain.invariant)

pub chain-preserved : goal.chain-preserved
chain-preserved c =
    let names = held_names c.args.text.now c.args.ends.now in
    rw c.number_at-at.ensures
    (turn-next names c.args.earlier.now c.args.name.now c.chain.at c.name_at.result.now c.chain-test.true
    c.chain.invariant c.name_at.ensures (sym c.eq.ensures ∙ c.if-eq.false))

pub returns : goal.returns
returns c =
    let names = held_names c.args.text.now c.args.ends.now in
    let past = c.chain-test.false in
    let end : c.chain.at ≡ 0 = omega arith in
    searched-all names c.args.earlier.now c.args.name.now
    (subst (Searched names c.args.earlier.now c.args.name.now) end c.chain.invariant)
