use Rattle.nj_names.specs.Inside.NamesHeld.{IsFound, held_names}
use Rattle.nj_names.proofs.NameLemmas.{found-index, found-known}
use Rattle.nj_names.proofs.table.Names.number.Goals as goal

pub returns-clause-index : goal.returns-clause-index
returns-clause-index c =
    let names = held_names c.self.inside.text.items c.self.inside.ends.items in
    let found : IsFound names c.args.name.now c.find_name.result =
    rw (← c.as_slice.ensures.value, ← c.as_slice-2.ensures.value) c.find_name.ensures in
    rw (← c.self.view_is) (found-index c.args.name.now names c.find_name.result c.self.invariant.distinct
    found)

pub returns-clause-known : goal.returns-clause-known
returns-clause-known c =
    let names = held_names c.self.inside.text.items c.self.inside.ends.items in
    let found : IsFound names c.args.name.now c.find_name.result =
    rw (← c.as_slice.ensures.value, ← c.as_slice-2.ensures.value) c.find_name.ensures in
    rw (← c.self.view_is) (found-known c.args.name.now names c.find_name.result found)
