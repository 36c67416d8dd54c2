use Rattle.nj_names.specs.Inside.NamesHeld.{held_names}
use Rattle.nj_names.proofs.NameLemmas.{Searched}
use Rattle.nj_names.proofs.table.find_name.Given as goal

abbrev pub invariant-chain : goal.invariant-chain
invariant-chain l = Searched (held_names l.text l.ends) l.earlier l.name l.at

abbrev pub decreases-chain : goal.decreases-chain
decreases-chain l = l.at
