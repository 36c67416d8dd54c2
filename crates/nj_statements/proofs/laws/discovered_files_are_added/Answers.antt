use Rattle.nj_statements.proofs.DiscoverLemmas.{names_stay}
use Rattle.nj_statements.proofs.DiscoverEdges.{adds_to_one, others_are_pending}
use Rattle.nj_statements.proofs.laws.discovered_files_are_added.Goals as goal

pub returns-clause-added : goal.returns-clause-added
returns-clause-added c = adds_to_one

pub returns-clause-unjoined : goal.returns-clause-unjoined
returns-clause-unjoined c = others_are_pending

pub returns-clause-names : goal.returns-clause-names
returns-clause-names c = names_stay
