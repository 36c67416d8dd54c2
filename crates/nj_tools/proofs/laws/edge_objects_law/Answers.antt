use Rattle.nj_tools.proofs.EdgeJsonLemmas.{edge_lines-are_json}
use Rattle.nj_tools.proofs.laws.edge_objects_law.Goals as goal

pub returns : goal.returns
returns c = edge_lines-are_json
