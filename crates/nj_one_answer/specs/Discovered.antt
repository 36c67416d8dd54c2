-- When two graphs with discovered inputs are the same.
use Rattle.std.specs.Prelude.{◌≡◌, map}
use Rattle.nj_graph.specs.Origins.{main_of}
use Rattle.nj_ask.specs.declared.discovered.Discovered.{Discovered}
use Rattle.nj_agreement.specs.Graphs.{SameStated}

-- the same declarations and edges, with the same origins if the main file has the same name; and the same is not known of what builds
-- discovered
pub record SameDiscovered (one other : Discovered) : Type 0 where
  pub graph : SameStated one.graph other.graph
  pub origins : main_of one.graph.origins ≡ main_of other.graph.origins → one.graph.origins ≡ other.graph.origins
  pub edges : one.doubts.edges.items ≡ other.doubts.edges.items
  pub faulty : map (λ fault. fault.edge.0) one.doubts.faults.items ≡ map (λ fault. fault.edge.0) other.doubts.faults.items
  pub texts : map (λ fault. fault.text.items) one.doubts.faults.items ≡ map (λ fault. fault.text.items) other.doubts.faults.items
  pub lines : one.doubts.lines.items ≡ other.doubts.lines.items
  pub discoveries : one.doubts.discoveries.items ≡ other.doubts.discoveries.items
