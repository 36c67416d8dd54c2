use Rattle.std.proofs.Common.{◌∙◌, ◌≡◌, ◌<◌, Some, None, ap, length, slice_get, subst, sym}
use Rattle.nj_cycles.specs.Cycles.{IsLeastOnCycle}
use Rattle.nj_edges.specs.declared.edges.EdgeNo.{EdgeNo}
use Rattle.nj_edges.specs.Edges.{edge_at, outputs_of}
use Rattle.nj_edges.specs.EdgeTables.{EdgeTable}
use Rattle.nj_edges.specs.Inside.EdgesHeld.{AreNumbers}
use Rattle.nj_edges.specs.Needs.{makers_of_inputs}
use Rattle.nj_edges.proofs.CycleLemmas.{cycle-edge, first-output, some-output}
use Rattle.nj_edges.proofs.GraphLemmas.{first-table, inputs-below, maker-below, rows-end, rows-rise}
use Rattle.nj_edges.proofs.edges.Edges.first_cycle.Goals as goal

pub invariant_of-held : goal.invariant_of-held
invariant_of-held c =
    let held = c.self.invariant.edges_are in
    let closed = ap (λ (t : EdgeTable). t.«open») c.self.view_is ∙ c.requires in
    record {
      rows_rise = rows-rise _ _ held closed;
      rows_within = rows-end _ _ held closed;
      files_known = inputs-below _ _ held closed;
      makers_known = maker-below _ _ held closed;
    }

pub edge_files-requires : goal.edge_files-requires
edge_files-requires c =
    (cycle-edge _ _ c.self.invariant.edges_are c.args.self.now c.self.view_is c.requires c.in-Some.edge _
    c.in-Some.is c.in_ok-edge.ensures).0

pub cycle_edge-requires-clause-some : goal.cycle_edge-requires-clause-some
cycle_edge-requires-clause-some c =
    let least = cycle-edge _ _ c.self.invariant.edges_are c.args.self.now c.self.view_is c.requires
    c.in-Some.edge _ c.in-Some.is c.in_ok-edge.ensures in
    some-output _ _ _ _ _ _ _ _ c.edge_files.ensures least.1

pub cycle_edge-requires-clause-files : goal.cycle_edge-requires-clause-files
cycle_edge-requires-clause-files c = subst (λ (t : EdgeTable). AreNumbers (length t.files)
    c.edge_files.result.outputs.now) (sym c.self.view_is) c.edge_files.ensures.outputs_are

pub returns-in_ok-cycle-in-Some : goal.returns-in_ok-cycle-in-Some
returns-in_ok-cycle-in-Some c =
    let least = cycle-edge _ _ c.self.invariant.edges_are c.args.self.now c.self.view_is c.requires
    c.in-Some.edge _ c.in-Some.is c.in_ok-edge.ensures in
    let cycle = c.in_ok-cycle-in-Some in
    let same = ap (λ (t : EdgeTable). t.files) c.self.view_is in
    subst (λ (e : EdgeNo). (e.0 < length c.args.self.now.edges)
    × IsLeastOnCycle (makers_of_inputs c.args.self.now.edges) e.0
    × (slice_get (outputs_of (edge_at c.args.self.now.edges e.0)) 0 ≡ Some cycle.cycle.output.items))
    (sym cycle.ensures.edge) (
      least.0,
      least.1,
      first-output _ c.args.self.now.edges c.in-Some.edge _ _ _ _ _ c.edge_files.ensures _
          same _ cycle.ensures.output,
    )

pub returns-in-None : goal.returns-in-None
returns-in-None c = first-table _ _ c.self.invariant.edges_are
    (ap (λ (t : EdgeTable). t.«open») c.self.view_is ∙ c.requires) c.args.self.now c.self.view_is _ None
    c.in-None.is c.in_ok-edge.ensures
