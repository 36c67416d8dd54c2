use Rattle.std.proofs.Common.{refl, sym}
use Rattle.nj_edges.specs.Edges.{edge_at}
use Rattle.nj_depfiles.specs.declared.depfile_fault.DepfileFault.TheVariants.{InputHasInputs, NoColon}
use Rattle.nj_discovered.proofs.FinderLemmas.{faulty-finds}
use Rattle.nj_discovered.proofs.by_depfile.find_by_text.Goals as goal

pub returns-in-Err-NoColon : goal.returns-in-Err-NoColon
returns-in-Err-NoColon c =
    faulty-finds (edge_at c.args.graph.now.edges c.args.edge.0) c.args.text.now NoColon c.args.names.now
    c.args.numbers.now.items c.faulty.result c.in-Err-NoColon.field-0 c.in-Err-NoColon.field-0-is
    c.faulty.ensures
    (sym c.if-is_empty.ensures) refl c.in-Err-NoColon.ensures.fault

pub returns-in-Err-InputHasInputs : goal.returns-in-Err-InputHasInputs
returns-in-Err-InputHasInputs c =
    faulty-finds (edge_at c.args.graph.now.edges c.args.edge.0) c.args.text.now InputHasInputs
    c.args.names.now c.args.numbers.now.items c.faulty-in-Err-InputHasInputs.result
    c.in-Err-InputHasInputs.field-0 c.in-Err-InputHasInputs.field-0-is c.faulty-in-Err-InputHasInputs.ensures
    (sym c.if-is_empty.ensures) refl c.in-Err-InputHasInputs.ensures.fault
