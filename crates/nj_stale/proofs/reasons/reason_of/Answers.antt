use Rattle.std.proofs.Common.{◌<◌, false, length, ap, ◌∙◌, arith}
use Rattle.std.specs.Prelude.{slice_index_or}
use Rattle.std.specs.Option.{option_or}
use Rattle.std.proofs.lemmas.List.{get_or_default}
use Rattle.nj_stale.specs.declared.evidence.EdgeFacts.{EdgeFacts}
use Rattle.nj_stale.proofs.FoundLemmas.{reason_held}
use Rattle.nj_stale.proofs.reasons.reason_of.Goals as goal

pub returns : goal.returns
returns c = λ lent is.
    let facts = c.args.facts.now in
    let none : EdgeFacts = record { is_unknown = false; restat = false; generator = false; command_hash = 0 }
    in
    let own = slice_index_or facts c.args.edge.0 none in
    let within : c.args.edge.0 < length facts = omega (arith, c.requires.known.fact_count, c.requires.edge) in
    c.or-2.ensures ∙ ap (option_or c.by_discovery.result) c.or.ensures
    ∙ reason_held c.args.graph.now c.args.times.now c.requires.distinct c.requires.known.time_count facts
    c.args.log.now.lines c.args.reasons.now lent c.args.edge.0 own c.args.newest c.counted_inputs.result.now
    c.by_discovery.result c.first_stale-by_inputs.result c.by_files-by_files.result within
    (get_or_default facts c.args.edge.0 none own within) c.counted_inputs.ensures.files c.by_discovery.ensures
    c.first_stale-by_inputs.ensures c.by_files-by_files.ensures is
