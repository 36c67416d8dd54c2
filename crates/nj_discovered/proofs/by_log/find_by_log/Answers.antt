use Rattle.std.proofs.Common.{◌∙◌, ap, refl, sym}
use Rattle.std.specs.Prelude.{map, option_and_then}
use Rattle.nj_text.specs.Paths.{clean_path_of}
use Rattle.nj_names.specs.NameTables.{name_at}
use Rattle.nj_edges.specs.Edges.{edge_at}
use Rattle.nj_deps.specs.Logs.{output_model}
use Rattle.nj_discovered.specs.Discovered.{IsByLog, record_of, unless_doubted}
use Rattle.nj_discovered.specs.Discovered.IsByLog.{no_record, recorded}
use Rattle.nj_discovered.specs.declared.verdict.Unknown.TheVariants as why
use Rattle.nj_discovered.specs.declared.verdict.Verdict.TheVariants as verdict
use Rattle.nj_discovered.proofs.FinderLemmas.{appends-logged, finds-none}
use Rattle.nj_discovered.proofs.by_log.find_by_log.Goals as goal

pub returns-in_default-record_of : goal.returns-in_default-record_of
returns-in_default-record_of g c = λ names are.
    let log = c.args.log.now in
    let edge = edge_at c.args.graph.now.edges c.args.edge.0 in
    finds-none (IsByLog (g.T.FileTimes.times c.args.times.now) log edge) names c.args.numbers.now.items
    (verdict.Unknown why.NoRecord)
    (no_record (ap (option_and_then (record_of log)) (sym c.in-Some.ensures)
    ∙ sym c.in_default-record_of.ensures.record) refl)

pub returns-in-Some-doubt_of : goal.returns-in-Some-doubt_of
returns-in-Some-doubt_of g c = λ names are.
    let log = c.args.log.now in
    let edge = edge_at c.args.graph.now.edges c.args.edge.0 in
    finds-none (IsByLog (g.T.FileTimes.times c.args.times.now) log edge) names c.args.numbers.now.items
    (verdict.Unknown c.in-Some-doubt_of.why)
    (recorded c.in-Some.output.now (output_model c.in-Some-record_of.record) c.in_ok-time_of.field-0
    (sym c.in-Some.ensures) (sym c.in-Some-record_of.ensures.record) c.in_ok-time_of.ensures
    (ap (λ doubt. unless_doubted doubt (map (name_at log.paths)
    (output_model c.in-Some-record_of.record).inputs)) c.in-Some-doubt_of.ensures))

pub returns : goal.returns
returns g c = λ names are.
    let log = c.args.log.now in
    let edge = edge_at c.args.graph.now.edges c.args.edge.0 in
    let o = output_model c.in-Some-record_of.record in
    record {
      inputs = map clean_path_of (map (name_at log.paths) o.inputs);
      is_found = recorded c.in-Some.output.now o c.in_ok-time_of.field-0 (sym c.in-Some.ensures)
          (sym c.in-Some-record_of.ensures.record) c.in_ok-time_of.ensures
          (ap (λ doubt. unless_doubted doubt (map (name_at log.paths) o.inputs))
          c.in_default-doubt_of.ensures);
      appends = appends-logged names log.paths c.args.log_numbers.now o.inputs c.args.numbers.now.items
          c.push_logged.new.numbers.items are c.in-Some-record_of.ensures.known.inputs
          c.in_ok-push_logged.ensures;
    }
