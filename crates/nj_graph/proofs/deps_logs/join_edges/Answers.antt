use Rattle.std.proofs.Common.{◌∙◌, ◌+◌, None, ap, arith, get_or, length, option_map}
use Rattle.std.proofs.lemmas.Option.{slice_get-get_or, slice_get-map}
use Rattle.nj_edges.specs.MoreInputs.{InputTable, at_next_edge}
use Rattle.nj_graph.specs.DepsLogs.{inputs_logged}
use Rattle.nj_graph.specs.Inside.LogSteps.{inputs_by_numbers, numbers_if_any}
use Rattle.nj_graph.proofs.InputLemmas.{after-edge, after-stated, one-more}
use Rattle.nj_graph.proofs.deps_logs.join_edges.Goals as goal

pub end_edge-requires : goal.end_edge-requires
end_edge-requires c =
    let paths = inputs_logged c.args.log.now
    (option_map (λ n. n.0) (get_or c.args.numbers.now c.numbers.number-index None)) in
    let same = after-edge paths c.numbers.joining c.add_logged.new.joining c.in_ok-add_logged.ensures in
    let stated = after-stated paths c.numbers.joining c.add_logged.new.joining c.in_ok-add_logged.ensures in
    omega (
      arith,
      same,
      stated,
      c.numbers.invariant.edge,
      c.numbers.invariant.stated,
      c.requires.count,
      c.numbers-test.true,
    )

pub numbers-preserved : goal.numbers-preserved
numbers-preserved c =
    let log = c.args.log.now in
    let numbers = numbers_if_any c.args.numbers.now in
    let i = c.numbers.number-index in
    let number = get_or c.args.numbers.now i None in
    let paths = inputs_logged log (option_map (λ n. n.0) number) in
    let here = slice_get-map (inputs_logged log) numbers i
    ∙ ap (option_map (inputs_logged log)) (slice_get-map (option_map (λ n. n.0)) c.args.numbers.now i
    ∙ ap (option_map (option_map (λ n. n.0)))
    (slice_get-get_or c.args.numbers.now i None c.numbers-test.true)) in
    record {
      joins = one-more (inputs_by_numbers log numbers) i paths c.numbers.joining c.end_edge.new.self here
          (c.end_edge.ensures ∙ ap at_next_edge c.in_ok-add_logged.ensures) ∙ c.numbers.invariant.joins;
      edge = ap (λ (t : InputTable). t.edge) c.end_edge.ensures
          ∙ ap (λ n. n + 1) (after-edge paths c.numbers.joining c.add_logged.new.joining
          c.in_ok-add_logged.ensures ∙ c.numbers.invariant.edge);
      stated = ap (λ (t : InputTable). length t.table.stated) c.end_edge.ensures
          ∙ after-stated paths c.numbers.joining c.add_logged.new.joining c.in_ok-add_logged.ensures
          ∙ c.numbers.invariant.stated;
    }
