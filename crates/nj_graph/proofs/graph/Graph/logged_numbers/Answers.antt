use Rattle.std.proofs.Common.{◌∙◌, ◌+◌, ◌∷◌, [], ap, length, length-append, subst, sym}
use Rattle.nj_graph.specs.Inside.LogSteps.{AreNumbersLogged, numbers_if_any}
use Rattle.nj_graph.proofs.LogLemmas.{numbers-push}
use Rattle.nj_graph.proofs.graph.Graph.logged_numbers.Goals as goal

pub edges-preserved : goal.edges-preserved
edges-preserved c =
    let numbers = c.edges.numbers.items in
    let number = c.in_ok-number.number in
    record {
      count = ap length c.in_ok-push.ensures.items ∙ length-append numbers (number ∷ [])
          ∙ ap (λ n. n + 1) c.edges.invariant.count;
      numbers = λ entries is.
          subst (λ ns. AreNumbersLogged c.args.log.now entries (numbers_if_any ns))
          (sym c.in_ok-push.ensures.items)
          (numbers-push c.args.log.now entries numbers number c.edges.edge
          (c.edges.invariant.numbers entries is) c.edges.invariant.count
          (c.in_ok-number.ensures entries is));
    }
