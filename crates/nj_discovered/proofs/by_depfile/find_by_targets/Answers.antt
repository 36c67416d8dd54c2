use Rattle.std.proofs.Common.{◌≡◌, ◌∙◌, None, Some, [], ap, sym}
use Rattle.std.specs.Prelude.{map}
use Rattle.nj_edges.specs.Edges.{edge_at}
use Rattle.nj_text.specs.Paths.{clean_path_of}
use Rattle.nj_discovered.specs.Discovered.{by_targets, is_first_output}
use Rattle.nj_discovered.specs.declared.verdict.DepfileError.TheVariants.{NoSuchOutput, NoTarget}
use Rattle.nj_discovered.specs.declared.verdict.Unknown.TheVariants.{OtherTarget}
use Rattle.nj_discovered.specs.declared.verdict.Verdict.TheVariants.{Faulty, Unknown}
use Rattle.nj_discovered.proofs.FinderLemmas.{finds-none, no-target, other-target, with-stranger}
use Rattle.nj_discovered.proofs.by_depfile.find_by_targets.Goals as goal

pub returns-then-target_count-eq0 : goal.returns-then-target_count-eq0
returns-then-target_count-eq0 c =
    let edge = edge_at c.args.graph.now.edges c.args.edge.0 in
    let named = c.args.named.now in
    finds-none (λ found. found ≡ by_targets edge named.targets named.inputs) c.args.names.now
    c.args.numbers.now.items (Faulty NoTarget)
    (sym (no-target edge named.targets named.inputs
    (sym c.target_count.ensures ∙ c.if-target_count-eq0.true)))

pub returns-then-not-is_first_output : goal.returns-then-not-is_first_output
returns-then-not-is_first_output c =
    let edge = edge_at c.args.graph.now.edges c.args.edge.0 in
    let named = c.args.named.now in
    finds-none (λ found. found ≡ by_targets edge named.targets named.inputs) c.args.names.now
    c.args.numbers.now.items (Unknown OtherTarget)
    (sym (other-target edge named.targets named.inputs c.target.result.now c.target.ensures
    (ap (is_first_output edge) (sym c.in_ok-first.ensures) ∙ sym c.is_first_output.ensures
    ∙ c.if-not-is_first_output.true)))

pub returns-in-Some : goal.returns-in-Some
returns-in-Some c =
    let edge = edge_at c.args.graph.now.edges c.args.edge.0 in
    let named = c.args.named.now in
    finds-none (λ found. found ≡ by_targets edge named.targets named.inputs) c.args.names.now
    c.args.numbers.now.items (Faulty (NoSuchOutput c.in_ok-name.name))
    (ap (λ name. record { verdict = Faulty (NoSuchOutput name); inputs = [] }) c.in_ok-name.ensures
    ∙ sym (with-stranger edge named.targets named.inputs c.target.result.now c.target.ensures
    (Some c.in-Some.target.now)
    (ap (is_first_output edge) (sym c.in_ok-first.ensures) ∙ sym c.is_first_output.ensures
    ∙ c.if-not-is_first_output.false) (sym c.in-Some.ensures)))

pub returns : goal.returns
returns c =
    let edge = edge_at c.args.graph.now.edges c.args.edge.0 in
    let named = c.args.named.now in
    record {
      inputs = map clean_path_of named.inputs;
      is_found = sym (with-stranger edge named.targets named.inputs c.target.result.now c.target.ensures None
          (ap (is_first_output edge) (sym c.in_ok-first.ensures) ∙ sym c.is_first_output.ensures
          ∙ c.if-not-is_first_output.false) (sym c.in_default.ensures));
      appends = c.in_ok-add_inputs.ensures;
    }
