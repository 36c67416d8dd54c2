use Rattle.std.proofs.Common.{◌<◌, ◌∙◌, ◌++◌, ap, bytes_eq, get_or, length, map, subst, sym, take}
use Rattle.nj_text.specs.Paths.{clean_path_of}
use Rattle.nj_names.specs.NameTables.{name_at}
use Rattle.nj_names.specs.NumberSets.{NumberSetModel}
use Rattle.nj_deps.specs.Logs.{numbers_of}
use Rattle.nj_edges.specs.Repeats.{each_once}
use Rattle.nj_graph.specs.Undeclared.{AreThose, IsUndeclared, input_of_edge, inputs_of_edge}
use Rattle.nj_graph.specs.Inside.UndeclaredFound.{FindsAt}
use Rattle.nj_graph.proofs.FoundLemmas.{cleans-all, cleans-more, finds-none}
use Rattle.nj_graph.proofs.found_inputs.FoundInputs.add_edge.Goals as goal

pub numbers-init : goal.numbers-init
numbers-init c = record {
  found = record {
    limit = ap (λ (s : NumberSetModel). s.limit) c.clear.ensures ∙ c.requires.found.limit;
    search = c.requires.found.search;
    known = c.requires.found.known;
  };
  added = λ paths before made those. finds-none c.args.graph.now c.args.edge.0 before _
      (ap (λ (s : NumberSetModel). s.numbers) c.clear.ensures) those;
}

pub numbers-preserved : goal.numbers-preserved
numbers-preserved c =
    let g = c.args.graph.now in
    let made = c.args.made.now in
    let numbers = c.args.numbers.now in
    let i = c.numbers.number-index in
    let n = (get_or numbers i (record { 0 = 0 })).0 in
    let below : n < length made = c.requires.numbers i (record { 0 = 0 }) c.numbers-test.true in
    record {
      found = c.in_ok-add_input.ensures.found;
      added = λ paths before are those.
          let so_far = map clean_path_of (map (name_at paths) (numbers_of (take i numbers))) in
          subst (λ ps. FindsAt g c.args.edge.0 before ps c.add_input.new.self)
          (sym (cleans-more paths numbers i (record { 0 = 0 }) c.numbers-test.true))
          (c.in_ok-add_input.ensures.added before so_far (clean_path_of (name_at paths n)) (are n below)
          (c.numbers.invariant.added paths before are those));
    }

pub returns-clause-added : goal.returns-clause-added
returns-clause-added c = λ paths before are those.
    let g = c.args.graph.now in
    subst (λ ps. AreThose (IsUndeclared g.edges)
    (before ++ inputs_of_edge c.args.edge.0 (each_once bytes_eq ps))
    (map (input_of_edge g.files) c.numbers.self.inputs.items))
    (cleans-all paths c.args.numbers.now c.numbers.number-index c.numbers-test.false)
    (c.numbers.invariant.added paths before are those).those
