use Rattle.std.proofs.Common.{map, ap, sym, ◌∙◌}
use Rattle.std.specs.List.{fold}
use Rattle.std.proofs.lemmas.Result.{on_ok_weaker}
use Rattle.nj_tools.specs.Inside.ObjectTexts.{and_string}
use Rattle.nj_tools.proofs.ObjectLemmas.{strings-made}
use Rattle.nj_tools.proofs.object_text.ObjectText.add_paths.Goals as goal

pub returns : goal.returns
returns c =
    let begun = c.begin_array.new.self in
    let filled = ap (λ fs. fold and_string c.files.self (map (λ file. file.path) fs))
    (sym c.in-None.ensures.steps.0)
    ∙ c.files.invariant in
    on_ok_weaker c.end_array.result
    (λ is. strings-made c.args.self.now begun c.files.self c.end_array.new.self c.args.name.now
    (map (λ file. file.path) c.args.files) c.in_ok-begin_array.ensures filled is) c.end_array.ensures
