use Rattle.std.proofs.Common.{◌∙◌, ◌+◌, ◌++◌, ◌∷◌, [], ap, append_assoc, length, subst, sym}
use Rattle.std.proofs.lemmas.List.{length_push}
use Rattle.std.proofs.lemmas.List.Elements.{All-push}
use Rattle.std.specs.Prelude.{All}
use Rattle.nj_names.specs.NameTables.{name_at}
use Rattle.nj_text.specs.Paths.{clean_path_of}
use Rattle.nj_graph.specs.Inside.UndeclaredFound.{AreMade, IsKnownIfAny, MadeIs}
use Rattle.nj_graph.proofs.MadeLemmas.{made-push, named-next}
use Rattle.nj_graph.proofs.made_files.made_files.Goals as goal

pub paths-preserved : goal.paths-preserved
paths-preserved c =
    let g = c.args.graph.now in
    let paths = c.args.log.now.paths in
    let made = c.paths.made.items in
    let next = c.made_file.result in
    let path = c.in-Some.path.now in
    let so_far = c.paths.invariant in
    let all = ap (λ left. so_far.taken ++ left) (sym c.in-Some.ensures.steps) ∙ so_far.paths in
    let named = sym (named-next so_far.taken c.next.new.self path)
    ∙ ap (λ ps. name_at ps (length so_far.taken)) all in
    record {
      taken = so_far.taken ++ path ∷ [];
      paths = append_assoc so_far.taken (path ∷ []) c.next.new.self ∙ all;
      count = ap length c.in_ok-push.ensures.items ∙ length_push made next
          ∙ ap (λ n. n + 1) so_far.count ∙ sym (length_push so_far.taken path);
      made = subst (AreMade g paths) (sym c.in_ok-push.ensures.items)
          (made-push g paths made next (length so_far.taken) so_far.made so_far.count
          (subst (λ p. MadeIs g p next) (c.in_ok-clean_path.ensures ∙ ap clean_path_of named)
          c.made_file.ensures.made));
      known = subst (All (IsKnownIfAny g)) (sym c.in_ok-push.ensures.items)
          (All-push (IsKnownIfAny g) made next so_far.known c.made_file.ensures.known);
    }
