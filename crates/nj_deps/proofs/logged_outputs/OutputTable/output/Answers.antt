use Rattle.std.proofs.Common.{◌≡◌, ◌<◌, arith, length, ◌∙◌, ℕ, List, Some, ap, option_map, slice_get}
use Rattle.std.proofs.Common.{slice_range, subst, sym}
use Rattle.std.proofs.lemmas.Option.{slice_get-get_or, slice_get-map}
use Rattle.std.proofs.lemmas.List.{length-map}
use Rattle.nj_deps.specs.declared.path_no.PathNo.{PathNo}
use Rattle.std.specs.List.{AllByRecursion}
use Rattle.nj_deps.specs.Logs.{IsOfPaths, numbers_of}
use Rattle.nj_deps.specs.Inside.OutputsHeld.{OutputsModel, logged}
use Rattle.nj_deps.proofs.NumberLemmas.{numbers-part}
use Rattle.nj_deps.proofs.logged_outputs.OutputTable.output.Goals as goal

pub returns-clause-known : goal.returns-clause-known
returns-clause-known c = subst (λ (t : OutputsModel). AllByRecursion (IsOfPaths t.count) t.outputs)
    c.self.view_is c.self.invariant.of_paths

pub returns-clause-output : goal.returns-clause-output
returns-clause-output c =
    let own = c.self.inside in
    let held = c.index-held.result.now in
    let within = subst (λ (t : OutputsModel). c.args.index < length t.outputs) (sym c.self.view_is) c.requires
    in
    let below : c.args.index < length own.outputs.items =
    omega (arith, within, length-map own.outputs.items (logged (numbers_of own.inputs.items))) in
    let parts : record {
      output = held.output;
      time = held.time;
      inputs = numbers_of (slice_range c.as_slice.result.now held.start held.end);
    }
    ≡ logged (numbers_of own.inputs.items) held =
    ap (λ (ns : List ℕ). record { output = held.output; time = held.time; inputs = ns })
    (numbers-part c.as_slice.result.now held.start held.end
    ∙ ap (λ (ns : List PathNo). slice_range (numbers_of ns) held.start held.end) c.as_slice.ensures.value) in
    ap (λ (t : OutputsModel). slice_get t.outputs c.args.index) (sym c.self.view_is)
    ∙ slice_get-map (logged (numbers_of own.inputs.items)) own.outputs.items c.args.index
    ∙ ap (option_map (logged (numbers_of own.inputs.items)))
    (slice_get-get_or own.outputs.items c.args.index held below ∙ ap Some (sym c.index-held.ensures))
    ∙ ap Some (sym parts)
