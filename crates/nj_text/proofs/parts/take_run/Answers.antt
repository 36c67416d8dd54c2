use Rattle.std.proofs.Common.{[], ◌∷◌, ◌++◌, map, length, sym, ap, ◌∙◌, append_assoc, arith, length-append}
use Rattle.std.proofs.lemmas.List.{map-append}
use Rattle.nj_text.specs.Words.{part_model, Text}
use Rattle.nj_text.specs.Inside.Gathering.{gathered, units_at}
use Rattle.nj_text.proofs.Gathered.{run_read, run_over}
use Rattle.nj_text.proofs.parts.take_run.Goals as goal

pub returns : goal.returns
returns c =
    let run = c.run-2 in
    let bytes = run.result.0.now in
    let after = run.result.1 in
    let old = map part_model c.args.parts.now.items in
    let read =
    run_read c.args.kind c.run.result c.args.cursor.spot after.spot c.args.cursor.rest.now bytes
    after.rest.now c.run.ensures run.ensures.run run.ensures.after run.ensures.whole run.ensures.spot
    (sym c.is_empty.ensures ∙ c.if-is_empty.false) in (
      ap (λ is. map part_model is ++ gathered c.args.kind (units_at after)) c.in_ok-append.ensures.items
          ∙ ap (λ ps. ps ++ gathered c.args.kind (units_at after))
          (map-append part_model c.args.parts.now.items _)
          ∙ append_assoc old (Text bytes ∷ []) (gathered c.args.kind (units_at after))
          ∙ ap (λ ps. old ++ ps) (sym read.0),
      sym read.1,
      run_over c.args.kind c.run.result c.args.cursor.rest.now after.rest.now c.run.ensures run.ensures.after,
      omega (arith, ap length run.ensures.whole, length-append bytes after.rest.now),
    )
