use Rattle.std.proofs.Common.{◌≡◌, ◌≢◌, ◌+◌, ◌-◌, length, refl, sym, ap, ◌∙◌, arith, get_or-set_other}
use Rattle.std.proofs.lemmas.List.{length-set}
use Rattle.std.specs.Prelude.{slice_index_or}
use Rattle.nj_globs.specs.Inside.Fits.{no_fit, part_model, fit_with}
use Rattle.nj_globs.proofs.FitLemmas.{front-more, front-last}
use Rattle.nj_globs.proofs.fits.put_in_front.Goals as goal

pub parts-init : goal.parts-init
parts-init c =
    let count = length c.args.parts.now in
    record {
      untouched = λ place below. (let apart : place ≢ count = omega arith in
          get_or-set_other c.args.fits.now count place _ no_fit apart);
      old_next = refl;
      done = λ path are. front-last c.args.parts.now c.args.fits.now c.args.byte path
          c.after_slash_with.result
          c.requires are c.after_slash_with.ensures;
    }

pub parts-preserved : goal.parts-preserved
parts-preserved c =
    let index = c.parts.index in
    let part = c.index-parts-index.result in
    let one : index ≡ index - 1 + 1 = omega arith in
    let fits = c.parts.fits in
    let value = c.fit_with.ensures
    ∙ ap (λ n. fit_with (part_model part) c.args.byte (slice_index_or fits (index - 1) no_fit)
    c.parts.old_next
    (slice_index_or fits n no_fit)) (sym one) in
    let positive = c.parts-test.true in
    record {
      untouched = λ place below. (let apart : place ≢ index - 1 = omega arith in
          get_or-set_other c.parts.fits (index - 1) place c.fit_with.result no_fit apart
          ∙ c.parts.invariant.untouched place (omega arith));
      old_next = c.parts.invariant.untouched (index - 1) (omega arith);
      done = λ path are. front-more c.args.parts.now c.args.fits.now c.parts.fits (index - 1) index part
          c.fit_with.result c.parts.old_next c.args.byte path one (omega arith)
          (c.parts.auto.fits ∙ length-set _ _ _ ∙ c.requires) c.index-parts-index.is are
          (c.parts.invariant.untouched (index - 1) (omega arith)) c.parts.invariant.old_next
          (c.parts.invariant.done path are) value;
    }

pub returns : goal.returns
returns c path are place from to = c.parts.invariant.done path are place (omega arith) to
