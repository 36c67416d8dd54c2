use Rattle.std.proofs.Common.{◌≡◌, ◌-◌, List, drop, sym, ap, subst, ◌∙◌, arith}
use Rattle.nj_globs.specs.Globs.{GlobPart}
use Rattle.nj_globs.specs.Inside.Fits.{AreFits, parts_model}
use Rattle.nj_globs.proofs.FitLemmas.{byte-more}
use Rattle.nj_globs.proofs.glob.Glob.matches.Goals as goal

pub bytes-preserved : goal.bytes-preserved
bytes-preserved c =
    let index = c.bytes.index in
    let path = c.args.path.now in
    let new = c.put_in_front.new.fits in
    let positive = c.bytes-test.true in
    let parts : parts_model c.deref-in-bytes.result.now ≡ c.args.self.now =
    ap parts_model c.deref-in-bytes.ensures.value ∙ c.self.view_is in
    let was = subst (λ (ps : List GlobPart). AreFits ps (drop index path) c.bytes.fits) (sym parts)
    c.bytes.invariant in
    subst (λ (ps : List GlobPart). AreFits ps (drop (index - 1) path) new) parts
    (subst (λ p. AreFits (parts_model c.deref-in-bytes.result.now) p new)
    (sym (byte-more path index positive (omega arith)))
    (c.put_in_front.ensures (drop index path) was))
