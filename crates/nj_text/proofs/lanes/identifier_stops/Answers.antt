use Rattle.std.proofs.Common.{ℕ, cond, leb, not, bit_and, refl, arith}
use Rattle.std.proofs.lemmas.Simd.{zip2_splat}
use Rattle.nj_text.specs.declared.runs.Run.TheVariants as run
use Rattle.nj_text.specs.Inside.Runs.{in_run}
use Rattle.nj_text.proofs.LaneRuns.{joined, splat_is, masked}
use Rattle.nj_text.proofs.lanes.identifier_stops.Goals as goal

pub returns : goal.returns
returns c =
    let v = c.args.lanes in
    let long = c.fits-lanes.0 in
    masked _ (λ b. not (in_run run.Identifier b)) v _ (omega arith) c.fits-lanes.1
    (joined bit_and _ _ v (joined bit_and _ _ v
    (joined bit_and _ _ v (joined bit_and _ _ v
    (joined (λ a b. cond (leb a b) 255 0) _ _ v (splat_is v 16 26 long)
    (joined _ _ _ v (zip2_splat {Y = ℕ} _ v 16 32 long) (splat_is v 16 97 long)))
    (joined (λ a b. cond (leb a b) 255 0) _ _ v (splat_is v 16 10 long)
    (zip2_splat {Y = ℕ} _ v 16 48 long))) (zip2_splat {Y = ℕ} _ v 16 95 long))
    (zip2_splat {Y = ℕ} _ v 16 45 long)) (zip2_splat {Y = ℕ} _ v 16 46 long)) refl
