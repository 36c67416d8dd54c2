-- Small examples, worked out on the definitions.
use Rattle.std.proofs.Common.{◌≡◌, true, false, refl}
use Rattle.std.specs.Prelude.{codes}
use Rattle.nj_text.specs.Words.{Text, Name}
use Rattle.std.specs.Prelude.{[], ◌∷◌}
use Rattle.nj_scope.specs.Late.{parts_written}
use Rattle.nj_scope.specs.Limits.{is_depth}

greatest : is_depth (codes "2147483647") ≡ true
greatest = refl

too_great : is_depth (codes "2147483648") ≡ false
too_great = refl

passed_over : is_depth (codes "2x") ≡ true
passed_over = refl

sign : is_depth (codes "-1") ≡ false
sign = refl

description : parts_written (Text (codes "CC ") ∷ Name (codes "out") ∷ Text (codes " done") ∷ [])
    ≡ codes "CC ${out} done"
description = refl
