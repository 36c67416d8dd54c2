use Rattle.std.proofs.Common.{◌≡◌, refl, [], ◌∷◌}
use Rattle.nj_deps.specs.LogRecords.{word}
use Rattle.nj_ask.proofs.deps_log.empty_log.Goals as goal

-- the version
version : word 4 ≡ 4 ∷ 0 ∷ 0 ∷ 0 ∷ []
unfolding word
version = refl

pub returns-in-Ok : goal.returns-in-Ok
returns-in-Ok c = rw version c.in-Ok.ensures.log
