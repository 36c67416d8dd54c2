-- The bytes of a value in which each reference is empty.
use Rattle.std.proofs.lemmas.Grind.{common_steps}
use Rattle.std.proofs.Common.{arith, ◌≡◌, ℕ, ◌+◌, ◌<◌, List, [], ◌∷◌, ◌++◌, length, take, get_or, map}
use Rattle.nj_text.specs.declared.word.Part.{Part}
use Rattle.nj_text.specs.Words.{PartModel, part_model}
use Rattle.nj_manifest.specs.Expansion.{part_expanded, expanded, no_values}

bytes-last : (ps : List PartModel) (p : PartModel)
    → expanded no_values (ps ++ p ∷ []) ≡ expanded no_values ps ++ part_expanded no_values p
bytes-last ps p = grind (arith, common_steps)

pub bytes-turn : (ps : List Part) (i : ℕ) (p : Part) (before after : List ℕ) → i < length ps
    → p ≡ get_or ps i p → before ≡ expanded no_values (map part_model (take i ps))
    → after ≡ before ++ part_expanded no_values (part_model p)
    → after ≡ expanded no_values (map part_model (take (i + 1) ps))
bytes-turn ps i p before after h is b a = grind (arith, common_steps)

pub bytes-none : (ps : List Part) (i : ℕ) (p : Part) (before : List ℕ) → i < length ps → p ≡ get_or ps i p
    → before ≡ expanded no_values (map part_model (take i ps)) → part_expanded no_values (part_model p) ≡ []
    → before ≡ expanded no_values (map part_model (take (i + 1) ps))
bytes-none ps i p before h is b n = grind (arith, common_steps)
