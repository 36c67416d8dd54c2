-- Byte strings without names, as they are displayed.
use Rattle.std.proofs.Common.{arith, ◌≡◌, ℕ, List, [], ◌++◌, refl, append-nil}
use Rattle.std.proofs.lemmas.Str.{utf8_lossy_empty}
use Rattle.std.specs.Str.Lossy.{utf8_lossy}

pub lossy_nil : utf8_lossy [] ≡ []
lossy_nil = utf8_lossy_empty [] refl

pub shown_fixed : (text : List ℕ) → text ++ utf8_lossy [] ++ [] ++ utf8_lossy [] ++ [] ≡ text
shown_fixed text = grind (arith, lossy_nil, append-nil)

pub shown_pair : (before after : List ℕ)
    → before ++ utf8_lossy [] ++ after ++ utf8_lossy [] ++ [] ≡ before ++ after
shown_pair before after = grind (arith, lossy_nil, append-nil)
