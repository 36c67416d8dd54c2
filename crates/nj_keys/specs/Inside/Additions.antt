-- The digest of additions, which is computed once.
use Rattle.std.specs.Prelude.{ℕ, Option, Some, None, List, [], ◌∷◌, ◌++◌}
use Rattle.sha2.specs.Sha256.{sha256}
use Rattle.nj_keys.specs.Keys.{additions_text}

-- the digest of the text of additions; None without additions
abbrev pub digest_of_additions : (additions : List (List ℕ)) → Option (List ℕ)
digest_of_additions [] = None
digest_of_additions (text ∷ additions) = Some (sha256 (additions_text (text ∷ additions)))

-- a key after additions with the given digest
abbrev pub key_after : (digest : Option (List ℕ)) → (key : List ℕ) → List ℕ
key_after None key = key
key_after (Some digest) key = sha256 (58 ∷ digest ++ key)
