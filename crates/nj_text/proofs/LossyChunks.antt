-- The text of bytes, chunk by chunk.
use Rattle.std.proofs.Common.{◌≡◌, ℕ, List, ◌++◌, length, drop, arith, append_assoc}
use Rattle.std.proofs.lemmas.Str.{utf8_lossy_chunk, utf8_lossy_last_chunk}
use Rattle.std.specs.Str.Lossy.{utf8_lossy, utf8_valid_len, utf8_invalid_len}
use Rattle.nj_text.specs.Inside.Chunks.{replaced}

-- a chunk off the front, by whether it ends with bytes that are not text
pub lossy-chunk : (bs valid invalid rest : List ℕ) → bs ≡ valid ++ (invalid ++ rest)
    → length valid ≡ utf8_valid_len bs
    → length invalid ≡ utf8_invalid_len (drop (utf8_valid_len bs) bs) → (length invalid ≡ 0 → length rest ≡ 0)
    → utf8_lossy bs ≡ (valid ++ replaced invalid) ++ utf8_lossy rest
lossy-chunk bs valid invalid rest parts valid_len invalid_len last = grind (
  arith,
  utf8_lossy_last_chunk,
  append_assoc,
  utf8_lossy_chunk,
)
