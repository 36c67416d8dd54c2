-- What the contracts of this crate cite: each name comes from the module in its line.
pub use Rattle.nj_names.specs.ByteHash.{words_of, take_words, after_blocks, short_words, last_words, state_after, hash_bytes}
pub use Rattle.nj_names.specs.NameHash.{with_byte, folded_product, take_block, take_byte, write, finish}
pub use Rattle.std.specs.List.{IsDistinct, list_any}
pub use Rattle.nj_names.specs.NameTables.{with_name}
pub use Rattle.nj_names.specs.NumberSets.{has, with_number}
pub use Rattle.nj_names.specs.PlainHash.{write_plain}
pub use Rattle.indexmap.specs.IndexMap.{IsUnchanged, Updates}
pub use Rattle.nj_names.specs.Inside.NamesHeld.{CanBeFound, EndsRise, IsFound, held_names, newest_in, start_in}
