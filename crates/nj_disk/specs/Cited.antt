-- What the contracts of this crate cite: each name comes from the module in its line.
pub use Rattle.std.specs.Io.KnownBytes.{Consumes, IsAtEnd}
