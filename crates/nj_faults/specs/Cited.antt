-- What the contracts of this crate cite: each name comes from the module in its line.
pub use Rattle.std.specs.Option.{option_map}
pub use Rattle.std.specs.Str.Lossy.{utf8_lossy}
pub use Rattle.nj_faults.specs.FaultLines.{bare_line, cause_text, fault_line, fault_line_for, line_after, opening_text, shown_line}
pub use Rattle.nj_faults.specs.FaultLines.{shown_place}
pub use Rattle.nj_faults.specs.Versions.{is_newer}
