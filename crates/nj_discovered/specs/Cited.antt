-- What the contracts of this crate cite: each name comes from the module in its line.
pub use Rattle.nj_text.specs.Paths.{clean_path_of}
pub use Rattle.nj_names.specs.NameTables.{is_among}
pub use Rattle.nj_edges.specs.Edges.{edge_at, outputs_of, first_output}
pub use Rattle.nj_discovered.specs.Discovered.{by_targets, by_text, IsByText, IsLater, doubt_of, is_newer, record_of, IsByLog}
pub use Rattle.nj_discovered.specs.Discovered.{is_first_output}
pub use Rattle.nj_discovered.specs.Discovered.TextFound.{Text}
pub use Rattle.nj_discovered.specs.declared.verdict.Verdict.TheVariants.{Faulty}
pub use Rattle.nj_discovered.specs.Inside.Finding.{Finds}
pub use Rattle.nj_discovered.specs.Inside.Numbers.{Appends, AreBelow, AreCleanNumbers}
pub use Rattle.nj_deps.specs.Logs.{IsOfPaths, numbers_of, output_model}
pub use Rattle.nj_discovered.specs.Discoveries.{found_at, AddsEdge}
pub use Rattle.std.specs.List.{AllByRecursion}
pub use Rattle.nj_depfiles.specs.Faults.{fault_text}
pub use Rattle.nj_discovered.specs.Faults.{error_text, stranger_text}
