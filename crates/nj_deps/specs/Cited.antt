-- What the contracts of this crate cite: each name comes from the module in its line.
pub use Rattle.nj_deps.specs.Laws.{BytesSayOneThing, EachOutputOnce, GoodLogsAreRead, LastRecordCounts}
pub use Rattle.nj_deps.specs.Logs.{numbers_of, IsLogOf, IsLogFault, opening, output_of, output_model, IsOfPaths}
pub use Rattle.nj_deps.specs.LogRecords.{word, MayBeNamed, is_never_named, path_in, without_zero}
pub use Rattle.nj_deps.specs.Inside.RecordsRead.{AppendsNumbers, BeginsWith, Adds, AddsAs, AddsPath, TakesRecord, TakesNone, IsTimed}
pub use Rattle.nj_deps.specs.Inside.RecordsRead.{IsFramed, IsUnframed}
pub use Rattle.std.specs.List.{IsDistinct, AllByRecursion, list_any}
pub use Rattle.nj_deps.specs.declared.log_fault.DepsLogFault.TheVariants.{OutOfMemory}
pub use Rattle.nj_deps.specs.Faults.{fault_text}
pub use Rattle.nj_deps.specs.Inside.OutputsHeld.{Keeps, ArePlaces, with_held}
pub use Rattle.std.specs.Iterator.{YieldsFirstRef, item_count}
