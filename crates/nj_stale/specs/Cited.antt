-- What the contracts of this crate cite: each name comes from the module in its line.
pub use Rattle.nj_names.specs.Files.{AreFiles, path_at}
pub use Rattle.nj_edges.specs.Edges.{counted_inputs_of, edge_at, inputs_of}
pub use Rattle.nj_stale.specs.States.{first_reason, first_with, newest, is_before, by_log, by_output, State, IsStateOf, newest_place}
pub use Rattle.nj_stale.specs.States.{by_discovery, by_files, by_outputs, by_phony_outputs, newest_input, reason_of}
pub use Rattle.nj_stale.specs.Inside.Held.{input_held, is_stale_held, missing_held, output_held, time_held, lent_by, IsFound, IsNext}
pub use Rattle.nj_stale.specs.Inside.Held.{state_held}
pub use Rattle.nj_stale.specs.Laws.{SomeStateFits, OneStateFits, StaleEdgesHaveReasons}
pub use Rattle.nj_stale.specs.Touches.{TouchesMakeDirtyEdgesStale}
pub use Rattle.nj_stale.specs.Needed.{OtherTimesSayNothing}
pub use Rattle.nj_stale.specs.Inside.MissingHeld.{AreFlags, IsFirstInput, has_both, lost_held, stop_path}
pub use Rattle.nj_stale.specs.Missing.{AreStated, IsFirstMissing}
pub use Rattle.nj_stale.specs.declared.evidence.EdgeFacts.{EdgeFacts}
pub use Rattle.nj_stale.specs.Work.{HasReasons, AreWorkFlags, is_idle}
pub use Rattle.std.specs.List.{IsDistinct}
pub use Rattle.nj_build_log.specs.Logs.{LineModel}
pub use Rattle.nj_stale.specs.Numbered.{evidence_of, IsOrderOfAll, AreFound, AreLentBy, AreReasonsOf, IsKnown, IsMakersFirst}
pub use Rattle.nj_cycles.specs.Cycles.{AreAfterNeeds, IsAcyclic}
pub use Rattle.nj_edges.specs.Needs.{makers_of_inputs}
pub use Rattle.nj_stale.specs.Inside.WorkHeld.{has_flag, has_flagged_maker, work_held, works_held}
