-- What the contracts of this crate cite: each name comes from the module in its line.
pub use Rattle.nj_state.specs.Stale.{AreStaleBy, AreStaleEdges, stale_edge}
pub use Rattle.nj_stale.specs.declared.evidence.EdgeFacts.{EdgeFacts}
pub use Rattle.nj_state.specs.FileTimesFound.{FaultsAt, HasTime, HaveTimes, IsFirstUnanswered}
pub use Rattle.nj_state.specs.Judged.{HasCounts, IsJudged}
pub use Rattle.nj_stale.specs.States.{IsStateOf, State}
pub use Rattle.nj_build_log.specs.Logs.{LineModel}
pub use Rattle.nj_graph.specs.Graph.{OfStatements, edges_of, files_of}
pub use Rattle.nj_needs.specs.Walks.{commands_of}
pub use Rattle.nj_stale.specs.Numbered.{evidence_of, IsKnown}
pub use Rattle.nj_state.specs.Inside.Flags.{AreFlags}
pub use Rattle.nj_graph.specs.Handles.{OfEdge, edge_of}
pub use Rattle.nj_state.specs.Facts.{edge_hash, facts_by, facts_of, has_value, hash_version}
pub use Rattle.nj_state.specs.Inside.BuildsHeld.{IsJudgedBy}
pub use Rattle.nj_state.specs.Laws.{ListedEdgesAreTheStale}
pub use Rattle.nj_names.specs.Files.{AreFiles}
pub use Rattle.nj_edges.specs.Edges.{edge_at, inputs_of, outputs_of}
pub use Rattle.std.specs.List.{flat_map}
pub use Rattle.nj_state.specs.StaleLines.{input_text, input_words, newest_path, newest_text, output_text, reason_text, stale_line, why_text}
pub use Rattle.nj_names.specs.NameTables.{name_at}
pub use Rattle.nj_state.specs.declared.state_fault.StateFault.TheVariants.{OutOfMemory}
