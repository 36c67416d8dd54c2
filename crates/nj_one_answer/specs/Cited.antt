-- What the contracts of this crate cite: each name comes from the module in its line.
pub use Rattle.nj_one_answer.specs.Answers.{MisusedIsNotTaken, OneAffectedAnswer, OneAffectedDrawing, OneAnswer, OneAuditAnswer}
pub use Rattle.nj_one_answer.specs.Answers.{OneDrawAnswer, OneJsonAnswer, OneKeysAnswer, OneMisuse, OneStaleAnswer, OneTestsAnswer}
pub use Rattle.nj_one_answer.specs.Answers.{OneTimesAnswer, OneWhyAnswer, SameKnownHaveSameAnswers}
pub use Rattle.nj_ask.specs.Asks.{around}
pub use Rattle.nj_ask.specs.AskedWords.{ended_status}
pub use Rattle.std.specs.IoError.{error_kind}
pub use Rattle.nj_graph.specs.Graph.{files_of, OfStatements, edges_of, main_rules, GraphModel}
pub use Rattle.nj_agreement.specs.Agreement.{AgreeIfOk, AgreeUpTo, AgreeBoth, AgreeBut}
pub use Rattle.nj_one_answer.specs.Runs.{AskWordsAlike, ReadAlike, SameErrors, SameUnlessFailed, AlikeRunsAreSame}
pub use Rattle.nj_agreement.specs.Sources.{DeclareSame, TellAll, UnlessFails}
pub use Rattle.nj_agreement.specs.Memory.{IsGraphOutOfMemory, IsLogOutOfMemory, IsUnread, IsMarkOutOfMemory}
pub use Rattle.nj_one_answer.specs.Discovered.{SameDiscovered}
pub use Rattle.nj_graph.specs.Handles.{OfEdge, edge_of, edges_in, files_in, file_of}
pub use Rattle.nj_one_answer.specs.AuditKinds.{SameKinds}
pub use Rattle.nj_scope.specs.Scopes.{IsScope, parent_at}
pub use Rattle.nj_agreement.specs.Graphs.{SameDiscoveries, SameGraph, SameLoaded, SameButTies}
pub use Rattle.std.specs.List.{IsDistinct}
pub use Rattle.nj_one_answer.specs.KeyPages.{SameKeyPage, SamePage}
pub use Rattle.nj_agreement.specs.Walks.{SameWalk, SameRoom}
pub use Rattle.nj_needs.specs.PageWalks.{written}
pub use Rattle.nj_one_answer.specs.Sinks.{IsCut, SameSinks, UnlessCut}
