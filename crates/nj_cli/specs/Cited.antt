-- What the contracts of this crate cite: each name comes from the module in its line.
pub use Rattle.nj_cli.specs.Headline.{WritesTheNeeded, PageStringsJoin, StoppedRunsContinue, OneEnding}
pub use Rattle.nj_graph.specs.Graph.{OfStatements, files_of}
pub use Rattle.nj_requests.specs.Actions.{action_model, commands, single_commands, request_model}
pub use Rattle.nj_cli.specs.Inside.RunSteps.{follows_validations, ReturnsFor, mark_line, Concludes, ReportsLine, ReportsMark, ReportsMisuse}
pub use Rattle.nj_cli.specs.Inside.RunSteps.{ReadsGraph}
pub use Rattle.nj_faults.specs.FaultLines.{fault_line}
pub use Rattle.nj_args.specs.declared.usage_fault.UsageFault.TheVariants.{Unparsed, OutOfMemory}
pub use Rattle.nj_tools.specs.Lines.{line}
pub use Rattle.nj_cli.specs.Reported.{Reported}
pub use Rattle.nj_cli.specs.Runs.{out_of_memory, RunsAs, RunsWords, RunsAsAndKeeps, RunsAndKeeps, around}
pub use Rattle.nj_args.specs.Requests.{request_of}
pub use Rattle.nj_graph.specs.Targets.{PicksTargets}
pub use Rattle.nj_cli.specs.Targets.{targets_of}
pub use Rattle.nj_cli.specs.Status.{exit_code}
