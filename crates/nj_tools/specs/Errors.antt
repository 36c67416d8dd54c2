-- The errors that a client of this crate gets in place of results.
use Rattle.std.specs.Prelude.{◌≡◌, ℕ, List, codes}
use Rattle.nj_text.specs.Faults.{out_of_memory_text}
use Rattle.nj_faults.specs.declared.fault.GraphFault.{GraphFault}
use Rattle.nj_faults.specs.FaultLines.{shown_line}
use Rattle.nj_needs.specs.declared.mark_fault.MarkFault.{MarkFault}
use Rattle.nj_needs.specs.declared.mark_fault.MarkFault.TheVariants as mark
use Rattle.nj_graph.specs.Errors.{TakesFault}
use Rattle.nj_graph.specs.declared.error.Error as graph
use Rattle.nj_graph.specs.declared.error.Error.TheVariants as graph_error
use Rattle.nj_tools.specs.declared.tool_fault.ToolFault.{ToolFault}
use Rattle.nj_tools.specs.declared.tool_fault.ToolFault.TheVariants as tool
use Rattle.nj_tools.specs.declared.error.Error.{Error}
use Rattle.nj_tools.specs.declared.error.Error.TheVariants.{Graph, EmptyPath, BadMark, MarkOutOfRange, Write, OutOfMemory}

-- how a fault of a tool is shown
abbrev pub fault_text : ToolFault → List ℕ
fault_text (tool.TextNotUtf8 fault) = shown_line fault
fault_text tool.Write = codes "the output could not be written"
fault_text tool.OutOfMemory = out_of_memory_text

-- an error of `nj_graph` stays the same
abbrev pub error_of_graph : graph.Error → Error
error_of_graph (graph_error.Graph fault) = Graph fault
error_of_graph graph_error.EmptyPath = EmptyPath
error_of_graph graph_error.OutOfMemory = OutOfMemory

-- so does a fault that `nj_graph` converts
abbrev pub TakesGraphFault : GraphFault → Error → Type 0
TakesGraphFault fault error = (taken : graph.Error) × TakesFault fault taken × (error ≡ error_of_graph taken)

-- a mark's fault as an error
abbrev pub error_of_mark : MarkFault → Error
error_of_mark mark.BadMark = BadMark
error_of_mark mark.MarkOutOfRange = MarkOutOfRange
error_of_mark mark.OutOfMemory = OutOfMemory

-- a tool's fault as an error
abbrev pub error_of_tool : ToolFault → Error
error_of_tool (tool.TextNotUtf8 fault) = Graph fault
error_of_tool tool.Write = Write
error_of_tool tool.OutOfMemory = OutOfMemory

-- how it is shown to people
abbrev pub error_text : Error → List ℕ
error_text (Graph fault) = shown_line fault
error_text EmptyPath = codes "empty path"
error_text BadMark = codes "bad mark"
error_text MarkOutOfRange = codes "mark out of range"
error_text Write = codes "the output could not be written"
error_text OutOfMemory = out_of_memory_text
