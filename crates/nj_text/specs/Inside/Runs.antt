-- The runs of bytes that the lexer skips as one.
use Rattle.std.specs.Prelude.{ℕ, Bool, not}
use Rattle.nj_text.specs.declared.runs.Run.{Run}
use Rattle.nj_text.specs.declared.runs.Run.TheVariants as run
use Rattle.nj_text.specs.declared.lanes.LaneRun.{LaneRun}
use Rattle.nj_text.specs.declared.lanes.LaneRun.TheVariants as lane
use Rattle.nj_text.specs.Bytes.{is_space, is_line_feed, is_name_byte, is_identifier_byte, is_ordinary_byte, is_word_byte}

abbrev pub in_run : Run → ℕ → Bool
in_run run.Spaces b = is_space b
in_run run.Name b = is_name_byte b
in_run run.Identifier b = is_identifier_byte b
in_run run.Word b = is_word_byte b
in_run run.Value b = is_ordinary_byte b
in_run run.Comment b = not (is_line_feed b)

-- which of the runs a run is that is tested sixteen bytes at a time
abbrev pub lane_run : LaneRun → Run
lane_run lane.Identifier = run.Identifier
lane_run lane.Word = run.Word
lane_run lane.Value = run.Value
