-- Laws of the changes of a graph.
use Rattle.std.specs.Prelude.{List}
use Rattle.nj_chosen.specs.Laws.{NoticesTheChange}
use Rattle.nj_chosen.specs.Reasons.{BuildChange}
use Rattle.nj_graph.specs.Graph.{GraphModel}
use Rattle.nj_graph.specs.ReadingList.{ReadStatement}
use Rattle.nj_reached.specs.GraphChanges.{GraphChange, IsChangeOf}

-- What a change of a graph notices is affected or changed. So a test's own program chooses the test, whether or not it counts in a
-- directory: the law OwnProgramsChooseAnyway of `nj_chosen` holds for the change.
abbrev pub GraphsNoticeTheChange : Type 0
GraphsNoticeTheChange = (g : GraphModel) (entries : List ReadStatement) (q : GraphChange) (c : BuildChange)
    → IsChangeOf g entries q c → NoticesTheChange c
