-- Parts of answers, and why there are none.
use Rattle.std.specs.Prelude.{◌≡◌, ℕ, true, Option, Result, Err, List}
use Rattle.nj_graph.specs.ReadingList.{ReadStatement}
use Rattle.nj_graph.specs.declared.GraphFault.{GraphFault}
use Rattle.nj_graph.specs.Edges.{EdgePaths}
use Rattle.nj_graph.specs.Handles.{GraphFiles}
use Rattle.nj_needs.specs.PageWalks.{written, StopsAt}
use Rattle.nj_needs.specs.Walks.{WalkState}
use Rattle.nj_keys.specs.Keys.{HaveKeys}
use Rattle.nj_keys.specs.Pages.{leads, left_at, BeginsAfter}
use Rattle.nj_keys.specs.declared.pages.KeyPage.{KeyPage}
use Rattle.nj_changes.specs.declared.ignored.PatternFault.{PatternFault}
use Rattle.nj_changes.specs.declared.ignored.PatternFault.TheVariants as pattern
use Rattle.nj_ask.specs.Endings.{fault_line}
use Rattle.nj_ask.specs.Given.{pattern_line}

-- the line of the fault in place of a value
abbrev pub SaysErr : {A : Type 0} → Result A GraphFault → (line : List ℕ) → Type 0
SaysErr expected line = (fault : GraphFault) × (expected ≡ Err fault) × (line ≡ fault_line fault)

-- the line about a pattern that is not a glob
abbrev pub SaysPattern : PatternFault → (line : List ℕ) → Type 0
SaysPattern (pattern.Wrong text fault) line = line ≡ pattern_line text.now fault
SaysPattern pattern.OutOfMemory line = ⊥

-- the keys of the commands that files need and that are left at a mark, up to a limit, by the given edges, and the mark after them
pub record IsPageOf (files : GraphFiles) (edges : List EdgePaths) (entries : List ReadStatement) (additions folders : List (List ℕ))
    (mark : List ℕ) (limit : Option ℕ) (page : KeyPage) : Type 0 where
  pub valid : leads files mark ≡ true
  pub keys : HaveKeys additions folders edges entries (written limit (left_at files mark)) page.keys.items
  pub walk : WalkState
  pub begins : BeginsAfter files mark walk
  pub stops : StopsAt walk limit page.mark
