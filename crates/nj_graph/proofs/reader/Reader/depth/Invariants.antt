use Rattle.std.proofs.Common.{◌≡◌, ℕ, List, ◌∷◌, drop, take}
use Rattle.nj_manifest.specs.Contents.{lines_model}
use Rattle.nj_scope.specs.Declarations.{DeclaredBy}
use Rattle.nj_scope.specs.ReadingList.{ReadStatement}
use Rattle.nj_graph.specs.Origins.{depth_of}
use Rattle.nj_graph.specs.Reading.{depth_fault}
use Rattle.nj_graph.specs.Inside.ReaderContracts.{IsOpenIn}
use Rattle.nj_graph.proofs.reader.Reader.depth.Given as goal

abbrev pub invariant-lines : goal.invariant-lines
invariant-lines l =
    (entries : List ReadStatement) (around : List ℕ) → DeclaredBy l.self.declarations entries
    → IsOpenIn l.self l.file around
    → (depth_fault l.file.name.now (l.file.scope.0 ∷ around) entries (lines_model l.lines)
    ≡ depth_fault l.file.name.now (l.file.scope.0 ∷ around) entries (lines_model (drop l.line-index l.lines)))
    × (l.depth ≡ depth_of (l.file.scope.0 ∷ around) entries (lines_model (take l.line-index l.lines)))
