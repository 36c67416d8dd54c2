use Rattle.std.proofs.Common.{◌≡◌, ◌++◌, length, map}
use Rattle.nj_graph.specs.Handles.{file_of}
use Rattle.nj_audit.specs.ReadWords.{names_after, names_of_token, script_names}
use Rattle.nj_audit.specs.ShellWords.{tokens_of}
use Rattle.nj_audit.proofs.FileLemmas.{files_at}
use Rattle.nj_audit.proofs.named_files.add_script_files.Given as goal

abbrev pub invariant-tokens : goal.invariant-tokens
invariant-tokens l =
    map file_of l.files.items ++ files_at l.graph l.folder
    (names_after names_of_token l.next (tokens_of l.rest))
    ≡ map file_of l.fn.files.items ++ files_at l.graph l.folder (script_names l.within l.script)

abbrev pub decreases-tokens : goal.decreases-tokens
decreases-tokens l = length (tokens_of l.rest)
