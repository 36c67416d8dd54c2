-- What is known of the edges of a build besides their files.
use Rattle.std.specs.Prelude.{ℕ, Bool, not, unwrap_or, List, codes, map, ◌==◌}
use Rattle.std.specs.List.{list_any, range_with_len}
use Rattle.nj_text.specs.Calls.{is_empty}
use Rattle.nj_build_log.specs.CommandHashes.{command_hash}
use Rattle.nj_build_log.specs.Logs.{BuildLogModel}
use Rattle.nj_build_log.specs.declared.log_version.LogVersion.{LogVersion}
use Rattle.nj_build_log.specs.declared.log_version.LogVersion.TheVariants.{Seven}
use Rattle.nj_graph.specs.ReadingList.{ReadStatement}
use Rattle.nj_graph.specs.Graph.{late_text_of}
use Rattle.nj_stale.specs.declared.evidence.EdgeFacts.{EdgeFacts}

-- a variable of an edge has a value that is not empty
abbrev pub has_value : List ReadStatement → (edge : ℕ) → (name : List ℕ) → Bool
has_value entries edge name = not (is_empty (late_text_of entries edge name))

-- the hash of the command of an edge, as in a log of the given version
abbrev pub edge_hash : List ReadStatement → LogVersion → (edge : ℕ) → ℕ
edge_hash entries version edge =
    command_hash version (late_text_of entries edge (codes "command")) (late_text_of entries edge (codes "rspfile_content"))

-- whether the inputs that builds discovered for an edge are unknown, its `restat` and `generator`, and the hash of its command
abbrev pub facts_by : List ReadStatement → LogVersion → (is_unknown : Bool) → (edge : ℕ) → EdgeFacts
facts_by entries version is_unknown edge = record {
  is_unknown = is_unknown;
  restat = has_value entries edge (codes "restat");
  generator = has_value entries edge (codes "generator");
  command_hash = edge_hash entries version edge;
}

-- the facts of an edge, given the edges whose discovered inputs are unknown
abbrev pub edge_facts : List ReadStatement → (unknown : List ℕ) → LogVersion → (edge : ℕ) → EdgeFacts
edge_facts entries unknown version edge = facts_by entries version (list_any (λ other. edge == other) unknown) edge

-- the facts of `count` edges
abbrev pub facts_of : List ReadStatement → (unknown : List ℕ) → LogVersion → (count : ℕ) → List EdgeFacts
facts_of entries unknown version count = map (edge_facts entries unknown version) (range_with_len 0 count)

-- the version of the hashes in a log; a log without a version has no hashes, and is treated as one of the latest version
abbrev pub hash_version : BuildLogModel → LogVersion
hash_version log = unwrap_or log.version Seven
