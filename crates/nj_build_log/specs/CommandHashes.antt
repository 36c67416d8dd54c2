-- The hash of a command in a build log.
use Rattle.std.specs.Prelude.{ℕ, List, [], ◌∷◌, ◌++◌, codes}
use Rattle.nj_build_log.specs.Murmur.{murmur_of}
use Rattle.nj_build_log.specs.Rapid.{rapid_of}
use Rattle.nj_build_log.specs.declared.log_version.LogVersion.{LogVersion}
use Rattle.nj_build_log.specs.declared.log_version.LogVersion.TheVariants.{Five, Six, Seven}

-- the separator between a command and the contents of its response file
abbrev pub separator : List ℕ
separator = codes ";rspfile="

-- the text that is hashed: the command, and the contents of its response file if they are not empty
abbrev pub hashed_text : (command contents : List ℕ) → List ℕ
hashed_text command [] = command
hashed_text command (byte ∷ contents) = command ++ (separator ++ byte ∷ contents)

-- by the version of the log
abbrev pub command_hash : LogVersion → (command contents : List ℕ) → ℕ
command_hash Five command contents = murmur_of (hashed_text command contents)
command_hash Six command contents = murmur_of (hashed_text command contents)
command_hash Seven command contents = rapid_of (hashed_text command contents)
