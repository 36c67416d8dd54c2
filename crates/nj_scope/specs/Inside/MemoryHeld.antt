-- How files in memory, and readings of them, are held.
use Rattle.std.specs.Prelude.{string_bytes}
use Rattle.nj_scope.specs.declared.memory_files.MemoryFile.{MemoryFile}
use Rattle.nj_scope.specs.declared.memory_files.MemoryReading.{MemoryReading}
use Rattle.nj_scope.specs.Memory.{Added}
use Rattle.nj_scope.specs.Readings.{Reading}
use Rattle.nj_scope.specs.Sources.{outcome_bytes}

abbrev pub file_held : MemoryFile → Added
file_held f = record { name = string_bytes f.name; bytes = f.bytes.items }

abbrev pub reading_held : MemoryReading → Reading
reading_held r = record { path = string_bytes r.path; bytes = outcome_bytes r.bytes }
