use Rattle.std.proofs.Common.{None, Some, string_bytes}
use Rattle.nj_scope.proofs.MemoryLemmas.{bytes_of_last}
use Rattle.nj_scope.proofs.memory_files.MemoryFiles.bytes_of.Goals as goal

pub returns-in_err-file : goal.returns-in_err-file
returns-in_err-file c =
    rw (c.from_residual.ensures, ← c.self.view_is)
    (bytes_of_last (λ e. string_bytes e.name) (λ e. e.bytes.items) c.args.name.now
    c.self.inside.files.items None (cc c.in_err-file.ensures))

pub returns : goal.returns
returns c =
    rw (c.as_slice.ensures.value, ← c.self.view_is)
    (bytes_of_last (λ e. string_bytes e.name) (λ e. e.bytes.items) c.args.name.now
    c.self.inside.files.items (Some c.in_ok-file.file.now) (cc c.in_ok-file.ensures))
