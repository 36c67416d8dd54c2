use Rattle.nj_scope.proofs.TableLemmas.{EachPathOnce-kept, kept-insert_entry}
use Rattle.nj_scope.proofs.table.FileTable.keep.Goals as goal

pub invariant_of-self-2 : goal.invariant_of-self-2
invariant_of-self-2 c = EachPathOnce-kept c.insert.new.self.entries c.in_ok-insert.ensures.unique

pub returns-clause-kept : goal.returns-clause-kept
returns-clause-kept c =
    rw (c.in_ok-insert.ensures.entries, ← c.self.view_is)
    (kept-insert_entry c.self.inside.files c.args.path c.args.bytes (rw (c.self.view_is) c.requires))

pub returns-clause-each_path_once : goal.returns-clause-each_path_once
returns-clause-each_path_once c = EachPathOnce-kept c.insert.new.self.entries c.in_ok-insert.ensures.unique
