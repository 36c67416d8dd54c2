use Rattle.std.proofs.Common.{sym}
use Rattle.nj_names.proofs.NameLemmas.{length-names}
use Rattle.nj_names.proofs.table.Names.count.Goals as goal

pub returns-clause-count : goal.returns-clause-count
returns-clause-count c =
    rw (c.as_slice.ensures.value, ← c.self.view_is)
    (sym (length-names c.self.inside.text.items 0 c.self.inside.ends.items))
