use Rattle.nj_names.specs.ByteHash.{hash_bytes}
use Rattle.nj_names.proofs.NameLemmas.{none-held}
use Rattle.nj_names.proofs.table.Names.new.Goals as goal

pub invariant_of-result : goal.invariant_of-result
invariant_of-result c =
    rw (c.new.ensures.items, c.new-2.ensures.items, c.new-4.ensures.items)
    (none-held (hash_bytes c.args.keys) c.with_hasher.result c.with_hasher.ensures.empty)
