use Rattle.std.proofs.Common.{get_or, length}
use Rattle.std.proofs.lemmas.Option.{slice_get-get_or}
use Rattle.nj_names.proofs.NameLemmas.{name-between, name-within}
use Rattle.nj_names.proofs.table.name_at.Goals as goal

pub part-requires-clause-rises : goal.part-requires-clause-rises
part-requires-clause-rises c =
    let end = get_or c.args.ends.now c.args.number 0 in
    let here = slice_get-get_or c.args.ends.now c.args.number 0 c.requires.number in
    rw (c.start_of.ensures, c.number_at.ensures)
    (name-within 0 c.args.ends.now (length c.args.text.now) c.args.number end c.requires.rise here).0

pub part-requires-clause-within : goal.part-requires-clause-within
part-requires-clause-within c =
    let end = get_or c.args.ends.now c.args.number 0 in
    let here = slice_get-get_or c.args.ends.now c.args.number 0 c.requires.number in
    rw c.number_at.ensures (name-within 0 c.args.ends.now (length c.args.text.now) c.args.number end
    c.requires.rise here).1

pub returns : goal.returns
returns c =
    let end = get_or c.args.ends.now c.args.number 0 in
    let here = slice_get-get_or c.args.ends.now c.args.number 0 c.requires.number in
    rw (c.part.ensures, c.start_of.ensures, c.number_at.ensures)
    (name-between c.args.text.now 0 c.args.ends.now c.args.number end here)
