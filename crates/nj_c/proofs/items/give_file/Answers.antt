use Rattle.std.proofs.Common.{sym, ◌∙◌}
use Rattle.nj_c.proofs.ItemLemmas.{gives-some, gives-none}
use Rattle.nj_c.proofs.items.give_file.Goals as goal

pub returns-in-Some : goal.returns-in-Some
returns-in-Some c files paths are = gives-some files c.args.list.now paths c.args.index c.in-Some.found are
    (sym c.file_at.ensures ∙ c.in-Some.is)

pub returns-in-None : goal.returns-in-None
returns-in-None c files paths are = gives-none files c.args.list.now paths c.args.index _ are
    (sym c.file_at.ensures ∙ c.in-None.is)
