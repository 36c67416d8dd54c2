use Rattle.std.proofs.Common.{◌≡◌, true, not, ap, subst, sym, ◌∙◌}
use Rattle.nj_names.specs.NameTables.{is_among}
use Rattle.nj_changes.specs.Tables.{HasMore}
use Rattle.nj_chosen.proofs.NameLemmas.{more-named}
use Rattle.nj_chosen.proofs.ProgramLemmas.{among-one}
use Rattle.nj_chosen.proofs.programs.add_if_among.Goals as goal

pub returns : goal.returns
returns c =
    let programs = c.args.programs.now in
    let path = c.args.path.now in
    let is : is_among c.args.outputs.now path ≡ true =
    sym c.number.ensures.known ∙ c.is_none.ensures ∙ ap not c.if-is_none.false in
    subst (λ more. HasMore programs more c.add.new.self) (sym (among-one c.args.outputs.now path true is))
    (more-named programs c.add.new.self path c.in_ok-add.ensures.added)
