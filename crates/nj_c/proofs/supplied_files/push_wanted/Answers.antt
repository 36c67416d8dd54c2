use Rattle.std.proofs.Common.{◌≡◌, is_some, false, ◌∙◌, rules}
use Rattle.nj_c.proofs.WantedLemmas.{wanted-push}
use Rattle.nj_c.proofs.supplied_files.push_wanted.Goals as goal

pub returns-in_ok-push : goal.returns-in_ok-push
returns-in_ok-push c =
    let none : is_some c.args.reading.now.number ≡ false = search rules in
    wanted-push _ _ c.in_ok-path.path c.args.reading.now none
    (c.in_ok-path.ensures.items ∙ c.deref.ensures.value) c.in_ok-push.ensures.items
