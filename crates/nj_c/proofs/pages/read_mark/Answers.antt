use Rattle.std.proofs.Common.{◌≡◌, false, refl, inl, inr, rules}
use Rattle.std.specs.Str.{is_utf8}
use Rattle.nj_c.proofs.pages.read_mark.Goals as goal

pub returns-in_default-clause-refused : goal.returns-in_default-clause-refused
unfolding is_utf8
returns-in_default-clause-refused c =
    let text : is_utf8 c.args.text.now ≡ false = search rules in
    inr (refl, inl text)
