use Rattle.std.proofs.Common.{refl, sym}
use Rattle.nj_text.specs.declared.sign.Sign.TheVariants as sign
use Rattle.nj_text.proofs.SignsTaken.{no_line_end}
use Rattle.nj_text.proofs.sign.take_line_end.Goals as goal

pub returns-in_default : goal.returns-in_default
returns-in_default c = no_line_end sign.LineEnd c.args.cursor.spot c.args.cursor.rest.now refl
    (sym c.requires) c.in_default.ensures
