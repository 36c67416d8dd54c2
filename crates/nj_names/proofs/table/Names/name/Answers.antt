use Rattle.std.proofs.Common.{◌<◌, length, subst, ◌∙◌, ap, sym}
use Rattle.nj_names.proofs.NameLemmas.{length-names}
use Rattle.nj_names.proofs.table.Names.name.Goals as goal

pub name_at-requires-clause-number : goal.name_at-requires-clause-number
name_at-requires-clause-number c =
    rw c.as_slice-2.ensures.value
    (subst (λ n. c.args.number < n) (ap length (sym c.self.view_is)
    ∙ length-names c.self.inside.text.items 0 c.self.inside.ends.items) c.requires)
