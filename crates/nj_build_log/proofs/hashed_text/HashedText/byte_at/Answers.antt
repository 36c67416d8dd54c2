use Rattle.std.proofs.Common.{ap, ◌∙◌, subst, sym, ◌<◌, List, ℕ, length}
use Rattle.std.specs.Prelude.{slice_index}
use Rattle.nj_build_log.proofs.TextLemmas.{byte_between}
use Rattle.nj_build_log.proofs.hashed_text.HashedText.byte_at.Goals as goal

pub returns-then-place-start : goal.returns-then-place-start
returns-then-place-start c =
    let own = c.self.inside in
    byte_between own.command.now own.contents.now c.args.place c.if-place-size.false c.if-place-start.true
    (subst (λ (t : List ℕ). c.args.place < length t) (sym c.self.view_is) c.requires)
    ∙ ap (λ t. slice_index t c.args.place) c.self.view_is
