use Rattle.std.proofs.Common.{ap, ◌∙◌, subst, sym, ◌+◌, ◌≤◌, List, ℕ, length, arith}
use Rattle.nj_build_log.specs.Murmur.{word}
use Rattle.nj_build_log.proofs.TextLemmas.{word_of_contents}
use Rattle.nj_build_log.proofs.hashed_text.HashedText.word_at.Goals as goal

pub returns-then-start-place : goal.returns-then-start-place
returns-then-start-place c =
    let own = c.self.inside in
    c.word_in-then-start-place.ensures
    ∙ word_of_contents own.command.now own.contents.now c.args.place 8 c.if-start-place.true (omega arith)
    (subst (λ (t : List ℕ). c.args.place + 8 ≤ length t) (sym c.self.view_is) c.requires)
    ∙ ap (λ t. word t c.args.place 8) c.self.view_is
