use Rattle.std.proofs.Common.{◌≡◌, ◌<◌, ◌∷◌, [], List, ℕ, Option, Some, None, MatchOption, option_map, length}
use Rattle.std.proofs.Common.{Bor}
use Rattle.nj_build_log.specs.Logs.{lines_of, is_line_feed}
use Rattle.nj_build_log.specs.Inside.LinesHeld.{split_at_first}
use Rattle.nj_build_log.proofs.LineLemmas.{no_line, a_line}
use Rattle.std.proofs.Common.{sym}
use Rattle.nj_build_log.proofs.lines.split_line.Goals as goal

first-line : (text : List ℕ) (found : Option (Bor (List ℕ) × Bor (List ℕ)))
    → option_map (λ p. (p.0.now, p.1.now)) found ≡ split_at_first is_line_feed text
    → MatchOption found (lines_of text ≡ [])
    (λ p. (lines_of text ≡ p.0.now ∷ lines_of p.1.now) × (length p.1.now < length text))
first-line text None e = no_line text (sym e)
first-line text (Some p) e = a_line text p.0.now p.1.now (sym e)

pub returns : goal.returns
returns c = first-line c.args.text.now c.split_at_first.result c.split_at_first.ensures
