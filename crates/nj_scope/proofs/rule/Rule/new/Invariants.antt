use Rattle.std.proofs.Common.{◌≡◌, take, map}
use Rattle.nj_scope.specs.Rules.{line_kept}
use Rattle.nj_scope.specs.Inside.KeysHeld.{line_held}
use Rattle.nj_manifest.specs.Contents.{line_model}
use Rattle.nj_scope.proofs.rule.Rule.new.Given as goal

abbrev pub invariant-lines : goal.invariant-lines
invariant-lines l = map line_held l.kept.items
    ≡ map (λ line. line_kept (line_model line)) (take l.line-index l.lines)
