use Rattle.std.proofs.Common.{◌≡◌, ◌++◌, map, take}
use Rattle.nj_ask.proofs.keys.push_contents.Given as goal

abbrev pub invariant-contents : goal.invariant-contents
invariant-contents l = map (λ text. text.now) l.additions.items
    ≡ map (λ text. text.now) l.fn.additions.items
    ++ map (λ content. content.items) (take l.content-index l.contents)
