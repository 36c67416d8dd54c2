use Rattle.std.proofs.Common.{◌≡◌, ◌++◌, map, take}
use Rattle.std.specs.List.{flat_map}
use Rattle.nj_keys.specs.Keys.{field}
use Rattle.nj_keys.proofs.additions.push_additions.Given as goal

abbrev pub invariant-additions : goal.invariant-additions
invariant-additions l = l.text.items
    ≡ l.fn.text.items ++ flat_map field (map (λ text. text.now) (take l.addition-index l.additions))
