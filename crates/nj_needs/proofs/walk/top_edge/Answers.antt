use Rattle.std.proofs.Common.{◌≡◌, ◌+◌, ◌-◌, ◌≤◌, List, [], ◌∷◌, ◌++◌, length, get_or, take, refl, sym, ap}
use Rattle.std.proofs.Common.{◌∙◌, arith}
use Rattle.std.proofs.lemmas.List.{take_more, take_all}
use Rattle.nj_needs.specs.declared.frame.Frame.{Frame}
use Rattle.nj_needs.proofs.walk.top_edge.Goals as goal

-- a list ends in its last element
ends : (path : List Frame) (f : Frame) → 1 ≤ length path → f ≡ get_or path (length path - 1) f
    → path ≡ take (length path - 1) path ++ f ∷ []
ends path f long at =
    let n = length path - 1 in
    sym (take_all (n + 1) path (omega arith)) ∙ take_more path n f (omega (arith, long))
    ∙ ap (λ (g : Frame). take n path ++ g ∷ []) (sym at)

pub returns-in-len1-up : goal.returns-in-len1-up
returns-in-len1-up c =
    let path = c.args.path.now in (
      take (length path - 1) path,
      c.frame-item.result,
      ends path c.frame-item.result c.in-len1-up.len_at_least c.frame-item.is,
      refl,
    )
