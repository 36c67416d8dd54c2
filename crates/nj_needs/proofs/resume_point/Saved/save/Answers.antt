use Rattle.std.proofs.Common.{◌≡◌, ℕ, ◌+◌, ◌-◌, ◌<◌, List, [], ◌∷◌, ◌++◌, length, get_or, take, drop, sym, ap}
use Rattle.std.proofs.Common.{◌∙◌, arith}
use Rattle.std.proofs.lemmas.List.{take_more, get_or-map, get_or-drop, length-map, length-drop, take_rest}
use Rattle.nj_needs.specs.Inside.Paths.{places}
use Rattle.nj_needs.specs.declared.frame.Frame.{Frame}
use Rattle.nj_needs.proofs.resume_point.Saved.save.Goals as goal

-- one more number is the number of the next frame
next : (path : List Frame) (n : ℕ) (f : Frame) (numbers : List ℕ) → n < length path → f ≡ get_or path n f
    → numbers ≡ take n (places path) → numbers ++ f.at ∷ [] ≡ take (n + 1) (places path)
next path n f numbers lt at is =
    ap (λ (ns : List ℕ). ns ++ f.at ∷ []) is
    ∙ ap (λ (x : ℕ). take n (places path) ++ x ∷ [])
    (ap (λ (g : Frame). g.at) at ∙ sym (get_or-map (λ (g : Frame). g.at) path n f f.at lt))
    ∙ sym (take_more (places path) n f.at (omega (arith, lt, length-map path (λ (g : Frame). g.at))))

pub changed-preserved : goal.changed-preserved
changed-preserved c =
    let path = c.args.path.now in
    let kept = c.args.self.now.kept in
    let i = c.changed.frame-index in
    let f = c.frame-item.result in
    let same : c.changed.self.kept ≡ kept = c.changed.invariant.kept in
    let items : take (length path - kept) (drop kept path) ≡ drop kept path = take_rest path kept in
    let lt : kept + i < length path = omega
    (arith, c.changed-test.true, ap length items, length-drop kept path) in
    let at : f ≡ get_or path (kept + i) f =
    c.frame-item.is ∙ ap (λ (fs : List Frame). get_or fs i f) items ∙ get_or-drop kept path i f in
    let so_far : c.changed.self.numbers.items ≡ take (kept + i) (places path) =
    c.changed.invariant.so_far ∙ ap (λ (k : ℕ). take (k + i) (places path)) same in
    let e : kept + (i + 1) ≡ kept + i + 1 = omega arith in
    record {
      so_far = c.push.ensures.items ∙ next path (kept + i) f c.changed.self.numbers.items lt at so_far
          ∙ ap (λ (k : ℕ). take k (places path)) (sym e)
          ∙ ap (λ (k : ℕ). take (k + (i + 1)) (places path)) (sym same);
      rest = items ∙ ap (λ (k : ℕ). drop k path) (sym same);
      kept = same;
      capacity = c.push.ensures.capacity ∙ c.changed.invariant.capacity;
    }
