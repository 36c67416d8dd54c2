use Rattle.std.proofs.Common.{◌≡◌, ◌++◌, ◌∷◌, [], Some, ap, sym, subst, ◌∙◌}
use Rattle.std.proofs.lemmas.List.{map_push}
use Rattle.nj_edges.specs.declared.edges.EdgeNo.{EdgeNo}
use Rattle.nj_needs.specs.PageWalks.{HasSoFar}
use Rattle.nj_c.specs.Inside.PagesHeld.{numbers_of}
use Rattle.nj_c.proofs.pages.next_page.Goals as goal

pub edges-preserved : goal.edges-preserved
edges-preserved c =
    let old = c.edges.edges.items in let new = c.push.new.self.items in let e = c.in-Some.edge in
    let limit = Some c.args.take in
    let numbers : numbers_of new ≡ numbers_of old ++ e.0 ∷ [] =
    ap numbers_of c.in_ok-push.ensures.items ∙ map_push (λ (x : EdgeNo). x.0) old e in
    subst (λ es. HasSoFar c.args.needs.now limit es c.next_on_page.new.self c.next_on_page.new.room)
    (sym numbers)
    (c.in-Some.ensures.goes_on c.args.needs.now limit (numbers_of old) c.edges.invariant)

pub returns : goal.returns
returns c =
    let walk = c.args.needs.now in let limit = Some c.args.take in let edges = numbers_of c.edges.edges.items
    in
    let all = c.in_default.ensures.goes_on walk limit edges c.edges.invariant in (
      sym all.1,
      (
        c.in_ok-mark.mark,
        c.in_ok-mark-2.ensures,
        c.in_ok-mark.ensures walk limit edges all.0 all.1,
      ),
    )
