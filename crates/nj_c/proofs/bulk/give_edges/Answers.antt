use Rattle.std.proofs.Common.{◌≡◌, ◌<◌, ◌+◌, ◌-◌, min, length, refl, sym, arith}
use Rattle.std.proofs.lemmas.List.{length-map}
use Rattle.nj_edges.specs.declared.edges.EdgeNo.{EdgeNo}
use Rattle.nj_c.proofs.BufferLemmas.{number-more, numbers-all}
use Rattle.nj_c.proofs.bulk.give_edges.Goals as goal

pub items-preserved : goal.items-preserved
items-preserved c =
    let list = c.args.list.now in let before = c.args.edges.now in let from = c.args.from in let at =
    c.items.at in
    let inside : from + at < length list = omega arith in
    let room : at < length before = omega arith in
    number-more (λ (e : EdgeNo). e.0) list before c.items.edges from at (record { 0 = 0 }) inside room
    c.items.invariant

pub returns-clause-gives : goal.returns-clause-gives
returns-clause-gives c =
    let list = c.args.list.now in let before = c.args.edges.now in
    let fits : c.items.at ≡ min (length list - c.args.from) (length before) = omega arith in (
      refl,
      sym (length-map list (λ (e : EdgeNo). e.0)),
      numbers-all (λ (e : EdgeNo). e.0) list before c.items.edges c.args.from c.items.at fits
          c.items.invariant,
    )
