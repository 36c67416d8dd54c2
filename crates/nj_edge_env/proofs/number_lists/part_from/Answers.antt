use Rattle.std.proofs.Common.{◌≡◌, ◌+◌, suc, length, get_or, slice_range, arith, ap, sym, ◌∙◌}
use Rattle.nj_edge_env.proofs.ListLemmas.{list-past, list-between, between-ends, between-rises}
use Rattle.nj_edge_env.proofs.number_lists.part_from.Goals as goal

pub returns-then-index-starts : goal.returns-then-index-starts
returns-then-index-starts c = sym (list-past c.args.numbers.now c.args.starts.now c.args.index
    c.if-index-starts.true)

pub part-requires-clause-rises : goal.part-requires-clause-rises
part-requires-clause-rises c =
    let len = length c.args.numbers.now in
    let one : c.args.index + 1 ≡ suc c.args.index = omega arith in
    let start : c.start_at-start.result ≡ get_or c.args.starts.now c.args.index len = c.start_at-start.ensures
    in
    let end : c.start_at-end.result ≡ get_or c.args.starts.now (suc c.args.index) len =
    c.start_at-end.ensures ∙ ap (λ i. get_or c.args.starts.now i len) one in
    let rises = between-rises len c.args.starts.now c.args.index c.requires in
    omega (arith, rises, start, end)

pub part-requires-clause-within : goal.part-requires-clause-within
part-requires-clause-within c =
    let len = length c.args.numbers.now in
    let one : c.args.index + 1 ≡ suc c.args.index = omega arith in
    let end : c.start_at-end.result ≡ get_or c.args.starts.now (suc c.args.index) len =
    c.start_at-end.ensures ∙ ap (λ i. get_or c.args.starts.now i len) one in
    let ends = between-ends len c.args.starts.now (suc c.args.index) c.requires in
    omega (arith, ends, end)

pub returns : goal.returns
returns c =
    let len = length c.args.numbers.now in
    let one : c.args.index + 1 ≡ suc c.args.index = omega arith in
    let start : c.start_at-start.result ≡ get_or c.args.starts.now c.args.index len = c.start_at-start.ensures
    in
    let end : c.start_at-end.result ≡ get_or c.args.starts.now (suc c.args.index) len =
    c.start_at-end.ensures ∙ ap (λ i. get_or c.args.starts.now i len) one in
    c.part.ensures
    ∙ ap (λ s. slice_range c.args.numbers.now s c.start_at-end.result) start
    ∙ ap (λ t. slice_range c.args.numbers.now (get_or c.args.starts.now c.args.index len) t) end
    ∙ sym (list-between c.args.numbers.now c.args.starts.now c.args.index c.requires)
