use Rattle.std.specs.Global.{Vec}
use Rattle.std.proofs.Common.{◌≡◌, ◌==◌, ℕ, Option, Some, false, true, true≢false, [], length, map, sym, ap}
use Rattle.std.proofs.Common.{◌∙◌, rules}
use Rattle.nj_graph.specs.Graph.{GraphModel}
use Rattle.nj_c.specs.declared.session_state.Kept.{Kept}
use Rattle.nj_c.proofs.DiscoveredLemmas.{finds-result}
use Rattle.nj_c.proofs.LoadLemmas.{none-counted}
use Rattle.nj_c.proofs.discovered_inputs.join_or_want.Goals as goal

pub returns-then-none_wanted : goal.returns-then-none_wanted
returns-then-none_wanted c =
    let counted : true ≡ (length c.as_slice.result.now == 0) = search rules in
    let same : c.replace.new.dest ≡ c.args.wanted = search rules in
    let none : c.args.wanted.items ≡ [] = sym c.as_slice.ensures.value
    ∙ none-counted c.as_slice.result.now counted in
    let empty : c.replace.new.dest.items ≡ [] = ap (λ (v : Vec (Vec ℕ)). v.items) same ∙ none in
    finds-result c.args.graph c.args.kept.now c.join_found-joined.new.files c.replace.new.dest
    c.args.given.now.log c.args.given.now.read c.args.times.now empty
    (λ stated graph. sym (c.requires stated graph) ∙ ap (map (λ p. p.items)) none)
    c.join_found-joined.ensures.files
    c.keep_found.new.kept c.join_found-joined.result c.keep_found.result c.join_found-joined.ensures.finds
    c.keep_found.ensures

pub returns : goal.returns
returns c =
    let counted : false ≡ (length c.as_slice.result.now == 0) = search rules in
    let same : c.replace.new.dest ≡ c.args.wanted = search rules in
    let graph : c.replace-2.new.self ≡ Some c.args.graph = search rules in
    let kept : Option GraphModel → Kept = λ o. record c.args.kept.now
    { wanted = c.replace.new.dest; graph = o } in (
      ap kept graph,
      (λ empty.
          let none = c.as_slice.ensures.value ∙ ap (λ (v : Vec (Vec ℕ)). v.items) (sym same) ∙ empty in
          true≢false (sym (counted ∙ ap (λ xs. length xs == 0) none))),
      (λ stated is. ap (λ (v : Vec (Vec ℕ)). map (λ p. p.items) v.items) same ∙ c.requires stated is),
    )
