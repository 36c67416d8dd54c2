use Rattle.std.proofs.Common.{◌+◌, ◌++◌, ◌∷◌, ◌∙◌, [], ℕ, List, Vec, Global, ap, drop, flat_map, map, sym}
use Rattle.std.proofs.Common.{rules, arith}
use Rattle.std.proofs.lemmas.List.{at_drop_all, at_drop_more}
use Rattle.nj_requests.specs.declared.style.InputsStyle.{InputsStyle}
use Rattle.nj_tools.specs.Listings.{terminated}
use Rattle.nj_tools.proofs.OutputLemmas.{leaves_next, leaves_none, stops-with, stops_next}
use Rattle.nj_tools.proofs.input_lists.write_quotes.Goals as goal

abbrev text_of : Vec ℕ Global → List ℕ
text_of quote = quote.items

abbrev left_of : InputsStyle → List (Vec ℕ Global) → List ℕ
left_of style quotes = flat_map (terminated style) (map text_of quotes)

pub returns-in_err-ended-clause-text : goal.returns-in_err-ended-clause-text
returns-in_err-ended-clause-text g c =
    let style = c.args.style in
    let part = ap (λ end. c.deref.result.now ++ end ∷ []) c.terminator.ensures ∙ ap (terminated style)
    (c.deref.ensures.value ∙ ap text_of c.quote-item.is) in
    let left = left_of style (drop (c.quotes.quote-index + 1) c.args.quotes.now) in
    stops-with c.from_residual.result c.from_residual.ensures.1
    (stops_next _ left c.quotes.invariant.left
    (at_drop_more (left_of style) c.args.quotes.now c.quotes.quote-index c.quote-item.result (omega arith)
    ∙ ap (λ t. t ++ left) (sym part)) c.in_err-ended.ensures.text)

pub quotes-preserved : goal.quotes-preserved
quotes-preserved g c =
    let style = c.args.style in
    let part = ap (λ end. c.deref.result.now ++ end ∷ []) c.terminator.ensures ∙ ap (terminated style)
    (c.deref.ensures.value ∙ ap text_of c.quote-item.is) in
    let left = left_of style (drop (c.quotes.quote-index + 1) c.args.quotes.now) in
    record {
      same = search rules;
      left = leaves_next _ left c.quotes.invariant.left
          (at_drop_more (left_of style) c.args.quotes.now c.quotes.quote-index c.quote-item.result
          (omega arith)
          ∙ ap (λ t. t ++ left) (sym part)) c.in_ok-ended.ensures.text;
    }

pub returns-clause-text : goal.returns-clause-text
returns-clause-text g c =
    leaves_none c.quotes.invariant.left
    (at_drop_all (left_of c.args.style) c.args.quotes.now c.quotes.quote-index (omega arith))
