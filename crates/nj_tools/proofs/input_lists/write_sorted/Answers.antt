use Rattle.std.proofs.Common.{◌≡◌, ◌++◌, ℕ, true, List, [], ◌∷◌, Vec, Global, Bor, map, ap, sym, subst, ◌∙◌}
use Rattle.std.specs.List.{flat_map}
use Rattle.std.proofs.lemmas.List.Concat.{flat_map-append}
use Rattle.nj_text.specs.Quotes.{quoted}
use Rattle.nj_graph.specs.Handles.{GraphFile}
use Rattle.nj_tools.specs.Inside.Outputs.{PutsText}
use Rattle.nj_requests.specs.declared.style.InputsStyle.{InputsStyle}
use Rattle.nj_tools.specs.Listings.{printed, sorted, terminated}
use Rattle.nj_tools.proofs.OutputLemmas.{front-is, front-of, puts-next, stops-before, stops-with}
use Rattle.nj_tools.proofs.ListingLemmas.{printed-as_they_are, printed-quoted}
use Rattle.nj_tools.proofs.input_lists.write_sorted.Goals as goal

abbrev text_of : Vec ℕ Global → List ℕ
text_of text = text.items

abbrev now_of : Bor (List ℕ) → List ℕ
now_of path = path.now

pub returns-in_ok-paths-clause-text : goal.returns-in_ok-paths-clause-text
returns-in_ok-paths-clause-text g c =
    let paths = map (λ (file : GraphFile). file.path) c.args.files in
    let strings = ap (map (λ path. path.now)) c.deref-else-style.ensures.value ∙ c.in_ok-paths.ensures
    ∙ ap sorted (sym (printed-as_they_are c.args.style c.if-style.false paths)) in
    subst (λ t. PutsText g.S.Sink.state c.args.out.now c.texts-else-style.new.self t
    c.texts-else-style.result)
    (ap (λ end. flat_map (λ t. t ++ end ∷ []) (map now_of c.deref-else-style.result.now))
    c.terminator-else-style.ensures ∙ ap (flat_map (terminated c.args.style)) strings)
    c.texts-else-style.ensures.text

-- the quotes and the other paths, one after the other
in-parts : (style : InputsStyle) → style.shell_escape ≡ true → (paths quotes others : List (List ℕ))
    → quotes ++ others ≡ sorted (map quoted paths)
    → flat_map (terminated style) quotes ++ flat_map (terminated style) others
    ≡ flat_map (terminated style) (sorted (map (printed style) paths))
in-parts style escaped paths quotes others are =
    sym (flat_map-append (terminated style) quotes others) ∙ ap (flat_map (terminated style))
    (are ∙ ap sorted (sym (printed-quoted style escaped paths)))

pub returns-in_err-write_quotes-clause-text : goal.returns-in_err-write_quotes-clause-text
returns-in_err-write_quotes-clause-text g c =
    let quotes = map text_of c.deref.result.now in
    let others = map now_of c.in_ok-quotes.quotes.plain.items in
    let are = ap (λ (ts : List (Vec ℕ Global)). map text_of ts ++ others) c.deref.ensures.value ∙
    c.in_ok-quotes.ensures in
    let is = in-parts c.args.style c.if-style.true
    (map (λ (file : GraphFile). file.path) c.args.files) quotes others are in
    stops-with c.from_residual-in_err-write_quotes.result c.from_residual-in_err-write_quotes.ensures.1
    (stops-before _ (front-of _ _ (front-is _ is)) c.in_err-write_quotes.ensures.text)

pub returns-in_ok-write_quotes-clause-text : goal.returns-in_ok-write_quotes-clause-text
returns-in_ok-write_quotes-clause-text g c =
    let quotes = map text_of c.deref.result.now in
    let others = map now_of c.deref-then-style.result.now in
    let are =
    ap (λ (ts : List (Vec ℕ Global)). map text_of ts ++ others) c.deref.ensures.value
    ∙ ap (λ (ps : List (Bor (List ℕ))). map text_of c.in_ok-quotes.quotes.quoted.items ++ map now_of ps)
    c.deref-then-style.ensures.value ∙ c.in_ok-quotes.ensures in
    let is = in-parts c.args.style c.if-style.true
    (map (λ (file : GraphFile). file.path) c.args.files) quotes others are in
    let ends = ap (λ end. flat_map (terminated c.args.style) quotes ++ flat_map (λ t. t ++ end ∷ []) others)
    c.terminator.ensures in
    puts-next _ _ _ c.texts.result (ends ∙ is) c.in_ok-write_quotes.ensures.text c.texts.ensures.text
