use Rattle.std.proofs.Common.{◌≡◌, ◌++◌, ◌∷◌, ◌∙◌, [], true, false, not, Bool, ℕ, List, Vec, Global, Bor, map}
use Rattle.std.proofs.Common.{ap}
use Rattle.std.proofs.Common.{append-nil, sym}
use Rattle.std.specs.Prelude.{filter}
use Rattle.std.proofs.lemmas.List.{map-append}
use Rattle.nj_text.specs.Quotes.{quoted}
use Rattle.nj_graph.specs.Handles.{GraphFile, file_of}
use Rattle.nj_tools.specs.Inside.QuotesHeld.{precedes_plain}
use Rattle.nj_tools.proofs.QuoteLemmas.{next-passing, plain-quote}
use Rattle.nj_tools.proofs.sorted_paths.quotes_of.Goals as goal

abbrev text_of : Vec ℕ Global → List ℕ
text_of text = text.items

abbrev now_of : Bor (List ℕ) → List ℕ
now_of path = path.now

abbrev is_plain : List ℕ → Bool
is_plain text = not (precedes_plain text)

pub files-preserved : goal.files-preserved
files-preserved c =
    let path = (file_of c.in-Some.file).path in
    let left = map quoted (map (λ (file : GraphFile). file.path) c.next.new.self) in
    let quote : List ℕ = c.quote_into.new.out.items in
    let is : quote ≡ quoted c.path-path.result.now =
    c.in_ok-quote_into.ensures.ok ∙ ap (λ text. text ++ quoted c.path-path.result.now)
    c.clear.ensures.items in
    let test : precedes_plain (quoted path) ≡ false =
    ap precedes_plain (sym (is ∙ ap quoted c.path-path.ensures))
    ∙ ap precedes_plain (sym c.deref.ensures.value)
    ∙ sym c.precedes_plain.ensures ∙ c.if-precedes_plain.false in
    let held_quoted = map text_of c.files.quoted.items in
    let held_plain = map now_of c.files.plain.items in
    record {
      quoted = ap (λ ts. ts ++ filter precedes_plain left) (sym (append-nil held_quoted))
          ∙ next-passing precedes_plain false held_quoted left (quoted path) test
          (rw c.in-Some.ensures.steps at c.files.invariant.quoted);
      plain = ap (λ ts. ts ++ filter is_plain left)
          (ap (map now_of) c.in_ok-push-2.ensures.items ∙ map-append now_of c.files.plain.items _
          ∙ ap (λ t. held_plain ++ t ∷ []) (c.path-path.ensures ∙ plain-quote path test))
          ∙ next-passing is_plain true held_plain left (quoted path) (ap not test)
          (rw c.in-Some.ensures.steps at c.files.invariant.plain);
    }
