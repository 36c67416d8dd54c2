use Rattle.std.proofs.Common.{◌≡◌, ◌∷◌, [], Some, None, Ok, map, sym, ap, ◌∙◌}
use Rattle.std.proofs.lemmas.List.{map-append}
use Rattle.std.specs.Option.{option_map}
use Rattle.nj_text.specs.Words.{word_model, plain_model}
use Rattle.nj_text.specs.Calls.{path_word_of}
use Rattle.nj_manifest.specs.Faults.{bad_unit}
use Rattle.nj_manifest.specs.LineSteps.{words_next, called}
use Rattle.nj_manifest.proofs.WordLimits.{words-turn, words-end, words-fail, units_left-word}
use Rattle.nj_manifest.proofs.CallsTaken.{gave, made-there, fails-by, handed-on}
use Rattle.nj_manifest.proofs.steps.words_next.Goals as goal

took-plain : (c : goal.In_ok-push-in-Word)
    → called (path_word_of c.words.lexer) ≡ Ok (Some (word_model c.plain.result), c.plain_word.new.self)
took-plain c =
    gave (Some (plain_model c.in-Word.spot c.in-Word.bytes.now)) c.plain_word.new.self
    (path_word_of c.words.lexer) c.in-Word.ensures
    ∙ ap (λ w. Ok (Some w, c.plain_word.new.self)) (sym c.plain.ensures)

took : (c : goal.In_ok-push-in-Some) → called (path_word_of c.words.lexer)
    ≡ Ok (Some (word_model c.in-Some.word), c.path_word.new.self)
took c =
    made-there path_word_of c.words.lexer c.plain_word.new.self _ c.in-Unknown.ensures
    (rw (ap (option_map word_model) (sym c.in-Some.is))
    (gave (option_map word_model c.in_ok-word-in-Unknown.field-0) c.path_word.new.self
    (path_word_of c.plain_word.new.self) c.in_ok-word-in-Unknown.ensures))

pub words-smaller-in-Continue-1 : goal.words-smaller-in-Continue-1
words-smaller-in-Continue-1 c = units_left-word c.words.lexer (word_model c.plain.result)
    c.plain_word.new.self (took-plain c)

pub words-preserved-in-Continue-1 : goal.words-preserved-in-Continue-1
words-preserved-in-Continue-1 c =
    let turned = words-turn (words_next c.args.lexer.now) (map word_model c.words.words.items) c.words.lexer
    (word_model c.plain.result) c.plain_word.new.self c.words.invariant (took-plain c) in
    let items = ap (map word_model) c.in_ok-push-in-Word.ensures.items
    ∙ map-append word_model c.words.words.items (c.plain.result ∷ []) in
    rw items turned

pub words-smaller : goal.words-smaller
words-smaller c = units_left-word c.words.lexer (word_model c.in-Some.word) c.path_word.new.self (took c)

pub words-preserved : goal.words-preserved
words-preserved c =
    let turned = words-turn (words_next c.args.lexer.now) (map word_model c.words.words.items) c.words.lexer
    (word_model c.in-Some.word) c.path_word.new.self c.words.invariant (took c) in
    let items = ap (map word_model) c.in_ok-push-in-Some.ensures.items
    ∙ map-append word_model c.words.words.items (c.in-Some.word ∷ []) in
    rw items turned

pub returns-in-NoWord : goal.returns-in-NoWord
returns-in-NoWord c =
    words-end (words_next c.args.lexer.now) (map word_model c.words.words.items) c.words.lexer
    c.plain_word.new.self c.words.invariant
    (gave None c.plain_word.new.self (path_word_of c.words.lexer) c.in-NoWord.ensures)

pub returns-in-None : goal.returns-in-None
returns-in-None c =
    let gone : called (path_word_of c.plain_word.new.self) ≡ Ok (None, c.path_word.new.self) =
    gave (option_map word_model c.in_ok-word-in-Unknown.field-0) c.path_word.new.self
    (path_word_of c.plain_word.new.self) c.in_ok-word-in-Unknown.ensures
    ∙ ap (λ w. Ok (option_map word_model w, c.path_word.new.self)) c.in-None.is in
    words-end (words_next c.args.lexer.now) (map word_model c.words.words.items) c.words.lexer
    c.path_word.new.self c.words.invariant
    (made-there path_word_of c.words.lexer c.plain_word.new.self _ c.in-Unknown.ensures gone)

pub returns-in_err-word-in-Unknown : goal.returns-in_err-word-in-Unknown
returns-in_err-word-in-Unknown c =
    let fault = c.in_err-word-in-Unknown.field-0.0 in
    let fails = fails-by fault c.plain_word.new.self c.path_word.new.self (path_word_of c.plain_word.new.self)
    (words_next c.args.lexer.now) c.in_err-word-in-Unknown.ensures
    (λ unit failed. words-fail (words_next c.args.lexer.now) (map word_model c.words.words.items)
    c.words.lexer (bad_unit unit) c.words.invariant
    (made-there path_word_of c.words.lexer c.plain_word.new.self _ c.in-Unknown.ensures failed)) in
    handed-on (λ words. map word_model words.items) fault c.from_residual-in_err-word-in-Unknown.result
    c.path_word.new.self (words_next c.args.lexer.now) c.from_residual-in_err-word-in-Unknown.ensures
    fails
