-- The request, by the rows that `clap` reads in the arguments.
use Rattle.std.proofs.Common.{◌≡◌, ◌⊎◌, ℕ, Bool, true, false, List, [], ◌∷◌, ◌<◌, ◌≤◌, length, map, Option}
use Rattle.std.proofs.Common.{Some, None, Result, Ok, Err, refl, sym, ap, ◌∙◌, inl, inr, arith, String}
use Rattle.std.proofs.Common.{Global}
use Rattle.std.specs.Prelude.{string_bytes, option_map, unwrap_or, ok_or, codes, not, if◌then◌else◌}
use Rattle.std.specs.Borrow.{Bor}
use Rattle.clap.specs.Walk.{is_empty}
use Rattle.clap.specs.Words.{Row, fault_of, matched_of, matches_of, raw_values, rows_of}
use Rattle.clap.specs.declared.parser.matches.Found.{Found}
use Rattle.clap.proofs.WalkLemmas.{raw_values-rows}
use Rattle.nj_manifest.specs.LineSteps.{◌>>=◌}
use Rattle.nj_args.specs.CommandLine.{command}
use Rattle.nj_args.specs.Fields.{words_in}
use Rattle.nj_args.specs.Inside.Held.{given_request, is_refused, word_strings, wordless}
use Rattle.nj_requests.specs.Actions.{RequestModel}
use Rattle.nj_args.specs.Requests.{request_in, request_of}
use Rattle.nj_args.specs.declared.usage_fault.UsageFault.{UsageFault}
use Rattle.nj_args.specs.declared.usage_fault.UsageFault.TheVariants.{Unparsed, OutOfMemory}

-- the arguments of the matches
pub words_held : (words : Option (Bor (List (Bor (List ℕ))))) (found : Found)
    → option_map (λ strings. map (λ text. text.now) strings.now) words
    ≡ option_map raw_values (matched_of found (codes "words"))
    → word_strings words ≡ words_in (rows_of found)
words_held words found e = ap (λ strings. unwrap_or strings []) (e ∙ raw_values-rows found (codes "words"))

abbrev asked_of : (faultless : Bool) → List Row → Result RequestModel UsageFault
asked_of faultless rows = ok_or (if faultless then Some rows else None) Unparsed >>= request_in

not_refused : (faultless : Bool) (rows : List Row) → not faultless ≡ false
    → asked_of faultless rows ≡ request_in rows
not_refused true rows e = refl
not_refused false rows e = absurd (cc)

is_unparsed : (faultless : Bool) (rows : List Row) → not faultless ≡ true
    → asked_of faultless rows ≡ Err Unparsed
is_unparsed false rows e = refl
is_unparsed true rows e = absurd (cc)

pub given : (words : List (List ℕ)) (rows : List Row) → is_refused words ≡ false
    → rows ≡ matches_of command words
    → given_request words ≡ request_in rows
given words rows read same =
    not_refused (is_empty (fault_of command words)) (matches_of command words) read ∙ ap request_in (sym same)

unparsed_fault : (words : List (List ℕ)) (fault : UsageFault) → fault ≡ Unparsed
    → given_request words ≡ Err Unparsed → given_request words ≡ Err fault
unparsed_fault words fault e asked = asked ∙ ap Err (sym e)

pub unparsed : (words : List (List ℕ)) (fault : UsageFault)
    → (fault ≡ OutOfMemory) ⊎ ((fault ≡ Unparsed) × (is_refused words ≡ true))
    → (fault ≡ OutOfMemory) ⊎ (given_request words ≡ Err fault)
unparsed words fault (inl e) = inl e
unparsed words fault (inr e) =
    inr (unparsed_fault words fault e.0 (is_unparsed (is_empty (fault_of command words))
    (matches_of command words) e.1))

pub of_none : (words : List (String Global)) → length words < 1
    → request_of (map string_bytes words) ≡ Ok wordless
unfolding request_of
of_none [] h = refl
of_none (word ∷ words) h = absurd (omega arith)

pub of_some : (words : List (String Global)) → 1 ≤ length words
    → request_of (map string_bytes words) ≡ given_request (map string_bytes words)
unfolding request_of
of_some [] h = absurd (omega arith)
of_some (word ∷ words) h = refl

-- the same fault of equal results
pub same_fault : (asked meant : Result RequestModel UsageFault) (fault : UsageFault) → asked ≡ meant
    → (fault ≡ OutOfMemory) ⊎ (meant ≡ Err fault) → (fault ≡ OutOfMemory) ⊎ (asked ≡ Err fault)
same_fault asked meant fault e (inl memory) = inl memory
same_fault asked meant fault e (inr reported) = inr (e ∙ reported)
