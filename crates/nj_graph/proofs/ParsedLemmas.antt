-- The items of a text, one after the other.
use Rattle.std.proofs.Common.{◌≡◌, ℕ, zero, suc, ◌<◌, Option, Some, None, Result, Ok, Err, List, [], ◌∷◌}
use Rattle.std.proofs.Common.{length, refl, sym, ap, subst, arith}
use Rattle.nj_text.specs.Lines.{Line, text_lines}
use Rattle.nj_manifest.specs.Faults.{Fault}
use Rattle.nj_manifest.specs.Dyndeps.{next_entry}
use Rattle.nj_manifest.specs.Openings.{Parse}
use Rattle.nj_manifest.specs.Statements.{next_statement}
use Rattle.nj_manifest.proofs.Starts.{ahead}
use Rattle.nj_manifest.proofs.Consumed.{statement_takes, text_has_bytes}
use Rattle.nj_manifest.proofs.DyndepMeasures.{entry-takes, version-takes}
use Rattle.nj_graph.specs.Joining.{after_version, entries_of}
use Rattle.nj_graph.specs.Laws.{FindsInTurn, at_end, at_fault, an_item, StatementsAreFoundInTurn}
use Rattle.nj_graph.specs.Laws.{EntriesAreFoundInTurn}
use Rattle.nj_graph.specs.Parsed.{Parsed, parsed_in, parsed_by}

abbrev pub none_parsed : {A : Type 0} → Option Fault → Parsed A
none_parsed fault = record { items = []; fault = fault }

abbrev pub and_parsed : {A : Type 0} → A → Parsed A → Parsed A
and_parsed item others = record { items = item ∷ others.items; fault = others.fault }

module _ {A : Type 0} (next : List Line → Parse (Option A)) where
  -- An item is the first of the items that are parsed; after it there are fewer lines.
  pub parsed-step : (most : ℕ) (ls rest : List Line) (item : A) → next ls ≡ Ok (Some item, rest)
      → ahead rest < ahead ls → ahead ls < most
      → (fewer : ℕ) × (parsed_in next most ls ≡ and_parsed item (parsed_in next fewer rest))
      × (ahead rest < fewer)
  unfolding parsed_in
  parsed-step zero ls rest item h takes less = absurd (omega (arith, less))
  parsed-step (suc most) ls rest item h takes less =
      (most, ap (λ r. parsed_by r (parsed_in next most)) h, omega (arith, less, takes))

  pub parsed-end : (most : ℕ) (ls rest : List Line) → next ls ≡ Ok (None, rest)
      → parsed_in next most ls ≡ none_parsed None
  unfolding parsed_in
  parsed-end zero ls rest h = refl
  parsed-end (suc most) ls rest h = ap (λ r. parsed_by r (parsed_in next most)) h

  pub parsed-fault : (most : ℕ) (ls : List Line) (f : Fault) → next ls ≡ Err f → ahead ls < most
      → parsed_in next most ls ≡ none_parsed (Some f)
  unfolding parsed_in
  parsed-fault zero ls f h less = absurd (omega (arith, less))
  parsed-fault (suc most) ls f h less = ap (λ r. parsed_by r (parsed_in next most)) h

  -- Where no item takes less than a line, they are found one after the other.
  pub found-in-turn : ((ls rest : List Line) (item : A) → next ls ≡ Ok (Some item, rest)
      → ahead rest < ahead ls) → (most : ℕ) (ls : List Line) → ahead ls < most
      → FindsInTurn next ls (parsed_in next most ls).items (parsed_in next most ls).fault
  unfolding parsed_in
  found-in-turn takes zero ls less = absurd (omega (arith, less))
  found-in-turn takes (suc most) ls less = by (next ls) refl (found-in-turn takes most)
    where
      by : (r : Parse (Option A)) → next ls ≡ r
          → ((rest : List Line) → ahead rest < most
          → FindsInTurn next rest (parsed_in next most rest).items (parsed_in next most rest).fault)
          → FindsInTurn next ls (parsed_by r (parsed_in next most)).items
          (parsed_by r (parsed_in next most)).fault
      by (Ok (Some item, rest)) is others =
          an_item is (others rest (omega (arith, less, takes ls rest item is)))
      by (Ok (None, rest)) is others = at_end is
      by (Err fault) is others = at_fault is

-- The lines of a text are few enough.
pub parsed-at-first : (text : List ℕ) → ahead (text_lines text) < suc (length text)
parsed-at-first text = let h = text_has_bytes text in omega (arith, h)

pub statements_are_found_in_turn : StatementsAreFoundInTurn
statements_are_found_in_turn text = found-in-turn next_statement (λ ls rest s. statement_takes ls s rest)
    (suc (length text)) (text_lines text) (parsed-at-first text)

pub entries_are_found_in_turn : EntriesAreFoundInTurn
unfolding entries_of
entries_are_found_in_turn text lines version =
    let takes : ahead lines < ahead (text_lines text) = version-takes (text_lines text) lines version in
    subst (λ (r : Result (List Line) Fault). FindsInTurn next_entry lines
    (after_version (suc (length text)) r).items (after_version (suc (length text)) r).fault) (sym version)
    (found-in-turn next_entry (λ ls rest entry. entry-takes ls entry rest) (suc (length text)) lines
    (omega (arith, takes, parsed-at-first text)))
