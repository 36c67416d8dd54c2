-- The entries of outputs: the last entry of each output counts.
use Rattle.std.proofs.Common.{◌≡◌, ◌⊎◌, inl, inr, ℕ, zero, suc, ◌+◌, ◌<◌, ◌≤◌, Bool, true, false, cond}
use Rattle.std.proofs.Common.{Option, Some, None, List, [], ◌∷◌, ◌++◌, length, map, drop, set, add-one, refl}
use Rattle.std.proofs.Common.{sym, ap, ap₂, ◌∙◌, subst, arith, true≢false, ◌||◌, length-append}
use Rattle.std.specs.Prelude.{slice_get, position, bytes_eq, option_map, fold, find, reverse, unwrap_or}
use Rattle.std.specs.Prelude.{is_some}
use Rattle.std.specs.List.{AllByRecursion}
use Rattle.std.proofs.lemmas.List.{reverse-append, map-append, append-nil, get_or-set_same, length-set}
use Rattle.std.proofs.lemmas.Option.{slice_get-get_or, slice_get_within}
use Rattle.std.proofs.lemmas.List.Sums.{fold-append}
use Rattle.std.proofs.lemmas.Slice.Eq.{bytes_eq-Decides}
use Rattle.std.proofs.lemmas.Grind.{common_steps}
use Rattle.nj_names.specs.NameTables.{is_among, with_name, name_at}
use Rattle.nj_build_log.specs.Logs.{LineModel, entry_of, outputs_of}
use Rattle.nj_build_log.specs.Inside.LinesHeld.{named, all_named, found_entry, AreLinesHeld, SetsEntry}
use Rattle.nj_build_log.specs.declared.entry.Entry.{Entry}
use Rattle.nj_build_log.specs.declared.line_table.HeldLine.{HeldLine}

both : (b : Bool) → (b ≡ true) ⊎ (b ≡ false)
both true = inl refl
both false = inr refl

same : (a b : List ℕ) → bytes_eq a b ≡ true → a ≡ b
same a b e = (bytes_eq-Decides a b).0 e

equal : (a : List ℕ) → bytes_eq a a ≡ true
equal a = (bytes_eq-Decides a a).1 refl

-- ---- where an output is found

position-here : {X : Type 0} (test : X → Bool) (x : X) (xs : List X) → test x ≡ true
    → position test (x ∷ xs) ≡ Some 0
position-here test x xs e = grind (arith, common_steps, e)

position-later : {X : Type 0} (test : X → Bool) (x : X) (xs : List X) → test x ≡ false
    → position test (x ∷ xs) ≡ option_map suc (position test xs)
position-later test x xs e = grind (arith, common_steps, e)

later-some : (o : Option ℕ) (number : ℕ) → option_map suc o ≡ Some number
    → (n : ℕ) × (o ≡ Some n) × (number ≡ suc n)
later-some None number e = absurd (true≢false (ap is_some (sym e)))
later-some (Some n) number e = (n, refl, sym (ap (λ o. unwrap_or o 0) e))

later-none : (o : Option ℕ) → option_map suc o ≡ None → o ≡ None
later-none None e = refl
later-none (Some n) e = absurd (true≢false (ap is_some e))

-- the entry at the number of an output
pub found-at : (outputs : List (List ℕ)) (entries : List Entry) (output : List ℕ) (number : ℕ)
    → length entries ≡ length outputs → position (bytes_eq output) outputs ≡ Some number
    → (found_entry outputs entries output ≡ slice_get entries number) × (number < length outputs)
    × (slice_get outputs number ≡ Some output)
found-at [] entries output number count is = absurd (true≢false (ap is_some (sym is)))
found-at (other ∷ outputs) [] output number count is = absurd (omega (arith, count))
found-at (other ∷ outputs) (entry ∷ entries) output number count is = elim (both (bytes_eq output other)) [
  | inl here ↦
      (let zero_is : number ≡ 0 = sym (ap (λ o. unwrap_or o 0)
      (sym (position-here (bytes_eq output) other outputs here) ∙ is)) in (
        ap (λ b. cond b (Some entry) (found_entry outputs entries output)) here
            ∙ ap (slice_get (entry ∷ entries)) (sym zero_is),
        omega (arith, zero_is),
        ap (slice_get (other ∷ outputs)) zero_is ∙ ap Some (sym (same output other here)),
      ))
  | inr later ↦
      (let next = later-some (position (bytes_eq output) outputs) number
      (sym (position-later (bytes_eq output) other outputs later) ∙ is) in
      let rest = found-at outputs entries output next.0 (omega (arith, count)) next.1 in (
        ap (λ b. cond b (Some entry) (found_entry outputs entries output)) later ∙ rest.0
            ∙ ap (slice_get (entry ∷ entries)) (sym next.2),
        omega (arith, next.2, rest.1),
        ap (slice_get (other ∷ outputs)) next.2 ∙ rest.2,
      ))
]

pub none-named : (found : Option ℕ) (outputs : List (List ℕ)) (output : List ℕ)
    → is_some found ≡ is_among outputs output → ((n : ℕ) → found ≡ Some n → ⊥)
    → is_among outputs output ≡ false
none-named None outputs output e none = sym e
none-named (Some n) outputs output e none = absurd (none n refl)

-- an output that is not named has no entry
pub not-found : (outputs : List (List ℕ)) (entries : List Entry) (output : List ℕ)
    → position (bytes_eq output) outputs ≡ None → found_entry outputs entries output ≡ None
not-found [] entries output is = refl
not-found (other ∷ outputs) [] output is = refl
not-found (other ∷ outputs) (entry ∷ entries) output is = elim (both (bytes_eq output other)) [
  | inl here ↦ absurd (true≢false (ap is_some
      (sym (position-here (bytes_eq output) other outputs here) ∙ is)))
  | inr later ↦ ap (λ b. cond b (Some entry) (found_entry outputs entries output)) later
      ∙ not-found outputs entries output (later-none (position (bytes_eq output) outputs)
      (sym (position-later (bytes_eq output) other outputs later) ∙ is))
]

-- ---- an entry is set

apart : (output other name : List ℕ) → bytes_eq other output ≡ false → bytes_eq output name ≡ true
    → bytes_eq other name ≡ false
apart output other name e here = subst (λ (n : List ℕ). bytes_eq other n ≡ false) (same output name here) e

set-others : (outputs : List (List ℕ)) (entries : List Entry) (output : List ℕ) (entry : Entry) (number : ℕ)
    → length entries ≡ length outputs → position (bytes_eq output) outputs ≡ Some number
    → (other : List ℕ) → bytes_eq other output ≡ false
    → found_entry outputs (set entries number entry) other ≡ found_entry outputs entries other
set-others [] entries output entry number count is other e = absurd (true≢false (ap is_some (sym is)))
set-others (name ∷ outputs) [] output entry number count is other e = absurd (omega (arith, count))
set-others (name ∷ outputs) (old ∷ entries) output entry number count is other e =
    elim (both (bytes_eq output name)) [
      | inl here ↦
          (let zero_is : number ≡ 0 = sym (ap (λ o. unwrap_or o 0)
          (sym (position-here (bytes_eq output) name outputs here) ∙ is)) in
          let no = apart output other name e here in
          ap (λ n. found_entry (name ∷ outputs) (set (old ∷ entries) n entry) other) zero_is
          ∙ ap (λ b. cond b (Some entry) (found_entry outputs entries other)) no
          ∙ sym (ap (λ b. cond b (Some old) (found_entry outputs entries other)) no))
      | inr later ↦
          (let next = later-some (position (bytes_eq output) outputs) number
          (sym (position-later (bytes_eq output) name outputs later) ∙ is) in
          ap (λ n. found_entry (name ∷ outputs) (set (old ∷ entries) n entry) other) next.2
          ∙ ap (λ o. cond (bytes_eq other name) (Some old) o)
          (set-others outputs entries output entry next.0 (omega (arith, count)) next.1 other e))
    ]

pub set-known : (outputs : List (List ℕ)) (entries : List Entry) (output : List ℕ) (entry : Entry)
    (number : ℕ)
    → length entries ≡ length outputs → position (bytes_eq output) outputs ≡ Some number
    → SetsEntry output entry outputs outputs entries (set entries number entry)
set-known outputs entries output entry number count is =
    let long : length (set entries number entry) ≡ length outputs = length-set entries number entry ∙ count in
    let at = found-at outputs (set entries number entry) output number long is in
    record {
      count = long;
      same = at.0 ∙ slice_get-get_or (set entries number entry) number entry (omega (arith, long, at.1))
          ∙ ap Some (get_or-set_same entries number entry entry (omega (arith, count, at.1)));
      others = set-others outputs entries output entry number count is;
    }

push-others : (outputs : List (List ℕ)) (entries : List Entry) (output : List ℕ) (entry : Entry)
    → length entries ≡ length outputs → (other : List ℕ) → bytes_eq other output ≡ false
    → found_entry (outputs ++ output ∷ []) (entries ++ entry ∷ []) other ≡ found_entry outputs entries other
push-others [] [] output entry count other e = ap (λ b. cond b (Some entry) None) e
push-others [] (old ∷ entries) output entry count other e = absurd (omega (arith, count))
push-others (name ∷ outputs) [] output entry count other e = absurd (omega (arith, count))
push-others (name ∷ outputs) (old ∷ entries) output entry count other e =
    ap (λ o. cond (bytes_eq other name) (Some old) o)
    (push-others outputs entries output entry (omega (arith, count)) other e)

push-same : (outputs : List (List ℕ)) (entries : List Entry) (output : List ℕ) (entry : Entry)
    → length entries ≡ length outputs → is_among outputs output ≡ false
    → found_entry (outputs ++ output ∷ []) (entries ++ entry ∷ []) output ≡ Some entry
push-same [] [] output entry count new = ap (λ b. cond b (Some entry) None) (equal output)
push-same [] (old ∷ entries) output entry count new = absurd (omega (arith, count))
push-same (name ∷ outputs) [] output entry count new = absurd (omega (arith, count))
push-same (name ∷ outputs) (old ∷ entries) output entry count new = elim (both (bytes_eq output name)) [
  | inl here ↦ absurd (true≢false (sym (ap (λ b. b || is_among outputs output) here) ∙ new))
  | inr later ↦ ap (λ b. cond b (Some old)
      (found_entry (outputs ++ output ∷ []) (entries ++ entry ∷ []) output)) later
      ∙ push-same outputs entries output entry (omega (arith, count))
      (sym (ap (λ b. b || is_among outputs output) later) ∙ new)
]

pub set-new : (outputs : List (List ℕ)) (entries : List Entry) (output : List ℕ) (entry : Entry)
    → length entries ≡ length outputs → is_among outputs output ≡ false
    → SetsEntry output entry outputs (with_name outputs output) entries (entries ++ entry ∷ [])
set-new outputs entries output entry count new =
    subst (λ (os : List (List ℕ)). SetsEntry output entry outputs os entries (entries ++ entry ∷ []))
    (sym (ap (λ b. cond b outputs (outputs ++ output ∷ [])) new))
    (record {
      count = omega (arith, count, length-append outputs (output ∷ []), length-append entries (entry ∷ []));
      same = push-same outputs entries output entry count new;
      others = push-others outputs entries output entry count;
    })

-- ---- a line is added

name-kept : (outputs others : List (List ℕ)) (number : ℕ) → number < length outputs
    → name_at (outputs ++ others) number ≡ name_at outputs number
name-kept [] others number within = absurd (omega arith)
name-kept (name ∷ outputs) others zero within = refl
name-kept (name ∷ outputs) others (suc number) within = name-kept outputs others number (omega arith)

names-kept : (outputs others : List (List ℕ)) (lines : List HeldLine)
    → AllByRecursion (λ line. line.output < length outputs) lines
    → all_named (outputs ++ others) lines ≡ all_named outputs lines
names-kept outputs others [] known = refl
names-kept outputs others (line ∷ lines) known =
    ap₂ (λ (n : List ℕ) (ls : List LineModel). record { output = n; entry = line.entry } ∷ ls)
    (name-kept outputs others line.output known.0) (names-kept outputs others lines known.1)

grows : (outputs : List (List ℕ)) (name : List ℕ)
    → (others : List (List ℕ)) × (with_name outputs name ≡ outputs ++ others)
grows outputs name = elim (both (is_among outputs name)) [
  | inl known ↦ ([], ap (λ b. cond b outputs (outputs ++ name ∷ [])) known ∙ sym (append-nil outputs))
  | inr new ↦ (name ∷ [], ap (λ b. cond b outputs (outputs ++ name ∷ [])) new)
]

known-push : (count more : ℕ) (lines : List HeldLine) (line : HeldLine) → count ≤ more
    → AllByRecursion (λ l. l.output < count) lines → line.output < more
    → AllByRecursion (λ l. l.output < more) (lines ++ line ∷ [])
known-push count more [] line le known here = (here, tt)
known-push count more (first ∷ lines) line le known here =
    (omega (arith, known.0), known-push count more lines line le known.1 here)

pub entry-push : (lines : List LineModel) (line : LineModel) (output : List ℕ)
    → entry_of (lines ++ line ∷ []) output
    ≡ cond (bytes_eq output line.output) (Some line.entry) (entry_of lines output)
entry-push lines line output =
    ap (λ ls. option_map (λ l. l.entry) (find (λ l. bytes_eq output l.output) ls))
    (reverse-append lines (line ∷ []))
    ∙ by (bytes_eq output line.output)
  where
    by : (b : Bool) → option_map (λ l. l.entry)
        (cond b (Some line) (find (λ l. bytes_eq output l.output) (reverse lines)))
        ≡ cond b (Some line.entry) (entry_of lines output)
    by true = refl
    by false = refl

outputs-push : (lines : List LineModel) (line : LineModel)
    → outputs_of (lines ++ line ∷ []) ≡ with_name (outputs_of lines) line.output
outputs-push lines line =
    ap (fold with_name []) (map-append (λ l. l.output) lines (line ∷ []))
    ∙ fold-append with_name [] (map (λ l. l.output) lines) (line.output ∷ [])

-- the lines with one more line
pub view-push : (outputs : List (List ℕ)) (lines : List HeldLine) (entries : List Entry) (output : List ℕ)
    (line : HeldLine)
    → AreLinesHeld outputs lines entries → slice_get (with_name outputs output) line.output ≡ Some output
    → all_named (with_name outputs output) (lines ++ line ∷ [])
    ≡ all_named outputs lines ++ record { output = output; entry = line.entry } ∷ []
view-push outputs lines entries output line held at =
    let more = grows outputs output in
    let old : all_named (with_name outputs output) lines ≡ all_named outputs lines =
    ap (λ os. all_named os lines) more.1 ∙ names-kept outputs more.0 lines held.known in
    let new : name_at (with_name outputs output) line.output ≡ output = ap (λ o. unwrap_or o []) at in
    map-append (named (with_name outputs output)) lines (line ∷ [])
    ∙ ap₂ (λ (ls : List LineModel) (n : List ℕ). ls ++ record { output = n; entry = line.entry } ∷ []) old new

pub held-push : (outputs : List (List ℕ)) (lines : List HeldLine) (entries new : List Entry) (output : List ℕ)
    (line : HeldLine)
    → AreLinesHeld outputs lines entries → slice_get (with_name outputs output) line.output ≡ Some output
    → SetsEntry output line.entry outputs (with_name outputs output) entries new
    → AreLinesHeld (with_name outputs output) (lines ++ line ∷ []) new
held-push outputs lines entries new output line held at sets =
    let more = grows outputs output in
    let model : LineModel = record { output = output; entry = line.entry } in
    let view = view-push outputs lines entries output line held at in
    let within = slice_get_within (with_name outputs output) line.output output at in
    let longer : length outputs ≤ length (with_name outputs output) =
    omega (arith, ap length more.1, length-append outputs more.0) in
    record {
      outputs_named = ap (λ os. with_name os output) held.outputs_named
          ∙ sym (outputs-push (all_named outputs lines) model) ∙ ap outputs_of (sym view);
      known = known-push (length outputs) (length (with_name outputs output)) lines line longer held.known
          within;
      count = sets.count;
      last = λ q. ap (λ ls. entry_of ls q) view ∙ entry-push (all_named outputs lines) model q
          ∙ by q (both (bytes_eq q output));
    }
  where
    by : (q : List ℕ) → (bytes_eq q output ≡ true) ⊎ (bytes_eq q output ≡ false)
        → cond (bytes_eq q output) (Some line.entry) (entry_of (all_named outputs lines) q)
        ≡ found_entry (with_name outputs output) new q
    by q (inl here) = ap (λ b. cond b (Some line.entry) (entry_of (all_named outputs lines) q)) here
        ∙ sym (ap (found_entry (with_name outputs output) new) (same q output here) ∙ sets.same)
    by q (inr other) = ap (λ b. cond b (Some line.entry) (entry_of (all_named outputs lines) q)) other
        ∙ held.last q ∙ sym (sets.others q other)

-- the first of the remaining outputs
pub first-left : (outputs : List (List ℕ)) (n : ℕ) (output : List ℕ) → slice_get outputs n ≡ Some output
    → drop n outputs ≡ output ∷ drop (n + 1) outputs
first-left outputs n output at = rw (add-one n) (from outputs n at)
  where
    from : (os : List (List ℕ)) (i : ℕ) → slice_get os i ≡ Some output → drop i os ≡ output ∷ drop (suc i) os
    from [] i none = absurd (true≢false (sym (ap is_some none)))
    from (o ∷ os) zero first = ap (λ q. q ∷ os) (ap (λ o. unwrap_or o output) first)
    from (o ∷ os) (suc i) more = from os i more

-- the line at an index
pub line-at : (outputs : List (List ℕ)) (lines : List HeldLine) (index : ℕ) (line : HeldLine)
    (output : List ℕ)
    → slice_get lines index ≡ Some line → slice_get outputs line.output ≡ Some output
    → slice_get (all_named outputs lines) index ≡ Some (record { output = output; entry = line.entry })
line-at outputs [] index line output at name = absurd (true≢false (sym (ap is_some at)))
line-at outputs (first ∷ lines) zero line output at name =
    ap (λ (l : HeldLine). Some (named outputs l)) (ap (λ o. unwrap_or o line) at)
    ∙ ap (λ (n : List ℕ). Some (record { output = n; entry = line.entry })) (ap (λ o. unwrap_or o []) name)
line-at outputs (first ∷ lines) (suc index) line output at name =
    line-at outputs lines index line output at name

-- and its output is named
pub line-known : (count : ℕ) (lines : List HeldLine) (index : ℕ) (line : HeldLine)
    → AllByRecursion (λ l. l.output < count) lines → slice_get lines index ≡ Some line → line.output < count
line-known count [] index line known at = absurd (true≢false (sym (ap is_some at)))
line-known count (first ∷ lines) zero line known at =
    subst (λ (l : HeldLine). l.output < count) (ap (λ o. unwrap_or o line) at) known.0
line-known count (first ∷ lines) (suc index) line known at = line-known count lines index line known.1 at

pub held-added : (outputs new_outputs : List (List ℕ)) (lines new_lines : List HeldLine)
    (entries new_entries : List Entry)
    (output : List ℕ) (line : HeldLine) → AreLinesHeld outputs lines entries
    → new_outputs ≡ with_name outputs output → new_lines ≡ lines ++ line ∷ []
    → slice_get new_outputs line.output ≡ Some output
    → SetsEntry output line.entry outputs new_outputs entries new_entries
    → AreLinesHeld new_outputs new_lines new_entries
held-added outputs new_outputs lines new_lines entries new_entries output line held e f at sets =
    subst (λ (ls : List HeldLine). AreLinesHeld new_outputs ls new_entries) (sym f)
    (subst (λ (os : List (List ℕ)). AreLinesHeld os (lines ++ line ∷ []) new_entries) (sym e)
    (held-push outputs lines entries new_entries output line held
    (subst (λ (os : List (List ℕ)). slice_get os line.output ≡ Some output) e at)
    (subst (λ (os : List (List ℕ)). SetsEntry output line.entry outputs os entries new_entries) e sets)))

pub view-added : (outputs new_outputs : List (List ℕ)) (lines new_lines : List HeldLine)
    (entries : List Entry)
    (output : List ℕ) (line : HeldLine) → AreLinesHeld outputs lines entries
    → new_outputs ≡ with_name outputs output → new_lines ≡ lines ++ line ∷ []
    → slice_get new_outputs line.output ≡ Some output
    → all_named new_outputs new_lines ≡ all_named outputs lines
    ++ record { output = output; entry = line.entry } ∷ []
view-added outputs new_outputs lines new_lines entries output line held e f at =
    ap₂ all_named e f
    ∙ view-push outputs lines entries output line held
    (subst (λ (os : List (List ℕ)). slice_get os line.output ≡ Some output) e at)
