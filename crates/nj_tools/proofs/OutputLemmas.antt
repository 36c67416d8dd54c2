-- How texts are added to an output one after another.
use Rattle.std.proofs.Common.{◌≡◌, ℕ, List, [], ◌∷◌, ◌++◌, Bor, Result, map, flat_map}
use Rattle.std.proofs.Common.{Ok, Err, refl, sym, ap, subst, ◌∙◌, append_assoc, append-nil}
use Rattle.std.specs.List.{AllByRecursion}
use Rattle.std.specs.Result.{IsErrAnd}
use Rattle.std.proofs.lemmas.Result.{err_from_is_err_and}
use Rattle.nj_scope.specs.Readings.{IsPrefix}
use Rattle.nj_tools.specs.Sinks.{SinkState, Takes}
use Rattle.nj_tools.specs.declared.output.Output.{Output}
use Rattle.nj_tools.specs.declared.tool_fault.ToolFault.{ToolFault}
use Rattle.nj_tools.specs.declared.tool_fault.ToolFault.TheVariants.{TextNotUtf8, Write, OutOfMemory}
use Rattle.nj_tools.specs.Inside.Blocks.{IsUnderway}
use Rattle.nj_tools.specs.Inside.Outputs.{Adds, Stops, PutsText, Leaves, LeavesEach}
use Rattle.nj_tools.specs.Texts.{StopsWithin, WritesText}
use Rattle.nj_tools.proofs.SinkLemmas.{Takes-nil, Takes-trans, FailsAfter-trans}

-- ---- prefixes

-- a text begins itself
pub front-is : (text : List ℕ) {whole : List ℕ} → text ≡ whole → IsPrefix text whole
front-is text is = ([], sym is ∙ sym (append-nil text))

-- the first of two texts that begin another
pub front-of : (text more : List ℕ) {whole : List ℕ} → IsPrefix (text ++ more) whole → IsPrefix text whole
front-of text more (rest, is) = (more ++ rest, is ∙ append_assoc text more rest)

-- ---- a text on its way, by the states of a sink

module _ (old new : SinkState) (text more : List ℕ) where
  -- after the text this stopped within what was left of it and more
  stops-later : (between : SinkState) (left : List ℕ) (fault : ToolFault) → IsUnderway old between text left
      → StopsWithin between new (left ++ more) fault → StopsWithin old new (text ++ more) fault
  stops-later between left Write (front, parts, taken) (sent, (rest, joined, some), failed) = (
    front ++ sent,
    (
      rest,
      append_assoc front sent rest ∙ ap (λ t. front ++ t) joined ∙ sym (append_assoc front left more)
          ∙ sym (ap (λ t. t ++ more) parts),
      some,
    ),
    FailsAfter-trans _ _ _ _ _ taken failed,
  )
  stops-later between left OutOfMemory (front, parts, taken) (sent, (rest, joined), sent_taken) = (
    front ++ sent,
    (
      rest,
      ap (λ t. t ++ more) parts ∙ append_assoc front left more ∙ ap (λ t. front ++ t) joined
          ∙ sym (append_assoc front sent rest),
    ),
    Takes-trans _ _ _ _ _ taken sent_taken,
  )
  stops-later between left (TextNotUtf8 refused) so_far stops = stops

  -- a stop within a text is a stop within any text that it begins
  stops-sooner : (fault : ToolFault) → StopsWithin old new text fault
      → StopsWithin old new (text ++ more) fault
  stops-sooner Write (front, (rest, joined, some), failed) = (
    front,
    (rest ++ more, sym (append_assoc front rest more) ∙ ap (λ t. t ++ more) joined, some_more rest some),
    failed,
  )
    where
      some_more : (rest : List ℕ) → (rest ≡ [] → ⊥) → rest ++ more ≡ [] → ⊥
      some_more [] some nil = some refl
      some_more (b ∷ rest) some nil = absurd cc
  stops-sooner OutOfMemory (front, (rest, joined), taken) =
      (front, (rest ++ more, ap (λ t. t ++ more) joined ∙ append_assoc front rest more), taken)
  stops-sooner (TextNotUtf8 refused) stops = stops

pub stops-front : (old new : SinkState) (text whole : List ℕ) (fault : ToolFault) → IsPrefix text whole
    → StopsWithin old new text fault → StopsWithin old new whole fault
stops-front old new text whole fault (more, is) stops =
    subst (λ t. StopsWithin old new t fault) (sym is) (stops-sooner old new text more fault stops)

-- ---- a text after another

-- nothing was pending at first, and this is how the sink was left
abbrev pub Begins : {S : Type 0} → (sink last new : S) → (old : Output S) → Type 0
Begins sink last new old = (old.sink.now ≡ sink) × (old.pending.now.items ≡ []) × (new ≡ last)

module _ {S : Type 0} {state : S → SinkState} where
  -- nothing was added
  pub adds-nothing : (out : Output S) → Adds state out out []
  adds-nothing out =
      record { underway = ([], append-nil out.pending.now.items, Takes-nil (state out.sink.now)) }

  pub adds-is : {old new : Output S} {text : List ℕ} (whole : List ℕ) → text ≡ whole
      → Adds state old new text → Adds state old new whole
  adds-is {old} {new} whole is adds = subst (Adds state old new) is adds

  -- a text became pending, and the sink took nothing
  pub adds-pending : {old new : Output S} (text : List ℕ) → new.sink.now ≡ old.sink.now
      → new.pending.now.items ≡ old.pending.now.items ++ text → Adds state old new text
  adds-pending {old} text same is =
      let nothing = subst (λ s. Takes (state old.sink.now) (state s) []) (sym same) (Takes-nil _) in
      record { underway = ([], sym is, nothing) }

  -- two texts, which make up a third
  pub adds-next : {old between new : Output S} {text more : List ℕ} (whole : List ℕ) → text ++ more ≡ whole
      → Adds state old between text → Adds state between new more → Adds state old new whole
  adds-next {old} {between} {new} {text} {more} whole is first second =
      let (front, parts, taken) = first.underway in
      let (sent, rest, sent_taken) = second.underway in
      let before = old.pending.now.items in
      let joined =
      ap (λ t. before ++ t) (sym is) ∙ sym (append_assoc before text more) ∙ ap (λ t. t ++ more) parts
      ∙ append_assoc front between.pending.now.items more ∙ ap (λ t. front ++ t) rest
      ∙ sym (append_assoc front sent new.pending.now.items) in
      record { underway = (front ++ sent, joined, Takes-trans _ _ _ _ _ taken sent_taken) }

  -- a stop within a text is a stop within any text that it begins
  pub stops-before : {old new : Output S} {text : List ℕ} {fault : ToolFault} (whole : List ℕ)
      → IsPrefix text whole → Stops state old new text fault → Stops state old new whole fault
  stops-before {old} {text = text} {fault = fault} whole (more, is) stops =
      let before = old.pending.now.items in
      let longer = ap (λ t. before ++ t) is ∙ sym (append_assoc before text more) in
      record { within = stops-front _ _ (before ++ text) (before ++ whole) fault (more, longer) stops.within }

  -- a stop within the second of two texts
  pub stops-next : {old between new : Output S} {text more : List ℕ} {fault : ToolFault} (whole : List ℕ)
      → IsPrefix (text ++ more) whole → Adds state old between text → Stops state between new more fault
      → Stops state old new whole fault
  stops-next {old} {between} {new} {text} {more} {fault} whole front first second =
      let before = old.pending.now.items in
      let within = stops-later (state old.sink.now) (state new.sink.now) (before ++ text) more
      (state between.sink.now) between.pending.now.items fault first.underway second.within in
      let joined = subst (λ t. StopsWithin (state old.sink.now) (state new.sink.now) t fault)
      (append_assoc before text more) within in
      stops-before whole front (record { within = joined })

  -- memory ran out after a text
  pub stops-here : {old new : Output S} {text : List ℕ} (whole : List ℕ) → IsPrefix text whole
      → Adds state old new text → Stops state old new whole OutOfMemory
  stops-here {old} {new} {text} whole (more, is) so_far =
      let (front, parts, taken) = so_far.underway in
      let before = old.pending.now.items in
      let left = new.pending.now.items in
      let joined =
      ap (λ t. before ++ t) is ∙ sym (append_assoc before text more) ∙ ap (λ t. t ++ more) parts
      ∙ append_assoc front left more in
      record { within = (front, (left ++ more, joined), taken) }

  -- the fault that is answered
  pub stops-with : {X : Type 0} {old new : Output S} {text : List ℕ} {fault : ToolFault}
      (result : Result X ToolFault) → IsErrAnd result (λ e. e ≡ fault) → Stops state old new text fault
      → PutsText state old new text result
  stops-with result err stops = let (e, is, same) = err_from_is_err_and result err in rw (is, same) stops

  -- one text, and another after it
  pub puts-next : {X : Type 0} {old between : Output S} {text : List ℕ} (new : Output S) (more whole : List ℕ)
      (result : Result X ToolFault) → text ++ more ≡ whole → Adds state old between text
      → PutsText state between new more result → PutsText state old new whole result
  puts-next new more whole (Ok done) is first second = adds-next whole is first second
  puts-next new more whole (Err fault) is first second = stops-next whole (front-is _ is) first second

  -- ---- a text that was added to an empty buffer

  module _ {old out : Output S} {text : List ℕ} where
    -- a fault stopped it within
    pub sink-stops : {fault : ToolFault} (sink new : S) → Begins sink out.sink.now new old
        → Stops state old out text fault → StopsWithin (state sink) (state new) text fault
    sink-stops {fault} sink new (same, none, is) stops =
        rw (← same, is)
        (subst (λ t. StopsWithin (state old.sink.now) (state out.sink.now) (t ++ text) fault) none
        stops.within)

    -- the sink took all that was pending
    pub sink-takes : (sink last new : S) → Begins sink last new old → Adds state old out text
        → Takes (state out.sink.now) (state last) out.pending.now.items → Takes (state sink) (state new) text
    sink-takes sink last new (same, none, is) first taken =
        let (front, parts, before) = first.underway in
        let all = Takes-trans _ _ _ _ _ before taken in
        rw (← same, is)
        (subst (Takes (state old.sink.now) (state last)) (sym parts ∙ ap (λ t. t ++ text) none) all)

    -- the sink failed within what was pending
    pub sink-fails : (sink last new : S) (fault : ToolFault) → Begins sink last new old
        → Adds state old out text
        → StopsWithin (state out.sink.now) (state last) out.pending.now.items fault
        → StopsWithin (state sink) (state new) text fault
    sink-fails sink last new fault (same, none, is) first stops =
        let left = out.pending.now.items in
        let more =
        subst (λ t. StopsWithin (state out.sink.now) (state last) t fault) (sym (append-nil left)) stops in
        let all = stops-later (state old.sink.now) (state last) (old.pending.now.items ++ text) []
        (state out.sink.now) left fault first.underway more in
        rw (← same, is)
        (subst (λ t. StopsWithin (state old.sink.now) (state last) t fault)
        (append-nil (old.pending.now.items ++ text) ∙ ap (λ t. t ++ text) none) all)

    -- the fault of the text is answered
    pub text-stopped : {X : Type 0} {fault : ToolFault} (sink new : S) (result : Result X ToolFault)
        → Begins sink out.sink.now new old → IsErrAnd result (λ e. e ≡ fault) → Stops state old out text fault
        → WritesText (state sink) (state new) text result
    text-stopped sink new result begins err stops =
        let (e, was, what) = err_from_is_err_and result err in
        rw (was, what) (sink-stops sink new begins stops)

    -- what was pending is written, and the result of that is answered
    pub text-written : {X : Type 0} (sink last new : S) (result : Result X ToolFault)
        → Begins sink last new old
        → Adds state old out text → WritesText (state out.sink.now) (state last) out.pending.now.items result
        → WritesText (state sink) (state new) text result
    text-written sink last new (Ok done) begins first taken = sink-takes sink last new begins first taken
    text-written sink last new (Err fault) begins first stops =
        sink-fails sink last new fault begins first stops

-- texts, each with the byte that ends it
abbrev pub ended : ℕ → List (Bor (List ℕ)) → List ℕ
ended end texts = flat_map (λ text. text ++ end ∷ []) (map (λ text. text.now) texts)

-- ---- what is left of a text

module _ {S : Type 0} {state : S → SinkState} where
  -- all of it, at first
  pub leaves_all : (out : Output S) (whole left : List ℕ) → left ≡ whole → Leaves state out out whole left
  leaves_all out whole left is = record { text = []; added = adds-nothing out; parts = is }

  pub leaves_same : {old now : Output S} {whole before : List ℕ} (left : List ℕ)
      → Leaves state old now whole before → before ≡ left → Leaves state old now whole left
  leaves_same {old} {now} {whole} left so_far is = subst (Leaves state old now whole) is so_far

  -- nothing more
  pub leaves_none : {old now : Output S} {whole left : List ℕ} → Leaves state old now whole left → left ≡ []
      → Adds state old now whole
  leaves_none so_far none =
      adds-is _ (sym (append-nil so_far.text) ∙ ap (λ t. so_far.text ++ t) (sym none) ∙ so_far.parts)
      so_far.added

  -- the first part of it was added
  pub leaves_next : {old now new : Output S} {whole before : List ℕ} (part left : List ℕ)
      → Leaves state old now whole before → before ≡ part ++ left → Adds state now new part
      → Leaves state old new whole left
  leaves_next part left so_far is next = record {
    text = so_far.text ++ part;
    added = adds-next _ refl so_far.added next;
    parts = append_assoc so_far.text part left ∙ ap (λ t. so_far.text ++ t) (sym is) ∙ so_far.parts;
  }

  -- a fault stopped it within that part
  pub stops_next : {old now new : Output S} {whole before : List ℕ} {fault : ToolFault} (part left : List ℕ)
      → Leaves state old now whole before → before ≡ part ++ left → Stops state now new part fault
      → Stops state old new whole fault
  stops_next part left so_far is stops =
      stops-next _ (
        left,
        sym (append_assoc so_far.text part left ∙ ap (λ t. so_far.text ++ t) (sym is)
            ∙ so_far.parts),
      ) so_far.added stops

  -- a part became pending, and then a block was written if it was full
  module _ {now between new : Output S} (part : List ℕ) (same : between.sink.now ≡ now.sink.now)
      (more : between.pending.now.items ≡ now.pending.now.items ++ part) where
    pub adds_block : Adds state between new [] → Adds state now new part
    adds_block block = adds-next _ (append-nil part) (adds-pending part same more) block

    pub stops_block : {fault : ToolFault} → Stops state between new [] fault → Stops state now new part fault
    stops_block stops = stops-next part (front-is _ (append-nil part)) (adds-pending part same more) stops

  -- there was no memory for a part
  pub stops_memory : {old now : Output S} {whole left : List ℕ} → Leaves state old now whole left
      → (new : Output S) → new.sink.now ≡ now.sink.now → Stops state old new whole OutOfMemory
  stops_memory {old} {now} {whole} {left} so_far new same =
      let (front, parts, taken) = so_far.added.underway in
      let before = old.pending.now.items in
      let joined =
      ap (λ t. before ++ t) (sym so_far.parts) ∙ sym (append_assoc before so_far.text left)
      ∙ ap (λ t. t ++ left) parts ∙ append_assoc front now.pending.now.items left in
      record { within = (front, (now.pending.now.items ++ left, joined), rw same taken) }

-- ---- items one after another

module _ {S X : Type 0} {state : S → SinkState} {text_of : X → List ℕ} {P : X → Type 0} where
  -- all of them, at first
  pub each_first : (out : Output S) (whole : List ℕ) (items : List X) → AllByRecursion P items
      → flat_map text_of items ≡ whole → LeavesEach state text_of P out out whole items
  each_first out whole items all is =
      record { all = all; left = leaves_all out whole (flat_map text_of items) is }

  module _ {old now : Output S} {whole : List ℕ} {before : List X}
      (so_far : LeavesEach state text_of P old now whole before) where
    -- out of memory for an item
    pub each_memory : (new : Output S) → new.sink.now ≡ now.sink.now → Stops state old new whole OutOfMemory
    each_memory new same = stops_memory so_far.left new same

    -- there are no more items
    pub each_done : before ≡ [] → Adds state old now whole
    each_done none = leaves_none so_far.left (ap (flat_map text_of) none)

    -- the text of the next item became pending, and then a block was written if it was full
    module _ {item : X} {after : List X} (is : before ≡ item ∷ after) where
      all_of : P item × AllByRecursion P after
      all_of = rw is at so_far.all

      module _ {between new : Output S} (same : between.sink.now ≡ now.sink.now)
          (more : P item → between.pending.now.items ≡ now.pending.now.items ++ text_of item) where
        pub each_next : Adds state between new [] → LeavesEach state text_of P old new whole after
        each_next block = record {
          all = all_of.1;
          left = leaves_next _ _ so_far.left (ap (flat_map text_of) is)
              (adds_block (text_of item) same (more all_of.0) block);
        }

        pub each_stops : {fault : ToolFault} → Stops state between new [] fault
            → Stops state old new whole fault
        each_stops stops = stops_next _ _ so_far.left (ap (flat_map text_of) is)
            (stops_block (text_of item) same (more all_of.0) stops)

      -- the text of the next item was added
      pub each_put : {new : Output S} → (P item → Adds state now new (text_of item))
          → LeavesEach state text_of P old new whole after
      each_put added = record {
        all = all_of.1;
        left = leaves_next _ _ so_far.left (ap (flat_map text_of) is) (added all_of.0);
      }

      -- a fault stopped it within that text
      pub each_put_stops : {new : Output S} {fault : ToolFault}
          → (P item → Stops state now new (text_of item) fault)
          → Stops state old new whole fault
      each_put_stops stops = stops_next _ _ so_far.left (ap (flat_map text_of) is) (stops all_of.0)
