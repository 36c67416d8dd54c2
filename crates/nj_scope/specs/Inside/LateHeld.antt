-- How a late value is held: one text, and for each part, where it is in that text.
use Rattle.std.specs.Prelude.{ℕ, ◌≤◌, Bool, true, false, List, map, length, slice_range}
use Rattle.std.specs.List.{AllByRecursion}
use Rattle.nj_text.specs.Words.{PartModel, Text, Name}
use Rattle.nj_scope.specs.declared.deferred.LatePart.{LatePart}

abbrev pub text_or_name : Bool → List ℕ → PartModel
text_or_name false bytes = Text bytes
text_or_name true bytes = Name bytes

-- a part: some bytes of the text
abbrev pub late_part : List ℕ → LatePart → PartModel
late_part text p = text_or_name p.is_name (slice_range text p.start p.end)

abbrev pub late_parts : List ℕ → List LatePart → List PartModel
late_parts text ps = map (late_part text) ps

-- the parts lie within the text
abbrev pub AreWithin : List ℕ → List LatePart → Type 0
AreWithin text ps = AllByRecursion (λ p. (p.start ≤ p.end) × (p.end ≤ length text)) ps
