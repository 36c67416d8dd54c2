-- The lines of findings, by the texts that are appended.
use Rattle.std.proofs.Common.{◌≡◌, ℕ, List, ◌++◌, sym, ap, ◌∙◌}
use Rattle.std.proofs.Common.{append_assoc, codes}
use Rattle.std.specs.Fmt.{decimal}
use Rattle.std.specs.Str.Lossy.{utf8_lossy}
use Rattle.serde_json.specs.Data.{string}
use Rattle.serde_json.specs.Written.{compact_text}
use Rattle.serde_json.proofs.OnLiterals.{serde_json_on_literals}
use Rattle.nj_audit.specs.Findings.{FindingModel}
use Rattle.nj_audit.specs.Kinds.{name_of}
use Rattle.nj_ask.specs.Affected.{line}
use Rattle.nj_ask.specs.Audits.{finding_object}

-- a text as a string in JSON
abbrev text : List ℕ → List ℕ
text s = compact_text (string s)

-- the parts of a plain line
pub plain-parts : (old file a l b c d phrase e name f g : List ℕ)
    → (((old ++ file) ++ (a ++ (l ++ (b ++ (c ++ (d ++ (phrase ++ e))))))) ++ name) ++ (f ++ g)
    ≡ old ++ (((file ++ a ++ l ++ b ++ c ++ d) ++ phrase ++ e ++ name ++ f) ++ g)
plain-parts old file a l b c d phrase e name f g = simp append_assoc

-- the parts of an object
object-parts : (old a file b l c n d kind e name f : List ℕ)
    → ((((((old ++ a) ++ file) ++ (b ++ (l ++ (c ++ (n ++ d))))) ++ kind) ++ e) ++ name) ++ f
    ≡ old ++ (a ++ (file ++ (b ++ (l ++ (c ++ (n ++ (d ++ (kind ++ (e ++ (name ++ f))))))))))
object-parts old a file b l c n d kind e name f = simp append_assoc

module _ (f : FindingModel) where
  abbrev file : List ℕ
  file = text (utf8_lossy f.place.file)

  abbrev name : List ℕ
  name = text (utf8_lossy f.name)

  object-text : line (compact_text (finding_object f))
      ≡ codes "{\"file\":" ++ (file ++ (codes ",\"line\":"
      ++ (decimal f.place.spot.line ++ (codes ",\"column\":"
      ++ (decimal f.place.spot.column ++ (codes ",\"kind\":" ++ (text (name_of f.kind) ++ (codes ",\"name\":"
      ++ (name ++ codes "}\n")))))))))
  unfolding serde_json_on_literals
  object-text = simp append_assoc

  pub object-is : (old : List ℕ)
      → ((((((old ++ codes "{\"file\":") ++ file) ++ (codes ",\"line\":" ++ (decimal f.place.spot.line
      ++ (codes ",\"column\":" ++ (decimal f.place.spot.column ++ codes ",\"kind\":")))))
      ++ text (name_of f.kind))
      ++ codes ",\"name\":") ++ name) ++ codes "}\n"
      ≡ old ++ line (compact_text (finding_object f))
  object-is old =
      object-parts old (codes "{\"file\":") file (codes ",\"line\":") (decimal f.place.spot.line)
      (codes ",\"column\":") (decimal f.place.spot.column) (codes ",\"kind\":") (text (name_of f.kind))
      (codes ",\"name\":") name (codes "}\n")
      ∙ ap (λ t. old ++ t) (sym object-text)
