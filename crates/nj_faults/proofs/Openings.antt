-- The place of a fault, piece by piece.
use Rattle.std.proofs.Common.{◌≡◌, ℕ, List, ◌++◌, codes, append_assoc, sym, ap, ◌∙◌}

spot_joined : (file line column : List ℕ)
    → file ++ codes ":" ++ (line ++ codes ":" ++ column) ≡ file ++ codes ":" ++ line ++ codes ":" ++ column
spot_joined file line column =
    sym (append_assoc (file ++ codes ":") (line ++ codes ":") column)
    ∙ ap (λ text. text ++ column) (sym (append_assoc (file ++ codes ":") line (codes ":")))

-- the file first, then the rest
pub opening_joined : (file line column : List ℕ)
    → file ++ (codes ":" ++ ((line ++ codes ":" ++ column) ++ codes ": "))
    ≡ file ++ codes ":" ++ line ++ codes ":" ++ column ++ codes ": "
opening_joined file line column =
    let spot = line ++ codes ":" ++ column in
    sym (append_assoc (file ++ codes ":") spot (codes ": ")
    ∙ append_assoc file (codes ":") (spot ++ codes ": "))
    ∙ ap (λ text. text ++ codes ": ") (spot_joined file line column)

-- the place, and then the text of the fault
pub line_joined : (file line column text : List ℕ)
    → (file ++ codes ":" ++ (line ++ codes ":" ++ column)) ++ (codes ": " ++ text)
    ≡ (file ++ codes ":" ++ line ++ codes ":" ++ column ++ codes ": ") ++ text
line_joined file line column text =
    sym (append_assoc (file ++ codes ":" ++ (line ++ codes ":" ++ column)) (codes ": ") text)
    ∙ ap (λ place. place ++ codes ": " ++ text) (spot_joined file line column)
