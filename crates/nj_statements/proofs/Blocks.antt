-- Lemmas on the values that a block binds.
use Rattle.std.proofs.Common.{◌≡◌, ℕ, ◌==◌, ◌&&◌, Bool, true, false, List, [], ◌∷◌, reverse, find, cond}
use Rattle.std.proofs.Common.{if◌then◌else◌, Option, Some, None, option_map, bytes_eq, refl, sym, ap, ◌∙◌}
use Rattle.std.specs.Option.{option_or}
use Rattle.std.proofs.lemmas.List.{reverse-append}
use Rattle.nj_manifest.specs.Statements.{LineModel}
use Rattle.nj_scope.specs.Scopes.{expanded}
use Rattle.nj_statements.specs.EdgeList.{Values, block_of}
use Rattle.nj_statements.proofs.Lists.{find-last}

-- a line before the lines of a block takes effect if no line of the block binds the name
pub block-front : (values : Values) (l : LineModel) (ls : List LineModel) (name : List ℕ)
    (old : Option (List ℕ))
    → option_or (block_of values ls name) (if bytes_eq name l.name then Some (expanded values l.value.parts)
    else old) ≡ option_or (block_of values (l ∷ ls) name) old
block-front values l ls name old =
    by (find (λ m. bytes_eq name m.name) (reverse ls)) (bytes_eq name l.name)
    ∙ ap (λ found. option_or (option_map value found) old)
    (sym (ap (find (λ m. bytes_eq name m.name)) (reverse-append (l ∷ []) ls)
    ∙ find-last (λ m. bytes_eq name m.name) (reverse ls) l))
  where
    value : LineModel → List ℕ
    value m = expanded values m.value.parts

    by : (found : Option LineModel) (b : Bool)
        → option_or (option_map value found) (if b then Some (value l) else old)
        ≡ option_or (option_map value (option_or found (cond b (Some l) None))) old
    by (Some m) b = refl
    by None true = refl
    by None false = refl

pub block-turn : (values : Values) (edge e : ℕ) (l : LineModel) (ls : List LineModel) (name : List ℕ)
    (new old : Option (List ℕ))
    → new ≡ (if e == edge && bytes_eq name l.name then Some (expanded values l.value.parts) else old)
    → (if e == edge then option_or (block_of values ls name) new else new)
    ≡ (if e == edge then option_or (block_of values (l ∷ ls) name) old else old)
block-turn values edge e l ls name new old is = by (e == edge) is
  where
    by : (b : Bool) → new ≡ (if b && bytes_eq name l.name then Some (expanded values l.value.parts) else old)
        → (if b then option_or (block_of values ls name) new else new)
        ≡ (if b then option_or (block_of values (l ∷ ls) name) old else old)
    by true h = ap (option_or (block_of values ls name)) h ∙ block-front values l ls name old
    by false h = h
