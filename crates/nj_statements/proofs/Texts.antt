-- Lemmas on the text of a word.
use Rattle.std.proofs.Common.{◌≡◌, ℕ, ◌+◌, ◌<◌, List, ◌++◌, length, drop, get_or, map, sym, ap, ◌∙◌}
use Rattle.std.proofs.lemmas.List.{append_assoc, at_drop_more}
use Rattle.nj_text.specs.declared.word.Part.{Part}
use Rattle.nj_text.specs.Words.{part_model}
use Rattle.nj_scope.specs.Scopes.{part_expanded, expanded}
use Rattle.nj_statements.specs.EdgeList.{Values}

pub text-turn : (values : Values) (text piece new : List ℕ) (items : List Part) (i : ℕ) (d : Part)
    → i < length items → piece ≡ part_expanded values (part_model (get_or items i d)) → new ≡ text ++ piece
    → new ++ expanded values (map part_model (drop (i + 1) items))
    ≡ text ++ expanded values (map part_model (drop i items))
text-turn values text piece new items i d below gives is =
    ap (λ t. t ++ rest) (is ∙ ap (λ p. text ++ p) gives)
    ∙ append_assoc text (part_expanded values (part_model (get_or items i d))) rest
    ∙ sym (at_drop_more (λ (ps : List Part). text ++ expanded values (map part_model ps)) items i d below)
  where
    rest : List ℕ
    rest = expanded values (map part_model (drop (i + 1) items))
