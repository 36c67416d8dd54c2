-- A list of edges has only one text, and the texts of pages join.
use Rattle.std.proofs.Common.{◌≡◌, ℕ, List, [], ◌∷◌, ◌++◌, length, reverse, refl, sym, ap, ◌∙◌, subst}
use Rattle.std.proofs.Common.{append_assoc, arith}
use Rattle.std.proofs.lemmas.List.{append-nil, length_push, reverse-append, reverse-reverse}
use Rattle.nj_graph.specs.ReadingList.{ReadStatement}
use Rattle.nj_graph.specs.Edges.{EdgePaths}
use Rattle.nj_keys.specs.Keys.{key_with, line, IsKey, LinesAreUnique, ListsKeys, PagesOfLinesJoin}
use Rattle.nj_keys.specs.Keys.ListsKeys.{none, last}
use Rattle.nj_keys.proofs.KeyLaws.{unique}

pub last-apart : (xs : List ℕ) (x : ℕ) → [] ≡ xs ++ x ∷ [] → ⊥
last-apart xs x is = absurd (omega (arith, ap length is, length_push xs x))

pub last-same : (xs ys : List ℕ) (x y : ℕ) → xs ++ x ∷ [] ≡ ys ++ y ∷ [] → (xs ≡ ys) × (x ≡ y)
last-same xs ys x y is =
    let turned : x ∷ reverse xs ≡ y ∷ reverse ys =
    sym (reverse-append xs (x ∷ [])) ∙ ap reverse is ∙ reverse-append ys (y ∷ []) in
    let front : reverse xs ≡ reverse ys = cc in
    (sym (reverse-reverse xs) ∙ ap reverse front ∙ reverse-reverse ys, cc)

module _ (additions folders : List (List ℕ)) (edges : List EdgePaths) (entries : List ReadStatement) where
  one-text : (numbers others text other : List ℕ) → numbers ≡ others
      → ListsKeys additions folders edges entries numbers text
      → ListsKeys additions folders edges entries others other
      → text ≡ other
  one-text _ _ _ _ same none none = refl
  one-text _ _ _ _ same none (last {numbers = ms} {e = f} are key) = absurd (last-apart ms f same)
  one-text _ _ _ _ same (last {numbers = ns} {e = e} are key) none = absurd (last-apart ns e (sym same))
  one-text _ _ _ _ same (last {numbers = ns} {text = text} {e = e} {key = k} are key)
      (last {numbers = ms} {text = other} {e = f} {key = l} also more) =
      let both = last-same ns ms e f same in
      let keys = unique folders edges entries f k l (subst (λ n. IsKey folders edges entries n k) both.1 key)
      more in
      ap (λ t. t ++ line edges e (key_with additions k)) (one-text ns ms text other both.0 are also)
      ∙ ap (λ n. other ++ line edges n (key_with additions k)) both.1
      ∙ ap (λ key. other ++ line edges f (key_with additions key)) keys

  joined : (numbers more text rest : List ℕ) → ListsKeys additions folders edges entries numbers text
      → ListsKeys additions folders edges entries more rest
      → ListsKeys additions folders edges entries (numbers ++ more) (text ++ rest)
  joined numbers _ text _ are none =
      subst (λ ns. ListsKeys additions folders edges entries ns (text ++ [])) (sym (append-nil numbers))
      (subst (ListsKeys additions folders edges entries numbers) (sym (append-nil text)) are)
  joined numbers _ text _ are (last {numbers = ms} {text = rest} {e = e} {key = k} also key) =
      subst (λ ns. ListsKeys additions folders edges entries ns
      (text ++ (rest ++ line edges e (key_with additions k))))
      (append_assoc numbers ms (e ∷ []))
      (subst (ListsKeys additions folders edges entries ((numbers ++ ms) ++ e ∷ []))
      (append_assoc text rest (line edges e (key_with additions k)))
      (last (joined numbers ms text rest are also) key))

pub one : LinesAreUnique
one additions folders edges entries numbers text other are also =
    one-text additions folders edges entries numbers numbers text other refl are also

pub join : PagesOfLinesJoin
join additions folders edges entries numbers more text rest are also =
    joined additions folders edges entries numbers more text rest are also
