-- The lines of edges with their keys.
use Rattle.std.proofs.Common.{◌≡◌, ℕ, List, [], ◌∷◌, ◌++◌, refl, sym, ap, ◌∙◌, subst}
use Rattle.std.specs.Prelude.{slice_get, unwrap_or}
use Rattle.std.specs.List.{flat_map}
use Rattle.std.proofs.lemmas.List.{flat_map_more}
use Rattle.hex.specs.Hex.{encode_lower}
use Rattle.nj_graph.specs.ReadingList.{ReadStatement}
use Rattle.nj_graph.specs.Edges.{EdgePaths}
use Rattle.nj_keys.specs.Keys.{edges_stated, key_with, line, HaveKeys, IsKey, ListsKeys, ListsOfKeysAreUnique}
use Rattle.nj_keys.specs.Keys.HaveKeys.{none as no-more, last as one-more}
use Rattle.nj_keys.specs.Keys.ListsKeys.{none, last}
use Rattle.nj_keys.specs.declared.pages.EdgeKey.{EdgeKey}
use Rattle.nj_keys.proofs.KeyLaws.{unique}
use Rattle.nj_keys.proofs.LineLaws.{last-apart, last-same}
use Rattle.nj_keys.proofs.StatedLemmas.{outputs-stated}

-- the lines of edges with the given keys
pub lines-of : (additions folders : List (List ℕ)) (counts : List ℕ) (edges : List EdgePaths)
    (entries : List ReadStatement) (numbers : List ℕ) (keys : List EdgeKey)
    → HaveKeys additions folders (edges_stated counts edges) entries numbers keys
    → ListsKeys additions folders (edges_stated counts edges) entries numbers
    (flat_map (λ (n : EdgeKey). line edges n.edge.0 n.key) keys)
lines-of additions folders counts edges entries _ _ no-more = none
lines-of additions folders counts edges entries _ _
    (one-more {numbers = ns} {keys = ks} {e = e} {key = key} {next = next} have is edge-is key-is) =
    let lines = λ (n : EdgeKey). line edges n.edge.0 n.key in
    let stated = edges_stated counts edges in
    let own : line edges next.edge.0 next.key ≡ line stated e (key_with additions key) =
    ap (λ n. line edges n next.key) edge-is ∙ ap (line edges e) key-is
    ∙ ap (λ o. encode_lower (key_with additions key) ++ 32 ∷ unwrap_or o [] ++ 10 ∷ [])
    (sym (ap (λ paths. slice_get paths 0) (outputs-stated counts edges e))) in
    subst (ListsKeys additions folders stated entries (ns ++ e ∷ []))
    (ap (λ t. flat_map lines ks ++ t) (sym own) ∙ flat_map_more lines [] ks next)
    (last (lines-of additions folders counts edges entries ns ks have) is)

-- ---- one list

same-key : (one other : EdgeKey) → one.edge.0 ≡ other.edge.0 → one.key ≡ other.key → one ≡ other
same-key one other edge key =
    ap (λ n. let k : EdgeKey = record { edge = record { 0 = n }; key = one.key } in k) edge
    ∙ ap (λ bytes. let k : EdgeKey = record { edge = other.edge; key = bytes } in k) key

module _ (additions folders : List (List ℕ)) (edges : List EdgePaths) (entries : List ReadStatement) where
  list-by : (numbers others : List ℕ) (keys more : List EdgeKey) → numbers ≡ others
      → HaveKeys additions folders edges entries numbers keys
      → HaveKeys additions folders edges entries others more
      → keys ≡ more
  list-by _ _ _ _ same no-more no-more = refl
  list-by _ _ _ _ same no-more (one-more {numbers = ms} {e = f} have is edge-is key-is) =
      absurd (last-apart ms f same)
  list-by _ _ _ _ same (one-more {numbers = ns} {e = e} have is edge-is key-is) no-more =
      absurd (last-apart ns e (sym same))
  list-by _ _ _ _ same
      (one-more {numbers = ns} {keys = ks} {e = e} {key = k} {next = one} have is edge-is key-is)
      (one-more {numbers = ms} {keys = ls} {e = f} {key = l} {next = other} have2 is2 edge-is2 key-is2) =
      let both = last-same ns ms e f same in
      let keys = unique folders edges entries f k l (subst (λ n. IsKey folders edges entries n k) both.1 is)
      is2 in
      ap (λ more. more ++ one ∷ []) (list-by ns ms ks ls both.0 have have2)
      ∙ ap (λ last. ls ++ last ∷ []) (same-key one other (edge-is ∙ both.1 ∙ sym edge-is2)
      (key-is ∙ ap (key_with additions) keys ∙ sym key-is2))

pub one-list : ListsOfKeysAreUnique
one-list additions folders edges entries numbers keys others have also =
    list-by additions folders edges entries numbers numbers keys others refl have also
