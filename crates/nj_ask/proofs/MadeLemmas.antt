-- Files that the manifest is made from, one after another.
use Rattle.std.proofs.Common.{◌≡◌, ◌<◌, ◌+◌, ◌⊎◌, inl, inr, ℕ, zero, suc, Bool, true, List, [], ◌∷◌, ◌++◌}
use Rattle.std.proofs.Common.{map}
use Rattle.std.proofs.Common.{length, take, get_or}
use Rattle.std.proofs.Common.{refl, sym, ap, subst, ◌∙◌, arith}
use Rattle.std.specs.Prelude.{◌↔◌, Contains}
use Rattle.std.proofs.lemmas.List.{get_or-map, length-map, map_more, map_push}
use Rattle.std.proofs.lemmas.List.Elements.{Contains-append_cases, Contains-append_left}
use Rattle.std.proofs.lemmas.List.Elements.{Contains-append_right}
use Rattle.nj_graph.specs.Files.{path_at}
use Rattle.nj_graph.specs.declared.FileNo.{FileNo}
use Rattle.nj_graph.specs.ReadingList.{ReadStatement}
use Rattle.nj_graph.specs.Graph.{GraphModel, IsGraphOf, files_of}
use Rattle.nj_ask.specs.Inside.Reached.{numbers_of, AreFeeding}
use Rattle.nj_ask.specs.Manifest.{FeedsManifest, IsMadeFrom}
use Rattle.nj_ask.specs.SameFiles.{path_of}
use Rattle.nj_ask.specs.MadeFrom.{AreMadeFrom, TellMadeFrom}

made-push : (g : GraphModel) (stated : List ReadStatement) (files : List ℕ) (made : List Bool) (file : ℕ)
    (is : Bool) → AreMadeFrom g stated files made
    → ((is ≡ true) ↔ IsMadeFrom g stated file) → AreMadeFrom g stated (files ++ file ∷ []) (made ++ is ∷ [])
made-push g stated [] [] file is held tells = (tells, refl)
made-push g stated [] (m ∷ made) file is held tells = absurd cc
made-push g stated (f ∷ files) [] file is held tells = absurd held
made-push g stated (f ∷ files) (m ∷ made) file is held tells =
    (held.0, made-push g stated files made file is held.1 tells)

-- one more file
pub made-more : (g : GraphModel) (files : List FileNo) (i : ℕ) (d : FileNo) (made new : List Bool) (is : Bool)
    → i < length files
    → TellMadeFrom g (map (λ f. f.0) (take i files)) made
    → ((stated : List ReadStatement) → IsGraphOf g stated
    → (is ≡ true) ↔ IsMadeFrom g stated (get_or files i d).0)
    → new ≡ made ++ is ∷ [] → TellMadeFrom g (map (λ f. f.0) (take (i + 1) files)) new
made-more g files i d made new is below held tells more stated graph =
    subst (λ fs. AreMadeFrom g stated fs new) (sym (map_more (λ (f : FileNo). f.0) files i d below))
    (subst (AreMadeFrom g stated (map (λ f. f.0) (take i files) ++ (get_or files i d).0 ∷ [])) (sym more)
    (made-push g stated (map (λ f. f.0) (take i files)) made (get_or files i d).0 is (held stated graph)
    (tells stated graph)))

-- ---- numbers of files

pub same-paths : (g : GraphModel) (files : List FileNo)
    → map (path_at (files_of g)) files ≡ map (path_of g) (map (λ f. f.0) files)
same-paths g [] = refl
same-paths g (f ∷ files) = ap (λ paths. path_at (files_of g) f ∷ paths) (same-paths g files)

pub among-numbers : (files : List FileNo) (i : ℕ) (d : FileNo) → i < length files
    → Contains (map (λ f. f.0) files) (get_or files i d).0
among-numbers files i d below =
    let count = length-map files (λ (f : FileNo). f.0) in
    (i, omega (arith, below, count), get_or-map (λ (f : FileNo). f.0) files i d (get_or files i d).0 below)

-- ---- the files that feed the manifest

module _ (P : ℕ → Type 0) where
  abbrev AreThose : (files those : List ℕ) → Type 0
  AreThose files those = (n : ℕ) → Contains those n ↔ (Contains files n × P n)

  last-cases : (ns : List ℕ) (x n : ℕ) → Contains (ns ++ x ∷ []) n → Contains ns n ⊎ (x ≡ n)
  last-cases ns x n has = by (Contains-append_cases ns (x ∷ []) n has)
    where
      last : (k : ℕ) → k < length (x ∷ []) → get_or (x ∷ []) k n ≡ n → x ≡ n
      last zero below is = is
      last (suc k) below is = absurd (omega arith)

      by : Contains ns n ⊎ Contains (x ∷ []) n → Contains ns n ⊎ (x ≡ n)
      by (inl has) = inl has
      by (inr has) = inr (last has.0 has.1 has.2)

  at-end : (ns : List ℕ) (x n : ℕ) → x ≡ n → Contains (ns ++ x ∷ []) n
  at-end ns x n same = Contains-append_right ns (x ∷ []) n (0, omega arith, same)

  module _ (files those : List ℕ) (x : ℕ) (held : AreThose files those) where
    those-more : P x → AreThose (files ++ x ∷ []) (those ++ x ∷ [])
    those-more is n = (
      λ has. by (last-cases those x n has),
      λ both. back (last-cases files x n both.0) both.1,
    )
      where
        by : Contains those n ⊎ (x ≡ n) → Contains (files ++ x ∷ []) n × P n
        by (inl has) = let it = (held n).0 has in (Contains-append_left files (x ∷ []) n it.0, it.1)
        by (inr same) = (at-end files x n same, subst P same is)

        back : Contains files n ⊎ (x ≡ n) → P n → Contains (those ++ x ∷ []) n
        back (inl has) p = Contains-append_left those (x ∷ []) n ((held n).1 (has, p))
        back (inr same) p = at-end those x n same

    those-same : ¬ P x → AreThose (files ++ x ∷ []) those
    those-same not n = (by, λ both. back (last-cases files x n both.0) both.1)
      where
        by : Contains those n → Contains (files ++ x ∷ []) n × P n
        by has = let it = (held n).0 has in (Contains-append_left files (x ∷ []) n it.0, it.1)

        back : Contains files n ⊎ (x ≡ n) → P n → Contains those n
        back (inl has) p = (held n).1 (has, p)
        back (inr same) p = absurd (not (subst P (sym same) p))

-- one more file
module _ (g : GraphModel) (opened : List ℕ) (entries : List ReadStatement) (files : List FileNo) (i : ℕ)
    (d : FileNo) (below : i < length files) (feeding : List FileNo)
    (held : AreFeeding g opened entries (numbers_of (take i files)) (numbers_of feeding)) where
  abbrev Feeds : ℕ → Type 0
  Feeds n = FeedsManifest g opened entries n

  abbrev next : ℕ
  next = (get_or files i d).0

  taken : numbers_of (take (i + 1) files) ≡ numbers_of (take i files) ++ next ∷ []
  taken = map_more (λ (f : FileNo). f.0) files i d below

  pub feeding-more : (new : List FileNo) → new ≡ feeding ++ get_or files i d ∷ [] → Feeds next
      → AreFeeding g opened entries (numbers_of (take (i + 1) files)) (numbers_of new)
  feeding-more new is feeds =
      subst (λ ns. AreFeeding g opened entries ns (numbers_of new)) (sym taken)
      (subst (AreFeeding g opened entries (numbers_of (take i files) ++ next ∷ []))
      (sym (ap numbers_of is ∙ map_push (λ (f : FileNo). f.0) feeding (get_or files i d)))
      (those-more Feeds (numbers_of (take i files)) (numbers_of feeding) next held feeds))

  pub feeding-same : ¬ Feeds next
      → AreFeeding g opened entries (numbers_of (take (i + 1) files)) (numbers_of feeding)
  feeding-same not =
      subst (λ ns. AreFeeding g opened entries ns (numbers_of feeding)) (sym taken)
      (those-same Feeds (numbers_of (take i files)) (numbers_of feeding) next held not)
