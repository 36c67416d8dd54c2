-- Lemmas on the readings that a table of files keeps.
use Rattle.std.proofs.Common.{arith, ◌≡◌, ℕ, Bool, true, false, cond, List, [], ◌∷◌, ◌++◌, map, Option, Some}
use Rattle.std.proofs.Common.{None}
use Rattle.std.proofs.Common.{is_some, option_map, slice_get, bytes_eq, refl, sym, ap, ◌∙◌, true≢false}
use Rattle.std.specs.Global.{Vec}
use Rattle.std.specs.Rc.{rc_slice_items}
use Rattle.std.specs.declared.rc.RcSlice.{RcSlice}
use Rattle.std.specs.List.{AllByRecursion, IsDistinct}
use Rattle.std.specs.Map.{lookup, keys_of}
use Rattle.std.proofs.lemmas.List.{map_push}
use Rattle.indexmap.specs.IndexMap.{IndexMap, insert_entry}
use Rattle.indexmap.proofs.CallerLemmas.{insert_entry-new}
use Rattle.std.proofs.lemmas.Option.{slice_get-map}
use Rattle.nj_scope.specs.Readings.{Reading, paths_of, reading_of, is_read, EachPathOnce}
use Rattle.nj_scope.specs.Inside.TableHeld.{kept_reading}

abbrev pub same_name : Vec ℕ → Vec ℕ → Bool
same_name x y = bytes_eq x.items y.items

absent : {X : Type 0} (o : Option X) → is_some o ≡ false → o ≡ None
absent o h = grind arith

module _ {Z : Type 0} where
  -- the map has the paths that were read
  pub is_read-kept : (path : List ℕ) (es : List (Vec ℕ × Option (RcSlice ℕ Z)))
      → is_read (map kept_reading es) path ≡ is_some (lookup (λ k. bytes_eq path k.items) es)
  is_read-kept path [] = refl
  is_read-kept path (e ∷ es) = by (bytes_eq path e.0.items) (is_read-kept path es)
    where
      by : (b : Bool) → is_read (map kept_reading es) path ≡ is_some (lookup (λ k. bytes_eq path k.items) es)
          → is_some (cond b (Some (kept_reading e)) (reading_of (map kept_reading es) path))
          ≡ is_some (cond b (Some e.1) (lookup (λ k. bytes_eq path k.items) es))
      by true rest = refl
      by false rest = rest

  -- and the bytes found there
  pub reading_of-kept : (path : List ℕ) (es : List (Vec ℕ × Option (RcSlice ℕ Z)))
      → option_map (option_map rc_slice_items) (lookup (λ k. bytes_eq path k.items) es)
      ≡ option_map (λ r. r.bytes) (reading_of (map kept_reading es) path)
  reading_of-kept path [] = refl
  reading_of-kept path (e ∷ es) = by (bytes_eq path e.0.items) (reading_of-kept path es)
    where
      by : (b : Bool) → option_map (option_map rc_slice_items) (lookup (λ k. bytes_eq path k.items) es)
          ≡ option_map (λ r. r.bytes) (reading_of (map kept_reading es) path)
          → option_map (option_map rc_slice_items)
          (cond b (Some e.1) (lookup (λ k. bytes_eq path k.items) es))
          ≡ option_map (λ r. r.bytes) (cond b (Some (kept_reading e)) (reading_of (map kept_reading es) path))
      by true rest = refl
      by false rest = rest

  -- a path that is not among the keys was not read
  not_read : (k : Vec ℕ) (es : List (Vec ℕ × Option (RcSlice ℕ Z)))
      → AllByRecursion (λ y. same_name k y ≡ false) (keys_of es)
      → is_read (map kept_reading es) k.items ≡ false
  not_read k [] h = refl
  not_read k (e ∷ es) h = by (same_name k e.0) h.0 (not_read k es h.1)
    where
      by : (b : Bool) → b ≡ false → is_read (map kept_reading es) k.items ≡ false
          → is_some (cond b (Some (kept_reading e)) (reading_of (map kept_reading es) k.items)) ≡ false
      by true p rest = absurd (true≢false p)
      by false p rest = rest

  -- the keys differ, so no path was read twice
  pub EachPathOnce-kept : (es : List (Vec ℕ × Option (RcSlice ℕ Z))) → IsDistinct same_name (keys_of es)
      → EachPathOnce (map kept_reading es)
  unfolding IsDistinct
  EachPathOnce-kept [] h = tt
  EachPathOnce-kept (e ∷ es) h = (not_read e.0 es h.0, EachPathOnce-kept es h.1)

  -- a path that was not read is kept as the last reading
  pub kept-insert_entry : {S : Type 0} (m : IndexMap (Vec ℕ) (Option (RcSlice ℕ Z)) S) (k : Vec ℕ)
      (v : Option (RcSlice ℕ Z)) → is_read (map kept_reading m.entries) k.items ≡ false
      → map kept_reading (insert_entry same_name m.entries k v)
      ≡ map kept_reading m.entries ++ kept_reading (k, v) ∷ []
  kept-insert_entry m k v h =
      ap (map kept_reading) (insert_entry-new same_name m k v
      (absent (lookup (same_name k) m.entries) (sym (is_read-kept k.items m.entries) ∙ h)))
      ∙ map_push kept_reading m.entries (k, v)

  -- the paths
  pub path-kept : (es : List (Vec ℕ × Option (RcSlice ℕ Z))) (index : ℕ)
      → slice_get (paths_of (map kept_reading es)) index ≡ option_map (λ e. e.0.items) (slice_get es index)
  path-kept es index =
      slice_get-map (λ r. r.path) (map kept_reading es) index
      ∙ ap (option_map (λ (r : Reading). r.path)) (slice_get-map kept_reading es index)
      ∙ by (slice_get es index)
    where
      by : (o : Option (Vec ℕ × Option (RcSlice ℕ Z)))
          → option_map (λ (r : Reading). r.path) (option_map kept_reading o) ≡ option_map (λ e. e.0.items) o
      by None = refl
      by (Some e) = refl
