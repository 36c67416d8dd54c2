use Rattle.std.proofs.Common.{◌≡◌, ◌+◌, ◌++◌, ◌∷◌, [], false, Some, ap, bytes_eq, cond, length, nat_eq}
use Rattle.std.proofs.Common.{slice_get, subst}
use Rattle.std.specs.List.{list_any}
use Rattle.indexmap.specs.IndexMap.{Updates}
use Rattle.nj_names.specs.ByteHash.{hash_bytes}
use Rattle.nj_names.specs.Inside.NamesHeld.{held_names}
use Rattle.nj_names.proofs.NameLemmas.{found-known, length-names, named-last, push-held, push-named}
use Rattle.nj_names.proofs.table.Names.add.Goals as goal

pub returns-in-Some-clause-added : goal.returns-in-Some-clause-added
returns-in-Some-clause-added c =
    let names = held_names c.self.inside.text.items c.self.inside.ends.items in
    let here : slice_get names c.in-Some.number ≡ Some c.args.name.now =
    rw (← c.as_slice.ensures.value, ← c.as_slice-2.ensures.value) c.in-Some.ensures in
    rw (← c.self.view_is) (ap (λ b. cond b names (names ++ c.args.name.now ∷ []))
    (found-known c.args.name.now names (Some c.in-Some.number) here))

pub invariant_of-self-2 : goal.invariant_of-self-2
invariant_of-self-2 c =
    let held = c.self.inside in
    let made = c.in_ok-push_name.ensures in
    let absent : list_any (bytes_eq c.args.name.now) (held_names held.text.items held.ends.items) ≡ false =
    rw (← c.as_slice.ensures.value, ← c.as_slice-2.ensures.value) c.in_default.ensures in
    let updates = subst (λ h. Updates nat_eq held.newest c.push_name.new.newest h
    (Some (length held.ends.items + 1))) c.hash_bytes-hash.ensures made.newest in
    rw (made.text, made.ends, made.earlier, c.hash_bytes-hash.ensures)
    (push-held (hash_bytes held.keys) held.text.items held.ends.items held.earlier.items held.newest
    c.push_name.new.newest c.args.name.now c.self.invariant absent updates)

pub returns-clause-added : goal.returns-clause-added
returns-clause-added c =
    let held = c.self.inside in
    let absent : list_any (bytes_eq c.args.name.now) (held_names held.text.items held.ends.items) ≡ false =
    rw (← c.as_slice.ensures.value, ← c.as_slice-2.ensures.value) c.in_default.ensures in
    rw (c.in_ok-push_name.ensures.text, c.in_ok-push_name.ensures.ends, ← c.self.view_is)
    (push-named held.text.items c.args.name.now held.ends.items c.self.invariant.rise absent)

pub returns-clause-number : goal.returns-clause-number
returns-clause-number c =
    let held = c.self.inside in
    let names = held_names held.text.items held.ends.items in
    let absent : list_any (bytes_eq c.args.name.now) names ≡ false =
    rw (← c.as_slice.ensures.value, ← c.as_slice-2.ensures.value) c.in_default.ensures in
    rw (
      returns-clause-added c,
      ← c.self.view_is,
      c.as_slice-number.ensures.value,
      ← length-names held.text.items 0 held.ends.items,
    )
    (named-last c.args.name.now names absent)

pub returns-clause-each_name_once : goal.returns-clause-each_name_once
returns-clause-each_name_once c = (invariant_of-self-2 c).distinct
