use Rattle.std.proofs.Common.{[], ◌∷◌, ◌++◌, ◌+◌, take, refl, sym, ap, subst}
use Rattle.std.specs.List.{filter_map}
use Rattle.std.proofs.lemmas.List.Elements.{filter_map-append}
use Rattle.nj_text.specs.Words.{part_model}
use Rattle.nj_audit.specs.Audit.{name_in, names_in}
use Rattle.nj_audit.proofs.ListLemmas.{more-at, none-found, one-found, same}
use Rattle.nj_audit.proofs.NameLemmas.{AreNames, one-more}
use Rattle.nj_audit.proofs.variables.add_references.Goals as goal
use Rattle.nj_audit.proofs.variables.add_references.Goals.{in-Name+in_ok-add-in-Name, in-Bytes}

pub parts-preserved : goal.parts-preserved
parts-preserved c =
    let old = c.args.references.now in
    let value = c.args.value.now in
    let i = c.parts.index in
    let part = part_model c.part.result in
    let text = old ++ names_in (take i value) in
    elim c.match-part.branch [
      | in-Name+in_ok-add-in-Name w ↦
          let name = w.in-Name.name.now in
          subst (λ names. AreNames names (old ++ names_in (take (i + 1) value))) (sym w.references-is)
          (subst (AreNames w.add.new.self)
          (more-at (filter_map name_in) (filter_map-append name_in) old text (text ++ name ∷ []) value i part
          c.part.ensures refl
          (ap (λ t. text ++ t) (sym (one-found name_in part name
          (ap (λ p. name_in (part_model p)) w.in-Name.is)))))
          (one-more c.parts.references w.add.new.self text name w.in_ok-add-in-Name.ensures.names
          c.parts.invariant))
      | in-Bytes w ↦
          subst (λ names. AreNames names (old ++ names_in (take (i + 1) value))) (sym w.references-is)
          (subst (AreNames c.parts.references)
          (more-at (filter_map name_in) (filter_map-append name_in) old text text value i part c.part.ensures
          refl
          (same (filter_map name_in) part text
          (none-found name_in part (ap (λ p. name_in (part_model p)) w.in-Bytes.is))))
          c.parts.invariant)
    ]
