use Rattle.std.proofs.Common.{◌≡◌, ◌++◌, ◌∷◌, [], List, ℕ, bytes_eq, cond, false, length, inl, inr, refl, ap}
use Rattle.std.proofs.Common.{subst, sym, ◌∙◌}
use Rattle.std.proofs.lemmas.List.{map-append}
use Rattle.std.specs.Global.{Vec}
use Rattle.std.specs.List.{list_any}
use Rattle.nj_edge_env.specs.declared.name_values.Bound.{Bound}
use Rattle.nj_edge_env.specs.Inside.BlocksHeld.{bounds_of, IsFirstAt}
use Rattle.nj_edge_env.proofs.BlockLemmas.{first-position, first-new}
use Rattle.nj_edge_env.proofs.block_values.sought_number.Goals as goal

pub returns-in-Some-clause-number : goal.returns-in-Some-clause-number
returns-in-Some-clause-number c = record {
  at = first-position c.args.name.now c.args.names.now c.in-Some.number (sym c.in-Some.ensures.index);
  grows = inl (refl, refl);
}

pub returns-clause-number : goal.returns-clause-number
returns-clause-number c =
    let absent : list_any (bytes_eq c.args.name.now) c.args.names.now ≡ false = sym c.in_default.ensures.known
    in
    let names : c.add.new.self ≡ c.args.names.now ++ c.args.name.now ∷ [] =
    c.in_ok-add.ensures.added ∙ ap (λ b. cond b c.args.names.now
    (c.args.names.now ++ c.args.name.now ∷ [])) absent in
    let count : length c.as_slice-number.result.now ≡ length c.args.names.now =
    ap length c.as_slice-number.ensures.value ∙ c.requires in
    record {
      at = subst (IsFirstAt c.args.name.now c.add.new.self) (sym count)
          (subst (λ (ns : List (List ℕ)). IsFirstAt c.args.name.now ns (length c.args.names.now)) (sym names)
          (first-new c.args.name.now c.args.names.now absent));
      grows = inr (
        names,
        ap bounds_of (c.push_reserved.ensures.items
            ∙ ap (λ (vs : List (Vec Bound)). vs ++ c.new.result ∷ []) c.in_ok-reserve.ensures.items)
            ∙ map-append (λ (v : Vec Bound). v.items) c.args.values.now.items (c.new.result ∷ [])
            ∙ ap (λ (bs : List Bound). bounds_of c.args.values.now.items ++ bs ∷ []) c.new.ensures.items,
      );
    }
