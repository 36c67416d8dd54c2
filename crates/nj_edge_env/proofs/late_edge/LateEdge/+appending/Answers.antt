use Rattle.std.proofs.Common.{◌≡◌, suc, ◌+◌, ◌-◌, ◌∙◌, take, sym, ap, subst, arith, length}
use Rattle.std.specs.Prelude.{IfOk}
use Rattle.std.proofs.Math.Seq.{take-length}
use Rattle.nj_text.specs.Words.{part_model}
use Rattle.nj_edge_env.specs.Inside.StringsHeld.{AppendsPlain, AppendsLate, AppendsParts}
use Rattle.nj_edge_env.proofs.MemoLemmas.{plain_appended, known_appended, parts_bytes, parts_name}
use Rattle.nj_edge_env.proofs.MemoLemmas.{line_appended, grows_on}
use Rattle.nj_edge_env.proofs.PathLemmas.{on-err}
use Rattle.nj_edge_env.proofs.late_edge.LateEdge.+appending.Goals as goal
use Rattle.nj_edge_env.proofs.late_edge.LateEdge.+appending.Goals.{append_parts-in-Bytes+in_ok-extend_from_slice-in-Bytes}
use Rattle.nj_edge_env.proofs.late_edge.LateEdge.+appending.Goals.{append_parts-in-Name+in_ok-below-in-Name}

pub append_within-returns-in_default-clause-appended : goal.append_within-returns-in_default-clause-appended
append_within-returns-in_default-clause-appended t c =
    plain_appended c.args.quoting c.args.self.now c.args.depth c.args.out.now.items c.args.name.now
    c.args.known.now c.append_plain.new.out.items c.requires
    (subst (AppendsPlain c.args.quoting c.args.self.now c.args.name.now c.args.out.now.items
    c.append_plain.new.out.items) c.in_default.is c.in_ok-number.ensures.appended)

pub append_within-returns-in-Some-text_known-clause-appended :
    goal.append_within-returns-in-Some-text_known-clause-appended
append_within-returns-in-Some-text_known-clause-appended t c =
    let plain = subst (AppendsPlain c.args.quoting c.args.self.now c.args.name.now c.args.out.now.items
    c.append_plain.new.out.items) c.in-Some.is c.in_ok-number.ensures.appended in
    known_appended c.args.quoting c.args.self.now c.args.depth c.args.out.now.items c.args.name.now
    c.args.known.now c.in-Some.number c.in-Some-text_known.text c.append_plain.new.out.items
    c.extend_from_within.new.self.items
    plain.0 c.requires plain.1 (sym c.text_known.ensures ∙ c.in-Some-text_known.is)
    c.in_ok-extend_from_within.ensures.items

pub append_within-returns-clause-appended : goal.append_within-returns-clause-appended
append_within-returns-clause-appended t c =
    let plain = subst (AppendsPlain c.args.quoting c.args.self.now c.args.name.now c.args.out.now.items
    c.append_plain.new.out.items) c.in-Some.is c.in_ok-number.ensures.appended in
    line_appended c.args.quoting c.args.self.now c.args.depth c.args.out.now.items c.args.name.now
    c.in-Some.number c.key_value-value.result.now c.append_plain.new.out.items c.append_parts.new.known
    c.append_parts.new.out.items c.in_ok-height.height
    c.len-start.result c.len.result c.keep_text.new.known plain c.key_value-value.ensures
    c.in_ok-height.ensures.appended (c.len-start.ensures ∙ c.append_plain.new.out.ok.0)
    (c.len.ensures ∙ c.append_parts.new.out.ok.0) c.keep_text.ensures

pub append_parts-parts-preserved : goal.append_parts-parts-preserved
append_parts-parts-preserved t c =
    let e = c.args.self.now in
    let value = c.args.value.now in
    let old = c.args.out.now.items in
    let before = c.parts.out.items in
    let after = c.match-part.out.items in
    let parts = take (c.parts.index + 1) value in
    elim c.match-part.branch [
      | append_parts-in-Bytes+in_ok-extend_from_slice-in-Bytes w ↦
          subst (λ known. AppendsParts c.args.quoting e c.args.depth parts old known after
          c.match-part.height) (sym w.known-is)
          (subst (λ height. AppendsParts c.args.quoting e c.args.depth parts old c.parts.known after height)
          (sym w.height-is)
          (parts_bytes c.args.quoting e c.args.depth old value c.parts.index (part_model c.part.result)
          w.in-Bytes.bytes.now c.parts.known before after c.parts.height c.part.ensures
          (ap part_model w.in-Bytes.is) c.parts.invariant
          (ap (λ v. v.items) w.out-is ∙ w.in_ok-extend_from_slice-in-Bytes.ensures.items)))
      | append_parts-in-Name+in_ok-below-in-Name w ↦
          subst (λ height. AppendsParts c.args.quoting e c.args.depth parts old c.match-part.known after
          height) (sym (w.height-is ∙ w.taller-height.ensures))
          (parts_name c.args.quoting e c.args.depth old value c.parts.index (part_model c.part.result)
          w.in-Name.name.now c.parts.known c.match-part.known before after c.parts.height
          w.in_ok-below-in-Name.below
          c.part.ensures (ap part_model w.in-Name.is) c.parts.invariant
          (subst (λ known. AppendsLate c.args.quoting e c.args.depth w.in-Name.name.now before known after
          w.in_ok-below-in-Name.below) (sym w.known-is)
          (subst (λ bytes. AppendsLate c.args.quoting e c.args.depth w.in-Name.name.now before
          w.append_below.new.known bytes w.in_ok-below-in-Name.below) (sym (ap (λ v. v.items) w.out-is))
          w.in_ok-below-in-Name.ensures.appended)))
    ]

pub append_parts-returns-clause-appended : goal.append_parts-returns-clause-appended
append_parts-returns-clause-appended t c =
    let value = c.args.value.now in
    let n : c.parts.index ≡ length value = omega arith in
    subst (λ parts. AppendsParts c.args.quoting c.args.self.now c.args.depth parts c.args.out.now.items
    c.parts.known c.parts.out.items c.parts.height) (ap (λ k. take k value) n ∙ take-length value)
    c.parts.invariant

pub append_parts-returns-in_err-below-in-Name-clause-refused :
    goal.append_parts-returns-in_err-below-in-Name-clause-refused
append_parts-returns-in_err-below-in-Name-clause-refused t c =
    on-err c.from_residual-in_err-below-in-Name.result
    (grows_on c.args.out.now.items c.parts.out.items c.append_below.new.out.items c.parts.invariant.grows
    c.in_err-below-in-Name.ensures.refused)

pub append_below-returns-clause-appended : goal.append_below-returns-clause-appended
append_below-returns-clause-appended t c =
    let d : suc (c.args.depth - 1) ≡ c.args.depth = omega arith in
    subst (λ k. IfOk c.append_within.result
    (AppendsLate c.args.quoting c.args.self.now k c.args.name.now c.args.out.now.items
    c.append_within.new.known c.append_within.new.out.items)) d c.append_within.ensures.appended
