use Rattle.std.proofs.Common.{ap, refl, ◌∙◌, codes}
use Rattle.nj_tools.specs.Compdb.{Compilation}
use Rattle.nj_tools.proofs.CompdbLemmas.{object-appended, added-then}
use Rattle.nj_tools.proofs.compdb.append_object.Goals as goal

pub returns : goal.returns
returns c =
    let separator = c.args.separator.now in
    let directory = c.args.directory.now in
    let command = c.deref.ensures.value ∙ ap (λ (s : Compilation). s.command) c.strings.view_is in
    let file = c.deref-2.ensures.value ∙ ap (λ (s : Compilation). s.file) c.strings.view_is in
    let output = c.deref-3.ensures.value ∙ ap (λ (s : Compilation). s.output) c.strings.view_is in
    added-then c.extend_from_slice-3.result _ c.append_member-4.new.text.items (codes "  }") _
    c.extend_from_slice-3.ensures.items
    (object-appended c.args.text.now.items separator directory c.args.strings.now c.deref.result.now
    c.deref-2.result.now c.deref-3.result.now command file output
    _ _ _ _ _ _ _
    c.in_ok-extend_from_slice.ensures.items c.in_ok-extend_from_slice-2.ensures.items
    c.in_ok-append_member.ensures c.in_ok-append_member-2.ensures c.in_ok-append_member-3.ensures
    c.in_ok-append_member-4.ensures refl)
