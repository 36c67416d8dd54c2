use Rattle.std.proofs.Common.{◌∙◌, ◌-◌, get_or, refl, sym}
use Rattle.nj_edges.proofs.UserLemmas.{place-within, placed-more}
use Rattle.nj_edges.proofs.users.place_use.Goals as goal

pub bounds-edges-place : goal.bounds-edges-place
bounds-edges-place c =
    let capacity = c.requires.capacity in
    let other = sym (c.mark.ensures.known capacity.1 capacity.2.marks_are) ∙ c.if-mark.false in
    place-within capacity.0 capacity.1 c.args.places.now c.args.marks.now c.args.edges.now c.args.file.0
    c.args.edge capacity.2 c.requires.file other capacity.3

pub returns : goal.returns
returns c all uses placed capacity =
    let other = sym (c.mark.ensures.known uses placed.marks_are) ∙ c.if-mark.false in
    placed-more all uses c.args.places.now c.args.marks.now c.args.edges.now c.args.file.0 c.args.edge placed
    c.requires.file other capacity (get_or c.args.places.now c.args.file.0 0 - 1) refl c.mark.new.marks
    (c.mark.ensures.marks uses placed.marks_are)
