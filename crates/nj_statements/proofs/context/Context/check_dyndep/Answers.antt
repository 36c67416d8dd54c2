use Rattle.std.proofs.Common.{ℕ, List, Some, None, Err, option_map, if◌then◌else◌, sym, ap, subst, ◌∙◌, codes}
use Rattle.nj_text.specs.Paths.{clean_path_of}
use Rattle.nj_edges.specs.Edges.{is_among}
use Rattle.nj_edge_env.specs.LateStrings.{asked_text}
use Rattle.nj_faults.specs.declared.fault.Cause.TheVariants.{DyndepNotInput}
use Rattle.nj_faults.specs.Faults.{IsFault, fault_at}
use Rattle.nj_statements.specs.EdgeList.{file_given}
use Rattle.nj_statements.proofs.LateFaults.{dyndep-empty, dyndep-input, dyndep-other}
use Rattle.nj_statements.proofs.context.Context.check_dyndep.Goals as goal

pub returns-in-Err-EmptyPath-clause-fault : goal.returns-in-Err-EmptyPath-clause-fault
returns-in-Err-EmptyPath-clause-fault c = λ entries n sees.
    dyndep-empty c.args.self.place.file.now c.args.self.place.spot c.args.edges.now.«open».inputs
    c.give.new.text.items (asked_text n (codes "dyndep")) (c.in_ok-give.ensures entries n sees)
    (c.clean_path.ensures.empty (c.in-Err-EmptyPath.is ∙ ap Err c.in-Err-EmptyPath.field-0-is))

pub returns-in-Err-EmptyPath-clause-file : goal.returns-in-Err-EmptyPath-clause-file
returns-in-Err-EmptyPath-clause-file c = λ entries n sees.
    let empty = c.clean_path.ensures.empty (c.in-Err-EmptyPath.is ∙ ap Err c.in-Err-EmptyPath.field-0-is) in
    ap (λ text. option_map Some (file_given text)) (sym empty ∙ c.in_ok-give.ensures entries n sees)

pub returns-in-Some-clause-fault : goal.returns-in-Some-clause-fault
returns-in-Some-clause-fault c = λ entries n sees.
    let file = c.args.self.place.file.now in
    let spot = c.args.self.place.spot in
    let gives = c.in_ok-give.ensures entries n sees in
    dyndep-input file spot c.args.edges.now.«open».inputs c.give.new.text.items
    (asked_text n (codes "dyndep")) gives
    (sym (c.in-Some.ensures.input ∙ ap (is_among c.args.edges.now.«open».inputs) c.in-Ok.ensures.path))

pub returns-in-Some-clause-file : goal.returns-in-Some-clause-file
returns-in-Some-clause-file c = λ entries n sees.
    ap Some (c.in-Some.ensures.file ∙ ap Some c.in-Ok.ensures.path)
    ∙ ap (λ b. option_map Some (if b then None else Some (clean_path_of c.give.new.text.items)))
    (sym c.in-Ok.ensures.meant)
    ∙ ap (λ text. option_map Some (file_given text)) (c.in_ok-give.ensures entries n sees)

pub returns-clause-fault : goal.returns-clause-fault
returns-clause-fault c = λ entries n sees.
    let file = c.args.self.place.file.now in
    let spot = c.args.self.place.spot in
    let gives = c.in_ok-give.ensures entries n sees in
    dyndep-other file spot c.args.edges.now.«open».inputs c.give.new.text.items
    (asked_text n (codes "dyndep")) gives c.fault.result c.in-Ok.ensures.meant
    (sym (c.in_default.ensures.input ∙ ap (is_among c.args.edges.now.«open».inputs) c.in-Ok.ensures.path))
    (subst (λ (path : List ℕ). IsFault (Some (fault_at file spot (DyndepNotInput path))) c.fault.result)
    (c.in_ok-new.ensures ∙ c.in-Ok.ensures.path) c.fault.ensures)
