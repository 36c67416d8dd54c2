use Rattle.std.proofs.Common.{IsUtf8, inl, inr, ap, sym, subst, ◌∙◌, true≢false}
use Rattle.nj_statements.proofs.Faults.{by-fault}
use Rattle.nj_graph.proofs.JoiningTables.{name-utf8, name-bad}
use Rattle.nj_graph.proofs.dyndep_files.file_name.Goals as goal

pub returns-in-Ok : goal.returns-in-Ok
returns-in-Ok c =
    let gives = ap (λ v. v.items) c.in-Ok.ensures.ok ∙ c.in_ok-bytes.ensures.items in
    (name-utf8 c.args.path.now c.in-Ok.path gives, gives)

pub returns : goal.returns
returns c =
    let bad = name-bad c.args.path.now (λ good. true≢false
    (sym (c.in-Err.ensures.succeeds (subst IsUtf8 (sym c.in_ok-bytes.ensures.items) good)))) in
    by-fault _ _ c.fault.ensures inl (λ is. inr (bad, is))
