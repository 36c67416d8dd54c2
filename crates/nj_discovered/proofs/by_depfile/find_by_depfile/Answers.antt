use Rattle.std.proofs.Common.{◌≡◌, None, Some, ap, inl, inr, refl, subst}
use Rattle.std.specs.Prelude.{IfOk}
use Rattle.nj_scope.specs.Sources.{outcome_bytes}
use Rattle.nj_edges.specs.Edges.{edge_at}
use Rattle.nj_discovered.specs.Discovered.{IsByText, by_text}
use Rattle.nj_discovered.specs.Discovered.TextFound.{Text, Unreadable}
use Rattle.nj_discovered.specs.declared.verdict.DepfileError.TheVariants as error
use Rattle.nj_discovered.specs.declared.verdict.Unknown.TheVariants.{NoDepfile}
use Rattle.nj_discovered.specs.declared.verdict.Verdict.TheVariants.{Faulty, Unknown}
use Rattle.nj_discovered.specs.Inside.Finding.{Finds}
use Rattle.nj_discovered.proofs.FinderLemmas.{finds-as, finds-none, reading-failed, text-given}
use Rattle.nj_discovered.proofs.by_depfile.find_by_depfile.Goals as goal

pub returns-in_default-clause-found : goal.returns-in_default-clause-found
returns-in_default-clause-found g c =
    let edge = edge_at c.args.graph.now.edges c.args.edge.0 in
    let state = g.S.FileSource.state c.args.files.now in
    finds-none (IsByText state state edge c.args.depfile.now) c.args.names.now c.args.numbers.now.items
    (Faulty error.Unreadable)
    (Unreadable, inl c.in_default.ensures.cases.0, refl)

pub returns-in-Ok-Some-clause-found : goal.returns-in-Ok-Some-clause-found
returns-in-Ok-Some-clause-found g c =
    let edge = edge_at c.args.graph.now.edges c.args.edge.0 in
    let before = g.S.FileSource.state c.args.files.now in
    let after = g.S.FileSource.state c.read.new.self in
    let text = c.in-Ok-Some.text.items in
    finds-as c.find_by_text.result (λ one. one ≡ by_text edge (Text (Some text)))
    (IsByText before after edge c.args.depfile.now) c.args.names.now c.find_by_text.new.names
    c.args.numbers.now.items c.find_by_text.new.numbers.items
    (λ one is. (
      Text (Some text),
      (
        c.in-Ok.ensures.cases.1,
        text-given before after c.in-Ok.path.now c.args.depfile.now c.in-Ok-Some.field-0 (Some text)
            (ap outcome_bytes c.in-Ok-Some.field-0-is) c.in-Ok.ensures.cases.0 c.in-Ok-Some.ensures,
      ),
      is,
    ))
    (subst (λ t. IfOk c.find_by_text.result
    (Finds (λ one. one ≡ by_text edge (Text (Some t))) c.args.names.now c.find_by_text.new.names
    c.args.numbers.now.items c.find_by_text.new.numbers.items))
    c.deref.ensures.value c.find_by_text.ensures)

pub returns-in-Ok-None-clause-found : goal.returns-in-Ok-None-clause-found
returns-in-Ok-None-clause-found g c =
    let edge = edge_at c.args.graph.now.edges c.args.edge.0 in
    let before = g.S.FileSource.state c.args.files.now in
    let after = g.S.FileSource.state c.read.new.self in
    finds-none (IsByText before after edge c.args.depfile.now) c.args.names.now c.args.numbers.now.items
    (Unknown NoDepfile) (
      Text None,
      (
        c.in-Ok.ensures.cases.1,
        text-given before after c.in-Ok.path.now c.args.depfile.now
            c.in-Ok-None.field-0 None (ap outcome_bytes c.in-Ok-None.field-0-is) c.in-Ok.ensures.cases.0
            c.in-Ok-None.ensures,
      ),
      refl,
    )

pub returns-in-Err-Io-clause-found : goal.returns-in-Err-Io-clause-found
returns-in-Err-Io-clause-found g c =
    let edge = edge_at c.args.graph.now.edges c.args.edge.0 in
    let before = g.S.FileSource.state c.args.files.now in
    let after = g.S.FileSource.state c.read.new.self in
    finds-none (IsByText before after edge c.args.depfile.now) c.args.names.now c.args.numbers.now.items
    (Faulty error.Unreadable) (
      Unreadable,
      inr (reading-failed before after c.in-Ok.path.now c.in-Err-Io.field-0 c.in-Err-Io.field-0-is
          c.in-Err-Io.ensures),
      refl,
    )
