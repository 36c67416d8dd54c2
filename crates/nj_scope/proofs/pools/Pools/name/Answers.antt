use Rattle.std.proofs.Common.{Some, option_map, slice_get, sym, ap, ◌∙◌}
use Rattle.std.proofs.lemmas.Option.{slice_get-map}
use Rattle.nj_scope.proofs.pools.Pools.name.Goals as goal

pub returns-in-Some : goal.returns-in-Some
returns-in-Some c =
    ap Some c.as_slice.ensures.value ∙ ap (option_map (λ k. k.items)) c.in-Some.ensures.key
    ∙ sym (slice_get-map (λ k. k.items) c.self.inside.names.keys c.args.index)
    ∙ ap (λ names. slice_get names c.args.index) c.self.view_is

pub returns-in-None : goal.returns-in-None
returns-in-None c =
    ap (option_map (λ k. k.items)) c.in-None.ensures.key
    ∙ sym (slice_get-map (λ k. k.items) c.self.inside.names.keys c.args.index)
    ∙ ap (λ names. slice_get names c.args.index) c.self.view_is
