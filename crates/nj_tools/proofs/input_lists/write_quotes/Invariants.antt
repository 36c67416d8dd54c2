use Rattle.std.proofs.Common.{drop, flat_map, map}
use Rattle.nj_tools.specs.Inside.Outputs.{IsSame, Leaves}
use Rattle.nj_tools.specs.Listings.{terminated}
use Rattle.nj_tools.proofs.input_lists.write_quotes.Given as goal

abbrev pub invariant-quotes : goal.invariant-quotes
invariant-quotes g l = record {
  same : IsSame l.fn.out l.out;
  left : Leaves g.S.Sink.state l.fn.out l.out
      (flat_map (terminated l.style) (map (λ quote. quote.items) l.quotes))
      (flat_map (terminated l.style) (map (λ quote. quote.items) (drop l.quote-index l.quotes)));
}
