use Rattle.std.proofs.Common.{length, sym, ap, ◌∙◌}
use Rattle.jl_versions.specs.Triple.{triple_of}
use Rattle.book_graph.proofs.Triples.{three}
use Rattle.book_graph.proofs.making.julia_of.Goals as goal

pub returns : goal.returns
returns c = let gives = c.into_iter-numbers.ensures.into_iter_gives in ap triple_of c.of.ensures ∙ three c.args.demand.now.julia (ap length (sym gives.0) ∙ gives.1)
