use Rattle.std.proofs.Common.{length, sym, ap, ◌∙◌}
use Rattle.jl_versions.specs.Triple.{triple_of}
use Rattle.selection_check.proofs.Triples.{three}
use Rattle.selection_check.proofs.checking.julia_version.Goals as goal

pub returns : goal.returns
returns c = let gives = c.into_iter-numbers.ensures.into_iter_gives in ap triple_of c.of.ensures ∙ three c.args.triple (ap length (sym gives.0) ∙ gives.1)
