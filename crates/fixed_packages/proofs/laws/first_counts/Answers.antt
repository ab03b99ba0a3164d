use Rattle.fixed_packages.proofs.FirstCounts.{names-first, candidates-first}
use Rattle.fixed_packages.proofs.laws.first_counts.Goals as goal

pub returns : goal.returns
returns c = record { names = names-first; candidates = candidates-first }
