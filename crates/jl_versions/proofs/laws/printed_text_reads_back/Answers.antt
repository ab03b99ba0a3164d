use Rattle.jl_versions.proofs.PrintReads.{printed_reads}
use Rattle.jl_versions.proofs.laws.printed_text_reads_back.Goals as goal

pub returns : goal.returns
returns c = printed_reads
