-- Refusals of an instance as those of resolving.
use Rattle.std.proofs.Common.{ℕ, List, sym, subst}
use Rattle.offer_terms.specs.Booked.{Packed}
use Rattle.offer_terms.specs.Demanded.{Wanted}
use Rattle.version_graph.specs.declared.fault.GraphFault.{GraphFault}
use Rattle.version_graph.specs.declared.fault.GraphFault.TheVariants as limits
use Rattle.book_graph.specs.Limits.{IsPast}
use Rattle.resolve_core.specs.Resolved.{IsRefused, SameLimit}
use Rattle.resolve_core.specs.declared.fault.ResolveFault.{ResolveFault}

pub refused_past : (book : List Packed) (w : Wanted) (budget : ℕ) (fault : GraphFault) (refusal : ResolveFault) → IsPast book w fault → SameLimit fault refusal → IsRefused book w budget refusal
refused_past book w budget (limits.Limit kind count) refusal past same = subst (IsRefused book w budget) (sym same) past
refused_past book w budget limits.Memory refusal past same = subst (IsRefused book w budget) (sym same) tt
