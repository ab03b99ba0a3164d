-- When making an instance is refused, and which count the refusal carries. (own rule)
use Rattle.std.specs.Prelude.{◌≡◌, ℕ, ◌<◌, ◌≤◌, ◌^◌, List, length, sum}
use Rattle.version_graph.specs.Graph.{Graph, bits, cells}
use Rattle.version_graph.specs.declared.fault.GraphFault.{GraphFault}
use Rattle.version_graph.specs.declared.fault.GraphFault.TheVariants.{Limit, Memory}
use Rattle.pkg_world.specs.declared.cause.LimitKind.TheVariants.{Packages, States, Bits, Cells, TreeDepth, TreeFiles}

-- the limits on packages and states: more than 4,096 packages carry 4,097, else the whole count of states
abbrev pub CountsPass : List ℕ → GraphFault → Type 0
CountsPass sizes Memory = Unit {0}
CountsPass sizes (Limit Packages n) = (4096 < length sizes) × (n ≡ 4097)
CountsPass sizes (Limit States n) = (length sizes ≤ 4096) × (65536 < sum sizes) × (n ≡ sum sizes)
CountsPass sizes (Limit Bits n) = ⊥
CountsPass sizes (Limit Cells n) = ⊥
CountsPass sizes (Limit TreeDepth n) = ⊥
CountsPass sizes (Limit TreeFiles n) = ⊥

-- the limits on bits and cells, bits first, each with its whole count
abbrev pub SumsPass : Graph → GraphFault → Type 0
SumsPass g Memory = Unit {0}
SumsPass g (Limit Packages n) = ⊥
SumsPass g (Limit States n) = ⊥
SumsPass g (Limit TreeDepth n) = ⊥
SumsPass g (Limit TreeFiles n) = ⊥
SumsPass g (Limit Bits n) = (2 ^ 30 < bits g) × (n ≡ bits g)
SumsPass g (Limit Cells n) = (bits g ≤ 2 ^ 30) × (2 ^ 25 < cells g) × (n ≡ cells g)

-- only want of memory
abbrev pub IsMemory : GraphFault → Type 0
IsMemory Memory = Unit {0}
IsMemory (Limit kind n) = ⊥
