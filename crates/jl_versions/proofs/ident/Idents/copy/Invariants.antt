-- The copy has the identifiers so far.
use Rattle.std.proofs.Common.{◌≡◌, take}
use Rattle.jl_versions.proofs.ident.Idents.copy.Given as goal

abbrev pub invariant-loop-ident : goal.invariant-loop-ident
invariant-loop-ident l = l.copy ≡ take l.ident-index l.items
