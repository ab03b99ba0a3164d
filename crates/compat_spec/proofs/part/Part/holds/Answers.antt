-- Each interval with an upper end is what its ends cut out.
use Rattle.std.proofs.Common.{refl, sym, ◌∙◌}
use Rattle.compat_spec.proofs.Ends.{between}
use Rattle.compat_spec.proofs.part.Part.holds.Goals as goal

pub returns-in-Between : goal.returns-in-Between
returns-in-Between c = rw c.in-Between.is (c.up_to-in-Between.ensures ∙ sym (between c.in-Between.low c.in-Between.high _ _ _ _ refl))
