-- What `parse` gives for digits is their number, where it fits.
use Rattle.std.proofs.Common.{◌∙◌}
use Rattle.jl_versions.proofs.Numerals.{read_gives}
use Rattle.jl_versions.proofs.ident.digits_number.Goals as goal

pub returns : goal.returns
returns c = c.ok.ensures.value ∙ read_gives c.args.digits.now _ c.parse.ensures.value.0 c.requires.digits c.requires.some
