-- the digits so far mean the value
use Rattle.std.proofs.Common.{◌≡◌, drop}
use Rattle.log_text.specs.Meant.{value_after}
use Rattle.log_text.proofs.words.value_of.Given as goal

abbrev pub invariant-loop-digit : goal.invariant-loop-digit
invariant-loop-digit l = value_after 0 l.digits ≡ value_after l.value (drop l.digit-index l.digits)
