-- The states so far are told, and the rest is to be told.
use Rattle.std.proofs.Common.{◌≡◌, ◌++◌, drop, map, string_bytes}
use Rattle.offer_terms.specs.Offered.{offering}
use Rattle.resolve_lines.specs.Lines.{members_text}
use Rattle.resolve_lines.proofs.classes.members_text.Given as goal

abbrev pub invariant-loop-state : goal.invariant-loop-state
invariant-loop-state l = members_text (map offering l.offers) l.states ≡ string_bytes l.text ++ members_text (map offering l.offers) (drop l.state-index l.states)
