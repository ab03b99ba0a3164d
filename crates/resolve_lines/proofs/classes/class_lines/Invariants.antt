-- The classes so far are told, and the rest is to be told.
use Rattle.std.proofs.Common.{◌≡◌, ◌++◌, drop, map, string_bytes}
use Rattle.resolve_core.specs.Classed.{class_said}
use Rattle.resolve_lines.specs.Lines.{class_lines}
use Rattle.resolve_lines.proofs.classes.class_lines.Given as goal

abbrev pub invariant-loop-class : goal.invariant-loop-class
invariant-loop-class l = class_lines l.book (map class_said l.classes) ≡ string_bytes l.text ++ class_lines l.book (map class_said (drop l.class-index l.classes))
