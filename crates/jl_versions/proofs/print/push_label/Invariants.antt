-- What is written and what is still to write are the whole label; the identifiers so far are such as a version has.
use Rattle.std.proofs.Common.{◌≡◌, ◌<◌, ◌++◌, take, drop, true}
use Rattle.std.specs.Prelude.{string_bytes}
use Rattle.std.specs.List.{list_all}
use Rattle.jl_versions.specs.Printing.{label_text, is_label}
use Rattle.jl_versions.proofs.print.push_label.Given as goal

abbrev pub invariant-loop-ident : goal.invariant-loop-ident
invariant-loop-ident l =
    (l.mark < 128)
    × (string_bytes l.text ++ label_text l.mark (drop l.ident-index l.items) ≡ string_bytes l.fn.text ++ label_text l.fn.sign l.items)
    × (list_all is_label (take l.ident-index l.items) ≡ true)
