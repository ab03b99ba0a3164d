-- the lines so far, and those to come
use Rattle.std.proofs.Common.{◌≡◌, ◌++◌, drop, string_bytes}
use Rattle.log_text.specs.Text.{text_of}
use Rattle.log_text.proofs.Nodes.{lines_of}
use Rattle.log_text.proofs.printing.log_text.Given as goal

abbrev pub invariant-loop-node : goal.invariant-loop-node
invariant-loop-node l = text_of l.nodes ≡ string_bytes l.text ++ lines_of (drop l.node-index l.nodes)
