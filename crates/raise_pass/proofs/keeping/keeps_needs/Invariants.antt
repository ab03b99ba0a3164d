use Rattle.std.proofs.Common.{◌≡◌, ◌<◌, ◌||◌, ℕ, true, get_or}
use Rattle.version_graph.specs.Graph.{is_root, does_need}
use Rattle.raise_pass.proofs.keeping.keeps_needs.Given as goal

abbrev pub invariant-loop-q : goal.invariant-loop-q
invariant-loop-q l = record {
  met : (k : ℕ) → k < l.q-index → (does_need l.instance l.p l.j (get_or l.needed k 0) || is_root l.instance (get_or l.needed k 0)) ≡ true;
}
