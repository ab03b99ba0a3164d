use Rattle.std.proofs.Common.{◌≡◌, ◌<◌, ℕ, length, get_or, []}
use Rattle.version_graph.specs.Stored.{rows_of}
use Rattle.version_graph.specs.Links.{link_at, IsFree}
use Rattle.version_graph.proofs.linking.free_links.Given as goal

abbrev pub invariant-loop-p : goal.invariant-loop-p
invariant-loop-p l = record {
  each : length l.links.items ≡ l.p;
  numbers : (p : ℕ) → p < l.p → (link_at l.links.items p).numbers ≡ get_or (rows_of l.rows) p [];
  free : (p : ℕ) → p < l.p → IsFree (link_at l.links.items p) (get_or l.sizes p 0) l.sizes;
}
