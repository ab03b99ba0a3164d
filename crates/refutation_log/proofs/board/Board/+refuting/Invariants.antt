use Rattle.std.proofs.Common.{ℕ, Bool, ◌+◌, ◌*◌, ◌≤◌, List, length}
use Rattle.refutation_log.specs.declared.node.Node.{Node}
use Rattle.version_graph.specs.Domain.{has}
use Rattle.graph_pruning.specs.Marked.{standing_in}
use Rattle.refutation_log.specs.Found.{NoChildrenAt, ChildrenTake}
use Rattle.refutation_log.specs.Scratch.{Fits, IsExtended, marks}
use Rattle.refutation_log.proofs.board.Board.+refuting.Given as goal

abbrev pub decreases-subtree : goal.decreases-subtree
decreases-subtree l = 4 * length l.nodes.now

abbrev pub decreases-branch : goal.decreases-branch
decreases-branch l = 4 * length l.nodes.now + 3

abbrev pub decreases-children : goal.decreases-children
decreases-children l = 4 * length l.nodes.now + 2

abbrev pub decreases-child : goal.decreases-child
decreases-child l = 4 * length l.nodes.now + 1

abbrev pub invariant-children-loop-left : goal.invariant-children-loop-left
invariant-children-loop-left l = record {
  fits : Fits l.instance l.classes l.self;
  extended : IsExtended l.initial.self l.self;
  shorter : length l.nodes ≤ length l.initial.nodes;
  none : NoChildrenAt l.instance (standing_in l.classes) (has l.initial.self.domains) (marks l.initial.self) l.p l.left l.nodes →
      NoChildrenAt l.instance (standing_in l.classes) (has l.initial.self.domains) (marks l.initial.self) l.p l.initial.left l.initial.nodes;
  found : (rest : List Node) (missing : ℕ → Bool) →
      ChildrenTake l.instance (standing_in l.classes) (has l.initial.self.domains) (marks l.initial.self) l.p l.left l.nodes rest (has l.self.missing l.p) missing →
      ChildrenTake l.instance (standing_in l.classes) (has l.initial.self.domains) (marks l.initial.self) l.p l.initial.left l.initial.nodes rest (has l.initial.self.missing l.p) missing;
}

abbrev pub decreases-children-loop-left : goal.decreases-children-loop-left
decreases-children-loop-left l = l.left
