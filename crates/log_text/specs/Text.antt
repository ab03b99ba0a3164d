-- The text of a log. (own rule)
--     text_of nodes            the text: a first line with how many nodes there are, and then a line for each
--     IsPrintable nodes        the nodes are such as a text can tell
--     IsTextOf text nodes      the text is that of these nodes
-- The first line is `jlpkg-log 1 N`. The line of a node is `S leaf` or `S branch P C`: S is the state that was chosen at the
-- parent, `-` at the first node; P is a package, and C how many children there are, at least one. Numbers are decimal, below
-- 2^32 and without leading zeros. Every line ends with a newline, and nothing follows.
use Rattle.std.specs.Prelude.{◌≡◌, ℕ, ◌<◌, ◌^◌, Bool, true, false, List, [], ◌∷◌, ◌++◌, length, map, codes, Option, None, Some}
use Rattle.std.specs.Fmt.{decimal}
use Rattle.refutation_log.specs.declared.node.Node.{Node}
use Rattle.refutation_log.specs.declared.node.NodeKind.{NodeKind}
use Rattle.refutation_log.specs.declared.node.NodeKind.TheVariants.{Leaf, Branch}

-- ---- the text

-- each line, and a newline behind it
abbrev pub ended_lines : List (List ℕ) → List ℕ
ended_lines [] = []
ended_lines (line ∷ lines) = line ++ 10 ∷ ended_lines lines

abbrev pub first_line : ℕ → List ℕ
first_line count = codes "jlpkg-log 1 " ++ decimal count

abbrev pub state_text : Option ℕ → List ℕ
state_text None = codes "-"
state_text (Some state) = decimal state

abbrev pub kind_text : NodeKind → List ℕ
kind_text Leaf = codes "leaf"
kind_text (Branch p children) = codes "branch " ++ (decimal p ++ 32 ∷ decimal children)

abbrev pub node_line : Node → List ℕ
node_line x = state_text x.state ++ 32 ∷ kind_text x.kind

abbrev pub text_of : List Node → List ℕ
text_of nodes = ended_lines (first_line (length nodes) ∷ map node_line nodes)

-- ---- the nodes that it can tell

-- the first node alone has no state
abbrev pub HasState : Bool → Option ℕ → Type 0
HasState true None = Unit {0}
HasState true (Some state) = ⊥
HasState false None = ⊥
HasState false (Some state) = state < 2 ^ 32

-- a branch has one child or more
abbrev pub IsKind : NodeKind → Type 0
IsKind Leaf = Unit {0}
IsKind (Branch p children) = (p < 2 ^ 32) × (0 < children) × (children < 2 ^ 32)

pub record IsNode (first : Bool) (x : Node) : Type 0 where
  pub state : HasState first x.state
  pub kind : IsKind x.kind

-- nodes of which the first is that of a log, if so, and no other
abbrev pub AreNodes : Bool → List Node → Type 0
AreNodes first [] = Unit {0}
AreNodes first (x ∷ xs) = IsNode first x × AreNodes false xs

pub record IsPrintable (nodes : List Node) : Type 0 where
  pub few : length nodes < 2 ^ 32
  pub each : AreNodes true nodes

pub record IsTextOf (text : List ℕ) (nodes : List Node) : Type 0 where
  pub printable : IsPrintable nodes
  pub told : text ≡ text_of nodes

-- the text is that of some log
abbrev pub IsLogText : List ℕ → Type 0
IsLogText text = (nodes : List Node) × IsTextOf text nodes
