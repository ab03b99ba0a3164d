-- What a text means: the nodes that it tells, or the number of its first bad line. It is a function of the text alone; that it
-- is so by the text of a log is a law.
--     log_meant text     the nodes, or the line
use Rattle.std.specs.Prelude.{◌≡◌, ℕ, zero, suc, ◌+◌, ◌*◌, ◌-◌, ◌^◌, ◌==◌, ◌&&◌, nat_lt, nat_le, Bool, true, false, not, if◌then◌else◌, List, [], ◌∷◌, take, drop, codes, Option, None, Some, option_map, Result, Ok, Err}
use Rattle.std.specs.List.{position}
use Rattle.std.specs.Option.{option_and_then}
use Rattle.std.specs.Str.{bytes_eq}
use Rattle.pkg_world.specs.Each.{onto}
use Rattle.refutation_log.specs.declared.node.Node.{Node}
use Rattle.refutation_log.specs.declared.node.NodeKind.{NodeKind}
use Rattle.refutation_log.specs.declared.node.NodeKind.TheVariants.{Leaf, Branch}
use Rattle.log_text.specs.declared.fault.LogFault.{LogFault}
use Rattle.log_text.specs.declared.fault.LogFault.TheVariants.{BadLog, Memory}

-- ---- words and numbers

-- what stands before the first such byte, and what stands behind it
unfoldable pub cut_at : ℕ → List ℕ → Option (List ℕ × List ℕ)
cut_at mark bytes = option_map (λ place. (take place bytes, drop (place + 1) bytes)) (position (λ byte. byte == mark) bytes)

abbrev pub is_digit : ℕ → Bool
is_digit byte = nat_le 48 byte && nat_le byte 57

-- one byte or more, of which no zero leads others
abbrev pub is_plain : List ℕ → Bool
is_plain [] = false
is_plain (byte ∷ []) = true
is_plain (byte ∷ other ∷ bytes) = not (byte == 48)

-- the number with a digit more, where it stays below 2^32
abbrev pub value_with : ℕ → ℕ → Option ℕ
value_with n byte = if is_digit byte && nat_lt (10 * n + (byte - 48)) (2 ^ 32) then Some (10 * n + (byte - 48)) else None

-- the number that digits mean behind others that mean n
unfoldable pub value_after : ℕ → List ℕ → Option ℕ
value_after n [] = Some n
value_after n (byte ∷ bytes) = option_and_then (λ next. value_after next bytes) (value_with n byte)

unfoldable pub number_meant : List ℕ → Option ℕ
number_meant word = if is_plain word then value_after 0 word else None

-- ---- lines

abbrev pub state_meant : Bool → List ℕ → Option (Option ℕ)
state_meant true word = if bytes_eq word (codes "-") then Some None else None
state_meant false word = option_map Some (number_meant word)

abbrev pub branch_with : ℕ → ℕ → Option NodeKind
branch_with p children = if nat_lt 0 children then Some (Branch p children) else None

abbrev pub branch_meant : Option (List ℕ × List ℕ) → Option NodeKind
branch_meant None = None
branch_meant (Some words) = option_and_then (λ p. option_and_then (branch_with p) (number_meant words.1)) (number_meant words.0)

abbrev pub kind_by : List ℕ → Option (List ℕ × List ℕ) → Option NodeKind
kind_by text None = if bytes_eq text (codes "leaf") then Some Leaf else None
kind_by text (Some words) = if bytes_eq words.0 (codes "branch") then branch_meant (cut_at 32 words.1) else None

abbrev pub kind_meant : List ℕ → Option NodeKind
kind_meant text = kind_by text (cut_at 32 text)

abbrev pub node_by : Bool → Option (List ℕ × List ℕ) → Option Node
node_by first None = None
node_by first (Some words) = option_and_then (λ state. option_map (λ kind. record { state = state; kind = kind }) (kind_meant words.1)) (state_meant first words.0)

unfoldable pub node_meant : Bool → List ℕ → Option Node
node_meant first line = node_by first (cut_at 32 line)

unfoldable pub count_meant : List ℕ → Option ℕ
count_meant line = if bytes_eq (take 12 line) (codes "jlpkg-log 1 ") then number_meant (drop 12 line) else None

-- ---- the text

-- the node of the first line, and what stands behind that
abbrev pub next_by : Bool → Option (List ℕ × List ℕ) → Option (Node × List ℕ)
next_by first None = None
next_by first (Some lines) = option_map (λ x. (x, lines.1)) (node_meant first lines.0)

unfoldable pub next_meant : Bool → List ℕ → Option (Node × List ℕ)
next_meant first bytes = next_by first (cut_at 10 bytes)

abbrev pub go_on : ℕ → (List ℕ → Result (List Node) ℕ) → Option (Node × List ℕ) → Result (List Node) ℕ
go_on line next None = Err line
go_on line next (Some found) = onto (found.0 ∷ []) (next found.1)

abbrev pub at_end : ℕ → List ℕ → Result (List Node) ℕ
at_end line [] = Ok []
at_end line (byte ∷ bytes) = Err line

-- so many nodes, of which the first stands on the line of this number
unfoldable pub nodes_meant : ℕ → Bool → ℕ → List ℕ → Result (List Node) ℕ
nodes_meant zero first line bytes = at_end line bytes
nodes_meant (suc n) first line bytes = go_on line (nodes_meant n false (line + 1)) (next_meant first bytes)

abbrev pub nodes_by : List ℕ → Option ℕ → Result (List Node) ℕ
nodes_by bytes None = Err 1
nodes_by bytes (Some count) = nodes_meant count true 2 bytes

abbrev pub log_by : Option (List ℕ × List ℕ) → Result (List Node) ℕ
log_by None = Err 1
log_by (Some lines) = nodes_by lines.1 (count_meant lines.0)

unfoldable pub log_meant : List ℕ → Result (List Node) ℕ
log_meant text = log_by (cut_at 10 text)

-- the line that is told is that of the text
abbrev pub RefusesAt : Result (List Node) ℕ → LogFault → Type 0
RefusesAt meant (BadLog line) = meant ≡ Err line
RefusesAt meant Memory = Unit {0}
