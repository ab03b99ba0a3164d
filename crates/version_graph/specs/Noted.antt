-- The trail: which states were taken out of the full domains, in order, and at which of its lengths the
-- domains were found to be stable. (own rule)
use Rattle.std.specs.Prelude.{◌≡◌, ℕ, ◌+◌, ◌<◌, ◌≤◌, Bool, true, false, not, ◌&&◌, List, [], length, slice_index_or, take, sum}
use Rattle.std.specs.List.{list_any}
use Rattle.version_graph.specs.Graph.{Graph, is_state, is_offered}
use Rattle.version_graph.specs.Family.{Family, IsStable, IsFilled}
use Rattle.version_graph.specs.Domain.{Rows, has, total, IsFor}

pub record History : Type 0 where
  -- the states that were taken, as package and state
  pub notes : List (ℕ × ℕ)
  -- for each length, whether the domains were stable and filled at that length
  pub settled : List Bool
  -- how many notes there is room for
  pub room : ℕ

-- whether the state i of p is noted
unfoldable pub is_noted : List (ℕ × ℕ) → ℕ → ℕ → Bool
is_noted notes p i = list_any (λ n. is_state p i n.0 n.1) notes

-- the full domains without the noted states
unfoldable pub left_by : Graph → List (ℕ × ℕ) → Family
left_by g notes p i = is_offered g p i && not (is_noted notes p i)

-- the note at a place
abbrev pub note_at : List (ℕ × ℕ) → ℕ → ℕ × ℕ
note_at notes k = slice_index_or notes k (0, 0)

-- whether the trail says of its length k that the domains were stable and filled
abbrev pub is_settled_at : History → ℕ → Bool
is_settled_at t k = slice_index_or t.settled k false

-- of the lengths up to n both say the same
abbrev pub SaysAlike : History → History → ℕ → Type 0
SaysAlike old new n = (k : ℕ) → k ≤ n → is_settled_at new k ≡ is_settled_at old k

-- stable, and no domain is empty
pub record IsSettled (g : Graph) (f : Family) : Type 0 where
  pub stable : IsStable g f
  pub filled : IsFilled g f

-- the trail holds exactly what was taken from these domains since they were full
pub record Holds (g : Graph) (d : Rows) (t : History) : Type 0 where
  pub shape : IsFor g d
  -- the domains are the full ones without the noted states
  pub left : (p i : ℕ) → has d p i ≡ left_by g t.notes p i
  -- each noted state was there when it was taken
  pub taken : (k : ℕ) → k < length t.notes → left_by g (take k t.notes) (note_at t.notes k).0 (note_at t.notes k).1 ≡ true
  -- there is room to note every state that is left
  pub room : total d + length t.notes ≤ t.room
  pub lengths : total d + length t.notes < length t.settled
  -- at a length that is said to be settled the domains were stable and filled
  pub settled : (k : ℕ) → k ≤ length t.notes → is_settled_at t k ≡ true → IsSettled g (left_by g (take k t.notes))

-- a trail without a note, with room for all states
pub record IsFresh (g : Graph) (t : History) : Type 0 where
  pub empty : t.notes ≡ []
  pub room : sum g.sizes ≤ t.room
  pub lengths : sum g.sizes < length t.settled
  pub unsettled : (k : ℕ) → is_settled_at t k ≡ false

-- the domains that a trail holds are told by its notes
abbrev pub NotesTellDomains : Type 0
NotesTellDomains = (g : Graph) (d e : Rows) (s t : History) → Holds g d s → Holds g e t → s.notes ≡ t.notes →
    (p i : ℕ) → has d p i ≡ has e p i

-- a state that is left in such domains isn't forbidden alone
abbrev pub HeldIsOffered : Type 0
HeldIsOffered = (g : Graph) (d : Rows) (t : History) → Holds g d t → (p i : ℕ) → has d p i ≡ true → is_offered g p i ≡ true
