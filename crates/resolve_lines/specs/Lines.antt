-- The lines of `resolve`: `resolved K packages, N nodes`; and the classes of versions, a line `class NAME UUID REP: MEMBERS`
-- for each, where REP stands for the class. (own rule)
--     resolved_line count nodes     the line of what was resolved
--     class_lines book classes      the lines of classes
use Rattle.std.specs.Prelude.{ℕ, List, [], ◌∷◌, ◌++◌, codes, slice_get, Option, Some, None}
use Rattle.std.specs.List.{flat_map}
use Rattle.std.specs.Fmt.{decimal}
use Rattle.uuid.specs.Text.{hyphenated_text, lower}
use Rattle.jl_versions.specs.Printing.{printed}
use Rattle.offer_terms.specs.Offered.{Offering}
use Rattle.offer_terms.specs.Booked.{Packed}
use Rattle.resolve_core.specs.Classed.{ClassSaid}

abbrev pub resolved_line : ℕ → ℕ → List ℕ
resolved_line count nodes = codes "resolved " ++ (decimal count ++ (codes " packages, " ++ (decimal nodes ++ (codes " nodes" ++ 10 ∷ []))))

-- a package's state: the version of the offer in that place; any other state is that the package is absent
abbrev pub state_text : Option Offering → List ℕ
state_text None = codes "absent"
state_text (Some x) = printed x.version

abbrev pub state_of : List Offering → ℕ → List ℕ
state_of offers s = state_text (slice_get offers s)

-- the states, each behind a space
abbrev pub members_text : List Offering → List ℕ → List ℕ
members_text offers states = flat_map (λ s. 32 ∷ state_of offers s) states

abbrev pub class_line_of : ClassSaid → Packed → List ℕ
class_line_of c it =
    codes "class " ++ (it.name ++ (codes " " ++ (hyphenated_text lower it.uuid ++ (codes " " ++ (state_of it.offers c.standing ++ (codes ":" ++ (members_text it.offers c.members ++ 10 ∷ [])))))))

-- a class of a package that the book doesn't hold has no line
abbrev pub class_line : ClassSaid → Option Packed → List ℕ
class_line c None = []
class_line c (Some it) = class_line_of c it

abbrev pub class_lines : List Packed → List ClassSaid → List ℕ
class_lines book classes = flat_map (λ c. class_line c (slice_get book c.number)) classes
