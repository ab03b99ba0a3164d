-- What the steps of finding a stanza with a tree cite.
use Rattle.std.specs.Prelude.{ℕ, if◌then◌else◌, List, Option, Some, None}
use Rattle.home_commands.specs.VerifyDue.{Bearer, is_after}
use Rattle.home_commands.specs.declared.verify_answer.Bearers.{Bearers}
use Rattle.home_commands.specs.declared.verify_answer.Bearers.TheVariants.{Nobody, One, Several}

-- two identifiers, the lesser first
abbrev pub both_in_order : List ℕ → List ℕ → Bearers
both_in_order uuid other = if is_after uuid other then Several other uuid else Several uuid other

-- the two least of three, where two are in order
abbrev pub least_of_three : List ℕ → List ℕ → List ℕ → Bearers
least_of_three uuid least next =
    if is_after uuid least then (if is_after uuid next then Several least next else Several least uuid) else Several uuid least

-- those that bear a name, with one more
abbrev pub with_one : Bearer → Bearers → Bearers
with_one bearer Nobody = One bearer.0 bearer.1
with_one bearer (One uuid tree) = both_in_order bearer.0 uuid
with_one bearer (Several least next) = least_of_three bearer.0 least next

abbrev pub with_found : Option Bearer → Bearers → Bearers
with_found None bearers = bearers
with_found (Some bearer) bearers = with_one bearer bearers
