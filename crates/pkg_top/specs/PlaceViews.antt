-- What the steps of making a place cite.
use Rattle.std.specs.Prelude.{◌≡◌, ℕ, List, Result, Ok, MatchResult}
use Rattle.pkg_world.specs.Each.{onto}
use Rattle.pkg_world.specs.Path.{Path}
use Rattle.pkg_world.specs.Listing.{Listing}
use Rattle.pkg_top.specs.declared.place.PlaceFault.{PlaceFault}
use Rattle.pkg_top.specs.Placing.{depot_of, RefusesPlaced}

abbrev pub itself : {T : Type 0} → T → T
itself value = value

abbrev pub items_of : {T : Type 0} → Listing T → List T
items_of list = list.items

-- the depots with those of a piece behind them
abbrev pub PushesDepot : List Path → List Path → Path → List ℕ → Result (Unit {0}) PlaceFault → Type 0
PushesDepot old new cwd piece answer = MatchResult answer (λ _. onto old (depot_of cwd piece) ≡ Ok new) (RefusesPlaced (depot_of cwd piece))
