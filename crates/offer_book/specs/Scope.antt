-- Of a demand what its book rests on. The project's compat, the held versions and Julia's version play no part, so one book
-- serves all demands that differ in these alone.
use Rattle.std.specs.Prelude.{List, Option}
use Rattle.jl_versions.specs.declared.version.Version.{Version}
use Rattle.offer_terms.specs.Offered.{Text, Id}
use Rattle.offer_terms.specs.Demanded.{FixedSaid, Wanted}

pub record Scope : Type 0 where
  pub roots : List (Text × Id)
  pub own : Option Id
  pub pins : List (Id × Version)
  pub fixed : List FixedSaid

abbrev pub scope : Wanted → Scope
scope w = record { roots = w.roots; own = w.own; pins = w.pins; fixed = w.fixed }
