-- A list with the room that was set aside for more items, of which 'as before' does not speak.
use Rattle.std.specs.Prelude.{ℕ, List}

pub record Listing (T : Type 0) : Type 0 where
  pub items : List T
  pub spare : ℕ
