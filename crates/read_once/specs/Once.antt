-- What a store that remembers stands over.
use Rattle.std.specs.Prelude.{ℕ, Option}
use Rattle.pkg_world.specs.Path.{Path}
use Rattle.pkg_world.specs.Tree.{Content}
use Rattle.read_once.specs.Seen.{seen_at, StaysIn}
use Rattle.read_once.specs.declared.once.ReadOnce.{ReadOnce}

module _ {S : Type 0} {g : _} where
  -- the store that is asked
  abbrev pub asked : ReadOnce S g → S
  asked once = once.inside

  -- what is remembered of a path
  abbrev pub remembered : ReadOnce S g → Path → Option Content
  remembered once path = seen_at once.seen path

  -- what was remembered still is
  abbrev pub KeepsSaid : ReadOnce S g → ReadOnce S g → Type 0
  KeepsSaid old new = StaysIn old.seen new.seen
