-- What is known of a tree's extensions before it is looked into: those of the manifest's stanza with this tree.
use Rattle.std.specs.Prelude.{ℕ, List}
use Rattle.offer_terms.specs.Offered.{Exts}

pub record TreeExts : Type 0 where
  pub tree : List ℕ
  pub extensions : Exts
