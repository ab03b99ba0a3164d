-- Replacing files leaves every path that is not replaced and lies above no file that is.
use Rattle.std.proofs.Common.{◌≡◌, [], ◌∷◌, Option, Some, None, ap, ◌∙◌, arith}
use Rattle.std.specs.Option.{option_map}
use Rattle.pkg_world.specs.Tree.{Files, holds, a_file, with_leaf}
use Rattle.pkg_world.specs.Writing.{WritingLaw}
use Rattle.file_replacing.specs.Replacing.{OthersStay}
use Rattle.file_replacing.proofs.ReplaceLemmas.{untold_after}

same_files : (one other : Files) → Some one ≡ Some other → one ≡ other
same_files one other same = grind arith

none_is_some : (files : Files) → Some files ≡ None → ⊥
none_is_some files same = grind arith

placed : (found : Option Files) (mid : Files) → option_map Some found ≡ Some (Some mid) → found ≡ Some mid
placed found mid same = grind arith

pub others : WritingLaw → OthersStay
others law [] old new other h apart = ap (holds other) (same_files new old h)
others law (write ∷ more) old new other (None, one, h) apart = absurd (none_is_some new (untold_after more (Some new) h))
others law (write ∷ more) old new other (Some mid, one, h) apart =
    others law more mid new other h apart.1 ∙ (law write.0 write.1 old mid (placed (with_leaf (a_file write.1) write.0 old) mid one)).2 other apart.0
