-- The depots of a depot path so far, and those of the rest.
use Rattle.std.proofs.Common.{◌≡◌, List, [], ◌++◌, Ok, Err, refl, ap, sym, ◌∙◌, append_assoc, append-nil}
use Rattle.pkg_world.specs.Path.{Path}
use Rattle.pkg_world.specs.Each.{then_ok, onto}
use Rattle.pkg_top.specs.Placing.{Placed}

-- the depots of one piece more
pub after_all : (old new : List Path) (piece rest : Placed (List Path)) → onto old piece ≡ Ok new → onto old (then_ok piece (λ found. onto found rest)) ≡ onto new rest
after_all old new (Ok found) (Ok rest) e = let same : old ++ found ≡ new = cc in rw (← same) (ap Ok (sym (append_assoc old found rest)))
after_all old new (Ok found) (Err text) e = refl
after_all old new (Err text) rest e = cc

-- the depots of the last piece
pub after_last : (old new : List Path) (piece : Placed (List Path)) → onto old piece ≡ Ok new → onto old (then_ok piece (λ found. onto found (Ok []))) ≡ Ok new
after_last old new piece e = after_all old new piece (Ok []) e ∙ ap Ok (append-nil new)

-- none before the first piece
pub after_none : (depots : Placed (List Path)) → onto [] depots ≡ depots
after_none (Ok found) = refl
after_none (Err text) = refl
