-- Laws of selections that meet a demand.
use Rattle.std.specs.Prelude.{◌≡◌, ◌≢◌, Bool, true, IsSome, Contains}
use Rattle.jl_versions.specs.declared.version.Version.{Version}
use Rattle.offer_terms.specs.Offered.{Text, Id, Offering, Offers, Selected, version_in, cut_to}
use Rattle.offer_terms.specs.Demanded.{Wanted}
use Rattle.offer_terms.specs.Feasible.{IsFeasible, IsValid, CanRaise}

-- both offer the same of each selected package
pub record OfferAlike (o p : Offers) (s : Selected) : Type 0 where
  pub alike : (u : Id) → IsSome (version_in s u) → o u ≡ p u

-- the set has the roots, and the dependencies of every offer of its packages on other packages
pub record IsClosedSet (o : Offers) (w : Wanted) (set : Id → Bool) : Type 0 where
  pub roots : (r : Text × Id) → Contains w.roots r → set r.1 ≡ true
  pub needs : (u : Id) (x : Offering) (d : Text × Id) → set u ≡ true → Contains (o u) x → Contains x.deps d → d.1 ≢ u → set d.1 ≡ true

-- the offers of selected packages alone decide what is feasible, valid and can be raised
abbrev pub SameOffers : Type 0
SameOffers = (o p : Offers) (w : Wanted) (s : Selected) → OfferAlike o p s → IsFeasible o w s → IsFeasible p w s

abbrev pub SameOffersValid : Type 0
SameOffersValid = (o p : Offers) (w : Wanted) (s : Selected) → OfferAlike o p s → IsValid o w s → IsValid p w s

abbrev pub SameOffersRaise : Type 0
SameOffersRaise = (o p : Offers) (w : Wanted) (s : Selected) (u : Id) (v : Version) → OfferAlike o p s → CanRaise o w s u v → CanRaise p w s u v

-- a feasible selection cut to a closed set is feasible
abbrev pub CutStaysFeasible : Type 0
CutStaysFeasible = (o : Offers) (w : Wanted) (s : Selected) (set : Id → Bool) → IsClosedSet o w set → IsFeasible o w s → IsFeasible o w (cut_to set s)
