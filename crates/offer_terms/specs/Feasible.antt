-- Which selections meet a demand, which packages they need, and which package can be raised. (Pkg, Compatibility: what a
-- selected version needs is selected, and what it doesn't allow isn't; pins, held versions and raising are own rules)
--     IsFeasible o w s      the selection meets the demand over these offers
--     IsNeeded o w s u      roots and dependencies lead to the package
--     IsValid o w s         it is feasible and has needed packages alone
--     CanRaise o w s u v    the package alone can be raised to this version
use Rattle.std.specs.Prelude.{◌≡◌, ◌≢◌, Bool, true, List, ◌++◌, Some, IsSome, Contains}
use Rattle.std.specs.Map.{keys_of}
use Rattle.std.specs.declared.cmp.Ordering.TheVariants.{Less}
use Rattle.jl_versions.specs.Order.{version_cmp}
use Rattle.jl_versions.specs.Triple.{triple_of}
use Rattle.jl_versions.specs.declared.version.Version.{Version}
use Rattle.compat_spec.specs.declared.part.Part.{Part}
use Rattle.compat_spec.specs.Meaning.{specifier_holds}
use Rattle.package_tables.specs.Row.{julia_id}
use Rattle.offer_terms.specs.ById.{AreRising}
use Rattle.offer_terms.specs.Offered.{Text, Id, Allows, allows_holds, Offering, Offers, Selected, version_in, offer_at, taken, with_version}
use Rattle.offer_terms.specs.Demanded.{Wanted}

pub record IsFeasible (o : Offers) (w : Wanted) (s : Selected) : Type 0 where
  -- a selection has each package once
  pub once : AreRising (keys_of s)
  -- every root is in it
  pub roots : (r : Text × Id) → Contains w.roots r → IsSome (version_in s r.1)
  -- each of its versions is offered
  pub offered : (u : Id) (v : Version) → version_in s u ≡ Some v → IsSome (offer_at o u v)
  -- each dependency of a selected offer on another package is in it
  pub needs : (u : Id) (x : Offering) (d : Text × Id) → taken o s u ≡ Some x → Contains x.deps d → d.1 ≢ u → IsSome (version_in s d.1)
  -- each compat entry of a selected offer on another selected package holds that package's version
  pub fits : (u : Id) (x : Offering) (e : Id × Allows) (v : Version) → taken o s u ≡ Some x → Contains x.compat e → e.0 ≢ u →
      version_in s e.0 ≡ Some v → allows_holds e.1 (triple_of v) ≡ true
  -- and its entry on Julia holds Julia's version
  pub julia : (u : Id) (x : Offering) (e : Id × Allows) → taken o s u ≡ Some x → Contains x.compat e → e.0 ≡ julia_id →
      allows_holds e.1 w.julia ≡ true
  -- each compat entry of the project on a selected package holds its version
  pub compat : (e : Id × List Part) (v : Version) → Contains w.compat e → version_in s e.0 ≡ Some v →
      specifier_holds e.1 (triple_of v) ≡ true
  -- a selected package that is pinned or held has that version
  pub pinned : (p : Id × Version) (v : Version) → Contains (w.pins ++ w.held) p → version_in s p.0 ≡ Some v → v ≡ p.1

-- the set has the roots, and the dependencies of its packages' selected offers on other packages
pub record Spreads (o : Offers) (w : Wanted) (s : Selected) (set : Id → Bool) : Type 0 where
  pub roots : (r : Text × Id) → Contains w.roots r → set r.1 ≡ true
  pub needs : (u : Id) (x : Offering) (d : Text × Id) → set u ≡ true → taken o s u ≡ Some x → Contains x.deps d → d.1 ≢ u → set d.1 ≡ true

-- it is reached from the roots by dependencies of selected offers: it is in every set that has the roots and spreads so
pub record IsNeeded (o : Offers) (w : Wanted) (s : Selected) (u : Id) : Type 0 where
  pub in_each : (set : Id → Bool) → Spreads o w s set → set u ≡ true

pub record IsValid (o : Offers) (w : Wanted) (s : Selected) : Type 0 where
  pub feasible : IsFeasible o w s
  pub needed : (u : Id) (v : Version) → version_in s u ≡ Some v → IsNeeded o w s u

-- a selected package that is neither pinned nor held has a greater offer with which, changed at this package alone, the
-- selection is feasible
pub record CanRaise (o : Offers) (w : Wanted) (s : Selected) (u : Id) (v : Version) : Type 0 where
  pub free : (p : Id × Version) → Contains (w.pins ++ w.held) p → p.0 ≢ u
  pub old : Version
  pub selected : version_in s u ≡ Some old
  pub greater : version_cmp old v ≡ Less
  pub offered : IsSome (offer_at o u v)
  pub stays : IsFeasible o w (with_version s u v)
