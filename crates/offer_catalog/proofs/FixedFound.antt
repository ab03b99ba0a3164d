-- A fixed package is found by its identifier, with or without the room of its lists.
use Rattle.std.proofs.Common.{◌≡◌, ℕ, Bool, true, false, List, [], ◌∷◌, map, find, Option, Some, None, option_map, if◌then◌else◌, refl}
use Rattle.std.specs.Str.{bytes_eq}
use Rattle.offer_terms.specs.Demanded.{FixedSaid, fixed_said}
use Rattle.offer_terms.specs.declared.fixed.Fixed.{Fixed}

found_by : (test : Bool) (x : Fixed) (rest : Option Fixed) (more : Option FixedSaid) → more ≡ option_map fixed_said rest
    → (if test then Some (fixed_said x) else more) ≡ option_map fixed_said (if test then Some x else rest)
found_by true x rest more h = refl
found_by false x rest more h = h

pub fixed-found : (uuid : List ℕ) (items : List Fixed) → find (λ it. bytes_eq uuid it.uuid) (map fixed_said items) ≡ option_map fixed_said (find (λ it. bytes_eq uuid it.uuid) items)
fixed-found uuid [] = refl
fixed-found uuid (x ∷ xs) = found_by (bytes_eq uuid x.uuid) x (find (λ it. bytes_eq uuid it.uuid) xs) (find (λ it. bytes_eq uuid it.uuid) (map fixed_said xs)) (fixed-found uuid xs)
