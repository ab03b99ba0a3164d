-- What is read for each item of a list, one after the other; a reading that is refused carries what it is refused with.
use Rattle.std.specs.Prelude.{List, [], ◌∷◌, ◌++◌, Result, Ok, Err}

-- one reading and then the next: the first refusal counts
abbrev pub then_ok : {S T R : Type 0} → Result S R → (S → Result T R) → Result T R
then_ok (Ok value) next = next value
then_ok (Err refused) next = Err refused

-- what a first reading gives, and behind it what a second one gives
abbrev pub joined_ok : {T R : Type 0} → Result (List T) R → Result (List T) R → Result (List T) R
joined_ok one after = then_ok one (λ first. then_ok after (λ rest. Ok (first ++ rest)))

-- what each item gives, in their order; the first refusal counts
abbrev pub read_each : {S T R : Type 0} → (S → Result (List T) R) → List S → Result (List T) R
read_each read [] = Ok []
read_each read (x ∷ xs) = joined_ok (read x) (read_each read xs)

-- what is read, behind what there is
abbrev pub onto : {T R : Type 0} → List T → Result (List T) R → Result (List T) R
onto old (Ok more) = Ok (old ++ more)
onto old (Err refused) = Err refused
