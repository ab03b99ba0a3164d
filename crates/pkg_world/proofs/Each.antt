-- Reading one after the other: what was read so far, and the rest. What a refusal says is a property P of readings; a
-- crate shows of its own that what stops one reading stops those that it begins.
use Rattle.std.proofs.Common.{◌≡◌, ℕ, suc, ◌+◌, ◌<◌, arith, get_or, length, List, [], ◌∷◌, ◌++◌, drop, Option, Some, None, IfSome, Result, Ok, Err, refl, sym, ap, ◌∙◌, append_assoc}
use Rattle.std.proofs.Math.Seq.{drop-cons}
use Rattle.pkg_world.specs.Each.{joined_ok, read_each, onto}

-- what a loop has before it: the next item, and the rest
pub rest-step : {A : Type 0} (items : List A) (index : ℕ) (item : A) → index < length items → item ≡ get_or items index item → drop index items ≡ item ∷ drop (index + 1) items
rest-step items index item within there =
    let up : suc index ≡ index + 1 = omega arith in
    drop-cons items index item within ∙ ap (λ x. x ∷ drop (suc index) items) (sym there) ∙ ap (λ n. item ∷ drop n items) up

onto_next : {T R : Type 0} (one after : Result (List T) R) (old new : List T) → onto old one ≡ Ok new → onto old (joined_ok one after) ≡ onto new after
onto_next (Ok first) (Ok rest) old new e = let same : old ++ first ≡ new = cc in rw (← same) (ap Ok (sym (append_assoc old first rest)))
onto_next (Ok first) (Err refused) old new e = refl
onto_next (Err refused) after old new e = cc

-- one item more
pub each-next : {F S T R : Type 0} (files : Option F) (read : F → S → Result (List T) R) (x : S) (xs rest more : List S) (first old new : List T) → rest ≡ x ∷ more
    → IfSome files (λ all. onto first (read_each (read all) xs) ≡ onto old (read_each (read all) rest))
    → IfSome files (λ all. onto old (read all x) ≡ Ok new)
    → IfSome files (λ all. onto first (read_each (read all) xs) ≡ onto new (read_each (read all) more))
each-next None read x xs rest more first old new there before added = tt
each-next (Some all) read x xs rest more first old new there before added =
    before ∙ ap (λ t. onto old (read_each (read all) t)) there ∙ onto_next (read all x) (read_each (read all) more) old new added

-- that what stops a reading stops those that begin with it
abbrev pub Stops : {T R : Type 0} → (Result (List T) R → Type 0) → Type 0
Stops {T = T} {R = R} P = (one after : Result (List T) R) (old : List T) → P (onto old one) → P (onto old (joined_ok one after))

-- a refusal on the way is that of the whole
pub each-stops : {F S T R : Type 0} (P : Result (List T) R → Type 0) → Stops P → (files : Option F) (read : F → S → Result (List T) R) (x : S) (xs rest more : List S) (first old : List T) → rest ≡ x ∷ more
    → IfSome files (λ all. onto first (read_each (read all) xs) ≡ onto old (read_each (read all) rest))
    → IfSome files (λ all. P (onto old (read all x)))
    → IfSome files (λ all. P (onto first (read_each (read all) xs)))
each-stops P stops None read x xs rest more first old there before refused = tt
each-stops P stops (Some all) read x xs rest more first old there before refused =
    let same : onto first (read_each (read all) xs) ≡ onto old (read_each (read all) (x ∷ more)) = before ∙ ap (λ t. onto old (read_each (read all) t)) there in
    rw same (stops (read all x) (read_each (read all) more) old refused)

onto_none : {T R : Type 0} (reading : Result (List T) R) → onto [] reading ≡ reading
onto_none (Ok rest) = refl
onto_none (Err refused) = refl

-- behind nothing
pub none-ok : {F T R : Type 0} (files : Option F) (reading : F → Result (List T) R) (old new : List T) → old ≡ []
    → IfSome files (λ all. onto old (reading all) ≡ Ok new) → IfSome files (λ all. reading all ≡ Ok new)
none-ok None reading old new none h = tt
none-ok (Some all) reading old new none h = sym (onto_none (reading all)) ∙ ap (λ t. onto t (reading all)) (sym none) ∙ h

pub none-err : {F T R : Type 0} (P : Result (List T) R → Type 0) (files : Option F) (reading : F → Result (List T) R) (old : List T) → old ≡ []
    → IfSome files (λ all. P (onto old (reading all))) → IfSome files (λ all. P (reading all))
none-err P None reading old none h = tt
none-err P (Some all) reading old none h =
    let same : reading all ≡ onto old (reading all) = sym (onto_none (reading all)) ∙ ap (λ t. onto t (reading all)) (sym none) in rw same h
