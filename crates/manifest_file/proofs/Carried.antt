-- What reads back of some stanzas reads back of all of them.
use Rattle.std.proofs.Common.{◌≡◌, ◌+◌, ◌-◌, ◌≤◌, ℕ, zero, suc, List, [], ◌∷◌, map, take, drop, length, Result, Ok, Err, IfOk, refl, ap, sym, subst, ◌∙◌, arith}
use Rattle.manifest_file.specs.Said.{said_stanza}
use Rattle.manifest_file.specs.ReadsBack.{IdsBack, StanzasBack}
use Rattle.manifest_file.specs.declared.bearers.Bearers.{Bearers}
use Rattle.manifest_file.specs.declared.stanza.Stanza.{Stanza}

-- behind the last there is none
pub ids_end : (ids : List (List ℕ × List ℕ)) → IdsBack (drop (length ids) ids)
ids_end [] = tt
ids_end (pair ∷ ids) = ids_end ids

pub stanzas_end : (bearers : List ℕ → Bearers) (ss : List Stanza) → StanzasBack bearers (map said_stanza (drop (length ss) ss))
stanzas_end bearers [] = tt
stanzas_end bearers (s ∷ ss) = stanzas_end bearers ss

-- the first ones and those behind them
both_back : (bearers : List ℕ → Bearers) (n : ℕ) (ss : List Stanza) → StanzasBack bearers (map said_stanza (take n ss)) → StanzasBack bearers (map said_stanza (drop n ss))
    → StanzasBack bearers (map said_stanza ss)
both_back bearers zero ss first rest = rest
both_back bearers (suc n) [] first rest = tt
both_back bearers (suc n) (s ∷ ss) first rest = (first.0, both_back bearers n ss first.1 rest)

drop_none : (n : ℕ) (none : List Stanza) → none ≡ [] → drop n none ≡ []
drop_none zero none h = h
drop_none (suc n) [] h = refl
drop_none (suc n) (s ∷ ss) h = cc

drop_twice : (i n end : ℕ) (ss : List Stanza) → i + n ≡ end → drop n (drop i ss) ≡ drop end ss
drop_twice zero n end ss e = let same : n ≡ end = omega (arith, e) in ap (λ k. drop k ss) same
drop_twice (suc i) n end [] e = drop_none n [] refl ∙ sym (drop_none end [] refl)
drop_twice (suc i) n zero (s ∷ ss) e = absurd (omega (arith, e))
drop_twice (suc i) n (suc end) (s ∷ ss) e = drop_twice i n end ss (omega (arith, e))

-- a run of stanzas and those behind it
pub run_back : (bearers : List ℕ → Bearers) (start end : ℕ) (ss : List Stanza) → start ≤ end → StanzasBack bearers (map said_stanza (take (end - start) (drop start ss)))
    → StanzasBack bearers (map said_stanza (drop end ss)) → StanzasBack bearers (map said_stanza (drop start ss))
run_back bearers start end ss before first rest =
    let whole : start + (end - start) ≡ end = omega (arith, before) in
    let there : drop (end - start) (drop start ss) ≡ drop end ss = drop_twice start (end - start) end ss whole in
    both_back bearers (end - start) (drop start ss) first (subst (λ l. StanzasBack bearers (map said_stanza l)) (sym there) rest)

-- what three answers tell of a value together
pub told_by : {T E : Type 0} {A B C D : T → Type 0} (answer : Result T E) → ((value : T) → A value → B value → C value → D value) → IfOk answer A → IfOk answer B → IfOk answer C → IfOk answer D
told_by (Ok value) go a b c = go value a b c
told_by (Err fault) go a b c = tt

-- what follows of each value that is answered
pub told_then : {T E : Type 0} {A B : T → Type 0} (answer : Result T E) → ((value : T) → A value → B value) → IfOk answer A → IfOk answer B
told_then (Ok value) go a = go value a
told_then (Err fault) go a = tt
