-- Going over what stands in a file: what was read so far, and the rest.
use Rattle.std.proofs.Common.{◌≡◌, ◌==◌, ℕ, Bool, true, false, cond, if◌then◌else◌, List, [], ◌∷◌, ◌++◌, map, length, String, Global, Option, Some, unwrap_or, Result, Ok, Err, refl, ap, sym, ◌∙◌, append_assoc, arith}
use Rattle.std.proofs.lemmas.List.{map-append}
use Rattle.std.proofs.lemmas.Bool.Decides.{nat_tests}
use Rattle.std.specs.Str.{bytes_eq}
use Rattle.toml.specs.View.{members_view}
use Rattle.toml.specs.declared.value.Value.{Value}
use Rattle.toml_view.specs.Causes.{then_read}
use Rattle.pkg_world.specs.declared.cause.Cause.{Cause}
use Rattle.manifest_file.specs.Entries.{is_blank}
use Rattle.manifest_file.specs.Saying.{SaidStanza, Groups, all_read, first_again, bearers_of, bearers_in, stanzas_by, stanzas_named}
use Rattle.manifest_file.specs.Said.{said_stanza}
use Rattle.manifest_file.specs.Steps.{onto}
use Rattle.manifest_file.specs.declared.entry.Entry.{Entry}
use Rattle.manifest_file.specs.declared.stanza.Stanza.{Stanza}
use Rattle.manifest_file.specs.declared.bearers.Bearers.{Bearers}
use Rattle.manifest_file.specs.declared.bearers.Bearers.TheVariants.{Nobody}

pub blank_is : (es : List (String Global × Value)) → is_blank (members_view es) ≡ (length es == 0)
blank_is [] = refl
blank_is (e ∷ es) = grind (arith, nat_tests)

-- one more
pub onto_next : {T : Type 0} (done : List T) (v : T) (rest : Result (List T) Cause) → onto done (then_read rest (λ vs. Ok (v ∷ vs))) ≡ onto (done ++ v ∷ []) rest
onto_next done v (Ok rest) = ap Ok (sym (append_assoc done (v ∷ []) rest))
onto_next done v (Err cause) = refl

pub onto_none : {T : Type 0} (reading : Result (List T) Cause) → onto [] reading ≡ reading
onto_none (Ok rest) = refl
onto_none (Err cause) = refl

-- those of two lists
pub all_read-append : {S T : Type 0} (read : S → Result T Cause) (xs ys : List S)
    → all_read read (xs ++ ys) ≡ then_read (all_read read xs) (λ vs. onto vs (all_read read ys))
all_read-append read [] ys = sym (onto_none (all_read read ys))
all_read-append {S} {T} read (x ∷ xs) ys =
    elim (read x) as (λ r. then_read r (λ v. then_read (all_read read (xs ++ ys)) (λ vs. Ok (v ∷ vs))) ≡ then_read (then_read r (λ v. then_read (all_read read xs) (λ vs. Ok (v ∷ vs)))) (λ vs. onto vs (all_read read ys))) [
      | Err cause ↦ refl
      | Ok v ↦ ap (λ q. then_read q (λ vs. Ok (v ∷ vs))) (all_read-append read xs ys) ∙ pushed v (all_read read xs) (all_read read ys)
    ]
  where
    pushed : (v : T) (a b : Result (List T) Cause)
        → then_read (then_read a (λ vs. onto vs b)) (λ vs. Ok (v ∷ vs)) ≡ then_read (then_read a (λ vs. Ok (v ∷ vs))) (λ vs. onto vs b)
    pushed v (Err cause) b = refl
    pushed v (Ok vs) (Ok ws) = refl
    pushed v (Ok vs) (Err cause) = refl

-- all of one list and then those of another
pub onto_all : {T : Type 0} (old new : List T) (list rest : Result (List T) Cause) → onto old list ≡ Ok new → onto old (then_read list (λ vs. onto vs rest)) ≡ onto new rest
onto_all old new (Ok list) (Ok rest) e = let same : old ++ list ≡ new = cc in rw (← same) (ap Ok (sym (append_assoc old list rest)))
onto_all old new (Ok list) (Err cause) e = refl
onto_all old new (Err cause) rest e = cc

-- one more stanza is pushed
pub stanza_next : (old : List Stanza) (s : Stanza) (said : SaidStanza) (reading : Result SaidStanza Cause) (rest : Result (List SaidStanza) Cause) → reading ≡ Ok (said_stanza s)
    → onto (map said_stanza old) (then_read reading (λ v. then_read rest (λ vs. Ok (v ∷ vs)))) ≡ onto (map said_stanza (old ++ s ∷ [])) rest
stanza_next old s said reading rest e =
    ap (λ r. onto (map said_stanza old) (then_read r (λ v. then_read rest (λ vs. Ok (v ∷ vs))))) e
    ∙ onto_next (map said_stanza old) (said_stanza s) rest
    ∙ ap (λ l. onto l rest) (sym (map-append said_stanza old (s ∷ [])))

-- the first that stands again rests on what the earlier ones are, however that is told
pub first_again-same : (f g : List ℕ → Bool) (ids : List (List ℕ)) → ((q : List ℕ) → f q ≡ g q) → first_again f ids ≡ first_again g ids
first_again-same f g ids same = ap (λ h. first_again h ids) (λ i q. same q i)

pub stanzas_by-same : (f g : List ℕ → Bearers) (groups : Groups) → ((q : List ℕ) → f q ≡ g q) → stanzas_by f groups ≡ stanzas_by g groups
stanzas_by-same f g groups same = ap (λ h. stanzas_by h groups) (λ i q. same q i)

-- who bears a name, one group further
pub bearers_in-next : (key : List ℕ) (list : List Entry) (groups : Groups) (q : List ℕ) (now old : Bearers) → now ≡ (if bytes_eq key q then bearers_of list else old)
    → old ≡ bearers_in groups q → now ≡ bearers_in ((key, list) ∷ groups) q
bearers_in-next key list groups q now old is was =
    is ∙ ap (λ o. if bytes_eq key q then bearers_of list else o) was ∙ pick (bytes_eq key q)
  where
    pick : (b : Bool) → (if b then bearers_of list else bearers_of (stanzas_named groups q)) ≡ bearers_of (if b then list else stanzas_named groups q)
    pick true = refl
    pick false = refl

pub found_or : (b : Bool) (v : Bearers) (o : Option Bearers) → unwrap_or (cond b (Some v) o) Nobody ≡ (if b then v else unwrap_or o Nobody)
found_or true v o = refl
found_or false v o = refl
