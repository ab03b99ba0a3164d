-- The first stanza of an identifier, by its place.
use Rattle.std.proofs.Common.{◌≡◌, ℕ, zero, suc, Bool, true, false, List, [], ◌∷◌, Option, Some, option_map, drop, if◌then◌else◌, ap}
use Rattle.std.specs.List.{slice_get}
use Rattle.std.specs.Str.{bytes_eq}
use Rattle.manifest_file.specs.Said.{said_stanza}
use Rattle.manifest_file.specs.Saying.{SaidStanza}
use Rattle.manifest_file.specs.declared.stanza.Stanza.{Stanza}
use Rattle.home_commands.specs.StanzaPlaces.{stanza_at}
use Rattle.home_commands.specs.StatusDue.{stanza_with}

-- what stands at the front of the rest stands at that place
pub at_drop : {X : Type 0} (xs : List X) (place : ℕ) (x : X) (rest : List X) → drop place xs ≡ x ∷ rest → slice_get xs place ≡ Some x
at_drop [] zero x rest h = let no-way : ⊥ = cc in absurd no-way
at_drop [] (suc place) x rest h = let no-way : ⊥ = cc in absurd no-way
at_drop (y ∷ xs) zero x rest h = let same : y ≡ x = cc in ap Some same
at_drop (y ∷ xs) (suc place) x rest h = at_drop xs place x rest h

either : (ss : List Stanza) (x : Stanza) (place : ℕ) (q : List ℕ) (old : Option ℕ) (rest : List SaidStanza) (same : Bool)
    → slice_get ss place ≡ Some x → stanza_at ss old ≡ stanza_with q rest
    → stanza_at ss (if same then Some place else old) ≡ (if same then Some (said_stanza x) else stanza_with q rest)
either ss x place q old rest true here tells = ap (option_map said_stanza) here
either ss x place q old rest false here tells = tells

pub found_next : (ss : List Stanza) (x : Stanza) (place : ℕ) (q : List ℕ) (old : Option ℕ) (rest : List SaidStanza)
    → slice_get ss place ≡ Some x → stanza_at ss old ≡ stanza_with q rest
    → stanza_at ss (if bytes_eq x.uuid q then Some place else old) ≡ stanza_with q (said_stanza x ∷ rest)
found_next ss x place q old rest here tells = either ss x place q old rest (bytes_eq x.uuid q) here tells
