-- The stanzas that are read stand in the order of their names, and each has the identifier that stands in the file.
use Rattle.std.proofs.Common.{◌≡◌, ℕ, Bool, true, false, ◌&&◌, List, [], ◌∷◌, ◌++◌, map, None, Result, Ok, Err, Less, Equal, Greater, Ordering, refl, ap, sym, subst, ◌∙◌}
use Rattle.std.proofs.lemmas.Cmp.{tied_itself, nat_list_cmp_total}
use Rattle.std.proofs.lemmas.List.{map-append}
use Rattle.std.specs.Ordering.{nat_cmp, is_lt, is_le}
use Rattle.std.specs.Cmp.Lexicographic.{slice_cmp}
use Rattle.std.specs.FinMap.Entries.{below_all}
use Rattle.toml_view.specs.Causes.{then_read}
use Rattle.pkg_world.specs.declared.cause.Cause.{Cause}
use Rattle.pkg_world.specs.ByName.{is_by_name}
use Rattle.manifest_file.specs.Saying.{SaidStanza, Groups, flat, uuids_of, first_again, first_same, all_read, ids_of, stanza_of, stanza_with, stanzas_of, bearers_in}
use Rattle.manifest_file.specs.Written.{is_not_above, are_by_name}
use Rattle.manifest_file.specs.ReadsBack.{StandOnce}
use Rattle.manifest_file.specs.declared.bearers.Bearers.{Bearers}
use Rattle.manifest_file.specs.declared.entry.Entry.{Entry}

abbrev Named : Type 0
Named = List ℕ × Entry

left_true : (a b : Bool) → (a && b) ≡ true → a ≡ true
left_true true b e = refl
left_true false b e = e

right_true : (a b : Bool) → (a && b) ≡ true → b ≡ true
right_true true b e = e
right_true false b e = cc

-- ---- what was read of a list

-- a stanza that is read of one that stands in the file
abbrev IsOf : Named → SaidStanza → Type 0
IsOf e s = (s.name ≡ e.0) × (s.uuid ≡ e.1.uuid)

abbrev AreOf : List Named → List SaidStanza → Type 0
AreOf [] [] = Unit {0}
AreOf [] (s ∷ ss) = ⊥
AreOf (e ∷ es) [] = ⊥
AreOf (e ∷ es) (s ∷ ss) = IsOf e s × AreOf es ss

is_of : (bearers : List ℕ → Bearers) (e : Named) (s : SaidStanza) → stanza_of bearers e ≡ Ok s → IsOf e s
is_of bearers e s h = go (ids_of bearers e.0 e.1.deps) (ids_of bearers e.0 e.1.weakdeps) h
  where
    go : (deps weak : Result (List (List ℕ × List ℕ)) Cause) → then_read deps (λ d. then_read weak (λ w. Ok (stanza_with e.0 e.1 d w))) ≡ Ok s → IsOf e s
    go (Err cause) weak h = cc
    go (Ok d) (Err cause) h = cc
    go (Ok d) (Ok w) h = let same : stanza_with e.0 e.1 d w ≡ s = cc in (ap (λ t. t.name) (sym same), ap (λ t. t.uuid) (sym same))

are_of : (bearers : List ℕ → Bearers) (es : List Named) (ss : List SaidStanza) → all_read (stanza_of bearers) es ≡ Ok ss → AreOf es ss
are_of bearers [] ss h = let none : [] ≡ ss = cc in subst (AreOf []) none tt
are_of bearers (e ∷ es) ss h = go (stanza_of bearers e) (all_read (stanza_of bearers) es) (is_of bearers e) (are_of bearers es) h
  where
    go : (one : Result SaidStanza Cause) (rest : Result (List SaidStanza) Cause) → ((s : SaidStanza) → one ≡ Ok s → IsOf e s) → ((vs : List SaidStanza) → rest ≡ Ok vs → AreOf es vs)
        → then_read one (λ v. then_read rest (λ vs. Ok (v ∷ vs))) ≡ Ok ss → AreOf (e ∷ es) ss
    go (Err cause) rest first later h = cc
    go (Ok v) (Err cause) first later h = cc
    go (Ok v) (Ok vs) first later h = let same : v ∷ vs ≡ ss = cc in subst (AreOf (e ∷ es)) same (first v refl, later vs refl)

-- ---- identifiers

uuids_are : (es : List Named) (ss : List SaidStanza) → AreOf es ss → map (λ s. s.uuid) ss ≡ map (λ (e : Named). e.1.uuid) es
uuids_are [] [] h = refl
uuids_are [] (s ∷ ss) h = absurd h
uuids_are (e ∷ es) [] h = absurd h
uuids_are (e ∷ es) (s ∷ ss) h = λ i. h.0.1 i ∷ uuids_are es ss h.1 i

named_uuids : (name : List ℕ) (es : List Entry) → map (λ (e : Named). e.1.uuid) (map (λ entry. (name, entry)) es) ≡ map (λ entry. entry.uuid) es
named_uuids name [] = refl
named_uuids name (e ∷ es) = ap (λ ids. e.uuid ∷ ids) (named_uuids name es)

flat_uuids : (gs : Groups) → map (λ (e : Named). e.1.uuid) (flat gs) ≡ uuids_of gs
flat_uuids [] = refl
flat_uuids (g ∷ gs) =
    map-append (λ (e : Named). e.1.uuid) (map (λ entry. (g.0, entry)) g.1) (flat gs)
    ∙ (λ i. named_uuids g.0 g.1 i ++ flat_uuids gs i)

-- where no identifier stands twice in the file, none does among what is read
pub stand_once : (gs : Groups) (ss : List SaidStanza) → first_same gs ≡ None → stanzas_of gs ≡ Ok ss → StandOnce ss
stand_once gs ss none reads =
    ap (first_again (λ q. false)) (uuids_are (flat gs) ss (are_of (bearers_in gs) (flat gs) ss reads) ∙ flat_uuids gs) ∙ none

-- ---- names

abbrev NotAbove : List ℕ → List Named → Type 0
NotAbove name [] = Unit {0}
NotAbove name (e ∷ es) = (is_le (slice_cmp nat_cmp name e.0) ≡ true) × NotAbove name es

abbrev InOrder : List Named → Type 0
InOrder [] = Unit {0}
InOrder (e ∷ es) = NotAbove e.0 es × InOrder es

named_above : (low name : List ℕ) (es : List Entry) (rest : List Named) → is_le (slice_cmp nat_cmp low name) ≡ true → NotAbove low rest → NotAbove low (map (λ entry. (name, entry)) es ++ rest)
named_above low name [] rest le above = above
named_above low name (e ∷ es) rest le above = (le, named_above low name es rest le above)

le_from : (o : Ordering) → is_lt o ≡ true → is_le o ≡ true
le_from Less h = refl
le_from Equal h = cc
le_from Greater h = cc

flat_above : (low : List ℕ) (gs : Groups) → below_all (slice_cmp nat_cmp) low gs ≡ true → NotAbove low (flat gs)
flat_above low [] h = tt
flat_above low (g ∷ gs) h =
    let here = le_from (slice_cmp nat_cmp low g.0) (left_true (is_lt (slice_cmp nat_cmp low g.0)) (below_all (slice_cmp nat_cmp) low gs) h) in
    named_above low g.0 g.1 (flat gs) here (flat_above low gs (right_true (is_lt (slice_cmp nat_cmp low g.0)) (below_all (slice_cmp nat_cmp) low gs) h))

itself : (name : List ℕ) → is_le (slice_cmp nat_cmp name name) ≡ true
itself name = ap is_le (tied_itself nat_list_cmp_total name)

named_in_order : (name : List ℕ) (es : List Entry) (rest : List Named) → NotAbove name rest → InOrder rest → InOrder (map (λ entry. (name, entry)) es ++ rest)
named_in_order name [] rest above ordered = ordered
named_in_order name (e ∷ es) rest above ordered = (named_above name name es rest (itself name) above, named_in_order name es rest above ordered)

flat_in_order : (gs : Groups) → is_by_name gs ≡ true → InOrder (flat gs)
flat_in_order [] h = tt
flat_in_order (g ∷ gs) h =
    named_in_order g.0 g.1 (flat gs) (flat_above g.0 gs (left_true (below_all (slice_cmp nat_cmp) g.0 gs) (is_by_name gs) h))
    (flat_in_order gs (right_true (below_all (slice_cmp nat_cmp) g.0 gs) (is_by_name gs) h))

not_above : (name : List ℕ) (es : List Named) (ss : List SaidStanza) → NotAbove name es → AreOf es ss → is_not_above name ss ≡ true
not_above name [] [] above of = refl
not_above name [] (s ∷ ss) above of = absurd of
not_above name (e ∷ es) [] above of = absurd of
not_above name (e ∷ es) (s ∷ ss) above of = ap (λ n. is_le (slice_cmp nat_cmp name n)) of.0.0 ∙ above.0

in_order : (es : List Named) (ss : List SaidStanza) → InOrder es → AreOf es ss → are_by_name ss ≡ true
in_order [] [] ordered of = refl
in_order [] (s ∷ ss) ordered of = absurd of
in_order (e ∷ es) [] ordered of = absurd of
in_order (e ∷ es) (s ∷ ss) ordered of =
    let here : is_not_above s.name ss ≡ true = ap (λ n. is_not_above n ss) of.0.0 ∙ not_above e.0 es ss ordered.0 of.1 in
    ap (λ b. b && are_by_name ss) here ∙ in_order es ss ordered.1 of.1

-- where the names of the file stand in order, so do those that are read
pub read_in_order : (gs : Groups) (ss : List SaidStanza) → is_by_name gs ≡ true → stanzas_of gs ≡ Ok ss → are_by_name ss ≡ true
read_in_order gs ss ordered reads = in_order (flat gs) ss (flat_in_order gs ordered) (are_of (bearers_in gs) (flat gs) ss reads)
