-- What a written manifest says.
use Rattle.std.proofs.Common.{◌≡◌, ℕ, zero, suc, Bool, true, false, cond, ◌||◌, ◌&&◌, true≢false, List, [], ◌∷◌, map, find, Option, Some, None, is_some, IsSome, option_map, Contains, bytes_eq, Less, Equal, Greater, refl, sym, ap, ◌∙◌, subst, arith}
use Rattle.std.specs.BTreeMap.{is_at}
use Rattle.std.specs.Cmp.{tied_itself}
use Rattle.std.specs.List.{AllByRecursion, cons_option}
use Rattle.std.specs.List.Sorted.{IsStrictlySortedBy}
use Rattle.std.specs.Map.{lookup, keys_of}
use Rattle.std.specs.Option.{option_and_then}
use Rattle.std.specs.Ordering.{is_eq, is_le, ordering_then}
use Rattle.std.specs.declared.cmp.Ordering.{Ordering}
use Rattle.std.proofs.lemmas.Option.{none-some, same_Some}
use Rattle.std.proofs.lemmas.Slice.Eq.{bytes_eq-Decides}
use Rattle.jl_versions.specs.declared.version.Version.{Version}
use Rattle.package_tables.specs.Row.{by_bytes}
use Rattle.manifest_file.specs.Saying.{SaidStanza, first_again}
use Rattle.manifest_file.specs.Written.{are_by_name}
use Rattle.manifest_file.specs.ReadsBack.{StandOnce}
use Rattle.offer_terms.specs.Booked.{Packed, book_offers}
use Rattle.offer_terms.specs.Demanded.{Wanted}
use Rattle.offer_terms.specs.Offered.{Id, Offering, Selected, version_in, offer_at}
use Rattle.manifest_writing.specs.Laws.{key_of, StanzasRise, SelectionIsSaid, SaysAnOffer, StanzasSayOffers}
use Rattle.manifest_writing.specs.Writing.{Found, Key, by_key, name_in, with_name, is_pinned, in_order, stanza_of, stanzas_of, written}
use Rattle.manifest_writing.proofs.Placed.{key_total, exact_key, in_order_rises, all-in_order, selected_there, each_found}

module _ (book : List Packed) (pinned : Id → Bool) (found : Found) where
  abbrev offered : Key × Version → Option Offering
  offered e = offer_at (book_offers book) e.0.1 e.1

  abbrev said : List (Key × Version) → List SaidStanza
  said es = stanzas_of book pinned found es

  -- ---- the stanzas rise

  below-said : (k : Key) (es : List (Key × Version)) → AllByRecursion (λ y. by_key k y ≡ Less) (keys_of es) → AllByRecursion (λ y. by_key k y ≡ Less) (map key_of (said es))
  below-said k [] below = tt
  below-said k (e ∷ es) below =
      elim (offered e) as (λ o. AllByRecursion (λ y. by_key k y ≡ Less) (map key_of (cons_option (option_map (stanza_of pinned found e) o) (said es)))) [
        | None ↦ below-said k es below.1
        | Some x ↦ (below.0, below-said k es below.1)
      ]

  pub said_rises : (es : List (Key × Version)) → IsStrictlySortedBy by_key (keys_of es) → IsStrictlySortedBy by_key (map key_of (said es))
  unfolding IsStrictlySortedBy
  said_rises [] rise = tt
  said_rises (e ∷ es) rise =
      elim (offered e) as (λ o. IsStrictlySortedBy by_key (map key_of (cons_option (option_map (stanza_of pinned found e) o) (said es)))) [
        | None ↦ said_rises es rise.1
        | Some x ↦ (below-said e.0 es rise.0, said_rises es rise.1)
      ]

  -- ---- what is true of each entry that is offered is true of each stanza

  pub all-said : (P : Key × Version → Type 0) (Q : SaidStanza → Type 0) → ((e : Key × Version) (x : Offering) → P e → offered e ≡ Some x → Q (stanza_of pinned found e x)) →
      (es : List (Key × Version)) → AllByRecursion P es → AllByRecursion Q (said es)
  all-said P Q step [] all = tt
  all-said P Q step (e ∷ es) all =
      elim (offered e) as (λ o. offered e ≡ o → AllByRecursion Q (cons_option (option_map (stanza_of pinned found e) o) (said es))) [
        | None ↦ λ _. all-said P Q step es all.1
        | Some x ↦ λ there. (step e x all.0 there, all-said P Q step es all.1)
      ] refl

  -- ---- look-ups

  found_said : (s : Selected) (u : Id) (es : List (Key × Version)) → AllByRecursion (λ (e : Key × Version). version_in s e.0.1 ≡ Some e.1) es →
      (t : SaidStanza) → find (λ (t : SaidStanza). bytes_eq u t.uuid) (said es) ≡ Some t → t.version ≡ version_in s u
  found_said s u [] all t none = absurd (none-some t none)
  found_said s u (e ∷ es) all t is =
      elim (offered e) as (λ o. find (λ (t : SaidStanza). bytes_eq u t.uuid) (cons_option (option_map (stanza_of pinned found e) o) (said es)) ≡ Some t → t.version ≡ version_in s u) [
        | None ↦ λ later. found_said s u es all.1 t later
        | Some x ↦ λ here. elim (bytes_eq u e.0.1) as (λ b. bytes_eq u e.0.1 ≡ b → cond b (Some (stanza_of pinned found e x)) (find (λ (t : SaidStanza). bytes_eq u t.uuid) (said es)) ≡ Some t → t.version ≡ version_in s u) [
          | true ↦ λ same first. ap (λ (r : SaidStanza). r.version) (sym (same_Some (stanza_of pinned found e x) t first)) ∙ sym all.0 ∙ ap (version_in s) (sym ((bytes_eq-Decides u e.0.1).0 same))
          | false ↦ λ _ later. found_said s u es all.1 t later
        ] refl here
      ] is

  there_said : (q : Key) (es : List (Key × Version)) → AllByRecursion (λ (e : Key × Version). IsSome (offered e)) es → is_some (lookup (is_at (by_key q)) es) ≡ true →
      is_some (find (λ (t : SaidStanza). bytes_eq q.1 t.uuid) (said es)) ≡ true
  there_said q [] all there = there
  there_said q (e ∷ es) all there =
      elim (offered e) as (λ o. IsSome o → is_some (find (λ (t : SaidStanza). bytes_eq q.1 t.uuid) (cons_option (option_map (stanza_of pinned found e) o) (said es))) ≡ true) [
        | None ↦ λ never. absurd (true≢false (sym never))
        | Some x ↦ λ _. elim (bytes_eq q.1 e.0.1) as (λ b. bytes_eq q.1 e.0.1 ≡ b → is_some (cond b (Some (stanza_of pinned found e x)) (find (λ (t : SaidStanza). bytes_eq q.1 t.uuid) (said es))) ≡ true) [
          | true ↦ λ _. refl
          | false ↦ λ other. there_said q es all.1 (later other there)
        ] refl
      ] all.0
    where
      later : bytes_eq q.1 e.0.1 ≡ false → is_some (lookup (is_at (by_key q)) (e ∷ es)) ≡ true → is_some (lookup (is_at (by_key q)) es) ≡ true
      later other there =
          elim (by_key q e.0) as (λ o. by_key q e.0 ≡ o → is_some (cond (is_eq o) (Some e.1) (lookup (is_at (by_key q)) es)) ≡ true → is_some (lookup (is_at (by_key q)) es) ≡ true) [
            | Less ↦ λ _ h. h
            | Equal ↦ λ tie _. absurd (true≢false (sym ((bytes_eq-Decides q.1 e.0.1).1 (ap (λ (k : Key). k.1) (exact_key q e.0 tie))) ∙ other))
            | Greater ↦ λ _ h. h
          ] refl there

-- ---- laws

pub stanzas_rise : StanzasRise
stanzas_rise book w found s = said_rises book (is_pinned w) found (in_order book s) (in_order_rises book s)

all_offered : (book : List Packed) (s more : Selected) → ((u : Id) (v : Version) → version_in s u ≡ Some v → IsSome (offer_at (book_offers book) u v)) →
    AllByRecursion (λ (e : Id × Version). version_in s e.0 ≡ Some e.1) more → AllByRecursion (λ (e : Id × Version). IsSome (offer_at (book_offers book) e.0 e.1)) more
all_offered book s [] offered all = tt
all_offered book s (e ∷ more) offered all = (offered e.0 e.1 all.0, all_offered book s more offered all.1)

pub selection_is_said : SelectionIsSaid
selection_is_said book w found s on u =
    elim (find (λ (t : SaidStanza). bytes_eq u t.uuid) stanzas) as (λ o. find (λ (t : SaidStanza). bytes_eq u t.uuid) stanzas ≡ o → option_and_then (λ (t : SaidStanza). t.version) o ≡ version_in s u) [
      | Some t ↦ λ is. found_said book (is_pinned w) found s u (in_order book s) selected t is
      | None ↦ λ none. unselected none
    ] refl
  where
    stanzas : List SaidStanza
    stanzas = (written book w found s).stanzas

    selected : AllByRecursion (λ (e : Key × Version). version_in s e.0.1 ≡ Some e.1) (in_order book s)
    selected = all-in_order (λ (e : Key × Version). version_in s e.0.1 ≡ Some e.1) book s (each_found s on.once)

    there : AllByRecursion (λ (e : Key × Version). IsSome (offer_at (book_offers book) e.0.1 e.1)) (in_order book s)
    there = all-in_order (λ (e : Key × Version). IsSome (offer_at (book_offers book) e.0.1 e.1)) book s (all_offered book s s on.offered (each_found s on.once))

    unselected : find (λ (t : SaidStanza). bytes_eq u t.uuid) (written book w found s).stanzas ≡ None → None ≡ version_in s u
    unselected none =
        elim (version_in s u) as (λ o. version_in s u ≡ o → None ≡ o) [
          | None ↦ λ _. refl
          | Some v ↦ λ is. absurd (true≢false (sym (there_said book (is_pinned w) found (name_in book u, u) (in_order book s) there (selected_there book s u v is)) ∙ ap is_some none))
        ] refl

all-contains : {X : Type 0} (P : X → Type 0) (xs : List X) (x : X) → AllByRecursion P xs → Contains xs x → P x
all-contains P [] x all (k, inside, is) = absurd (omega (arith, inside))
all-contains P (y ∷ ys) x all (zero, inside, is) = subst P is all.0
all-contains P (y ∷ ys) x all (suc k, inside, is) = all-contains P ys x all.1 (k, omega (arith, inside), is)

pub record IsEntry (book : List Packed) (s : Selected) (e : Key × Version) : Type 0 where
  pub selected : version_in s e.0.1 ≡ Some e.1
  pub name : e.0.0 ≡ name_in book e.0.1

entries : (book : List Packed) (s more : Selected) → AllByRecursion (λ (e : Id × Version). version_in s e.0 ≡ Some e.1) more → AllByRecursion (λ (e : Id × Version). IsEntry book s (with_name book e)) more
entries book s [] all = tt
entries book s (e ∷ more) all = (record { selected = all.0; name = refl }, entries book s more all.1)

pub stanzas_say_offers : StanzasSayOffers
stanzas_say_offers book w found s rise t stands =
    all-contains (SaysAnOffer book w found s) (written book w found s).stanzas t
    (all-said book (is_pinned w) found (IsEntry book s) (SaysAnOffer book w found s) says (in_order book s) (all-in_order (IsEntry book s) book s (entries book s s (each_found s rise)))) stands
  where
    says : (e : Key × Version) (x : Offering) → IsEntry book s e → offer_at (book_offers book) e.0.1 e.1 ≡ Some x → SaysAnOffer book w found s (stanza_of (is_pinned w) found e x)
    says e x entry there = record {
      version = e.1;
      offer = x;
      selected = entry.selected;
      offered = there;
      said = λ i. stanza_of (is_pinned w) found ((entry.name i, e.0.1), e.1) x;
    }

-- ---- by name, and each identifier once

le_first : (a b : Ordering) → ordering_then a b ≡ Less → is_le a ≡ true
le_first Less b is = refl
le_first Equal b is = refl
le_first Greater b is = let wrong : Greater ≡ Less = is in cc

pub rises_by_name : (ts : List SaidStanza) → IsStrictlySortedBy by_key (map key_of ts) → are_by_name ts ≡ true
unfolding IsStrictlySortedBy
rises_by_name [] rise = refl
rises_by_name (t ∷ []) rise = refl
rises_by_name (t ∷ r ∷ ts) rise =
    ap (λ b. b && are_by_name (r ∷ ts)) (le_first (by_bytes t.name r.name) (by_bytes t.uuid r.uuid) rise.0.0) ∙ rises_by_name (r ∷ ts) rise.1

module _ (book : List Packed) where
  abbrev HasName : SaidStanza → Type 0
  HasName t = t.name ≡ name_in book t.uuid

  apart : (t r : SaidStanza) → HasName t → HasName r → by_key (key_of t) (key_of r) ≡ Less → bytes_eq t.uuid r.uuid ≡ false
  apart t r tn rn less =
      elim (bytes_eq t.uuid r.uuid) as (λ b. bytes_eq t.uuid r.uuid ≡ b → b ≡ false) [
        | true ↦ λ is. absurd (never ((bytes_eq-Decides t.uuid r.uuid).0 is))
        | false ↦ λ _. refl
      ] refl
    where
      never : t.uuid ≡ r.uuid → ⊥
      never same =
          let name : t.name ≡ r.name = tn ∙ ap (name_in book) same ∙ sym rn in
          let wrong : Less ≡ Equal = sym less ∙ (λ i. by_key (key_of t) ((sym name) i, (sym same) i)) ∙ tied_itself key_total (key_of t) in
          cc

  once_from : (has : List ℕ → Bool) (ts : List SaidStanza) → AllByRecursion HasName ts → IsStrictlySortedBy by_key (map key_of ts) →
      AllByRecursion (λ (t : SaidStanza). has t.uuid ≡ false) ts → first_again has (map (λ (t : SaidStanza). t.uuid) ts) ≡ None
  unfolding IsStrictlySortedBy
  once_from has [] named rise new = refl
  once_from has (t ∷ ts) named rise new =
      ap (λ b. cond b (Some t.uuid) (first_again (λ q. bytes_eq t.uuid q || has q) (map (λ (t : SaidStanza). t.uuid) ts))) new.0
      ∙ once_from (λ q. bytes_eq t.uuid q || has q) ts named.1 rise.1 (others ts named.1 rise.0 new.1)
    where
      named_t : HasName t
      named_t = named.0

      others : (rs : List SaidStanza) → AllByRecursion HasName rs → AllByRecursion (λ y. by_key (key_of t) y ≡ Less) (map key_of rs) →
          AllByRecursion (λ (r : SaidStanza). has r.uuid ≡ false) rs → AllByRecursion (λ (r : SaidStanza). (bytes_eq t.uuid r.uuid || has r.uuid) ≡ false) rs
      others [] named below new = tt
      others (r ∷ rs) named below new =
          (ap (λ b. b || has r.uuid) (apart t r named_t named.0 below.0) ∙ new.0, others rs named.1 below.1 new.1)

pub written_once : (book : List Packed) (w : Wanted) (found : Found) (s : Selected) → StandOnce (written book w found s).stanzas
written_once book w found s =
    once_from book (λ q. false) (written book w found s).stanzas
    (all-said book (is_pinned w) found (λ (e : Key × Version). e.0.0 ≡ name_in book e.0.1) (HasName book) (λ e x name there. name) (in_order book s)
    (all-in_order (λ (e : Key × Version). e.0.0 ≡ name_in book e.0.1) book s (each_named s)))
    (stanzas_rise book w found s) (each_new (written book w found s).stanzas)
  where
    each_named : (more : Selected) → AllByRecursion (λ (x : Id × Version). name_in book x.0 ≡ name_in book x.0) more
    each_named [] = tt
    each_named (x ∷ more) = (refl, each_named more)

    each_new : (ts : List SaidStanza) → AllByRecursion (λ (t : SaidStanza). false ≡ false) ts
    each_new [] = tt
    each_new (t ∷ ts) = (refl, each_new ts)
