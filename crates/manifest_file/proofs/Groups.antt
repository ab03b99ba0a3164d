-- Stanzas of one name stand in one group, and the groups stand in the order of their names.
use Rattle.std.proofs.Common.{rules, ◌≡◌, ◌<◌, ℕ, zero, suc, Bool, true, false, not, ◌&&◌, if◌then◌else◌, List, [], ◌∷◌, map, take, drop, length, Less, Equal, Greater, Ordering, refl, ap, sym, ◌∙◌, arith}
use Rattle.std.specs.Str.{bytes_eq}
use Rattle.std.specs.Ordering.{nat_cmp, is_lt, is_le, is_eq}
use Rattle.std.specs.Cmp.Lexicographic.{slice_cmp, nat_list_cmp_total}
use Rattle.std.specs.FinMap.Entries.{below_all}
use Rattle.std.proofs.lemmas.Map.Text.{is_eq-slice_cmp}
use Rattle.std.proofs.lemmas.Slice.Eq.{bytes_eq-Decides}
use Rattle.pkg_world.specs.ByName.{is_by_name}
use Rattle.manifest_file.specs.Saying.{SaidStanza}
use Rattle.manifest_file.specs.Said.{said_stanza}
use Rattle.manifest_file.specs.Written.{one_more, bearers_among, joined, grouped, is_apart, with_run, name_at, are_by_name, is_not_above}
use Rattle.manifest_file.specs.declared.bearers.Bearers.{Bearers}
use Rattle.manifest_file.specs.declared.stanza.Stanza.{Stanza}

abbrev pub Group : Type 0
Group = List ℕ × List SaidStanza

joined_apart : (s : SaidStanza) (gs : List Group) → is_apart s.name gs ≡ true → joined s gs ≡ (s.name, s ∷ []) ∷ gs
joined_apart s [] h = refl
joined_apart s (g ∷ gs) h = go (bytes_eq s.name g.0) h
  where
    go : (b : Bool) → not b ≡ true → (if b then (s.name, s ∷ g.1) ∷ gs else (s.name, s ∷ []) ∷ g ∷ gs) ≡ (s.name, s ∷ []) ∷ g ∷ gs
    go true h = cc
    go false h = refl

joined_same : (s : SaidStanza) (n : List ℕ) (g : List SaidStanza) (gs : List Group) → bytes_eq s.name n ≡ true → joined s ((n, g) ∷ gs) ≡ (s.name, s ∷ g) ∷ gs
joined_same s n g gs h = ap (λ b. if b then (s.name, s ∷ g) ∷ gs else (s.name, s ∷ []) ∷ (n, g) ∷ gs) h

pub name_at-drop : (i : ℕ) (ss : List Stanza) (x : Stanza) (rest : List Stanza) → drop i ss ≡ x ∷ rest → name_at i (map said_stanza ss) ≡ x.name
name_at-drop zero [] x rest e = cc
name_at-drop zero (s ∷ ss) x rest e = let same : s ≡ x = cc in ap (λ t. t.name) same
name_at-drop (suc i) [] x rest e = cc
name_at-drop (suc i) (s ∷ ss) x rest e = name_at-drop i ss x rest e

-- one stanza begins a group
pub run_init : (whole rest : List Stanza) (x : Stanza) (n : ℕ) → whole ≡ x ∷ rest → n ≡ 1 → is_apart x.name (grouped (map said_stanza rest)) ≡ true
    → grouped (map said_stanza whole) ≡ with_run (map said_stanza (take n whole)) (grouped (map said_stanza rest))
run_init whole rest x n is one apart =
    ap (λ w. grouped (map said_stanza w)) is ∙ joined_apart (said_stanza x) (grouped (map said_stanza rest)) apart
    ∙ sym (ap (λ w. with_run (map said_stanza (take n w)) (grouped (map said_stanza rest))) is ∙ ap (λ k. with_run (map said_stanza (take k (x ∷ rest))) (grouped (map said_stanza rest))) one)

-- a stanza of the group's name joins it
pub run_next : (longer whole more : List Stanza) (y x : Stanza) (m n k : ℕ) (groups : List Group) → longer ≡ y ∷ whole → whole ≡ x ∷ more → n ≡ suc k → m ≡ suc n
    → bytes_eq y.name x.name ≡ true → grouped (map said_stanza whole) ≡ with_run (map said_stanza (take n whole)) groups
    → grouped (map said_stanza longer) ≡ with_run (map said_stanza (take m longer)) groups
run_next longer whole more y x m n k groups longer_is whole_is n_is m_is same run =
    let first : with_run (map said_stanza (take n whole)) groups ≡ (x.name, said_stanza x ∷ map said_stanza (take k more)) ∷ groups
    = ap (λ w. with_run (map said_stanza (take n w)) groups) whole_is ∙ ap (λ c. with_run (map said_stanza (take c (x ∷ more))) groups) n_is in
    let later : with_run (map said_stanza (take m longer)) groups ≡ (y.name, said_stanza y ∷ said_stanza x ∷ map said_stanza (take k more)) ∷ groups
    = ap (λ w. with_run (map said_stanza (take m w)) groups) longer_is ∙ ap (λ c. with_run (map said_stanza (take c (y ∷ whole))) groups) m_is
    ∙ ap (λ w. with_run (said_stanza y ∷ map said_stanza (take n w)) groups) whole_is ∙ ap (λ c. with_run (said_stanza y ∷ map said_stanza (take c (x ∷ more))) groups) n_is in
    ap (λ w. grouped (map said_stanza w)) longer_is ∙ ap (joined (said_stanza y)) (run ∙ first)
    ∙ joined_same (said_stanza y) x.name (said_stanza x ∷ map said_stanza (take k more)) groups same ∙ sym later

-- a stanza of another name doesn't join it
pub run_apart : (whole more : List Stanza) (x : Stanza) (y : List ℕ) (n k : ℕ) (groups : List Group) → whole ≡ x ∷ more → n ≡ suc k → bytes_eq y x.name ≡ false
    → grouped (map said_stanza whole) ≡ with_run (map said_stanza (take n whole)) groups → is_apart y (grouped (map said_stanza whole)) ≡ true
run_apart whole more x y n k groups whole_is n_is other run =
    let first : with_run (map said_stanza (take n whole)) groups ≡ (x.name, said_stanza x ∷ map said_stanza (take k more)) ∷ groups
    = ap (λ w. with_run (map said_stanza (take n w)) groups) whole_is ∙ ap (λ c. with_run (map said_stanza (take c (x ∷ more))) groups) n_is in
    ap (is_apart y) (run ∙ first) ∙ ap not other

-- the first group of a run
pub run_first : (whole more : List Stanza) (x : Stanza) (n k : ℕ) (groups : List Group) → whole ≡ x ∷ more → n ≡ suc k
    → grouped (map said_stanza whole) ≡ with_run (map said_stanza (take n whole)) groups → grouped (map said_stanza whole) ≡ (x.name, map said_stanza (take n whole)) ∷ groups
run_first whole more x n k groups whole_is n_is run =
    let list : map said_stanza (take n whole) ≡ said_stanza x ∷ map said_stanza (take k more)
    = ap (λ w. map said_stanza (take n w)) whole_is ∙ ap (λ c. map said_stanza (take c (x ∷ more))) n_is in
    run ∙ ap (λ l. with_run l groups) list ∙ ap (λ l. (x.name, l) ∷ groups) (sym list)

less_from : (o : Ordering) → is_lt o ≡ true → o ≡ Less
less_from Less h = refl
less_from Equal h = cc
less_from Greater h = cc

left_true : (a b : Bool) → (a && b) ≡ true → a ≡ true
left_true true b e = refl
left_true false b e = e

right_true : (a b : Bool) → (a && b) ≡ true → b ≡ true
right_true true b e = e
right_true false b e = cc

below_through : (a b : List ℕ) (gs : List Group) → slice_cmp nat_cmp a b ≡ Less → below_all (slice_cmp nat_cmp) b gs ≡ true → below_all (slice_cmp nat_cmp) a gs ≡ true
below_through a b [] less h = refl
below_through a b (g ∷ gs) less h =
    let next = less_from (slice_cmp nat_cmp b g.0) (left_true _ _ h) in
    let here : is_lt (slice_cmp nat_cmp a g.0) ≡ true = ap is_lt (nat_list_cmp_total.trans a b g.0 less next) in
    rw (here, below_through a b gs less (right_true (is_lt (slice_cmp nat_cmp b g.0)) _ h)) refl

-- a group before others: as a new first one, or with the name of the first
joined_ordered : (s : SaidStanza) (n : List ℕ) (g : List SaidStanza) (gs : List Group) → is_le (slice_cmp nat_cmp s.name n) ≡ true → is_by_name ((n, g) ∷ gs) ≡ true
    → is_by_name (joined s ((n, g) ∷ gs)) ≡ true
joined_ordered s n g gs le h = go (bytes_eq s.name n) refl
  where
    less : (o : Ordering) → is_le o ≡ true → is_eq o ≡ false → o ≡ Less
    less Less a b = refl
    less Equal a b = cc
    less Greater a b = cc

    go : (b : Bool) → bytes_eq s.name n ≡ b → is_by_name (if b then (s.name, s ∷ g) ∷ gs else (s.name, s ∷ []) ∷ (n, g) ∷ gs) ≡ true
    go true e = let same : s.name ≡ n = search (rules, bytes_eq-Decides) in ap (λ m. is_by_name ((m, s ∷ g) ∷ gs)) same ∙ h
    go false e =
        let before = less (slice_cmp nat_cmp s.name n) le (is_eq-slice_cmp s.name n ∙ e) in
        let rest = below_through s.name n gs before (left_true (below_all (slice_cmp nat_cmp) n gs) _ h) in
        rw (before, rest, h) refl

first_named : (s : SaidStanza) (gs : List Group) → (g : List SaidStanza) × (rest : List Group) × (joined s gs ≡ (s.name, g) ∷ rest)
first_named s [] = (s ∷ [], [], refl)
first_named s (g ∷ gs) = go (bytes_eq s.name g.0)
  where
    go : (b : Bool) → (h : List SaidStanza) × (rest : List Group) × ((if b then (s.name, s ∷ g.1) ∷ gs else (s.name, s ∷ []) ∷ g ∷ gs) ≡ (s.name, h) ∷ rest)
    go true = (s ∷ g.1, gs, refl)
    go false = (s ∷ [], g ∷ gs, refl)

-- groups of stanzas in order stand in order, no name twice
pub grouped_ordered : (ss : List SaidStanza) → are_by_name ss ≡ true → is_by_name (grouped ss) ≡ true
grouped_ordered [] h = refl
grouped_ordered (s ∷ []) h = refl
grouped_ordered (s ∷ t ∷ ss) h =
    let (g, rest, is) = first_named t (grouped ss) in
    let later : is_by_name (joined t (grouped ss)) ≡ true = grouped_ordered (t ∷ ss) (right_true (is_le (slice_cmp nat_cmp s.name t.name)) _ h) in
    ap (λ gs. is_by_name (joined s gs)) is
    ∙ joined_ordered s t.name g rest (left_true (is_le (slice_cmp nat_cmp s.name t.name)) _ h) (ap is_by_name (sym is) ∙ later)

pub are_by_name-drop : (i : ℕ) (ss : List Stanza) → are_by_name (map said_stanza ss) ≡ true → are_by_name (map said_stanza (drop i ss)) ≡ true
are_by_name-drop zero ss h = h
are_by_name-drop (suc i) [] h = refl
are_by_name-drop (suc i) (s ∷ ss) h = are_by_name-drop i ss (right_true (is_not_above s.name (map said_stanza ss)) _ h)

-- what begins at a place
pub drop_cons : (i : ℕ) (ss : List Stanza) → i < length ss → (x : Stanza) × (drop i ss ≡ x ∷ drop (suc i) ss)
drop_cons zero [] h = absurd (omega arith)
drop_cons zero (s ∷ ss) h = (s, refl)
drop_cons (suc i) [] h = absurd (omega arith)
drop_cons (suc i) (s ∷ ss) h = drop_cons i ss (omega arith)

-- who bears a name, one stanza further
pub among_next : (name uuid q : List ℕ) (old : List ℕ → Bearers) (now : Bearers) (rest : List SaidStanza) → now ≡ (if bytes_eq name q then one_more uuid (old name) else old q)
    → ((p : List ℕ) → old p ≡ bearers_among rest p) → now ≡ (if bytes_eq name q then one_more uuid (bearers_among rest q) else bearers_among rest q)
among_next name uuid q old now rest is tells = is ∙ go (bytes_eq name q) refl
  where
    go : (b : Bool) → bytes_eq name q ≡ b → (if b then one_more uuid (old name) else old q) ≡ (if b then one_more uuid (bearers_among rest q) else bearers_among rest q)
    go true e = let same : name ≡ q = search (rules, bytes_eq-Decides) in ap (one_more uuid) (ap old same ∙ tells q)
    go false e = tells q
