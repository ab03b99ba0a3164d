-- What is written reads again as it was.
use Rattle.std.proofs.Common.{String, Global, string_bytes, ◌≡◌, ℕ, ◌≤◌, ◌<◌, ◌+◌, true, List, [], ◌∷◌, ◌++◌, length, take, get_or, zero, suc, Option, Some, None, option_map, Result, Ok, Err, codes, Ordering, Less, Equal, Greater, nat_cmp, refl, ap, sym, ◌∙◌, subst, arith}
use Rattle.std.proofs.lemmas.Bool.{and_parts}
use Rattle.std.proofs.lemmas.List.{take_more}
use Rattle.std.specs.List.{AllZip}
use Rattle.std.proofs.lemmas.Cmp.{nat_list_cmp_total}
use Rattle.std.specs.Ordering.{ordering_reverse, is_lt}
use Rattle.std.specs.Cmp.Lexicographic.{slice_cmp}
use Rattle.std.specs.FinMap.Entries.{below_all}
use Rattle.pkg_world.specs.ByName.{is_by_name}
use Rattle.toml.specs.Data.{Data, string, Items, no_items, item, push_item, items_depth, Members, no_members, member, members_depth, has_valid_dates, items_have_valid_dates, members_have_valid_dates}
use Rattle.toml_view.specs.Reading.{at, chained, mapped, each, items_read, text_of}
use Rattle.toml_view.specs.declared.refusal.Refusal.{Refusal}
use Rattle.project_file.specs.Places.{source_in}
use Rattle.project_file.specs.Putting.{put, put_some}
use Rattle.project_file.specs.declared.source.Source.TheVariants.{Url}
use Rattle.toml.specs.View.{view, members_view}
use Rattle.project_file.proofs.Members.{Entry, put_upper}

-- ---- sources

abbrev url_members : List ℕ → Option (List ℕ) → Option (List ℕ) → Members
url_members url rev subdir =
    put_some (codes "subdir") (option_map (λ t. string t) subdir) (put_some (codes "rev") (option_map (λ t. string t) rev) (put (codes "url") (string url) no_members))

pub url_back : (url : List ℕ) (rev subdir : Option (List ℕ)) → source_in (url_members url rev subdir) ≡ Ok (Url url rev subdir)
url_back url None None = refl
url_back url None (Some subdir) = refl
url_back url (Some rev) None = refl
url_back url (Some rev) (Some subdir) = refl

pub url_dated : (url : List ℕ) (rev subdir : Option (List ℕ)) → members_have_valid_dates (url_members url rev subdir) ≡ true
url_dated url None None = refl
url_dated url None (Some subdir) = refl
url_dated url (Some rev) None = refl
url_dated url (Some rev) (Some subdir) = refl

pub url_flat : (url : List ℕ) (rev subdir : Option (List ℕ)) → members_depth (url_members url rev subdir) ≤ 0
url_flat url None None = omega arith
url_flat url None (Some subdir) = omega arith
url_flat url (Some rev) None = omega arith
url_flat url (Some rev) (Some subdir) = omega arith

-- ---- lists of texts

pub items_back-push : (ds : Items) (names : List (List ℕ)) (name : List ℕ) → items_read text_of ds ≡ Ok names → items_read text_of (push_item ds (string name)) ≡ Ok (names ++ name ∷ [])
items_back-push no_items [] name same = refl
items_back-push no_items (n ∷ names) name same = cc
items_back-push (item d ds) names name same = more (text_of d) (items_read text_of ds) names same (λ read e. items_back-push ds read name e)
  where
    more : (first : Result (List ℕ) Refusal) (rest : Result (List (List ℕ)) Refusal) (whole : List (List ℕ)) → chained (λ v. mapped (λ vs. v ∷ vs) rest) first ≡ Ok whole
        → ((read : List (List ℕ)) → rest ≡ Ok read → items_read text_of (push_item ds (string name)) ≡ Ok (read ++ name ∷ []))
        → chained (λ v. mapped (λ vs. v ∷ vs) (items_read text_of (push_item ds (string name)))) first ≡ Ok (whole ++ name ∷ [])
    more (Err r) rest whole e next = cc
    more (Ok v) (Err r) whole e next = cc
    more (Ok v) (Ok read) whole e next = let same' : v ∷ read ≡ whole = cc in ap (mapped (λ vs. v ∷ vs)) (next read refl) ∙ ap (λ w. Ok (w ++ name ∷ [])) same'

pub items_dated-push : (ds : Items) (name : List ℕ) → items_have_valid_dates ds ≡ true → items_have_valid_dates (push_item ds (string name)) ≡ true
items_dated-push no_items name dated = refl
items_dated-push (item d ds) name dated =
    let (here, rest) = and_parts (has_valid_dates d) (items_have_valid_dates ds) dated in
    rw (here, items_dated-push ds name rest)

pub items_flat-push : (ds : Items) (name : List ℕ) → items_depth ds ≤ 0 → items_depth (push_item ds (string name)) ≤ 0
items_flat-push no_items name flat = omega arith
items_flat-push (item d ds) name flat = let rest : items_depth (push_item ds (string name)) ≤ 0 = items_flat-push ds name (omega (arith, flat)) in omega (arith, rest, flat)

-- ---- tables of names

-- the name comes after those of the pairs
abbrev pub IsAbove : {T : Type 0} → List ℕ → List (List ℕ × T) → Type 0
IsAbove name [] = Unit {0}
IsAbove name (p ∷ pairs) = (slice_cmp nat_cmp name p.0 ≡ Greater) × IsAbove name pairs

-- a name above all comes last
pub each_back-put : {T : Type 0} (read : Data → Result T Refusal) (members : Members) (pairs : List (List ℕ × T)) (name : List ℕ) (value : Data) (v : T)
    → each read members ≡ Ok pairs → read value ≡ Ok v → IsAbove name pairs → each read (put name value members) ≡ Ok (pairs ++ (name, v) ∷ [])
each_back-put read no_members [] name value v same reads above = ap (λ r. chained (λ w. mapped (λ vs. (name, w) ∷ vs) (Ok [])) (at name r)) reads
each_back-put read no_members (p ∷ pairs) name value v same reads above = cc
each_back-put {T} read (member k d more) pairs name value v same reads above =
    let next = behind (read d) (each read more) (each read (put name value more)) pairs same above (λ rest e high. each_back-put read more rest name value v e reads high) in
    ap (each read) (put_upper name k value d more next.0) ∙ next.1
  where
    behind : (first : Result T Refusal) (rest new : Result (List (List ℕ × T)) Refusal) (whole : List (List ℕ × T)) → chained (λ w. mapped (λ vs. (k, w) ∷ vs) rest) (at k first) ≡ Ok whole
        → IsAbove name whole → ((those : List (List ℕ × T)) → rest ≡ Ok those → IsAbove name those → new ≡ Ok (those ++ (name, v) ∷ []))
        → (slice_cmp nat_cmp name k ≡ Greater) × (chained (λ w. mapped (λ vs. (k, w) ∷ vs) new) (at k first) ≡ Ok (whole ++ (name, v) ∷ []))
    behind (Err r) rest new whole e high next = cc
    behind (Ok w) (Err r) new whole e high next = cc
    behind (Ok w) (Ok those) new whole e high next =
        let same' : (k, w) ∷ those ≡ whole = cc in
        let high' : IsAbove name ((k, w) ∷ those) = subst (IsAbove name) (sym same') high in
        (high'.0, ap (mapped (λ vs. (k, w) ∷ vs)) (next those refl high'.1) ∙ ap (λ (ps : List (List ℕ × T)). Ok (ps ++ (name, v) ∷ [])) same')

less_from : (o : Ordering) → is_lt o ≡ true → o ≡ Less
less_from Less e = refl
less_from Equal e = cc
less_from Greater e = cc

below_at : {T : Type 0} (x : List ℕ) (pairs : List (List ℕ × T)) (i : ℕ) (d : List ℕ × T) → below_all (slice_cmp nat_cmp) x pairs ≡ true → i < length pairs → slice_cmp nat_cmp x (get_or pairs i d).0 ≡ Less
below_at x [] i d below inside = absurd (omega (arith, inside))
below_at x (p ∷ pairs) zero d below inside = less_from (slice_cmp nat_cmp x p.0) (and_parts (is_lt (slice_cmp nat_cmp x p.0)) (below_all (slice_cmp nat_cmp) x pairs) below).0
below_at x (p ∷ pairs) (suc i) d below inside =
    below_at x pairs i d (and_parts (is_lt (slice_cmp nat_cmp x p.0)) (below_all (slice_cmp nat_cmp) x pairs) below).1 (omega (arith, inside))

-- a name of pairs in order comes after those before it
pub above_at : {T : Type 0} (pairs : List (List ℕ × T)) (i : ℕ) (d : List ℕ × T) → is_by_name pairs ≡ true → i < length pairs → IsAbove (get_or pairs i d).0 (take i pairs)
above_at [] i d ordered inside = absurd (omega (arith, inside))
above_at (p ∷ pairs) zero d ordered inside = tt
above_at (p ∷ pairs) (suc i) d ordered inside =
    let (below, rest) = and_parts (below_all (slice_cmp nat_cmp) p.0 pairs) (is_by_name pairs) ordered in
    let within : i < length pairs = omega (arith, inside) in
    (nat_list_cmp_total.antisymm (get_or pairs i d).0 p.0 ∙ ap ordering_reverse (below_at p.0 pairs i d below within), above_at pairs i d rest within)

-- one item of a list in order more
pub each_back-next : {T : Type 0} (read : Data → Result T Refusal) (items : List (List ℕ × T)) (i : ℕ) (here : List ℕ × T) (members : Members) (name : List ℕ) (value : Data)
    → is_by_name items ≡ true → i < length items → here ≡ get_or items i here → name ≡ here.0 → read value ≡ Ok here.1 → each read members ≡ Ok (take i items)
    → each read (put name value members) ≡ Ok (take (i + 1) items)
each_back-next {T} read items i here members name value ordered inside is named reads back =
    let above : IsAbove here.0 (take i items) = subst (λ (p : List ℕ × T). IsAbove p.0 (take i items)) (sym is) (above_at items i here ordered inside) in
    let above' : IsAbove name (take i items) = subst (λ n. IsAbove n (take i items)) (sym named) above in
    each_back-put read members (take i items) name value here.1 back reads above'
    ∙ ap (λ n. Ok (take i items ++ (n, here.1) ∷ [])) named
    ∙ ap (λ (p : List ℕ × T). Ok (take i items ++ p ∷ [])) is
    ∙ ap Ok (sym (take_more items i here inside))

-- ---- copies

pub cloned_view : (C : String Global → String Global → Type 0) → ((x y : String Global) → C x y → string_bytes y ≡ string_bytes x) → (es fs : List Entry)
    → AllZip (λ p q. C p.0 q.0 × (view q.1 ≡ view p.1)) es fs → members_view fs ≡ members_view es
cloned_view C same [] [] zipped = refl
cloned_view C same [] (f ∷ fs) zipped = absurd zipped
cloned_view C same (e ∷ es) [] zipped = absurd zipped
cloned_view C same (e ∷ es) (f ∷ fs) zipped = λ i. member (same e.0 f.0 zipped.0.0 i) (zipped.0.1 i) (cloned_view C same es fs zipped.1 i)
