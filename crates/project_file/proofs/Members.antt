-- What a value put at a key leaves of the members.
use Rattle.std.proofs.Common.{◌≡◌, ℕ, ◌≤◌, Bool, true, false, not, List, [], ◌∷◌, Option, Some, None, String, Global, string_bytes, string_cmp, Ordering, Less, Equal, Greater, nat_cmp, refl, ap, sym, ◌∙◌, subst, inl, inr, arith}
use Rattle.std.proofs.lemmas.Bool.{cases_Bool, and_parts, false≢true}
use Rattle.std.proofs.lemmas.Bool.Decides.{nat_tests}
use Rattle.std.proofs.lemmas.Cmp.{tied_itself, nat_list_cmp_total}
use Rattle.std.specs.Cmp.Lexicographic.{slice_cmp}
use Rattle.std.specs.Ordering.{match_ordering, ordering_then, is_eq}
use Rattle.std.specs.BTreeMap.{insert_entry}
use Rattle.toml.specs.Data.{Data, depth, Members, no_members, member, members_depth, get_member, same_key, has_valid_dates, members_have_valid_dates}
use Rattle.toml.specs.View.{view, members_view}
use Rattle.toml.specs.declared.value.Value.{Value}
use Rattle.project_file.specs.Keys.{is_named, unnamed, names_none}
use Rattle.project_file.specs.Putting.{put}

abbrev pub Entry : Type 0
Entry = String Global × Value

abbrev key_cmp : List ℕ → List ℕ → Ordering
key_cmp = slice_cmp nat_cmp

-- ---- the order of keys

nat_same : (x y : ℕ) → nat_cmp x y ≡ Equal → x ≡ y
nat_same x y e = grind (arith, nat_tests)

then_equal : (a b : Ordering) → ordering_then a b ≡ Equal → (a ≡ Equal) × (b ≡ Equal)
then_equal Less b e = cc
then_equal Equal b e = (refl, e)
then_equal Greater b e = cc

pub keys_same : (k l : List ℕ) → key_cmp k l ≡ Equal → k ≡ l
keys_same [] [] e = refl
keys_same [] (y ∷ ys) e = cc
keys_same (x ∷ xs) [] e = cc
keys_same (x ∷ xs) (y ∷ ys) e = let (first, rest) = then_equal (nat_cmp x y) (slice_cmp nat_cmp xs ys) e in λ i. nat_same x y first i ∷ keys_same xs ys rest i

equal_from : (o : Ordering) → is_eq o ≡ true → o ≡ Equal
equal_from Less e = cc
equal_from Equal e = refl
equal_from Greater e = cc

pub keys_equal : (k l : List ℕ) → same_key k l ≡ true → k ≡ l
keys_equal k l same = keys_same k l (equal_from (key_cmp k l) same)

-- the three ways in which two keys stand
data Ways (o : Ordering) : Type 0 where
  lower : o ≡ Less → Ways o
  tied : o ≡ Equal → Ways o
  upper : o ≡ Greater → Ways o

ways : (o : Ordering) → Ways o
ways Less = lower refl
ways Equal = tied refl
ways Greater = upper refl

-- ---- the map of a table

match_members : (o : Ordering) (a b c : List Entry) → members_view (match_ordering o a b c) ≡ match_ordering o (members_view a) (members_view b) (members_view c)
match_members Less a b c = refl
match_members Equal a b c = refl
match_members Greater a b c = refl

-- an insert into the map of a table puts the value at the key
pub insert_is_put : (es : List Entry) (k : String Global) (v : Value) → members_view (insert_entry string_cmp es k v) ≡ put (string_bytes k) (view v) (members_view es)
insert_is_put [] k v = refl
insert_is_put (e ∷ es) k v = match_members (string_cmp k e.0) _ _ _ ∙ rw (insert_is_put es k v)

-- ---- the members after a put

put_lower : (key k : List ℕ) (value v : Data) (more : Members) → key_cmp key k ≡ Less → put key value (member k v more) ≡ member key value (member k v more)
put_lower key k value v more less = rw less

put_tied : (key k : List ℕ) (value v : Data) (more : Members) → key_cmp key k ≡ Equal → put key value (member k v more) ≡ member k value more
put_tied key k value v more same = rw same

pub put_upper : (key k : List ℕ) (value v : Data) (more : Members) → key_cmp key k ≡ Greater → put key value (member k v more) ≡ member k v (put key value more)
put_upper key k value v more greater = rw greater

get_here : (key k : List ℕ) (v : Data) (more : Members) → key_cmp key k ≡ Equal → get_member key (member k v more) ≡ Some v
get_here key k v more same = rw same

get_past : (key k : List ℕ) (v : Data) (more : Members) → same_key key k ≡ false → get_member key (member k v more) ≡ get_member key more
get_past key k v more other = past (key_cmp key k) other
  where
    past : (o : Ordering) → is_eq o ≡ false → match_ordering o (get_member key more) (Some v) (get_member key more) ≡ get_member key more
    past Less e = refl
    past Equal e = cc
    past Greater e = refl

-- the value at the key
pub get_put : (key : List ℕ) (value : Data) (members : Members) → get_member key (put key value members) ≡ Some value
get_put key value no_members = get_here key key value no_members (tied_itself nat_list_cmp_total key)
get_put key value (member k v more) =
    elim (ways (key_cmp key k)) [
      | lower less ↦ ap (get_member key) (put_lower key k value v more less) ∙ get_here key key value (member k v more) (tied_itself nat_list_cmp_total key)
      | tied same ↦ ap (get_member key) (put_tied key k value v more same) ∙ get_here key k value more same
      | upper greater ↦ ap (get_member key) (put_upper key k value v more greater) ∙ get_past key k v (put key value more) (ap is_eq greater) ∙ get_put key value more
    ]

-- the value at another key
pub get_put-other : (other key : List ℕ) (value : Data) (members : Members) → same_key other key ≡ false → get_member other (put key value members) ≡ get_member other members
get_put-other other key value no_members apart = get_past other key value no_members apart
get_put-other other key value (member k v more) apart =
    elim (ways (key_cmp key k)) [
      | lower less ↦ ap (get_member other) (put_lower key k value v more less) ∙ get_past other key value (member k v more) apart
      | tied same ↦
          let apart' : same_key other k ≡ false = subst (λ l. same_key other l ≡ false) (keys_same key k same) apart in
          ap (get_member other) (put_tied key k value v more same) ∙ get_past other k value more apart' ∙ sym (get_past other k v more apart')
      | upper greater ↦ ap (get_member other) (put_upper key k value v more greater) ∙ behind (key_cmp other k) (get_put-other other key value more apart)
    ]
  where
    behind : (o : Ordering) {a b : Option Data} → a ≡ b → match_ordering o a (Some v) a ≡ match_ordering o b (Some v) b
    behind o e = ap (λ x. match_ordering o x (Some v) x) e

unnamed-keeps : (key : List ℕ) (value : Data) (a b : Members) → unnamed a ≡ unnamed b → unnamed (member key value a) ≡ unnamed (member key value b)
unnamed-keeps key value a b same =
    elim (cases_Bool (is_named key)) [
      | inl named ↦ unnamed-named key value a named ∙ same ∙ sym (unnamed-named key value b named)
      | inr other ↦ unnamed-other key value a other ∙ ap (member key value) same ∙ sym (unnamed-other key value b other)
    ]
  where
    unnamed-named : (k : List ℕ) (v : Data) (more : Members) → is_named k ≡ true → unnamed (member k v more) ≡ unnamed more
    unnamed-named k v more named = rw named

    unnamed-other : (k : List ℕ) (v : Data) (more : Members) → is_named k ≡ false → unnamed (member k v more) ≡ member k v (unnamed more)
    unnamed-other k v more other = rw other

named_out : (key : List ℕ) (value : Data) (more : Members) → is_named key ≡ true → unnamed (member key value more) ≡ unnamed more
named_out key value more named = rw named

-- a named key doesn't count among the others
pub unnamed_put : (key : List ℕ) (value : Data) (members : Members) → is_named key ≡ true → unnamed (put key value members) ≡ unnamed members
unnamed_put key value no_members named = named_out key value no_members named
unnamed_put key value (member k v more) named =
    elim (ways (key_cmp key k)) [
      | lower less ↦ ap unnamed (put_lower key k value v more less) ∙ named_out key value (member k v more) named
      | tied same ↦
          let here : is_named k ≡ true = subst (λ l. is_named l ≡ true) (keys_same key k same) named in
          ap unnamed (put_tied key k value v more same) ∙ named_out k value more here ∙ sym (named_out k v more here)
      | upper greater ↦ ap unnamed (put_upper key k value v more greater) ∙ unnamed-keeps k v (put key value more) more (unnamed_put key value more named)
    ]

-- ---- members without named keys

not_named : (b : Bool) → not b ≡ true → b ≡ false
not_named true e = cc
not_named false e = refl

pub unnamed_plain : (members : Members) → names_none members ≡ true → unnamed members ≡ members
unnamed_plain no_members none = refl
unnamed_plain (member key value more) none =
    let (here, rest) = and_parts (not (is_named key)) (names_none more) none in
    let other : is_named key ≡ false = not_named (is_named key) here in
    rw (other, unnamed_plain more rest)

pub get_plain : (key : List ℕ) (members : Members) → is_named key ≡ true → names_none members ≡ true → get_member key members ≡ None
get_plain key no_members named none = refl
get_plain key (member k v more) named none =
    let (here, rest) = and_parts (not (is_named k)) (names_none more) none in
    let other : is_named k ≡ false = not_named (is_named k) here in
    get_past key k v more (apart (ways (key_cmp key k)) other) ∙ get_plain key more named rest
  where
    apart : Ways (key_cmp key k) → is_named k ≡ false → same_key key k ≡ false
    apart (lower e) other = ap is_eq e
    apart (upper e) other = ap is_eq e
    apart (tied e) other = absurd (false≢true (sym other ∙ subst (λ l. is_named l ≡ true) (keys_same key k e) named))

-- ---- how deep they nest

pub depth_put : (key : List ℕ) (value : Data) (members : Members) (n : ℕ) → depth value ≤ n → members_depth members ≤ n → members_depth (put key value members) ≤ n
depth_put key value no_members n small rest = omega (arith, small)
depth_put key value (member k v more) n small rest =
    elim (ways (key_cmp key k)) [
      | lower less ↦ subst (λ ms. members_depth ms ≤ n) (sym (put_lower key k value v more less)) (omega (arith, small, rest))
      | tied same ↦ subst (λ ms. members_depth ms ≤ n) (sym (put_tied key k value v more same)) (omega (arith, small, rest))
      | upper greater ↦
          let deeper : members_depth (put key value more) ≤ n = depth_put key value more n small (omega (arith, rest)) in
          subst (λ ms. members_depth ms ≤ n) (sym (put_upper key k value v more greater)) (omega (arith, deeper, rest))
    ]

-- ---- which dates they have

member_dated : (k : List ℕ) (v : Data) (more : Members) → has_valid_dates v ≡ true → members_have_valid_dates more ≡ true → members_have_valid_dates (member k v more) ≡ true
member_dated k v more here rest = rw (here, rest)

pub dated_put : (key : List ℕ) (value : Data) (members : Members) → has_valid_dates value ≡ true → members_have_valid_dates members ≡ true → members_have_valid_dates (put key value members) ≡ true
dated_put key value no_members here rest = member_dated key value no_members here refl
dated_put key value (member k v more) here rest =
    let (first, others) = and_parts (has_valid_dates v) (members_have_valid_dates more) rest in
    elim (ways (key_cmp key k)) [
      | lower less ↦ ap members_have_valid_dates (put_lower key k value v more less) ∙ member_dated key value (member k v more) here rest
      | tied same ↦ ap members_have_valid_dates (put_tied key k value v more same) ∙ member_dated key value more here others
      | upper greater ↦ ap members_have_valid_dates (put_upper key k value v more greater) ∙ member_dated k v (put key value more) first (dated_put key value more here others)
    ]

-- so they are without the named keys
pub dated_unnamed : (members : Members) → members_have_valid_dates members ≡ true → members_have_valid_dates (unnamed members) ≡ true
dated_unnamed no_members dated = refl
dated_unnamed (member key value more) dated =
    let (here, rest) = and_parts (has_valid_dates value) (members_have_valid_dates more) dated in
    elim (cases_Bool (is_named key)) [
      | inl named ↦ ap members_have_valid_dates (named_out key value more named) ∙ dated_unnamed more rest
      | inr other ↦ ap members_have_valid_dates (kept other) ∙ member_dated key value (unnamed more) here (dated_unnamed more rest)
    ]
  where
    kept : is_named key ≡ false → unnamed (member key value more) ≡ member key value (unnamed more)
    kept other = rw other
