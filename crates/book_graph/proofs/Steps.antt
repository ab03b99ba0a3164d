-- What one step after another adds.
use Rattle.std.proofs.Common.{◌≡◌, ℕ, ◌+◌, ◌<◌, ◌≤◌, Bool, ◌⊎◌, List, length, map, option_map, Some, slice_get, get_or, refl, sym, ap, ◌∙◌, subst, inl, inr, arith}
use Rattle.std.proofs.lemmas.Bool.{cases_eq}
use Rattle.std.proofs.lemmas.Option.{same_Some, slice_get_within, slice_get-get_or, get_or_from_slice_get, slice_get-map, slice_get_read}
use Rattle.version_graph.specs.Graph.{Graph}
use Rattle.book_graph.specs.Building.{State, Pair, Adds, barred_at, forbidden_at, Bars, Forbids, EitherWay, UpTo, OfOne, OfPlace}

pub adds_none : {X : Type 0} (f : X → Bool) (T : X → Type 0) → ((x : X) → T x → ⊥) → Adds f f T
adds_none f T none = record { keeps = λ x is. is; sound = λ x is. inl is; whole = λ x t. absurd (none x t) }

pub adds_on : {X : Type 0} (f g h : X → Bool) (A B C : X → Type 0) → Adds f g A → Adds g h B → ((x : X) → A x → C x) → ((x : X) → B x → C x) → ((x : X) → C x → A x ⊎ B x) → Adds f h C
adds_on f g h A B C a b first second back = record {
  keeps = λ x is. b.keeps x (a.keeps x is);
  sound = λ x is. elim (b.sound x is) [
    | inl old ↦ elim (a.sound x old) [ inl older ↦ inl older | inr t ↦ inr (first x t) ]
    | inr t ↦ inr (second x t)
  ];
  whole = λ x c. elim (back x c) [ inl t ↦ b.keeps x (a.whole x t) | inr t ↦ b.whole x t ];
}

pub adds_like : {X : Type 0} (f g : X → Bool) (A B : X → Type 0) → Adds f g A → ((x : X) → A x → B x) → ((x : X) → B x → A x) → Adds f g B
adds_like f g A B a to back = record {
  keeps = a.keeps;
  sound = λ x is. elim (a.sound x is) [ inl old ↦ inl old | inr t ↦ inr (to x t) ];
  whole = λ x t. a.whole x (back x t);
}

-- ---- states

pub bars_none : (g : Graph) (T : State → Type 0) → ((x : State) → T x → ⊥) → Bars g g T
bars_none g T none = record { sizes = refl; alike = λ p i q j. refl; adds = adds_none (barred_at g) T none }

pub bars_on : (f g h : Graph) (A B C : State → Type 0) → Bars f g A → Bars g h B → ((x : State) → A x → C x) → ((x : State) → B x → C x) → ((x : State) → C x → A x ⊎ B x) → Bars f h C
bars_on f g h A B C a b first second back = record {
  sizes = b.sizes ∙ a.sizes;
  alike = λ p i q j. b.alike p i q j ∙ a.alike p i q j;
  adds = adds_on (barred_at f) (barred_at g) (barred_at h) A B C a.adds b.adds first second back;
}

pub bars_like : (f g : Graph) (A B : State → Type 0) → Bars f g A → ((x : State) → A x → B x) → ((x : State) → B x → A x) → Bars f g B
bars_like f g A B a to back = record { sizes = a.sizes; alike = a.alike; adds = adds_like (barred_at f) (barred_at g) A B a.adds to back }

-- ---- pairs

either : (A B : Pair → Type 0) → ((x : Pair) → A x → B x) → (x : Pair) → EitherWay A x → EitherWay B x
either A B to x e = elim e [ inl t ↦ inl (to x t) | inr t ↦ inr (to (x.2, x.3, x.0, x.1) t) ]

pub forbids_none : (g : Graph) (T : Pair → Type 0) → ((x : Pair) → T x → ⊥) → Forbids g g T
forbids_none g T none = record {
  sizes = refl;
  alike = λ p i. refl;
  adds = adds_none (forbidden_at g) (EitherWay T) (λ x e. elim e [ inl t ↦ none x t | inr t ↦ none (x.2, x.3, x.0, x.1) t ]);
}

pub forbids_on : (f g h : Graph) (A B C : Pair → Type 0) → Forbids f g A → Forbids g h B → ((x : Pair) → A x → C x) → ((x : Pair) → B x → C x) → ((x : Pair) → C x → A x ⊎ B x) → Forbids f h C
forbids_on f g h A B C a b first second back = record {
  sizes = b.sizes ∙ a.sizes;
  alike = λ p i. b.alike p i ∙ a.alike p i;
  adds = adds_on (forbidden_at f) (forbidden_at g) (forbidden_at h) (EitherWay A) (EitherWay B) (EitherWay C) a.adds b.adds (either A C first) (either B C second) parts;
}
  where
    parts : (x : Pair) → EitherWay C x → EitherWay A x ⊎ EitherWay B x
    parts x e = elim e [
      | inl t ↦ elim (back x t) [ inl a ↦ inl (inl a) | inr b ↦ inr (inl b) ]
      | inr t ↦ elim (back (x.2, x.3, x.0, x.1) t) [ inl a ↦ inl (inr a) | inr b ↦ inr (inr b) ]
    ]

pub forbids_like : (f g : Graph) (A B : Pair → Type 0) → Forbids f g A → ((x : Pair) → A x → B x) → ((x : Pair) → B x → A x) → Forbids f g B
forbids_like f g A B a to back = record {
  sizes = a.sizes;
  alike = a.alike;
  adds = adds_like (forbidden_at f) (forbidden_at g) (EitherWay A) (EitherWay B) a.adds (either A B to) (either B A back);
}

-- ---- the first n, and one more

module _ {X : Type 0} (T : ℕ → X → Type 0) where
  pub upto_none : (x : X) → UpTo T 0 x → ⊥
  upto_none x u = let below = u.below in absurd (omega (arith, below))

  pub upto_first : (n : ℕ) (x : X) → UpTo T n x → UpTo T (n + 1) x
  upto_first n x u = let below = u.below in record { place = u.place; below = omega (arith, below); here = u.here }

  pub upto_last : (n : ℕ) (x : X) → T n x → UpTo T (n + 1) x
  upto_last n x t = record { place = n; below = omega arith; here = t }

  pub upto_back : (n : ℕ) (x : X) → UpTo T (n + 1) x → UpTo T n x ⊎ T n x
  upto_back n x u = let below = u.below in elim (cases_eq u.place n) [
    | inl same ↦ inr (subst (λ k. T k x) same u.here)
    | inr ne ↦ inl (record { place = u.place; below = omega (arith, below, ne); here = u.here })
  ]

pub bars_begin : (g : Graph) (T : ℕ → State → Type 0) → Bars g g (UpTo T 0)
bars_begin g T = bars_none g (UpTo T 0) (upto_none T)

pub bars_next : (f g h : Graph) (T : ℕ → State → Type 0) (n : ℕ) → Bars f g (UpTo T n) → Bars g h (T n) → Bars f h (UpTo T (n + 1))
bars_next f g h T n a b = bars_on f g h (UpTo T n) (T n) (UpTo T (n + 1)) a b (upto_first T n) (upto_last T n) (upto_back T n)

pub forbids_begin : (g : Graph) (T : ℕ → Pair → Type 0) → Forbids g g (UpTo T 0)
forbids_begin g T = forbids_none g (UpTo T 0) (upto_none T)

pub forbids_next : (f g h : Graph) (T : ℕ → Pair → Type 0) (n : ℕ) → Forbids f g (UpTo T n) → Forbids g h (T n) → Forbids f h (UpTo T (n + 1))
forbids_next f g h T n a b = forbids_on f g h (UpTo T n) (T n) (UpTo T (n + 1)) a b (upto_first T n) (upto_last T n) (upto_back T n)

-- ---- by the members of a list

module _ {X Y : Type 0} (T : Y → X → Type 0) (ys : List Y) where
  pub place_in : (k : ℕ) (y : Y) → slice_get ys k ≡ Some y → (x : X) → T y x → OfPlace T ys k x
  place_in k y there x t = record { item = y; there = there; here = t }

  pub place_out : (k : ℕ) (y : Y) → slice_get ys k ≡ Some y → (x : X) → OfPlace T ys k x → T y x
  place_out k y there x o = subst (λ z. T z x) (same_Some o.item y (sym o.there ∙ there)) o.here

  pub one_from_places : (n : ℕ) (x : X) → UpTo (OfPlace T ys) n x → OfOne T ys x
  one_from_places n x u = record {
    item = u.here.item;
    there = (u.place, slice_get_within ys u.place u.here.item u.here.there, get_or_from_slice_get ys u.place u.here.item u.here.item u.here.there);
    here = u.here.here;
  }

  pub places_from_one : (n : ℕ) → length ys ≤ n → (x : X) → OfOne T ys x → UpTo (OfPlace T ys) n x
  places_from_one n past x o = let inside = o.there.1 in record {
    place = o.there.0;
    below = omega (arith, inside, past);
    here = record { item = o.item; there = slice_get-get_or ys o.there.0 o.item o.there.1 ∙ ap Some o.there.2; here = o.here };
  }

pub bars_next_of : {Y : Type 0} (f g h : Graph) (T : Y → State → Type 0) (ys : List Y) (n : ℕ) (y : Y) → Bars f g (UpTo (OfPlace T ys) n) → slice_get ys n ≡ Some y → Bars g h (T y) → Bars f h (UpTo (OfPlace T ys) (n + 1))
bars_next_of f g h T ys n y a there b = bars_next f g h (OfPlace T ys) n a (bars_like g h (T y) (OfPlace T ys n) b (place_in T ys n y there) (place_out T ys n y there))

pub bars_all_of : {Y : Type 0} (f g : Graph) (T : Y → State → Type 0) (ys : List Y) (n : ℕ) → length ys ≤ n → Bars f g (UpTo (OfPlace T ys) n) → Bars f g (OfOne T ys)
bars_all_of f g T ys n past a = bars_like f g (UpTo (OfPlace T ys) n) (OfOne T ys) a (one_from_places T ys n) (places_from_one T ys n past)

pub forbids_next_of : {Y : Type 0} (f g h : Graph) (T : Y → Pair → Type 0) (ys : List Y) (n : ℕ) (y : Y) → Forbids f g (UpTo (OfPlace T ys) n) → slice_get ys n ≡ Some y → Forbids g h (T y) → Forbids f h (UpTo (OfPlace T ys) (n + 1))
forbids_next_of f g h T ys n y a there b = forbids_next f g h (OfPlace T ys) n a (forbids_like g h (T y) (OfPlace T ys n) b (place_in T ys n y there) (place_out T ys n y there))

pub forbids_all_of : {Y : Type 0} (f g : Graph) (T : Y → Pair → Type 0) (ys : List Y) (n : ℕ) → length ys ≤ n → Forbids f g (UpTo (OfPlace T ys) n) → Forbids f g (OfOne T ys)
forbids_all_of f g T ys n past a = forbids_like f g (UpTo (OfPlace T ys) n) (OfOne T ys) a (one_from_places T ys n) (places_from_one T ys n past)

-- what stands in that place of a list that is made of another
pub mapped_at : {X Y : Type 0} (f : X → Y) (xs : List X) (i : ℕ) (x : X) → i < length xs → x ≡ get_or xs i x → slice_get (map f xs) i ≡ Some (f x)
mapped_at f xs i x inside is = slice_get-map f xs i ∙ ap (option_map f) (slice_get_read xs (length xs) i x refl inside is)

pub read_at : {X : Type 0} (xs : List X) (i : ℕ) (x : X) → i < length xs → x ≡ get_or xs i x → slice_get xs i ≡ Some x
read_at xs i x inside is = slice_get_read xs (length xs) i x refl inside is
