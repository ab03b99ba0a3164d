-- Lists of the numbers that pass a test.
use Rattle.std.proofs.Common.{◌≡◌, ◌≢◌, ℕ, zero, suc, ◌+◌, ◌<◌, Bool, true, false, not, cond, ◌||◌, List, [], ◌∷◌, ◌++◌, length, get_or, map, refl, sym, ◌∙◌, ap, arith, ◌⊎◌, inl, inr, eqb, ltb}
use Rattle.std.proofs.lemmas.List.Elements.{filter-append}
use Rattle.std.proofs.lemmas.List.{map-append, length-map, get_or_append_left}
use Rattle.std.proofs.Math.Seq.{get_or-append_seam}
use Rattle.std.specs.List.{filter, range_with_len, Contains}
use Rattle.std.specs.List.Sorted.{IsStrictlyIncreasing}
use Rattle.std.proofs.lemmas.Bool.{lt-ltb, ltb-true, and_parts}
use Rattle.std.proofs.lemmas.Bool.Decides.{eqb_tells}
use Rattle.std.proofs.lemmas.List.Kept.{IsStrictlyIncreasing-filter}
use Rattle.std.proofs.lemmas.List.FromFn.{length-range_with_len, get_or-range_with_len}
use Rattle.version_graph.specs.Graph.{Graph, packages, last, IsListOf, is_root, does_need, is_forbidden}
use Rattle.version_graph.specs.Stored.{includes}
use Rattle.version_graph.proofs.GraphLemmas.{includes_at, Contains_from_includes, includes_from_Contains}

sound-go : (test : ℕ → Bool) (x : ℕ) (ys : List ℕ) → ((k : ℕ) → k < length ys → test (get_or ys k 0) ≡ true) →
    (b : Bool) → test x ≡ b → (k : ℕ) → k < length (cond b (x ∷ ys) ys) → test (get_or (cond b (x ∷ ys) ys) k 0) ≡ true
sound-go test x ys rest true e zero h = e
sound-go test x ys rest true e (suc k) h = rest k (omega (arith, h))
sound-go test x ys rest false e k h = rest k h

filter-sound : (test : ℕ → Bool) (xs : List ℕ) (k : ℕ) → k < length (filter test xs) → test (get_or (filter test xs) k 0) ≡ true
filter-sound test [] k h = absurd (omega (arith, h))
filter-sound test (x ∷ xs) k h = sound-go test x (filter test xs) (filter-sound test xs) (test x) refl k h

includes-go : (test : ℕ → Bool) (x q : ℕ) (xs ys : List ℕ) → test q ≡ true → (eqb x q || includes xs q) ≡ true → (includes xs q ≡ true → includes ys q ≡ true) →
    (b : Bool) → test x ≡ b → (((eqb x q ≡ true) × (x ≡ q)) ⊎ ((eqb x q ≡ false) × (x ≢ q))) → includes (cond b (x ∷ ys) ys) q ≡ true
includes-go test x q xs ys t e rest true f (inl s) = ap (λ v. v || includes ys q) (s.0)
includes-go test x q xs ys t e rest true f (inr s) = ap (λ v. v || includes ys q) (s.0) ∙ rest (sym (ap (λ v. v || includes xs q) (s.0)) ∙ e)
includes-go test x q xs ys t e rest false f (inl s) = let yes : test x ≡ true = ap test s.1 ∙ t in absurd (cc)
includes-go test x q xs ys t e rest false f (inr s) = rest (sym (ap (λ v. v || includes xs q) (s.0)) ∙ e)

filter-includes : (test : ℕ → Bool) (xs : List ℕ) (q : ℕ) → test q ≡ true → includes xs q ≡ true → includes (filter test xs) q ≡ true
filter-includes test [] q t e = e
filter-includes test (x ∷ xs) q t e = includes-go test x q xs (filter test xs) t e (filter-includes test xs q t) (test x) refl (eqb_tells x q)

pub filter-listed : (test : ℕ → Bool) (xs : List ℕ) → IsStrictlyIncreasing xs → ((q : ℕ) → test q ≡ true → Contains xs q) → IsListOf test (filter test xs)
filter-listed test xs up whole = record {
  rising = IsStrictlyIncreasing-filter test xs up;
  sound = filter-sound test xs;
  whole = λ q t. Contains_from_includes (filter test xs) q (filter-includes test xs q t (includes_from_Contains xs q (whole q t)));
}

pub range-listed : (n : ℕ) → IsListOf (λ q. ltb q n) (range_with_len 0 n)
range-listed n = record {
  rising = λ k h.
      let long = length-range_with_len 0 n in
      let a = get_or-range_with_len 0 n k 0 (omega (arith, h, long)) in
      let b = get_or-range_with_len 0 n (k + 1) 0 (omega (arith, h, long)) in
      omega (arith, a, b);
  sound = λ k h.
      let long = length-range_with_len 0 n in
      let a = get_or-range_with_len 0 n k 0 (omega (arith, h, long)) in
      lt-ltb (get_or (range_with_len 0 n) k 0) n (omega (arith, a, h, long));
  whole = λ q t.
      let below = ltb-true q n t in
      let long = length-range_with_len 0 n in
      Contains_from_includes (range_with_len 0 n) q (includes_at (range_with_len 0 n) q q (omega (arith, below, long)) (get_or-range_with_len 0 n q 0 below ∙ omega arith));
}

pub range-more : (a n : ℕ) → range_with_len a (suc n) ≡ range_with_len a n ++ (a + n) ∷ []
range-more a zero = ap (λ x. x ∷ []) (let e : a ≡ a + 0 = omega arith in e)
range-more a (suc n) = ap (λ r. a ∷ r) (range-more (a + 1) n ∙ ap (λ x. range_with_len (a + 1) n ++ x ∷ []) (let e : (a + 1) + n ≡ a + suc n = omega arith in e))

pub root-known : (g : Graph) (q : ℕ) → is_root g q ≡ true → ltb q (packages g) ≡ true
root-known g q e = (and_parts (ltb q (packages g)) _ e).0

pub need-forbidden : (g : Graph) (p i q : ℕ) → does_need g p i q ≡ true → is_forbidden g p i q (last g q) ≡ true
need-forbidden g p i q e = (and_parts (not (eqb q p)) _ (and_parts (ltb q (packages g)) _ e).1).1

pub filter-range-more : (test : ℕ → Bool) (n : ℕ) → filter test (range_with_len 0 (n + 1)) ≡ filter test (range_with_len 0 n) ++ cond (test n) (n ∷ []) []
filter-range-more test n =
    let next : n + 1 ≡ suc n = omega arith in
    let same : 0 + n ≡ n = omega arith in
    ap (λ m. filter test (range_with_len 0 m)) next ∙ ap (filter test) (range-more 0 n) ∙ filter-append test (range_with_len 0 n) ((0 + n) ∷ [])
    ∙ ap (λ x. filter test (range_with_len 0 n) ++ filter test (x ∷ [])) same

-- a list of lists with one more
pub pushed-below : {A T : Type 0} (f : A → List T) (xs : List A) (y : A) (k : ℕ) → k < length xs → get_or (map f (xs ++ y ∷ [])) k [] ≡ get_or (map f xs) k []
pushed-below f xs y k h = ap (λ zs. get_or zs k []) (map-append f xs (y ∷ [])) ∙ get_or_append_left (map f xs) (f y ∷ []) [] k (omega (arith, h, length-map xs f))

pub pushed-last : {A T : Type 0} (f : A → List T) (xs : List A) (y : A) (k : ℕ) → k ≡ length xs → get_or (map f (xs ++ y ∷ [])) k [] ≡ f y
pushed-last f xs y k e =
    ap (λ zs. get_or zs k []) (map-append f xs (y ∷ [])) ∙ ap (λ n. get_or (map f xs ++ f y ∷ []) n []) (e ∙ sym (length-map xs f)) ∙ get_or-append_seam (map f xs) (f y) [] []
