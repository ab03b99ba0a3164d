-- Files appended one after another.
use Rattle.std.proofs.Common.{◌≡◌, ℕ, ◌+◌, List, map, [], ◌∷◌, ◌++◌, refl, sym, ap, ◌∙◌, arith}
use Rattle.std.proofs.lemmas.List.{flat_map_more}
use Rattle.std.proofs.lemmas.List.FromFn.{map-range_with_len_more}
use Rattle.std.specs.List.{flat_map, range_with_len}
use Rattle.world_maker.specs.World.{Tabled}

behind : (xs ys : List Tabled) (y : Tabled) → (xs ++ ys) ++ y ∷ [] ≡ xs ++ (ys ++ y ∷ [])
behind [] ys y = refl
behind (x ∷ xs) ys y = ap (λ zs. x ∷ zs) (behind xs ys y)

-- one more behind those that were appended
next : (old mid new ys : List Tabled) (y z : Tabled) → mid ≡ old ++ ys → new ≡ mid ++ y ∷ [] → y ≡ z → new ≡ old ++ (ys ++ z ∷ [])
next old mid new ys y z before more same = more ∙ (λ i. before i ++ same i ∷ []) ∙ behind old ys z

first : (old new : List Tabled) (y z : Tabled) → new ≡ old ++ y ∷ [] → y ≡ z → new ≡ old ++ z ∷ []
first old new y z more same = more ∙ ap (λ x. old ++ x ∷ []) same

pub four : (n0 n1 n2 n3 n4 : List Tabled) (a b c d e f g h : Tabled) → n1 ≡ n0 ++ a ∷ [] → n2 ≡ n1 ++ b ∷ [] → n3 ≡ n2 ++ c ∷ [] → n4 ≡ n3 ++ d ∷ []
    → a ≡ e → b ≡ f → c ≡ g → d ≡ h → n4 ≡ n0 ++ e ∷ f ∷ g ∷ h ∷ []
four n0 n1 n2 n3 n4 a b c d e f g h m1 m2 m3 m4 s1 s2 s3 s4 =
    next n0 n3 n4 (e ∷ f ∷ g ∷ []) d h (next n0 n2 n3 (e ∷ f ∷ []) c g (next n0 n1 n2 (e ∷ []) b f (first n0 n1 a e m1 s1) m2 s2) m3 s3) m4 s4

same_numbers : (xs : List ℕ) → map (λ x. x) xs ≡ xs
same_numbers [] = refl
same_numbers (x ∷ xs) = ap (λ ys. x ∷ ys) (same_numbers xs)

range_more : (k : ℕ) → range_with_len 0 (k + 1) ≡ range_with_len 0 k ++ k ∷ []
range_more k = sym (same_numbers (range_with_len 0 (k + 1))) ∙ map-range_with_len_more (λ j. j) 0 k k (omega arith) ∙ ap (λ ks. ks ++ k ∷ []) (same_numbers (range_with_len 0 k))

-- the files of one package more
pub drawn_more : (f : ℕ → List Tabled) (old : List Tabled) (k : ℕ) → (old ++ flat_map f (range_with_len 0 k)) ++ f k ≡ old ++ flat_map f (range_with_len 0 (k + 1))
drawn_more f old k = flat_map_more f old (range_with_len 0 k) k ∙ ap (λ ks. old ++ flat_map f ks) (sym (range_more k))
