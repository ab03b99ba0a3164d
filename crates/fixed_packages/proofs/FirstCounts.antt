-- What is found among pairs of which the first of a key counts.
use Rattle.std.proofs.Common.{◌≡◌, ℕ, Bool, true, false, cond, List, [], ◌∷◌, fold, find, Option, Some, None, option_map, refl, sym, ap, ◌∙◌}
use Rattle.std.specs.BTreeMap.{is_at}
use Rattle.std.specs.Cmp.Lexicographic.{nat_list_cmp_total}
use Rattle.std.specs.Option.{option_or}
use Rattle.std.specs.Ordering.{is_eq}
use Rattle.package_tables.specs.Row.{by_bytes, value_of}
use Rattle.registry_tables.proofs.Ordered.{or_assoc, found-firsts}
use Rattle.fixed_packages.specs.Firsts.{put_pairs}
use Rattle.fixed_packages.specs.Laws.{DepsBeforeWeakBeforeExtras, FirstCandidateCounts}
use Rattle.fixed_packages.specs.declared.candidate.Candidate.{Candidate}

-- a pair's value is what is found where the pair is
value_there : {X : Type 0} (q : List ℕ) (pairs : List (List ℕ × X)) → option_map (λ p. p.1) (find (λ p. is_eq (by_bytes q p.0)) pairs) ≡ value_of q pairs
value_there q [] = refl
value_there q (p ∷ ps) = by (is_eq (by_bytes q p.0)) p (find (λ x. is_eq (by_bytes q x.0)) ps) (value_of q ps) (value_there q ps)
  where
    by : {X : Type 0} (b : Bool) (p : List ℕ × X) (rest : Option (List ℕ × X)) (more : Option X) → option_map (λ x. x.1) rest ≡ more → option_map (λ x. x.1) (cond b (Some p) rest) ≡ cond b (Some p.1) more
    by true p rest more h = refl
    by false p rest more h = h

same_item : {A : Type 0} (o : Option A) → option_map (λ x. x) o ≡ o
same_item None = refl
same_item (Some x) = refl

found-pairs : {X : Type 0} (q : List ℕ) (es pairs : List (List ℕ × X)) → value_of q (put_pairs es pairs) ≡ option_or (value_of q es) (value_of q pairs)
found-pairs {X} q es pairs = found-firsts by_bytes nat_list_cmp_total (λ (p : List ℕ × X). p.0) (λ (p : List ℕ × X). p.1) q es pairs ∙ ap (option_or (value_of q es)) (value_there q pairs)

pub names-first : DepsBeforeWeakBeforeExtras
names-first said name =
    found-pairs name (put_pairs (put_pairs [] said.deps) said.weakdeps) said.extras
    ∙ ap (λ o. option_or o (value_of name said.extras)) (found-pairs name (put_pairs [] said.deps) said.weakdeps)
    ∙ ap (λ o. option_or (option_or o (value_of name said.weakdeps)) (value_of name said.extras)) (found-pairs name [] said.deps)
    ∙ or_assoc (value_of name said.deps) (value_of name said.weakdeps) (value_of name said.extras)

pub candidates-first : FirstCandidateCounts
candidates-first found id =
    found-firsts by_bytes nat_list_cmp_total (λ (candidate : Candidate). candidate.uuid) (λ (candidate : Candidate). candidate) id [] found ∙ same_item (find (λ candidate. is_at (by_bytes id) candidate.uuid) found)
