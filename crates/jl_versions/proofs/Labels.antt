-- Writing a label identifier by identifier.
use Rattle.std.proofs.Common.{◌≡◌, ℕ, ◌+◌, ◌^◌, ◌<◌, ◌≤◌, true, List, [], ◌∷◌, ◌++◌, length, take, drop, get_or, refl, ap, sym, ◌∙◌, subst, append_assoc, add-one, drop-cons, suc}
use Rattle.std.specs.List.{list_all}
use Rattle.std.proofs.lemmas.List.{append-nil, take_more, drop_all}
use Rattle.std.proofs.lemmas.List.Folds.{list_all-append}
use Rattle.std.proofs.lemmas.Bool.{and_from, lt-ltb}
use Rattle.jl_versions.specs.Grammar.{Reads}
use Rattle.jl_versions.specs.Printing.{ident_text, label_text, numbers_text, printed, is_label, IsVersion}
use Rattle.jl_versions.specs.declared.ident.Ident.{Ident}
use Rattle.jl_versions.specs.declared.ident.Ident.TheVariants.{Number}
use Rattle.jl_versions.specs.declared.version.Version.{Version}
use Rattle.jl_versions.proofs.PrintReads.{printed_reads}

pub number_label : (i : Ident) (n : ℕ) → i ≡ Number n → n < 2 ^ 64 → is_label i ≡ true
number_label i n is small = ap is_label is ∙ lt-ltb n (2 ^ 64) small

-- one more identifier behind its mark, where old is the text before it
pub label_more : (old marked written whole : List ℕ) (mark : ℕ) (is : List Ident) (k : ℕ) (i : Ident) → k < length is → i ≡ get_or is k i
    → old ++ label_text mark (drop k is) ≡ whole → marked ≡ old ++ mark ∷ [] → written ≡ marked ++ ident_text i → written ++ label_text 46 (drop (k + 1) is) ≡ whole
label_more old marked written whole mark is k i inside at so_far by_mark by_ident =
    ap (λ t. t ++ label_text 46 (drop (k + 1) is)) (by_ident ∙ ap (λ t. t ++ ident_text i) by_mark)
    ∙ append_assoc (old ++ mark ∷ []) (ident_text i) (label_text 46 (drop (k + 1) is))
    ∙ append_assoc old (mark ∷ []) (ident_text i ++ label_text 46 (drop (k + 1) is))
    ∙ ap (λ xs. old ++ label_text mark xs) (sym next)
    ∙ so_far
  where
    next : drop k is ≡ i ∷ drop (k + 1) is
    next = drop-cons is k i inside ∙ ap (λ j. j ∷ drop (suc k) is) (sym at) ∙ ap (λ m. i ∷ drop m is) (sym (add-one k))

-- an identifier more is such as a version has
pub labels_more : (is : List Ident) (k : ℕ) (i : Ident) → k < length is → i ≡ get_or is k i → list_all is_label (take k is) ≡ true → is_label i ≡ true → list_all is_label (take (k + 1) is) ≡ true
labels_more is k i inside at all one =
    ap (list_all is_label) (take_more is k i inside) ∙ list_all-append is_label (take k is) (get_or is k i ∷ []) ∙ and_from _ _ all (and_from _ _ (ap is_label (sym at) ∙ one) refl)

-- when all are written
pub label_done : (old text : List ℕ) (mark sign : ℕ) (items is : List Ident) (k : ℕ) → length items ≤ k → items ≡ is → text ++ label_text mark (drop k items) ≡ old ++ label_text sign items → text ≡ old ++ label_text sign is
label_done old text mark sign items is k past same so_far =
    sym (append-nil text) ∙ ap (λ xs. text ++ label_text mark xs) (sym (drop_all k items past)) ∙ so_far ∙ ap (λ xs. old ++ label_text sign xs) same

-- the printed text by its three parts
pub parts_read : (v : Version) (numbers first both : List ℕ) → numbers ≡ numbers_text v → first ≡ numbers ++ label_text 45 v.pre → both ≡ first ++ label_text 43 v.build → IsVersion v → Reads both v
parts_read v numbers first both is_numbers is_first is_both valid =
    let whole : both ≡ printed v = is_both ∙ ap (λ t. t ++ label_text 43 v.build) (is_first ∙ ap (λ t. t ++ label_text 45 v.pre) is_numbers) ∙ append_assoc (numbers_text v) (label_text 45 v.pre) (label_text 43 v.build) in
    subst (λ t. Reads t v) (sym whole) (printed_reads v valid)
