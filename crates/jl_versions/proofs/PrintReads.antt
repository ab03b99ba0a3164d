-- A printed version reads as itself.
use Rattle.std.proofs.Common.{◌≡◌, ◌≢◌, ℕ, ◌^◌, ◌<◌, ◌≤◌, true, List, [], ◌∷◌, ◌++◌, refl, sym, subst, arith, inl}
use Rattle.std.specs.List.{list_all}
use Rattle.std.specs.Fmt.{decimal}
use Rattle.std.proofs.lemmas.List.{append-nil}
use Rattle.std.proofs.lemmas.Bool.{and_parts, ltb-true}
use Rattle.std.proofs.lemmas.Fmt.{digits_decimal, digits_value-decimal, decimal_by_steps}
use Rattle.jl_versions.specs.Grammar.{IsNumeral, IsIdent, IsJoined, IsLabel, Reads}
use Rattle.jl_versions.specs.Printing.{ident_text, label_text, numbers_text, printed, is_label, IsVersion}
use Rattle.jl_versions.specs.declared.ident.Ident.{Ident}
use Rattle.jl_versions.specs.declared.ident.Ident.TheVariants.{Number, Word}
use Rattle.jl_versions.specs.declared.version.Version.{Version}
use Rattle.jl_versions.proofs.Numerals.{own}

snoc_some : (text : List ℕ) (b : ℕ) → text ++ b ∷ [] ≢ []
snoc_some [] b e = cc
snoc_some (c ∷ cs) b e = cc

decimal_some : (n : ℕ) → n < 2 ^ 64 → decimal n ≢ []
decimal_some n small = decimal_by_steps (λ _ text. text ≢ []) (λ m digit e. cc) (λ m digits more ih. snoc_some digits _) n small

-- the digits of a number are a numeral that means it
decimal_means : (limit n : ℕ) → limit ≤ 2 ^ 64 → n < limit → IsNumeral limit n (decimal n)
decimal_means limit n within small =
    let fits : n < 2 ^ 64 = omega arith in
    record { some = decimal_some n fits; digits = digits_decimal own n fits; value = sym (digits_value-decimal own n fits); small = small }

ident_text_means : (i : Ident) → is_label i ≡ true → IsIdent i (ident_text i)
ident_text_means (Number n) label = decimal_means (2 ^ 64) n (omega arith) (ltb-true n (2 ^ 64) label)
ident_text_means (Word word) label = (refl, label)

label_joined : (i : Ident) (is : List Ident) → list_all is_label (i ∷ is) ≡ true → IsJoined IsIdent (i ∷ is) (ident_text i ++ label_text 46 is)
label_joined i [] labels = subst (IsIdent i) (sym (append-nil (ident_text i))) (ident_text_means i (and_parts (is_label i) true labels).0)
label_joined i (j ∷ js) labels =
    let parts = and_parts (is_label i) (list_all is_label (j ∷ js)) labels in
    (ident_text i, ident_text j ++ label_text 46 js, refl, ident_text_means i parts.0, label_joined j js parts.1)

label_means : (sign : ℕ) (is : List Ident) → list_all is_label is ≡ true → IsLabel sign is (label_text sign is)
label_means sign [] labels = refl
label_means sign (i ∷ is) labels = (ident_text i ++ label_text 46 is, refl, label_joined i is labels)

-- the text of a version means it
pub printed_reads : (v : Version) → IsVersion v → Reads (printed v) v
printed_reads v valid =
    inl (record {
      numbers = v.major ∷ v.minor ∷ v.patch ∷ [];
      numbers_text = numbers_text v;
      tail_text = label_text 45 v.pre ++ label_text 43 v.build;
      joined = refl;
      numbers_mean = (
        decimal v.major,
        decimal v.minor ++ (46 ∷ decimal v.patch),
        refl,
        decimal_means (2 ^ 32) v.major (omega arith) valid.major,
        (decimal v.minor, decimal v.patch, refl, decimal_means (2 ^ 32) v.minor (omega arith) valid.minor, decimal_means (2 ^ 32) v.patch (omega arith) valid.patch),
      );
      values = record { few = omega arith; major = refl; minor = refl; patch = refl };
      tail_means = record { pre_text = label_text 45 v.pre; build_text = label_text 43 v.build; joined = refl; pre_means = label_means 45 v.pre valid.pre; build_means = label_means 43 v.build valid.build };
    })
