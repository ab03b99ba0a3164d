-- From the grammar to the machine: what a text means is what the machine gives for it.
use Rattle.std.proofs.Common.{◌≡◌, ℕ, ◌+◌, ◌*◌, ◌-◌, ◌^◌, ◌<◌, ◌≤◌, true, List, [], ◌∷◌, ◌++◌, Option, Some, None, refl, ap, sym, ◌∙◌, subst, arith, append_assoc, inl, inr}
use Rattle.std.specs.Prelude.{slice_index, unwrap_or, not, nat_eq, nat_le}
use Rattle.std.specs.Option.{option_and_then}
use Rattle.std.specs.List.{list_all}
use Rattle.std.proofs.lemmas.List.{append-nil}
use Rattle.std.proofs.lemmas.Bool.{and_parts, and_from, cond-true, cond-false, lt-ltb, or_left, or_right, ne_eqb, leb-true, not-true, false≢true}
use Rattle.jl_versions.specs.Words.{is_digit, is_letter, is_ident_byte, number_after}
use Rattle.jl_versions.specs.Pieces.{ident_of}
use Rattle.jl_versions.specs.Stages.{step, finish, triple_after, version_of, after_ident}
use Rattle.jl_versions.specs.Grammar.{IsNumber, IsIdent, IsJoined, IsLabel, IsTail, AreNumbers, IsBody, Reads}
use Rattle.jl_versions.specs.declared.ident.Ident.{Ident}
use Rattle.jl_versions.specs.declared.ident.Ident.TheVariants.{Number, Word}
use Rattle.jl_versions.specs.declared.version.Version.{Version}
use Rattle.jl_versions.specs.declared.reader.Earlier.{Earlier}
use Rattle.jl_versions.specs.declared.reader.Earlier.TheVariants.{Nothing, Major, MajorMinor}
use Rattle.jl_versions.specs.declared.reader.Stage.TheVariants.{Fresh, Figures, Label}
use Rattle.jl_versions.proofs.Gives.{give, give_step}

-- digits only raise a number
number_after_ge : (n : ℕ) (digits : List ℕ) → n ≤ number_after n digits
number_after_ge n [] = omega arith
number_after_ge n (d ∷ ds) = omega (arith, number_after_ge (10 * n + (d - 48)) ds)

-- one digit
digit_step : (earlier : Earlier) (now : Option ℕ) (d : ℕ) → is_digit d ≡ true → 10 * unwrap_or now 0 + (d - 48) < 2 ^ 32 → step (Figures earlier now) d ≡ Some (Figures earlier (Some (10 * unwrap_or now 0 + (d - 48))))
unfolding step
digit_step earlier now d digit small = cond-true _ _ _ digit ∙ cond-true _ _ _ (lt-ltb _ _ small)

-- more digits
digits_give : (earlier : Earlier) (n : ℕ) (digits rest : List ℕ) → list_all is_digit digits ≡ true → number_after n digits < 2 ^ 32 → give (Figures earlier (Some n)) (digits ++ rest) ≡ give (Figures earlier (Some (number_after n digits))) rest
digits_give earlier n [] rest digits small = refl
digits_give earlier n (d ∷ ds) rest digits small =
    let parts = and_parts (is_digit d) (list_all is_digit ds) digits in
    give_step (Figures earlier (Some n)) _ d (ds ++ rest) (digit_step earlier (Some n) d parts.0 (omega (arith, number_after_ge (10 * n + (d - 48)) ds)))
    ∙ digits_give earlier (10 * n + (d - 48)) ds rest parts.1 small

-- a number
number_gives : (earlier : Earlier) (n : ℕ) (text rest : List ℕ) → IsNumber n text → give (Figures earlier None) (text ++ rest) ≡ give (Figures earlier (Some n)) rest
number_gives earlier n [] rest number = absurd (number.some refl)
number_gives earlier n (d ∷ ds) rest number =
    let parts = and_parts (is_digit d) (list_all is_digit ds) number.digits in
    let small : number_after (10 * 0 + (d - 48)) ds < 2 ^ 32 = subst (λ m. m < 2 ^ 32) number.value number.small in
    give_step (Figures earlier None) _ d (ds ++ rest) (digit_step earlier None d parts.0 (omega (arith, number_after_ge (10 * 0 + (d - 48)) ds)))
    ∙ digits_give earlier (10 * 0 + (d - 48)) ds rest parts.1 small
    ∙ ap (λ m. give (Figures earlier (Some m)) rest) (sym number.value)

-- the bytes of an identifier
label_gives : (triple : List ℕ) (pre : Option (List Ident)) (done : List Ident) (piece bytes rest : List ℕ) → list_all is_ident_byte bytes ≡ true
    → give (Label triple pre done piece) (bytes ++ rest) ≡ give (Label triple pre done (piece ++ bytes)) rest
unfolding step
label_gives triple pre done piece [] rest all = ap (λ p. give (Label triple pre done p) rest) (sym (append-nil piece))
label_gives triple pre done piece (b ∷ bs) rest all =
    let parts = and_parts (is_ident_byte b) (list_all is_ident_byte bs) all in
    give_step (Label triple pre done piece) _ b (bs ++ rest) (cond-true _ _ _ parts.0)
    ∙ label_gives triple pre done (piece ++ b ∷ []) bs rest parts.1
    ∙ ap (λ p. give (Label triple pre done p) rest) (append_assoc piece (b ∷ []) bs)

digits_are_ident_bytes : (bytes : List ℕ) → list_all is_digit bytes ≡ true → list_all is_ident_byte bytes ≡ true
digits_are_ident_bytes [] all = refl
digits_are_ident_bytes (b ∷ bs) all =
    let parts = and_parts (is_digit b) (list_all is_digit bs) all in
    and_from _ _ (or_left _ _ (or_right (is_letter b) _ parts.0)) (digits_are_ident_bytes bs parts.1)

-- what an identifier's text spells
pub ident_spelled : (i : Ident) (text : List ℕ) → IsIdent i text → ident_of text ≡ Some i
unfolding ident_of
ident_spelled (Number n) [] means = absurd (means.some refl)
ident_spelled (Number n) (b ∷ bs) means =
    cond-true _ _ _ means.digits ∙ cond-true _ _ _ (lt-ltb _ _ (subst (λ m. m < 2 ^ 64) means.value means.small)) ∙ ap (λ m. Some (Number m)) (sym means.value)
ident_spelled (Word word) [] means = absurd (false≢true means.1)
ident_spelled (Word word) (b ∷ bs) means =
    cond-false _ _ _ (not-true _ (and_parts (list_all is_ident_byte (b ∷ bs)) (not (list_all is_digit (b ∷ bs))) means.1).1) ∙ ap (λ w. Some (Word w)) (sym means.0)

ident_bytes : (i : Ident) (text : List ℕ) → IsIdent i text → list_all is_ident_byte text ≡ true
ident_bytes (Number n) text means = digits_are_ident_bytes text means.digits
ident_bytes (Word word) text means = (and_parts _ _ means.1).0

-- Identifiers joined by dots, where K says what follows once they are all there.
idents_give : (triple : List ℕ) (pre : Option (List Ident)) (K : List Ident → Option Version) (rest : List ℕ)
    → ((done : List Ident) (piece : List ℕ) (i : Ident) → ident_of piece ≡ Some i → give (Label triple pre done piece) rest ≡ K (done ++ i ∷ []))
    → (is : List Ident) (text : List ℕ) (done : List Ident) → IsJoined IsIdent is text → give (Label triple pre done []) (text ++ rest) ≡ K (done ++ is)
unfolding step
idents_give triple pre K rest closes [] text done means = absurd means
idents_give triple pre K rest closes (i ∷ []) text done means =
    label_gives triple pre done [] text rest (ident_bytes i text means) ∙ closes done text i (ident_spelled i text means)
idents_give triple pre K rest closes (i ∷ j ∷ is) text done (front, behind, joined, means, more) =
    ap (give (Label triple pre done [])) (ap (λ t. t ++ rest) joined ∙ append_assoc front (46 ∷ behind) rest)
    ∙ label_gives triple pre done [] front (46 ∷ (behind ++ rest)) (ident_bytes i front means)
    ∙ give_step (Label triple pre done front) (Label triple pre (done ++ i ∷ []) []) 46 (behind ++ rest) (ap (option_and_then (λ k. after_ident triple pre (done ++ k ∷ []) 46)) (ident_spelled i front means))
    ∙ idents_give triple pre K rest closes (j ∷ is) behind (done ++ i ∷ []) more
    ∙ ap K (append_assoc done (i ∷ []) (j ∷ is))

-- an identifier that ends the text
ends_build : (triple : List ℕ) (pre : List Ident) (done : List Ident) (piece : List ℕ) (i : Ident) → ident_of piece ≡ Some i → give (Label triple (Some pre) done piece) [] ≡ Some (version_of triple pre (done ++ i ∷ []))
unfolding finish
ends_build triple pre done piece i spelled = ap (option_and_then (λ k. Some (version_of triple pre (done ++ k ∷ [])))) spelled

build_gives : (triple : List ℕ) (pre is : List Ident) (text : List ℕ) → IsJoined IsIdent is text → give (Label triple (Some pre) [] []) text ≡ Some (version_of triple pre is)
build_gives triple pre is text means =
    ap (give (Label triple (Some pre) [] [])) (sym (append-nil text))
    ∙ idents_give triple (Some pre) (λ all. Some (version_of triple pre all)) [] (ends_build triple pre) is text [] means

-- a pre-release that ends before the build's text
closes_pre : (triple : List ℕ) (build : List Ident) (text : List ℕ) → IsLabel 43 build text → (done : List Ident) (piece : List ℕ) (i : Ident) → ident_of piece ≡ Some i
    → give (Label triple None done piece) text ≡ Some (version_of triple (done ++ i ∷ []) build)
unfolding step finish
closes_pre triple [] text means done piece i spelled = ap (give (Label triple None done piece)) means ∙ ap (option_and_then (λ k. Some (version_of triple (done ++ k ∷ []) []))) spelled
closes_pre triple (j ∷ js) text (rest, joined, means) done piece i spelled =
    ap (give (Label triple None done piece)) joined
    ∙ give_step (Label triple None done piece) (Label triple (Some (done ++ i ∷ [])) [] []) 43 rest (ap (option_and_then (λ k. after_ident triple None (done ++ k ∷ []) 43)) spelled)
    ∙ build_gives triple (done ++ i ∷ []) (j ∷ js) rest means

-- what stands behind the numbers
tail_gives : (earlier : Earlier) (n : ℕ) (pre build : List Ident) (text : List ℕ) → IsTail pre build text → give (Figures earlier (Some n)) text ≡ Some (version_of (triple_after earlier n) pre build)
unfolding step finish
tail_gives earlier n pre build text tail = ap (give (Figures earlier (Some n))) tail.joined ∙ cases pre build tail.pre_text tail.build_text tail.pre_means tail.build_means
  where
    cases : (pre build : List Ident) (front behind : List ℕ) → IsLabel 45 pre front → IsLabel 43 build behind → give (Figures earlier (Some n)) (front ++ behind) ≡ Some (version_of (triple_after earlier n) pre build)
    cases [] [] front behind p b = ap (give (Figures earlier (Some n))) (λ k. p k ++ b k)
    cases [] (j ∷ js) front behind p (rest, joined, means) = ap (give (Figures earlier (Some n))) (λ k. p k ++ joined k) ∙ build_gives (triple_after earlier n) [] (j ∷ js) rest means
    cases (i ∷ is) build front behind (rest, joined, means) b =
        ap (λ f. give (Figures earlier (Some n)) (f ++ behind)) joined
        ∙ idents_give (triple_after earlier n) None (λ all. Some (version_of (triple_after earlier n) all build)) behind (closes_pre (triple_after earlier n) build behind b) (i ∷ is) rest [] means

same_version : (v : Version) (numbers : List ℕ) → AreNumbers v numbers → version_of (slice_index numbers 0 ∷ slice_index numbers 1 ∷ slice_index numbers 2 ∷ []) v.pre v.build ≡ v
same_version v numbers are = λ k. record { major = sym are.major k; minor = sym are.minor k; patch = sym are.patch k; pre = v.pre; build = v.build }

-- numbers and what stands behind them
numbers_give : (v : Version) (numbers : List ℕ) (text behind : List ℕ) → IsJoined IsNumber numbers text → AreNumbers v numbers → IsTail v.pre v.build behind → give (Figures Nothing None) (text ++ behind) ≡ Some v
unfolding step
numbers_give v [] text behind means are tail = absurd means
numbers_give v (a ∷ []) text behind means are tail =
    number_gives Nothing a text behind means ∙ tail_gives Nothing a v.pre v.build behind tail ∙ ap Some (same_version v (a ∷ []) are)
numbers_give v (a ∷ b ∷ []) text behind (front, rest, joined, first, second) are tail =
    ap (λ t. give (Figures Nothing None) (t ++ behind)) joined ∙ ap (give (Figures Nothing None)) (append_assoc front (46 ∷ rest) behind)
    ∙ number_gives Nothing a front (46 ∷ (rest ++ behind)) first
    ∙ number_gives (Major a) b rest behind second
    ∙ tail_gives (Major a) b v.pre v.build behind tail ∙ ap Some (same_version v (a ∷ b ∷ []) are)
numbers_give v (a ∷ b ∷ c ∷ []) text behind (front, rest, joined, first, (middle, last, joined2, second, third)) are tail =
    ap (λ t. give (Figures Nothing None) (t ++ behind)) joined ∙ ap (give (Figures Nothing None)) (append_assoc front (46 ∷ rest) behind)
    ∙ number_gives Nothing a front (46 ∷ (rest ++ behind)) first
    ∙ ap (λ t. give (Figures (Major a) None) (t ++ behind)) joined2 ∙ ap (give (Figures (Major a) None)) (append_assoc middle (46 ∷ last) behind)
    ∙ number_gives (Major a) b middle (46 ∷ (last ++ behind)) second
    ∙ number_gives (MajorMinor a b) c last behind third
    ∙ tail_gives (MajorMinor a b) c v.pre v.build behind tail ∙ ap Some (same_version v (a ∷ b ∷ c ∷ []) are)
numbers_give v (a ∷ b ∷ c ∷ d ∷ ds) text behind means are tail = absurd (omega (arith, are.few))

-- the first byte of a number is a digit
first_digit : (n : ℕ) (text : List ℕ) → IsNumber n text → (d : ℕ) × (ds : List ℕ) × (text ≡ d ∷ ds) × (is_digit d ≡ true)
first_digit n [] number = absurd (number.some refl)
first_digit n (d ∷ ds) number = (d, ds, refl, (and_parts (is_digit d) (list_all is_digit ds) number.digits).0)

first_of_numbers : (numbers : List ℕ) (text : List ℕ) → IsJoined IsNumber numbers text → (d : ℕ) × (ds : List ℕ) × (text ≡ d ∷ ds) × (is_digit d ≡ true)
first_of_numbers [] text means = absurd means
first_of_numbers (a ∷ []) text means = first_digit a text means
first_of_numbers (a ∷ b ∷ rest) text (front, behind, joined, first, more) =
    let (d, ds, e, digit) = first_digit a front first in
    (d, ds ++ 46 ∷ behind, joined ∙ ap (λ t. t ++ 46 ∷ behind) e, digit)

-- a digit leads from the start to where it leads behind a `v`
fresh_gives : (d : ℕ) (ds : List ℕ) → is_digit d ≡ true → give Fresh (d ∷ ds) ≡ give (Figures Nothing None) (d ∷ ds)
unfolding step
fresh_gives d ds digit =
    let low : d ≤ 57 = leb-true d 57 (and_parts (nat_le 48 d) (nat_le d 57) digit).1 in
    ap (option_and_then (λ s. give s ds)) (cond-false (nat_eq d 118) _ _ (ne_eqb d 118 (λ e. omega (arith, low, e))))

-- what stands behind the optional `v`
body_gives : (v : Version) (text : List ℕ) → IsBody v text → give (Figures Nothing None) text ≡ Some v
body_gives v text body = ap (give (Figures Nothing None)) body.joined ∙ numbers_give v body.numbers body.numbers_text body.tail_text body.numbers_mean body.values body.tail_means

-- what a text means is what the machine gives for it
pub reads_gives : (text : List ℕ) (v : Version) → Reads text v → give Fresh text ≡ Some v
unfolding step
reads_gives text v (inl body) =
    let (d, ds, e, digit) = first_of_numbers body.numbers body.numbers_text body.numbers_mean in
    let begins : text ≡ d ∷ (ds ++ body.tail_text) = body.joined ∙ ap (λ t. t ++ body.tail_text) e in
    ap (give Fresh) begins ∙ fresh_gives d (ds ++ body.tail_text) digit ∙ ap (give (Figures Nothing None)) (sym begins) ∙ body_gives v text body
reads_gives text v (inr (rest, joined, body)) = ap (give Fresh) joined ∙ body_gives v rest body
