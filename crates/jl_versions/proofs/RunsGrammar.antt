-- From the machine to the grammar: a text for which the machine gives a version means that version.
use Rattle.std.proofs.Common.{◌≡◌, ◌≢◌, ℕ, ◌+◌, ◌*◌, ◌-◌, ◌^◌, ◌<◌, ◌≤◌, ◌⊎◌, true, List, [], ◌∷◌, ◌++◌, length, Option, Some, None, refl, ap, sym, ◌∙◌, subst, arith, append_assoc, inl, inr}
use Rattle.std.specs.Prelude.{slice_index, unwrap_or, nat_eq, nat_lt}
use Rattle.std.specs.Option.{option_and_then}
use Rattle.std.specs.List.{list_all}
use Rattle.std.proofs.lemmas.List.{append-nil}
use Rattle.std.proofs.lemmas.List.Folds.{list_all-append}
use Rattle.std.proofs.lemmas.Bool.{and_from, ltb-true, eqb-true, not_from_false}
use Rattle.std.proofs.lemmas.Option.{none-some, same_Some}
use Rattle.jl_versions.specs.Words.{is_digit, is_ident_byte, number_of, number_after}
use Rattle.jl_versions.specs.Pieces.{ident_of, number_ident}
use Rattle.jl_versions.specs.Stages.{step, finish, triple_after, version_of, labelled, after_ident, after_number, label_step, number_step, begin_build, next_number}
use Rattle.jl_versions.specs.Grammar.{IsNumber, IsIdent, IsJoined, IsLabel, IsTail, IsBody, Reads}
use Rattle.jl_versions.specs.declared.ident.Ident.{Ident}
use Rattle.jl_versions.specs.declared.ident.Ident.TheVariants.{Number, Word}
use Rattle.jl_versions.specs.declared.version.Version.{Version}
use Rattle.jl_versions.specs.declared.reader.Earlier.{Earlier}
use Rattle.jl_versions.specs.declared.reader.Earlier.TheVariants.{Nothing, Major, MajorMinor}
use Rattle.jl_versions.specs.declared.reader.Stage.{Stage}
use Rattle.jl_versions.specs.declared.reader.Stage.TheVariants.{Fresh, Figures, Label}
use Rattle.jl_versions.proofs.Gives.{give, chosen, went}

-- ---- identifiers

-- bytes that spell an identifier are its text
ident_means : (piece : List ℕ) (i : Ident) → list_all is_ident_byte piece ≡ true → ident_of piece ≡ Some i → IsIdent i piece
unfolding ident_of
ident_means [] i all spelled = absurd (none-some i spelled)
ident_means (b ∷ bs) i all spelled =
    elim (chosen (list_all is_digit (b ∷ bs)) (number_ident (number_of (b ∷ bs))) (Some (Word (b ∷ bs))) (Some i) spelled) [
      | inl (digits, number) ↦ elim (chosen (nat_lt (number_of (b ∷ bs)) (2 ^ 64)) (Some (Number (number_of (b ∷ bs)))) None (Some i) number) [
        | inl (small, is) ↦ subst (λ k. IsIdent k (b ∷ bs)) (same_Some _ _ is) (record { some = λ e. cc; digits = digits; value = refl; small = ltb-true _ _ small })
        | inr (big, is) ↦ absurd (none-some i is)
      ]
      | inr (other, word) ↦ subst (λ k. IsIdent k (b ∷ bs)) (same_Some _ _ word) (refl, and_from _ _ all (not_from_false _ other))
    ]

ident_byte_more : (piece : List ℕ) (b : ℕ) → list_all is_ident_byte piece ≡ true → is_ident_byte b ≡ true → list_all is_ident_byte (piece ++ b ∷ []) ≡ true
ident_byte_more piece b all one = list_all-append is_ident_byte piece (b ∷ []) ∙ and_from _ _ all (and_from _ _ one refl)

-- where a byte in an identifier leads
LabelGoes : List ℕ → Option (List Ident) → List Ident → List ℕ → ℕ → Stage → Type 0
LabelGoes triple pre done piece b next =
    ((is_ident_byte b ≡ true) × (Label triple pre done (piece ++ b ∷ []) ≡ next))
    ⊎ ((i : Ident) × (ident_of piece ≡ Some i) × (((b ≡ 46) × (Label triple pre (done ++ i ∷ []) [] ≡ next)) ⊎ ((b ≡ 43) × (begin_build triple pre (done ++ i ∷ []) ≡ Some next))))

label_goes : (triple : List ℕ) (pre : Option (List Ident)) (done : List Ident) (piece : List ℕ) (b : ℕ) (next : Stage) → label_step triple pre done piece b ≡ Some next → LabelGoes triple pre done piece b next
unfolding LabelGoes
label_goes triple pre done piece b next e =
    elim (chosen (is_ident_byte b) _ _ (Some next) e) [
      | inl (one, is) ↦ inl (one, same_Some _ _ is)
      | inr (other, is) ↦
          let (i, spelled, after) = went (λ k. after_ident triple pre (done ++ k ∷ []) b) (ident_of piece) next is in
          inr (
            i,
            spelled,
            elim (chosen (nat_eq b 46) _ _ (Some next) after) [
              | inl (dot, goes) ↦ inl (eqb-true b 46 dot, same_Some _ _ goes)
              | inr (undotted, goes) ↦ elim (chosen (nat_eq b 43) _ _ (Some next) goes) [
                | inl (plus, begins) ↦ inr (eqb-true b 43 plus, begins)
                | inr (unsigned, stops) ↦ absurd (none-some next stops)
              ]
            ],
          )
    ]

-- one more identifier in front
joined_more : (i : Ident) (is : List Ident) (piece rest : List ℕ) → IsIdent i piece → IsJoined IsIdent is rest → IsJoined IsIdent (i ∷ is) (piece ++ 46 ∷ rest)
joined_more i [] piece rest means more = absurd more
joined_more i (j ∷ js) piece rest means more = (piece, rest, refl, means, more)

-- what a build's text means
build_means : (bytes : List ℕ) (triple : List ℕ) (pre done : List Ident) (piece : List ℕ) (v : Version) → list_all is_ident_byte piece ≡ true → give (Label triple (Some pre) done piece) bytes ≡ Some v
    → (is : List Ident) × IsJoined IsIdent is (piece ++ bytes) × (version_of triple pre (done ++ is) ≡ v)
unfolding step finish LabelGoes
build_means [] triple pre done piece v all given =
    let (i, spelled, ends) = went (λ k. Some (labelled triple (Some pre) (done ++ k ∷ []))) (ident_of piece) v given in
    (i ∷ [], subst (IsIdent i) (sym (append-nil piece)) (ident_means piece i all spelled), same_Some _ _ ends)
build_means (b ∷ bs) triple pre done piece v all given =
    let (next, goes, rest) = went (λ s. give s bs) (label_step triple (Some pre) done piece b) v given in
    elim (label_goes triple (Some pre) done piece b next goes) [
      | inl (one, is) ↦
          let (is', joined, same) = build_means bs triple pre done (piece ++ b ∷ []) v (ident_byte_more piece b all one) (subst (λ s. give s bs ≡ Some v) (sym is) rest) in
          (is', subst (IsJoined IsIdent is') (append_assoc piece (b ∷ []) bs) joined, same)
      | inr (i, spelled, inl (dot, is)) ↦
          let (is', joined, same) = build_means bs triple pre (done ++ i ∷ []) [] v refl (subst (λ s. give s bs ≡ Some v) (sym is) rest) in
          (i ∷ is', subst (λ c. IsJoined IsIdent (i ∷ is') (piece ++ c ∷ bs)) (sym dot) (joined_more i is' piece bs (ident_means piece i all spelled) joined), ap (version_of triple pre) (sym (append_assoc done (i ∷ []) is')) ∙ same)
      | inr (i, spelled, inr (plus, begins)) ↦ absurd (none-some next begins)
    ]

label_of : (sign : ℕ) (is : List Ident) (rest : List ℕ) → IsJoined IsIdent is rest → IsLabel sign is (sign ∷ rest)
label_of sign [] rest joined = absurd joined
label_of sign (i ∷ is) rest joined = (rest, refl, joined)

-- what is left of a text in a pre-release: its identifiers, and perhaps a build
record PreMeans (triple : List ℕ) (done : List Ident) (text : List ℕ) (v : Version) : Type 0 where
  pub is : List Ident
  pub build : List Ident
  pub front : List ℕ
  pub behind : List ℕ
  pub parts : text ≡ front ++ behind
  pub front_means : IsJoined IsIdent is front
  pub build_label : IsLabel 43 build behind
  pub same : version_of triple (done ++ is) build ≡ v

pre_means : (bytes : List ℕ) (triple : List ℕ) (done : List Ident) (piece : List ℕ) (v : Version) → list_all is_ident_byte piece ≡ true → give (Label triple None done piece) bytes ≡ Some v
    → PreMeans triple done (piece ++ bytes) v
unfolding step finish LabelGoes
pre_means [] triple done piece v all given =
    let (i, spelled, ends) = went (λ k. Some (labelled triple None (done ++ k ∷ []))) (ident_of piece) v given in
    record { is = i ∷ []; build = []; front = piece; behind = []; parts = refl; front_means = ident_means piece i all spelled; build_label = refl; same = same_Some _ _ ends }
pre_means (b ∷ bs) triple done piece v all given =
    let (next, goes, rest) = went (λ s. give s bs) (label_step triple None done piece b) v given in
    elim (label_goes triple None done piece b next goes) [
      | inl (one, is) ↦
          subst (λ t. PreMeans triple done t v) (append_assoc piece (b ∷ []) bs) (pre_means bs triple done (piece ++ b ∷ []) v (ident_byte_more piece b all one) (subst (λ s. give s bs ≡ Some v) (sym is) rest))
      | inr (i, spelled, inl (dot, is)) ↦
          let m = pre_means bs triple (done ++ i ∷ []) [] v refl (subst (λ s. give s bs ≡ Some v) (sym is) rest) in
          record {
            is = i ∷ m.is;
            build = m.build;
            front = piece ++ 46 ∷ m.front;
            behind = m.behind;
            parts = ap (λ c. piece ++ c ∷ bs) dot ∙ ap (λ t. piece ++ 46 ∷ t) m.parts ∙ sym (append_assoc piece (46 ∷ m.front) m.behind);
            front_means = joined_more i m.is piece m.front (ident_means piece i all spelled) m.front_means;
            build_label = m.build_label;
            same = ap (λ d. version_of triple d m.build) (sym (append_assoc done (i ∷ []) m.is)) ∙ m.same;
          }
      | inr (i, spelled, inr (plus, begins)) ↦
          let (is', joined, same) = build_means bs triple (done ++ i ∷ []) [] [] v refl (subst (λ s. give s bs ≡ Some v) (sym (same_Some _ _ begins)) rest) in
          record {
            is = i ∷ [];
            build = is';
            front = piece;
            behind = 43 ∷ bs;
            parts = ap (λ c. piece ++ c ∷ bs) plus;
            front_means = ident_means piece i all spelled;
            build_label = label_of 43 is' bs joined;
            same = same;
          }
    ]

-- ---- numbers

-- the digits of the number that is being read
Tracks : Option ℕ → List ℕ → Type 0
Tracks None text = text ≡ []
Tracks (Some n) text = IsNumber n text

number_after_snoc : (n : ℕ) (digits : List ℕ) (b : ℕ) → number_after n (digits ++ b ∷ []) ≡ 10 * number_after n digits + (b - 48)
number_after_snoc n [] b = refl
number_after_snoc n (d ∷ ds) b = number_after_snoc (10 * n + (d - 48)) ds b

snoc_some : (text : List ℕ) (b : ℕ) → text ++ b ∷ [] ≢ []
snoc_some [] b e = cc
snoc_some (c ∷ cs) b e = cc

digit_more : (now : Option ℕ) (text : List ℕ) (b : ℕ) → Tracks now text → is_digit b ≡ true → 10 * unwrap_or now 0 + (b - 48) < 2 ^ 32 → IsNumber (10 * unwrap_or now 0 + (b - 48)) (text ++ b ∷ [])
unfolding Tracks
digit_more None text b tracks digit small =
    subst (λ t. IsNumber (10 * 0 + (b - 48)) (t ++ b ∷ [])) (sym tracks) (record { some = snoc_some [] b; digits = and_from _ _ digit refl; value = refl; small = small })
digit_more (Some n) text b tracks digit small = record {
  some = snoc_some text b;
  digits = list_all-append is_digit text (b ∷ []) ∙ and_from _ _ tracks.digits (and_from _ _ digit refl);
  value = ap (λ m. 10 * m + (b - 48)) tracks.value ∙ sym (number_after_snoc 0 text b);
  small = small;
}

list_of : Earlier → List ℕ
list_of Nothing = []
list_of (Major a) = a ∷ []
list_of (MajorMinor a b) = a ∷ b ∷ []

triple_from : List ℕ → List ℕ
triple_from numbers = slice_index numbers 0 ∷ slice_index numbers 1 ∷ slice_index numbers 2 ∷ []

triple_last : (earlier : Earlier) (n : ℕ) → triple_from (list_of earlier ++ n ∷ []) ≡ triple_after earlier n
unfolding list_of triple_from
triple_last Nothing n = refl
triple_last (Major a) n = refl
triple_last (MajorMinor a b) n = refl

few_last : (earlier : Earlier) (n : ℕ) → length (list_of earlier ++ n ∷ []) ≤ 3
unfolding list_of
few_last Nothing n = omega arith
few_last (Major a) n = omega arith
few_last (MajorMinor a b) n = omega arith

-- where a byte in a number leads
NumberGoes : Earlier → Option ℕ → ℕ → Stage → Type 0
NumberGoes earlier now b next =
    ((is_digit b ≡ true) × (10 * unwrap_or now 0 + (b - 48) < 2 ^ 32) × (Figures earlier (Some (10 * unwrap_or now 0 + (b - 48))) ≡ next))
    ⊎ ((n : ℕ) × (now ≡ Some n) × (((b ≡ 46) × (next_number earlier n ≡ Some next)) ⊎ (((b ≡ 45) × (Label (triple_after earlier n) None [] [] ≡ next)) ⊎ ((b ≡ 43) × (Label (triple_after earlier n) (Some []) [] [] ≡ next)))))

number_goes : (earlier : Earlier) (now : Option ℕ) (b : ℕ) (next : Stage) → number_step earlier now b ≡ Some next → NumberGoes earlier now b next
unfolding NumberGoes
number_goes earlier now b next e =
    elim (chosen (is_digit b) _ _ (Some next) e) [
      | inl (digit, is) ↦ elim (chosen (nat_lt (10 * unwrap_or now 0 + (b - 48)) (2 ^ 32)) _ _ (Some next) is) [
        | inl (small, goes) ↦ inl (digit, ltb-true _ _ small, same_Some _ _ goes)
        | inr (big, stops) ↦ absurd (none-some next stops)
      ]
      | inr (other, is) ↦
          let (n, known, after) = went (λ m. after_number earlier m b) now next is in
          inr (
            n,
            known,
            elim (chosen (nat_eq b 46) _ _ (Some next) after) [
              | inl (dot, goes) ↦ inl (eqb-true b 46 dot, goes)
              | inr (undotted, goes) ↦ elim (chosen (nat_eq b 45) _ _ (Some next) goes) [
                | inl (minus, leads) ↦ inr (inl (eqb-true b 45 minus, same_Some _ _ leads))
                | inr (unsigned, leads) ↦ elim (chosen (nat_eq b 43) _ _ (Some next) leads) [
                  | inl (plus, begins) ↦ inr (inr (eqb-true b 43 plus, same_Some _ _ begins))
                  | inr (none, stops) ↦ absurd (none-some next stops)
                ]
              ]
            ],
          )
    ]

number_joined : (n : ℕ) (numbers text rest : List ℕ) → IsNumber n text → IsJoined IsNumber numbers rest → IsJoined IsNumber (n ∷ numbers) (text ++ 46 ∷ rest)
number_joined n [] text rest means more = absurd more
number_joined n (m ∷ ms) text rest means more = (text, rest, refl, means, more)

-- what a text means from a number on
record NumbersMean (earlier : Earlier) (text : List ℕ) (v : Version) : Type 0 where
  pub numbers : List ℕ
  pub pre : List Ident
  pub build : List Ident
  pub front : List ℕ
  pub behind : List ℕ
  pub parts : text ≡ front ++ behind
  pub front_means : IsJoined IsNumber numbers front
  pub tail : IsTail pre build behind
  pub few : length (list_of earlier ++ numbers) ≤ 3
  pub same : version_of (triple_from (list_of earlier ++ numbers)) pre build ≡ v

-- the last number, and what stands behind it
last_number : (earlier : Earlier) (n : ℕ) (text behind : List ℕ) (pre build : List Ident) (v : Version) → IsNumber n text → IsTail pre build behind → version_of (triple_after earlier n) pre build ≡ v
    → NumbersMean earlier (text ++ behind) v
last_number earlier n text behind pre build v number tail same = record {
  numbers = n ∷ [];
  pre = pre;
  build = build;
  front = text;
  behind = behind;
  parts = refl;
  front_means = number;
  tail = tail;
  few = few_last earlier n;
  same = ap (λ t. version_of t pre build) (triple_last earlier n) ∙ same;
}

-- a number before a dot
earlier_number : (n : ℕ) (text bytes : List ℕ) (v : Version) (earlier next : Earlier) → ((numbers : List ℕ) → list_of next ++ numbers ≡ list_of earlier ++ n ∷ numbers) → IsNumber n text → NumbersMean next bytes v
    → NumbersMean earlier (text ++ 46 ∷ bytes) v
earlier_number n text bytes v earlier next lists number m = record {
  numbers = n ∷ m.numbers;
  pre = m.pre;
  build = m.build;
  front = text ++ 46 ∷ m.front;
  behind = m.behind;
  parts = ap (λ t. text ++ 46 ∷ t) m.parts ∙ sym (append_assoc text (46 ∷ m.front) m.behind);
  front_means = number_joined n m.numbers text m.front number m.front_means;
  tail = m.tail;
  few = subst (λ xs. length xs ≤ 3) (lists m.numbers) m.few;
  same = ap (λ xs. version_of (triple_from xs) m.pre m.build) (sym (lists m.numbers)) ∙ m.same;
}

-- a dot behind a number, where `further` says what the bytes behind it mean
by_dot : (bs : List ℕ) (v : Version) → ((e : Earlier) → give (Figures e None) bs ≡ Some v → NumbersMean e bs v)
    → (earlier : Earlier) (n : ℕ) (text : List ℕ) → IsNumber n text → (next : Stage) → next_number earlier n ≡ Some next → give next bs ≡ Some v → NumbersMean earlier (text ++ 46 ∷ bs) v
unfolding list_of
by_dot bs v further Nothing n text number next leads rest = earlier_number n text bs v Nothing (Major n) (λ _. refl) number (further (Major n) (subst (λ s. give s bs ≡ Some v) (sym (same_Some _ _ leads)) rest))
by_dot bs v further (Major a) n text number next leads rest = earlier_number n text bs v (Major a) (MajorMinor a n) (λ _. refl) number (further (MajorMinor a n) (subst (λ s. give s bs ≡ Some v) (sym (same_Some _ _ leads)) rest))
by_dot bs v further (MajorMinor a c) n text number next leads rest = absurd (none-some next leads)

tracked : (now : Option ℕ) (n : ℕ) (text : List ℕ) → now ≡ Some n → Tracks now text → IsNumber n text
unfolding Tracks
tracked now n text e tracks = let found : Tracks (Some n) text = subst (λ o. Tracks o text) e tracks in found

number_means : (bytes : List ℕ) (earlier : Earlier) (now : Option ℕ) (text : List ℕ) (v : Version) → Tracks now text → give (Figures earlier now) bytes ≡ Some v → NumbersMean earlier (text ++ bytes) v
unfolding step finish NumberGoes Tracks list_of
number_means [] earlier None text v tracks given = absurd (none-some v given)
number_means [] earlier (Some n) text v tracks given =
    last_number earlier n text [] [] [] v tracks (record { pre_text = []; build_text = []; joined = refl; pre_means = refl; build_means = refl }) (same_Some _ _ given)
number_means (b ∷ bs) earlier now text v tracks given =
    let (next, goes, rest) = went (λ s. give s bs) (number_step earlier now b) v given in
    elim (number_goes earlier now b next goes) [
      | inl (digit, small, is) ↦
          subst (λ t. NumbersMean earlier t v) (append_assoc text (b ∷ []) bs)
          (number_means bs earlier (Some (10 * unwrap_or now 0 + (b - 48))) (text ++ b ∷ []) v (digit_more now text b tracks digit small) (subst (λ s. give s bs ≡ Some v) (sym is) rest))
      | inr (n, known, inl (dot, leads)) ↦
          subst (λ c. NumbersMean earlier (text ++ c ∷ bs) v) (sym dot) (by_dot bs v (λ e. number_means bs e None [] v refl) earlier n text (tracked now n text known tracks) next leads rest)
      | inr (n, known, inr (inl (minus, is))) ↦
          let m = pre_means bs (triple_after earlier n) [] [] v refl (subst (λ s. give s bs ≡ Some v) (sym is) rest) in
          subst (λ c. NumbersMean earlier (text ++ c ∷ bs) v) (sym minus)
          (last_number earlier n text (45 ∷ bs) m.is m.build v (tracked now n text known tracks)
          (record { pre_text = 45 ∷ m.front; build_text = m.behind; joined = ap (λ t. 45 ∷ t) m.parts; pre_means = label_of 45 m.is m.front m.front_means; build_means = m.build_label }) m.same)
      | inr (n, known, inr (inr (plus, is))) ↦
          let (is', joined, same) = build_means bs (triple_after earlier n) [] [] [] v refl (subst (λ s. give s bs ≡ Some v) (sym is) rest) in
          subst (λ c. NumbersMean earlier (text ++ c ∷ bs) v) (sym plus)
          (last_number earlier n text (43 ∷ bs) [] is' v (tracked now n text known tracks)
          (record { pre_text = []; build_text = 43 ∷ bs; joined = refl; pre_means = refl; build_means = label_of 43 is' bs joined }) same)
    ]

body_means : (text : List ℕ) (v : Version) → NumbersMean Nothing text v → IsBody v text
unfolding list_of triple_from
body_means text v m = record {
  numbers = m.numbers;
  numbers_text = m.front;
  tail_text = m.behind;
  joined = m.parts;
  numbers_mean = m.front_means;
  values = record { few = m.few; major = sym (ap (λ w. w.major) m.same); minor = sym (ap (λ w. w.minor) m.same); patch = sym (ap (λ w. w.patch) m.same) };
  tail_means = subst (λ w. IsTail w.pre w.build m.behind) m.same m.tail;
}

-- a text for which the machine gives a version means that version
pub gives_reads : (text : List ℕ) (v : Version) → give Fresh text ≡ Some v → Reads text v
unfolding step finish Tracks
gives_reads [] v given = absurd (none-some v given)
gives_reads (b ∷ bs) v given =
    let (next, goes, rest) = went (λ s. give s bs) (step Fresh b) v given in
    elim (chosen (nat_eq b 118) (Some (Figures Nothing None)) (number_step Nothing None b) (Some next) goes) [
      | inl (mark, is) ↦ inr (bs, ap (λ c. c ∷ bs) (eqb-true b 118 mark), body_means bs v (number_means bs Nothing None [] v refl (subst (λ s. give s bs ≡ Some v) (sym (same_Some _ _ is)) rest)))
      | inr (other, is) ↦ inl (body_means (b ∷ bs) v (number_means (b ∷ bs) Nothing None [] v refl (ap (option_and_then (λ s. give s bs)) is ∙ rest)))
    ]
