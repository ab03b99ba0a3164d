-- A line means a node exactly where it is the node's line.
use Rattle.std.proofs.Common.{◌≡◌, ℕ, ◌^◌, ◌<◌, Bool, true, false, not, List, ◌∷◌, ◌++◌, take, drop, Option, None, Some, option_map, refl, sym, ◌∙◌, ap, subst, arith, inl, inr}
use Rattle.std.specs.Prelude.{codes, nat_lt, ◌==◌, if◌then◌else◌}
use Rattle.std.specs.Fmt.{decimal}
use Rattle.std.specs.Option.{option_and_then}
use Rattle.std.specs.Str.{bytes_eq}
use Rattle.std.proofs.lemmas.Bool.{and_from, cases_Bool, lt-ltb, ltb-true, ne_eqb}
use Rattle.std.proofs.lemmas.List.{take-append-drop}
use Rattle.std.proofs.lemmas.List.Folds.{list_all-append}
use Rattle.std.proofs.lemmas.Option.{none-some, same_Some, cond_some, option_and_then_some}
use Rattle.std.proofs.lemmas.Slice.Eq.{bytes_eq-Decides}
use Rattle.refutation_log.specs.declared.node.Node.{Node}
use Rattle.refutation_log.specs.declared.node.NodeKind.{NodeKind}
use Rattle.refutation_log.specs.declared.node.NodeKind.TheVariants.{Leaf, Branch}
use Rattle.log_text.specs.Text.{HasState, IsKind, IsNode, first_line, kind_text, node_line, state_text}
use Rattle.log_text.specs.Meant.{branch_meant, branch_with, count_meant, cut_at, kind_by, kind_meant, node_by, node_meant, number_meant, state_meant}
use Rattle.log_text.proofs.Cuts.{is_free, cut_front, cut_joins}
use Rattle.log_text.proofs.Numbers.{number_to, number_from, decimal_free}

-- a word that is tested is that word
is_word : {A : Type 0} (word other : List ℕ) (x y : A) → (if bytes_eq word other then Some x else None) ≡ Some y → (word ≡ other) × (x ≡ y)
is_word word other x y e = let parts = cond_some (bytes_eq word other) x y e in ((bytes_eq-Decides word other).0 parts.0, parts.1)

-- ---- states

state_to : (first : Bool) (word : List ℕ) (s : Option ℕ) → state_meant first word ≡ Some s → (word ≡ state_text s) × HasState first s
state_to true word s e = let is = is_word word (codes "-") None s e in subst (λ t. (word ≡ state_text t) × HasState true t) is.1 (is.0, tt)
state_to false word s e =
    elim (number_meant word) as (λ o. number_meant word ≡ o → option_map Some o ≡ Some s → (word ≡ state_text s) × HasState false s) [
      | None ↦ λ _ none. absurd (none-some s none)
      | Some n ↦ λ here some. subst (λ t. (word ≡ state_text t) × HasState false t) (same_Some (Some n) s some) (number_to word n here)
    ] refl e

state_from : (first : Bool) (s : Option ℕ) → HasState first s → state_meant first (state_text s) ≡ Some s
state_from true None h = refl
state_from true (Some i) h = absurd h
state_from false None h = absurd h
state_from false (Some i) h = ap (option_map Some) (number_from i h)

state_free : (m : ℕ) → m < 45 → (first : Bool) (s : Option ℕ) → HasState first s → is_free m (state_text s) ≡ true
state_free m low first None h = rw (ne_eqb 45 m (λ e. absurd (omega (arith, e)))) refl
state_free m low true (Some i) h = absurd h
state_free m low false (Some i) h = decimal_free m i (omega arith) h

-- ---- kinds

branch_to : (words : Option (List ℕ × List ℕ)) (k : NodeKind) → branch_meant words ≡ Some k
    → (p children : ℕ) × (a b : List ℕ) × (words ≡ Some (a, b)) × (number_meant a ≡ Some p) × (number_meant b ≡ Some children) × (0 < children) × (Branch p children ≡ k)
branch_to None k e = absurd (none-some k e)
branch_to (Some (a, b)) k e =
    option_and_then_some (λ p. option_and_then (branch_with p) (number_meant b)) (number_meant a) k e (λ p first later.
    option_and_then_some (branch_with p) (number_meant b) k later (λ children second given.
    let parts = cond_some (nat_lt 0 children) (Branch p children) k given in
    (p, children, a, b, refl, first, second, ltb-true 0 children parts.0, parts.1)))

kind_to : (text : List ℕ) (k : NodeKind) → kind_meant text ≡ Some k → (text ≡ kind_text k) × IsKind k
kind_to text k e =
    elim (cut_at 32 text) as (λ o. cut_at 32 text ≡ o → kind_by text o ≡ Some k → (text ≡ kind_text k) × IsKind k) [
      | None ↦ λ _ given. let is = is_word text (codes "leaf") Leaf k given in subst (λ t. (text ≡ kind_text t) × IsKind t) is.1 (is.0, tt)
      | Some (word, counts) ↦ λ here given. by_words word counts (cut_joins 32 text word counts here) given
    ] refl e
  where
    by_words : (word counts : List ℕ) → text ≡ word ++ 32 ∷ counts → (if bytes_eq word (codes "branch") then branch_meant (cut_at 32 counts) else None) ≡ Some k → (text ≡ kind_text k) × IsKind k
    by_words word counts joined given =
        elim (cases_Bool (bytes_eq word (codes "branch"))) [
          | inl same ↦
              let counted : branch_meant (cut_at 32 counts) ≡ Some k = rw same at given in
              let (p, children, a, b, cut, first, second, some, is) = branch_to (cut_at 32 counts) k counted in
              let one = number_to a p first in
              let two = number_to b children second in
              let name : word ≡ codes "branch" = (bytes_eq-Decides word (codes "branch")).0 same in
              let told : text ≡ codes "branch " ++ (decimal p ++ 32 ∷ decimal children) =
              joined ∙ ap (λ w. w ++ 32 ∷ counts) name ∙ ap (λ c. codes "branch " ++ c) (cut_joins 32 counts a b cut ∙ ap (λ x. x ++ 32 ∷ b) one.0 ∙ ap (λ y. decimal p ++ 32 ∷ y) two.0) in
              subst (λ t. (text ≡ kind_text t) × IsKind t) is (told, (one.1, some, two.1))
          | inr other ↦ let none : None ≡ Some k = rw other at given in absurd (none-some k none)
        ]

kind_from : (k : NodeKind) → IsKind k → kind_meant (kind_text k) ≡ Some k
unfolding cut_at
kind_from Leaf h = refl
kind_from (Branch p children) h =
    let counts = decimal p ++ 32 ∷ decimal children in
    let outer : cut_at 32 (codes "branch " ++ counts) ≡ Some (codes "branch", counts) = cut_front 32 (codes "branch") counts refl in
    let inner : cut_at 32 counts ≡ Some (decimal p, decimal children) = cut_front 32 (decimal p) (decimal children) (decimal_free 32 p (omega arith) h.0) in
    rw (outer, inner, number_from p h.0, number_from children h.2, lt-ltb 0 children h.1) refl

kind_line : (k : NodeKind) → IsKind k → is_free 10 (kind_text k) ≡ true
kind_line Leaf h = refl
kind_line (Branch p children) h =
    list_all-append (λ byte. not (byte == 10)) (decimal p) (32 ∷ decimal children)
    ∙ and_from (is_free 10 (decimal p)) (is_free 10 (decimal children)) (decimal_free 10 p (omega arith) h.0) (decimal_free 10 children (omega arith) h.2)

-- ---- nodes

-- a line that means a node is its line
pub node_to : (first : Bool) (line : List ℕ) (x : Node) → node_meant first line ≡ Some x → (line ≡ node_line x) × IsNode first x
unfolding node_meant
node_to first line x e =
    elim (cut_at 32 line) as (λ o. cut_at 32 line ≡ o → node_by first o ≡ Some x → (line ≡ node_line x) × IsNode first x) [
      | None ↦ λ _ none. absurd (none-some x none)
      | Some (word, text) ↦ λ here given. by_words word text (cut_joins 32 line word text here) given
    ] refl e
  where
    by_words : (word text : List ℕ) → line ≡ word ++ 32 ∷ text → node_by first (Some (word, text)) ≡ Some x → (line ≡ node_line x) × IsNode first x
    by_words word text joined given =
        option_and_then_some (λ s. option_map (λ k. record { state = s; kind = k }) (kind_meant text)) (state_meant first word) x given (λ s known later. by_state s (state_to first word s known) later)
      where
        by_state : (s : Option ℕ) → (word ≡ state_text s) × HasState first s → option_map (λ k. record { state = s; kind = k }) (kind_meant text) ≡ Some x → (line ≡ node_line x) × IsNode first x
        by_state s stated later =
            elim (kind_meant text) as (λ o. kind_meant text ≡ o → option_map (λ k. record { state = s; kind = k }) o ≡ Some x → (line ≡ node_line x) × IsNode first x) [
              | None ↦ λ _ none. absurd (none-some x none)
              | Some k ↦ λ here some.
                  let kinded = kind_to text k here in
                  let y : Node = record { state = s; kind = k } in
                  let told : line ≡ node_line y = joined ∙ ap (λ w. w ++ 32 ∷ text) stated.0 ∙ ap (λ t. state_text s ++ 32 ∷ t) kinded.0 in
                  let is : IsNode first y = record { state = stated.1; kind = kinded.1 } in
                  subst (λ z. (line ≡ node_line z) × IsNode first z) (same_Some y x some) (told, is)
            ] refl later

-- the line of a node means it
pub node_from : (first : Bool) (x : Node) → IsNode first x → node_meant first (node_line x) ≡ Some x
unfolding node_meant
node_from first x h =
    let cut : cut_at 32 (node_line x) ≡ Some (state_text x.state, kind_text x.kind) = cut_front 32 (state_text x.state) (kind_text x.kind) (state_free 32 (omega arith) first x.state h.state) in
    rw (cut, state_from first x.state h.state, kind_from x.kind h.kind) refl

-- the line of a node is one
pub node_free : (first : Bool) (x : Node) → IsNode first x → is_free 10 (node_line x) ≡ true
node_free first x h =
    list_all-append (λ byte. not (byte == 10)) (state_text x.state) (32 ∷ kind_text x.kind)
    ∙ and_from (is_free 10 (state_text x.state)) (is_free 10 (kind_text x.kind)) (state_free 10 (omega arith) first x.state h.state) (kind_line x.kind h.kind)

-- ---- the first line

pub count_to : (line : List ℕ) (n : ℕ) → count_meant line ≡ Some n → (line ≡ first_line n) × (n < 2 ^ 32)
unfolding count_meant
count_to line n e = elim (cases_Bool (bytes_eq (take 12 line) (codes "jlpkg-log 1 "))) [
  | inl same ↦
      let counted : number_meant (drop 12 line) ≡ Some n = rw same at e in
      let number = number_to (drop 12 line) n counted in (
        sym (take-append-drop 12 line)
            ∙ ap (λ t. t ++ drop 12 line) ((bytes_eq-Decides (take 12 line) (codes "jlpkg-log 1 ")).0 same)
            ∙ ap (λ t. codes "jlpkg-log 1 " ++ t) number.0,
        number.1,
      )
  | inr other ↦ let none : None ≡ Some n = rw other at e in absurd (none-some n none)
]

pub count_from : (n : ℕ) → n < 2 ^ 32 → count_meant (first_line n) ≡ Some n
unfolding count_meant
count_from n small = number_from n small

pub count_free : (n : ℕ) → n < 2 ^ 32 → is_free 10 (first_line n) ≡ true
count_free n small = decimal_free 10 n (omega arith) small
