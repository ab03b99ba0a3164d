-- A text that means no log tells its first bad line, and there is one such line.
use Rattle.std.proofs.Common.{◌≡◌, ℕ, zero, suc, ◌+◌, ◌^◌, ◌<◌, Bool, true, false, List, [], ◌∷◌, ◌++◌, length, None, Some, Result, Ok, Err, refl, sym, ◌∙◌, ap, subst, arith, inl, inr, append_assoc, length-append}
use Rattle.std.specs.List.{list_all}
use Rattle.std.proofs.lemmas.Bool.{and_from, and_parts, cases_order}
use Rattle.std.proofs.lemmas.Option.{none-some, same_Some, some_pair_parts}
use Rattle.pkg_world.specs.Each.{onto}
use Rattle.refutation_log.specs.declared.node.Node.{Node}
use Rattle.refutation_log.specs.declared.node.NodeKind.TheVariants.{Leaf}
use Rattle.log_text.specs.Text.{AreNodes, IsNode, IsLogText, ended_lines, first_line, node_line, text_of}
use Rattle.log_text.specs.Bad.{Begins, IsFirstBadLine, is_line}
use Rattle.log_text.specs.Meant.{count_meant, cut_at, go_on, log_by, log_meant, next_meant, nodes_by, nodes_meant}
use Rattle.log_text.proofs.Cuts.{is_free, cut_front, cut_joins, cut_same}
use Rattle.log_text.proofs.NodeLines.{node_free, count_to, count_from, count_free}
use Rattle.log_text.proofs.Nodes.{lines_of, no_ok, same_err, next_to, next_from, log_to, log_from}

-- the text is the lines of so many nodes
abbrev AreTold : ℕ → Bool → List ℕ → Type 0
AreTold n first text = (xs : List Node) × (length xs ≡ n) × AreNodes first xs × (text ≡ lines_of xs)

-- a first bad line, where the first line has this number
record IsBadFrom (P : List ℕ → Type 0) (start : ℕ) (text : List ℕ) (line : ℕ) : Type 0 where
  pub before : List (List ℕ)
  pub rest : List ℕ
  pub joined : text ≡ ended_lines before ++ rest
  pub whole : list_all is_line before ≡ true
  pub number : line ≡ length before + start
  pub begun : Begins P (ended_lines before)
  pub ended : (next more : List ℕ) → rest ≡ next ++ 10 ∷ more → is_line next ≡ true → Begins P (ended_lines (before ++ next ∷ [])) → ⊥

-- ---- nodes that a text can go on with

abbrev leaves : ℕ → Bool → List Node
leaves zero first = []
leaves (suc n) true = record { state = None; kind = Leaf } ∷ leaves n false
leaves (suc n) false = record { state = Some 0; kind = Leaf } ∷ leaves n false

leaves_told : (n : ℕ) (first : Bool) → AreTold n first (lines_of (leaves n first))
leaves_told zero first = ([], refl, tt, refl)
leaves_told (suc n) true =
    let (xs, count, are, told) = leaves_told n false in
    (record { state = None; kind = Leaf } ∷ xs, ap suc count, (record { state = tt; kind = tt }, are), ap (λ t. node_line (record { state = None; kind = Leaf }) ++ 10 ∷ t) told)
leaves_told (suc n) false =
    let (xs, count, are, told) = leaves_told n false in
    (record { state = Some 0; kind = Leaf } ∷ xs, ap suc count, (record { state = omega arith; kind = tt }, are), ap (λ t. node_line (record { state = Some 0; kind = Leaf }) ++ 10 ∷ t) told)

-- ---- the first bad line of nodes

-- a line and what follows, with the newline between
ended_one : (line rest : List ℕ) → (line ++ 10 ∷ []) ++ rest ≡ line ++ 10 ∷ rest
ended_one line rest = append_assoc line (10 ∷ []) rest

ended_more : (line : List ℕ) (lines : List (List ℕ)) (rest : List ℕ) → ended_lines (line ∷ lines) ++ rest ≡ line ++ 10 ∷ (ended_lines lines ++ rest)
ended_more line lines rest = append_assoc line (10 ∷ ended_lines lines) rest

no_more : (first : Bool) (next : List ℕ) → Begins (AreTold 0 first) (ended_lines ([] ++ next ∷ [])) → ⊥
no_more first next (tail, ([], count, are, told)) = absurd (omega (arith, ap length (sym (ended_one next tail) ∙ told), length-append next (10 ∷ tail)))
no_more first next (tail, (x ∷ xs, count, are, told)) = absurd (omega (arith, count))

no_line : (n : ℕ) (first : Bool) (bytes next more : List ℕ) → next_meant first bytes ≡ None → bytes ≡ next ++ 10 ∷ more → is_line next ≡ true → Begins (AreTold (suc n) first) (ended_lines ([] ++ next ∷ [])) → ⊥
no_line n first bytes next more none joined free (tail, ([], count, are, told)) = absurd (omega (arith, count))
no_line n first bytes next more none joined free (tail, (x ∷ xs, count, are, told)) =
    let same = cut_same 10 next (node_line x) tail (lines_of xs) free (node_free first x are.0) (sym (ended_one next tail) ∙ told) in
    let found : next_meant first bytes ≡ Some (x, more) = ap (next_meant first) (joined ∙ ap (λ l. l ++ 10 ∷ more) same.0) ∙ next_from first x more are.0 in
    none-some (x, more) (sym none ∙ found)

module _ (n : ℕ) (first : Bool) (line bad : ℕ) (bytes : List ℕ) (x : Node) (rest : List ℕ) (joined : bytes ≡ node_line x ++ 10 ∷ rest) (is : IsNode first x)
    (r : IsBadFrom (AreTold n false) (line + 1) rest bad) where
  begun_behind : Begins (AreTold n false) (ended_lines r.before) → Begins (AreTold (suc n) first) (ended_lines (node_line x ∷ r.before))
  begun_behind (tail, (xs, count, are, told)) = (tail, (x ∷ xs, ap suc count, (is, are), ended_more (node_line x) r.before tail ∙ ap (λ t. node_line x ++ 10 ∷ t) told))

  ended_behind : (next : List ℕ) → Begins (AreTold (suc n) first) (ended_lines ((node_line x ∷ r.before) ++ next ∷ [])) → Begins (AreTold n false) (ended_lines (r.before ++ next ∷ []))
  ended_behind next (tail, ([], count, are, told)) = absurd (omega (arith, count))
  ended_behind next (tail, (y ∷ ys, count, are, told)) =
      let lines = r.before ++ next ∷ [] in
      let same = cut_same 10 (node_line x) (node_line y) (ended_lines lines ++ tail) (lines_of ys) (node_free first x is) (node_free first y are.0) (sym (ended_more (node_line x) lines tail) ∙ told) in
      (tail, (ys, omega (arith, count), are.1, same.1))

  bad_behind : IsBadFrom (AreTold (suc n) first) line bytes bad
  bad_behind = record {
    before = node_line x ∷ r.before;
    rest = r.rest;
    joined = joined ∙ ap (λ t. node_line x ++ 10 ∷ t) r.joined ∙ sym (ended_more (node_line x) r.before r.rest);
    whole = and_from (is_line (node_line x)) (list_all is_line r.before) (node_free first x is) r.whole;
    number = omega (arith, r.number);
    begun = begun_behind r.begun;
    ended = λ next more at free begins. r.ended next more at free (ended_behind next begins);
  }

bad_nodes : (n : ℕ) (first : Bool) (line : ℕ) (bytes : List ℕ) (bad : ℕ) → nodes_meant n first line bytes ≡ Err bad → IsBadFrom (AreTold n first) line bytes bad
unfolding nodes_meant
bad_nodes zero first line [] bad e = absurd (no_ok [] bad (sym e))
bad_nodes zero first line (b ∷ bs) bad e = record {
  before = [];
  rest = b ∷ bs;
  joined = refl;
  whole = refl;
  number = omega (arith, same_err line bad e);
  begun = ([], ([], refl, tt, refl));
  ended = λ next more at free begins. no_more first next begins;
}
bad_nodes (suc n) first line bytes bad e =
    elim (next_meant first bytes) as (λ o. next_meant first bytes ≡ o → go_on line (nodes_meant n false (line + 1)) o ≡ Err bad → IsBadFrom (AreTold (suc n) first) line bytes bad) [
      | None ↦ λ none told. record {
        before = [];
        rest = bytes;
        joined = refl;
        whole = refl;
        number = omega (arith, same_err line bad told);
        begun = (lines_of (leaves (suc n) first), leaves_told (suc n) first);
        ended = λ next more at free begins. no_line n first bytes next more none at free begins;
      }
      | Some (x, rest) ↦ λ here told.
          let is = next_to first bytes x rest here in
          bad_behind n first line bad bytes x rest is.0 is.1 (bad_nodes n false (line + 1) rest bad (behind x (nodes_meant n false (line + 1) rest) told))
    ] refl e
  where
    behind : (x : Node) (r : Result (List Node) ℕ) → onto (x ∷ []) r ≡ Err bad → r ≡ Err bad
    behind x (Ok ys) told = absurd (no_ok (x ∷ ys) bad (sym told))
    behind x (Err other) told = told

-- ---- the first bad line of a text

-- some log has a text
any_begins : Begins IsLogText []
any_begins = (text_of [], ([], record { printable = record { few = omega arith; each = tt }; told = refl }))

-- the first line of a text of a log tells how many nodes there are
first_told : (line tail : List ℕ) (xs : List Node) → is_line line ≡ true → line ++ 10 ∷ tail ≡ text_of xs → length xs < 2 ^ 32 → (line ≡ first_line (length xs)) × (tail ≡ lines_of xs)
first_told line tail xs free told few = cut_same 10 line (first_line (length xs)) tail (lines_of xs) free (count_free (length xs) few) told

no_first : (text line rest : List ℕ) → cut_at 10 text ≡ Some (line, rest) → count_meant line ≡ None → (next more : List ℕ) → text ≡ next ++ 10 ∷ more → is_line next ≡ true
    → Begins IsLogText (ended_lines ([] ++ next ∷ [])) → ⊥
no_first text line rest here none next more at free (tail, (xs, is)) =
    let told = first_told next tail xs free (sym (ended_one next tail) ∙ is.told) is.printable.few in
    let cut = some_pair_parts line next rest more (sym here ∙ ap (cut_at 10) at ∙ cut_front 10 next more free) in
    none-some (length xs) (sym none ∙ ap count_meant (cut.0 ∙ told.0) ∙ count_from (length xs) is.printable.few)

module _ (text line rest : List ℕ) (count bad : ℕ) (joined : text ≡ line ++ 10 ∷ rest) (is_first : line ≡ first_line count) (small : count < 2 ^ 32)
    (r : IsBadFrom (AreTold count true) 2 rest bad) where
  free_first : is_line line ≡ true
  free_first = ap (is_free 10) is_first ∙ count_free count small

  begun_by : Begins (AreTold count true) (ended_lines r.before) → Begins IsLogText (ended_lines (line ∷ r.before))
  begun_by (tail, (xs, counted, are, told)) = (
    tail,
    (
      xs,
      record {
        printable = record { few = subst (λ n. n < 2 ^ 32) (sym counted) small; each = are };
        told = ended_more line r.before tail ∙ ap (λ l. l ++ 10 ∷ (ended_lines r.before ++ tail)) (is_first ∙ ap first_line (sym counted)) ∙ ap (λ t. first_line (length xs) ++ 10 ∷ t) told;
      },
    ),
  )

  ended_by : (next : List ℕ) → Begins IsLogText (ended_lines ((line ∷ r.before) ++ next ∷ [])) → Begins (AreTold count true) (ended_lines (r.before ++ next ∷ []))
  ended_by next (tail, (xs, is)) =
      let lines = r.before ++ next ∷ [] in
      let told = first_told line (ended_lines lines ++ tail) xs free_first (sym (ended_more line lines tail) ∙ is.told) is.printable.few in
      let counted : Some (length xs) ≡ Some count = sym (count_from (length xs) is.printable.few) ∙ ap count_meant (sym told.0 ∙ is_first) ∙ count_from count small in
      (tail, (xs, same_Some (length xs) count counted, is.printable.each, told.1))

  bad_by : (IsLogText text → ⊥) → IsFirstBadLine IsLogText text bad
  bad_by refused = record {
    refused = refused;
    before = line ∷ r.before;
    rest = r.rest;
    joined = joined ∙ ap (λ t. line ++ 10 ∷ t) r.joined ∙ sym (ended_more line r.before r.rest);
    whole = and_from (is_line line) (list_all is_line r.before) free_first r.whole;
    number = omega (arith, r.number);
    begun = begun_by r.begun;
    ended = λ next more at free begins. r.ended next more at free (ended_by next begins);
  }

-- the line that a text tells is its first bad one
pub log_bad : (text : List ℕ) (bad : ℕ) → log_meant text ≡ Err bad → IsFirstBadLine IsLogText text bad
unfolding log_meant
log_bad text bad e =
    elim (cut_at 10 text) as (λ o. cut_at 10 text ≡ o → log_by o ≡ Err bad → IsFirstBadLine IsLogText text bad) [
      | None ↦ λ none told. record {
        refused = refused;
        before = [];
        rest = text;
        joined = refl;
        whole = refl;
        number = sym (same_err 1 bad told);
        begun = any_begins;
        ended = λ next more at free begins. none-some (next, more) (sym none ∙ ap (cut_at 10) at ∙ cut_front 10 next more free);
      }
      | Some (line, rest) ↦ λ here told. by_line line rest here told
    ] refl e
  where
    refused : IsLogText text → ⊥
    refused (xs, is) = no_ok xs bad (sym e ∙ log_from text xs is)

    by_line : (line rest : List ℕ) → cut_at 10 text ≡ Some (line, rest) → nodes_by rest (count_meant line) ≡ Err bad → IsFirstBadLine IsLogText text bad
    by_line line rest here given =
        elim (count_meant line) as (λ o. count_meant line ≡ o → nodes_by rest o ≡ Err bad → IsFirstBadLine IsLogText text bad) [
          | None ↦ λ none told. record {
            refused = refused;
            before = [];
            rest = text;
            joined = refl;
            whole = refl;
            number = sym (same_err 1 bad told);
            begun = any_begins;
            ended = no_first text line rest here none;
          }
          | Some count ↦ λ counted told.
              let is = count_to line count counted in
              bad_by text line rest count bad (cut_joins 10 text line rest here) is.0 is.1 (bad_nodes count true 2 rest bad told) refused
        ] refl given

-- ---- there is one first bad line

ended-append : (lines more : List (List ℕ)) → ended_lines (lines ++ more) ≡ ended_lines lines ++ ended_lines more
ended-append [] more = refl
ended-append (line ∷ lines) more = ap (λ t. line ++ 10 ∷ t) (ended-append lines more) ∙ sym (ended_more line lines (ended_lines more))

-- of two fronts of whole lines the longer one goes on with a line of the rest
record GoesOn (shorter longer : List (List ℕ)) (rest : List ℕ) : Type 0 where
  next : List ℕ
  more : List ℕ
  lines : List (List ℕ)
  longer_is : longer ≡ shorter ++ next ∷ lines
  at : rest ≡ next ++ 10 ∷ more
  free : is_line next ≡ true

same_longer : (l line : List ℕ) (lines more : List (List ℕ)) → l ≡ line → lines ≡ more → line ∷ lines ≡ l ∷ more
same_longer l line lines more one other = cc

goes_on : (shorter longer : List (List ℕ)) (rest other : List ℕ) → list_all is_line shorter ≡ true → list_all is_line longer ≡ true → ended_lines shorter ++ rest ≡ ended_lines longer ++ other
    → length shorter < length longer → GoesOn shorter longer rest
goes_on shorter [] rest other one two same lt = absurd (omega arith)
goes_on [] (line ∷ lines) rest other one two same lt = record {
  next = line;
  more = ended_lines lines ++ other;
  lines = lines;
  longer_is = refl;
  at = same ∙ ended_more line lines other;
  free = (and_parts (is_line line) (list_all is_line lines) two).0;
}
goes_on (l ∷ ls) (line ∷ lines) rest other one two same lt =
    let first = and_parts (is_line l) (list_all is_line ls) one in
    let second = and_parts (is_line line) (list_all is_line lines) two in
    let cut = cut_same 10 l line (ended_lines ls ++ rest) (ended_lines lines ++ other) first.0 second.0 (sym (ended_more l ls rest) ∙ same ∙ ended_more line lines other) in
    let r = goes_on ls lines rest other first.1 second.1 cut.1 (omega arith) in
    record {
      next = r.next;
      more = r.more;
      lines = r.lines;
      longer_is = same_longer l line lines (ls ++ r.next ∷ r.lines) cut.0 r.longer_is;
      at = r.at;
      free = r.free;
    }

module _ (P : List ℕ → Type 0) (text : List ℕ) where
  not_later : (a b : ℕ) (one : IsFirstBadLine P text a) (other : IsFirstBadLine P text b) → a < b → ⊥
  not_later a b one other lt =
      let r = goes_on one.before other.before one.rest other.rest one.whole other.whole (sym one.joined ∙ other.joined) (omega (arith, one.number, other.number)) in
      let (tail, is) = other.begun in
      let front = ended_lines (one.before ++ r.next ∷ []) in
      let lines : ended_lines other.before ≡ front ++ ended_lines r.lines =
      ap ended_lines (r.longer_is ∙ sym (append_assoc one.before (r.next ∷ []) r.lines)) ∙ ended-append (one.before ++ r.next ∷ []) r.lines in
      let begins : Begins P front = (ended_lines r.lines ++ tail, subst P (ap (λ t. t ++ tail) lines ∙ append_assoc front (ended_lines r.lines) tail) is) in
      one.ended r.next r.more r.at r.free begins

  pub one_line : (a b : ℕ) → IsFirstBadLine P text a → IsFirstBadLine P text b → a ≡ b
  one_line a b one other = elim (cases_order a b) [
    | inl same ↦ same
    | inr apart ↦ elim apart [ inl lt ↦ absurd (not_later a b one other lt) | inr gt ↦ absurd (not_later b a other one gt) ]
  ]

-- the first bad line of a text is told
pub bad_told : (text : List ℕ) (line : ℕ) → IsFirstBadLine IsLogText text line → log_meant text ≡ Err line
bad_told text line bad =
    elim (log_meant text) as (λ r. log_meant text ≡ r → r ≡ Err line) [
      | Ok xs ↦ λ here. absurd (bad.refused (xs, log_to text xs here))
      | Err other ↦ λ here. ap Err (one_line IsLogText text other line (log_bad text other here) bad)
    ] refl
