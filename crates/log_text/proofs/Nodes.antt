-- Lines mean nodes exactly where they are the lines of the nodes, and a text means a log exactly where it is its text.
use Rattle.std.proofs.Common.{◌≡◌, ℕ, zero, suc, ◌+◌, ◌-◌, ◌^◌, ◌<◌, Bool, true, false, List, [], ◌∷◌, ◌++◌, length, map, None, Some, option_map, Result, Ok, Err, refl, sym, ◌∙◌, ap, subst, arith, append_assoc}
use Rattle.std.specs.Prelude.{◌==◌}
use Rattle.std.proofs.lemmas.Bool.{eqb-false, eqb-true, ne_eqb}
use Rattle.std.proofs.lemmas.List.{append-nil}
use Rattle.std.proofs.lemmas.Option.{none-some, some_pair_parts}
use Rattle.pkg_world.specs.Each.{onto}
use Rattle.refutation_log.specs.declared.node.Node.{Node}
use Rattle.log_text.specs.Text.{AreNodes, IsNode, IsPrintable, IsTextOf, ended_lines, first_line, node_line, text_of}
use Rattle.log_text.specs.Meant.{at_end, count_meant, cut_at, go_on, log_by, log_meant, next_by, next_meant, node_meant, nodes_by, nodes_meant}
use Rattle.log_text.proofs.Cuts.{cut_front, cut_joins}
use Rattle.log_text.proofs.NodeLines.{node_to, node_from, node_free, count_to, count_from, count_free}

abbrev pub lines_of : List Node → List ℕ
lines_of xs = ended_lines (map node_line xs)

pub same_ok : {T E : Type 0} (x y : T) → ◌≡◌ {A = Result T E} (Ok x) (Ok y) → x ≡ y
same_ok x y e = cc

pub same_err : {T E : Type 0} (x y : E) → ◌≡◌ {A = Result T E} (Err x) (Err y) → x ≡ y
same_err x y e = cc

pub no_ok : {T E : Type 0} (x : T) (y : E) → ◌≡◌ {A = Result T E} (Err y) (Ok x) → ⊥
no_ok x y e = cc

-- ---- the next line

pub next_to : (first : Bool) (bytes : List ℕ) (x : Node) (rest : List ℕ) → next_meant first bytes ≡ Some (x, rest) → (bytes ≡ node_line x ++ 10 ∷ rest) × IsNode first x
unfolding next_meant
next_to first bytes x rest e =
    elim (cut_at 10 bytes) as (λ o. cut_at 10 bytes ≡ o → next_by first o ≡ Some (x, rest) → (bytes ≡ node_line x ++ 10 ∷ rest) × IsNode first x) [
      | None ↦ λ _ none. absurd (none-some (x, rest) none)
      | Some (line, more) ↦ λ here given. by_line line more (cut_joins 10 bytes line more here) given
    ] refl e
  where
    by_line : (line more : List ℕ) → bytes ≡ line ++ 10 ∷ more → option_map {U = Node × List ℕ} (λ y. (y, more)) (node_meant first line) ≡ Some (x, rest) → (bytes ≡ node_line x ++ 10 ∷ rest) × IsNode first x
    by_line line more joined given =
        elim (node_meant first line) as (λ o. node_meant first line ≡ o → option_map {U = Node × List ℕ} (λ y. (y, more)) o ≡ Some (x, rest) → (bytes ≡ node_line x ++ 10 ∷ rest) × IsNode first x) [
          | None ↦ λ _ none. absurd (none-some (x, rest) none)
          | Some y ↦ λ here some.
              let parts = some_pair_parts y x more rest some in
              let is = node_to first line y here in (
                joined ∙ ap (λ l. l ++ 10 ∷ more) is.0 ∙ ap (λ z. node_line z ++ 10 ∷ more) parts.0 ∙ ap (λ r. node_line x ++ 10 ∷ r) parts.1,
                subst (IsNode first) parts.0 is.1,
              )
        ] refl given

pub next_from : (first : Bool) (x : Node) (rest : List ℕ) → IsNode first x → next_meant first (node_line x ++ 10 ∷ rest) ≡ Some (x, rest)
unfolding next_meant
next_from first x rest h = rw (cut_front 10 (node_line x) rest (node_free first x h), node_from first x h) refl

-- ---- the lines of nodes

nodes_to : (n : ℕ) (first : Bool) (line : ℕ) (bytes : List ℕ) (xs : List Node) → nodes_meant n first line bytes ≡ Ok xs
    → (length xs ≡ n) × AreNodes first xs × (bytes ≡ lines_of xs)
unfolding nodes_meant
nodes_to zero first line [] xs e = let none = same_ok [] xs e in subst (λ ys. (length ys ≡ 0) × AreNodes first ys × ([] ≡ lines_of ys)) none (refl, tt, refl)
nodes_to zero first line (b ∷ bs) xs e = absurd (no_ok xs line e)
nodes_to (suc n) first line bytes xs e =
    elim (next_meant first bytes) as (λ o. next_meant first bytes ≡ o → go_on line (nodes_meant n false (line + 1)) o ≡ Ok xs → (length xs ≡ suc n) × AreNodes first xs × (bytes ≡ lines_of xs)) [
      | None ↦ λ _ bad. absurd (no_ok xs line bad)
      | Some (x, rest) ↦ λ here given. behind x rest (next_to first bytes x rest here) (nodes_to n false (line + 1) rest) given
    ] refl e
  where
    behind : (x : Node) (rest : List ℕ) → (bytes ≡ node_line x ++ 10 ∷ rest) × IsNode first x
        → ((ys : List Node) → nodes_meant n false (line + 1) rest ≡ Ok ys → (length ys ≡ n) × AreNodes false ys × (rest ≡ lines_of ys)) → onto (x ∷ []) (nodes_meant n false (line + 1) rest) ≡ Ok xs
        → (length xs ≡ suc n) × AreNodes first xs × (bytes ≡ lines_of xs)
    behind x rest is read given =
        elim (nodes_meant n false (line + 1) rest) as (λ r. nodes_meant n false (line + 1) rest ≡ r → onto (x ∷ []) r ≡ Ok xs → (length xs ≡ suc n) × AreNodes first xs × (bytes ≡ lines_of xs)) [
          | Ok ys ↦ λ here some.
              let more = read ys here in
              let all : (length (x ∷ ys) ≡ suc n) × AreNodes first (x ∷ ys) × (bytes ≡ lines_of (x ∷ ys)) = (ap suc more.0, (is.1, more.1), is.0 ∙ ap (λ r. node_line x ++ 10 ∷ r) more.2) in
              subst (λ zs. (length zs ≡ suc n) × AreNodes first zs × (bytes ≡ lines_of zs)) (same_ok (x ∷ ys) xs some) all
          | Err bad ↦ λ _ none. absurd (no_ok xs bad none)
        ] refl given

pub nodes_from : (first : Bool) (line : ℕ) (xs : List Node) → AreNodes first xs → nodes_meant (length xs) first line (lines_of xs) ≡ Ok xs
unfolding nodes_meant
nodes_from first line [] h = refl
nodes_from first line (x ∷ xs) h = rw (next_from first x (lines_of xs) h.0, nodes_from false (line + 1) xs h.1) refl

-- ---- texts

-- a text that means nodes is theirs
pub log_to : (text : List ℕ) (xs : List Node) → log_meant text ≡ Ok xs → IsTextOf text xs
unfolding log_meant
log_to text xs e =
    elim (cut_at 10 text) as (λ o. cut_at 10 text ≡ o → log_by o ≡ Ok xs → IsTextOf text xs) [
      | None ↦ λ _ bad. absurd (no_ok xs 1 bad)
      | Some (line, rest) ↦ λ here given. by_line line rest (cut_joins 10 text line rest here) given
    ] refl e
  where
    by_line : (line rest : List ℕ) → text ≡ line ++ 10 ∷ rest → nodes_by rest (count_meant line) ≡ Ok xs → IsTextOf text xs
    by_line line rest joined given =
        elim (count_meant line) as (λ o. count_meant line ≡ o → nodes_by rest o ≡ Ok xs → IsTextOf text xs) [
          | None ↦ λ _ bad. absurd (no_ok xs 1 bad)
          | Some count ↦ λ here some.
              let counted = count_to line count here in
              let are = nodes_to count true 2 rest xs some in
              record {
                printable = record { few = subst (λ n. n < 2 ^ 32) (sym are.0) counted.1; each = are.1 };
                told = joined ∙ ap (λ l. l ++ 10 ∷ rest) (counted.0 ∙ ap first_line (sym are.0)) ∙ ap (λ r. first_line (length xs) ++ 10 ∷ r) are.2;
              }
        ] refl given

-- the text of nodes means them
pub text_means : (xs : List Node) → IsPrintable xs → log_meant (text_of xs) ≡ Ok xs
unfolding log_meant
text_means xs h =
    rw (cut_front 10 (first_line (length xs)) (lines_of xs) (count_free (length xs) h.few), count_from (length xs) h.few) (nodes_from true 2 xs h.each)

pub log_from : (text : List ℕ) (xs : List Node) → IsTextOf text xs → log_meant text ≡ Ok xs
log_from text xs h = ap log_meant h.told ∙ text_means xs h.printable

-- ---- reading them one after the other

onto-onto : (old : List Node) (x : Node) (r : Result (List Node) ℕ) → onto old (onto (x ∷ []) r) ≡ onto (old ++ x ∷ []) r
onto-onto old x (Ok ys) = ap Ok (sym (append_assoc old (x ∷ []) ys))
onto-onto old x (Err bad) = refl

-- one line more
pub nodes_go : (meant : Result (List Node) ℕ) (old : List Node) (count place : ℕ) (rest after : List ℕ) (x : Node) → place < count → next_meant (place == 0) rest ≡ Some (x, after)
    → meant ≡ onto old (nodes_meant (count - place) (place == 0) (place + 2) rest) → meant ≡ onto (old ++ x ∷ []) (nodes_meant (count - (place + 1)) ((place + 1) == 0) (place + 1 + 2) after)
unfolding nodes_meant
nodes_go meant old count place rest after x lt here so_far =
    let left : count - place ≡ suc (count - (place + 1)) = omega arith in
    let later : ((place + 1) == 0) ≡ false = ne_eqb (place + 1) 0 (λ e. absurd (omega (arith, e))) in
    let line : place + 2 + 1 ≡ place + 1 + 2 = omega arith in
    let next : nodes_meant (count - place) (place == 0) (place + 2) rest ≡ onto (x ∷ []) (nodes_meant (count - (place + 1)) false (place + 2 + 1) after) = rw (left, here) refl in
    so_far ∙ ap (onto old) next ∙ onto-onto old x (nodes_meant (count - (place + 1)) false (place + 2 + 1) after)
    ∙ ap (λ l. onto (old ++ x ∷ []) (nodes_meant (count - (place + 1)) false l after)) line ∙ ap (λ b. onto (old ++ x ∷ []) (nodes_meant (count - (place + 1)) b (place + 1 + 2) after)) (sym later)

-- a line that is none of a log, or isn't there
pub nodes_stop : (meant : Result (List Node) ℕ) (old : List Node) (count place : ℕ) (rest : List ℕ) → place < count → next_meant (place == 0) rest ≡ None
    → meant ≡ onto old (nodes_meant (count - place) (place == 0) (place + 2) rest) → meant ≡ Err (place + 2)
unfolding nodes_meant
nodes_stop meant old count place rest lt here so_far =
    let left : count - place ≡ suc (count - (place + 1)) = omega arith in
    let next : nodes_meant (count - place) (place == 0) (place + 2) rest ≡ Err (place + 2) = rw (left, here) refl in
    so_far ∙ ap (onto old) next

-- all lines are read
pub nodes_end : (meant : Result (List Node) ℕ) (old : List Node) (count place : ℕ) (rest : List ℕ) → place ≡ count
    → meant ≡ onto old (nodes_meant (count - place) (place == 0) (place + 2) rest) → meant ≡ onto old (at_end (count + 2) rest)
unfolding nodes_meant
nodes_end meant old count place rest same so_far =
    let none : count - place ≡ 0 = omega arith in
    so_far ∙ ap (λ n. onto old (nodes_meant n (place == 0) (place + 2) rest)) none ∙ ap (λ p. onto old (at_end (p + 2) rest)) same

pub nodes_done : (old : List Node) (line : ℕ) (rest : List ℕ) → (length rest == 0) ≡ true → onto old (at_end line rest) ≡ Ok old
nodes_done old line [] empty = ap Ok (append-nil old)
nodes_done old line (b ∷ bs) empty = absurd (omega (arith, eqb-true (suc (length bs)) 0 empty))

pub nodes_over : (old : List Node) (line : ℕ) (rest : List ℕ) → (length rest == 0) ≡ false → onto old (at_end line rest) ≡ Err line
nodes_over old line [] some = absurd (eqb-false 0 0 some refl)
nodes_over old line (b ∷ bs) some = refl
