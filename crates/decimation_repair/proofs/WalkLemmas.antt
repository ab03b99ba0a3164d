-- A walk has one course, and what it finds is a solution.
use Rattle.std.proofs.Common.{◌≡◌, ℕ, ◌<◌, false, List, [], ◌∷◌, ◌++◌, length, get_or, refl, sym, ◌∙◌, ap, subst, arith, inl, inr}
use Rattle.std.proofs.lemmas.Bool.{and_parts, cases_lt, cases_eq}
use Rattle.std.proofs.lemmas.List.{ext_get_or, get_or_default}
use Rattle.std.specs.List.{Contains}
use Rattle.version_graph.specs.Graph.{Graph, is_offered, is_forbidden, IsSolution}
use Rattle.version_graph.specs.Family.{under}
use Rattle.version_graph.proofs.FamilyLemmas.{closure-largest}
use Rattle.refutation_log.specs.Refutes.{Prefix}
use Rattle.refutation_log.specs.declared.node.Node.{Node}
use Rattle.refutation_log.specs.declared.node.NodeKind.TheVariants.{Branch}
use Rattle.decimation_repair.specs.Walk.{Task, Choice, behind, Visits, dead, open_at, Walks, IsSolved, Finds, Ends, Spends, IsChoice}
use Rattle.decimation_repair.specs.Laws.{OneWalk, FoundIsSolution}

-- ---- what is found is a solution

solved-solves : (g : Graph) (prefix : Prefix) (chosen : List ℕ) → IsSolved g prefix chosen → IsSolution g chosen
solved-solves g prefix chosen s =
    let law = closure-largest g (under g prefix) in
    record {
      each = s.each;
      offered = λ p known. (and_parts (is_offered g p (get_or chosen p 0)) _ (law.within p (get_or chosen p 0) (s.here p known))).0;
      allowed = λ p q kp kq ne.
          let m = law.meets p (get_or chosen p 0) q (s.here p kp) kq (λ e. ne (sym e)) in
          subst (λ j. is_forbidden g p (get_or chosen p 0) q j ≡ false) (s.alone q m.0 m.1) m.2;
    }

pub found-solves : FoundIsSolution
found-solves f g budget chosen nodes h = solved-solves g h.task.prefix chosen h.solved

-- ---- one course

at-place : (xs : List ℕ) (k : ℕ) → k < length xs → Contains xs (get_or xs k 0)
at-place xs k h = (k, h, get_or_default xs k (get_or xs k 0) 0 h)

visit-one : (choose : Choice) → IsChoice choose → (g : Graph) (t : Task) (x y : Node) (cs ds : List Task) → Visits g choose t x cs → Visits g choose t y ds → (x ≡ y) × (cs ≡ ds)
visit-one choose law g t x y cs ds (dead v) (dead w) = (v.node_is ∙ sym w.node_is, v.children_are ∙ sym w.children_are)
visit-one choose law g t x y cs ds (dead v) (open_at w) = absurd (w.filled v.empty)
visit-one choose law g t x y cs ds (open_at v) (dead w) = absurd (v.filled w.empty)
visit-one choose law g t x y cs ds (open_at v) (open_at w) =
    let place = law.one_package g t.prefix v.place w.place v.order w.order v.chosen w.chosen in
    let order = law.one_order g t.prefix w.place v.order w.order (subst (λ p. choose g t.prefix p v.order) place v.chosen) w.chosen in
    let kind : (p : ℕ) (xs : List ℕ) → Node = λ p xs. record { state = t.state; kind = Branch p (length xs) } in (
      v.node_is ∙ ap (λ p. kind p v.order) place ∙ ap (kind w.place) order ∙ sym w.node_is,
      v.children_are ∙ ap (λ p. behind t.prefix p v.order) place ∙ ap (behind t.prefix w.place) order ∙ sym w.children_are,
    )

-- at a prefix that decides every package nothing is visited
pub solved-ends : (choose : Choice) → IsChoice choose → (g : Graph) (t : Task) (chosen : List ℕ) (x : Node) (cs : List Task) → IsSolved g t.prefix chosen → Visits g choose t x cs → ⊥
solved-ends choose law g t chosen x cs s (dead v) = v.empty.none (get_or chosen v.empty.place 0) (s.here v.empty.place v.empty.known)
solved-ends choose law g t chosen x cs s (open_at v) =
    let two = law.several g t.prefix v.place v.order v.chosen in
    let first = law.closed g t.prefix v.place v.order v.chosen (get_or v.order 0 0) (at-place v.order 0 (omega (arith, two))) in
    let second = law.closed g t.prefix v.place v.order v.chosen (get_or v.order 1 0) (at-place v.order 1 (omega (arith, two))) in
    let same = s.alone v.place (get_or v.order 0 0) first ∙ sym (s.alone v.place (get_or v.order 1 0) second) in
    let e = law.once g t.prefix v.place v.order v.chosen 0 1 (omega (arith, two)) (omega (arith, two)) same in
    omega (arith, e)

cons-head : {X : Type 0} (x y : X) (xs ys : List X) → x ∷ xs ≡ y ∷ ys → x ≡ y
cons-head x y xs ys e = cc

cons-tail : {X : Type 0} (x y : X) (xs ys : List X) → x ∷ xs ≡ y ∷ ys → xs ≡ ys
cons-tail x y xs ys e = cc

-- two visits of equal task lists go on alike
pub step-one : (choose : Choice) → IsChoice choose → (g : Graph) (ts : List Task) (t u : Task) (us vs cs ds : List Task) (x y : Node) → ts ≡ t ∷ us → ts ≡ u ∷ vs →
    Visits g choose t x cs → Visits g choose u y ds → (x ≡ y) × ((cs ++ us) ≡ (ds ++ vs))
step-one choose law g ts t u us vs cs ds x y e f v w =
    let both = sym e ∙ f in
    let same = cons-head t u us vs both in
    let rest = cons-tail t u us vs both in
    let one = visit-one choose law g u x y cs ds (subst (λ a. Visits g choose a x cs) same v) w in
    (one.0, ap (λ a. a ++ us) one.1 ∙ ap (λ a. ds ++ a) rest)

pub walks-one : (choose : Choice) → IsChoice choose → (g : Graph) (xs ys : List Node) (ts left rest : List Task) → Walks g choose ts xs left → Walks g choose ts ys rest →
    length xs ≡ length ys → (xs ≡ ys) × (left ≡ rest)
walks-one choose law g [] [] ts left rest a b e = (refl, sym a ∙ b)
walks-one choose law g [] (y ∷ ys) ts left rest a b e = absurd (omega (arith, e))
walks-one choose law g (x ∷ xs) [] ts left rest a b e = absurd (omega (arith, e))
walks-one choose law g (x ∷ xs) (y ∷ ys) ts left rest (t, us, cs, ht, v, a) (u, vs, ds, hu, w, b) e =
    let one = step-one choose law g ts t u us vs cs ds x y ht hu v w in
    let more = walks-one choose law g xs ys (ds ++ vs) left rest (subst (λ z. Walks g choose z xs left) one.1 a) b (omega (arith, e)) in
    (ap (λ z. z ∷ xs) one.0 ∙ ap (λ z. y ∷ z) more.0, more.1)

-- where a walk goes on, the next task is visited
pub record GoesOn (g : Graph) (choose : Choice) (left : List Task) : Type 0 where
  pub task : Task
  pub rest : List Task
  pub here : left ≡ task ∷ rest
  pub node : Node
  pub children : List Task
  pub visits : Visits g choose task node children

pub walk-goes-on : (choose : Choice) → IsChoice choose → (g : Graph) (xs ys : List Node) (ts left rest : List Task) → Walks g choose ts xs left → Walks g choose ts ys rest →
    length xs < length ys → GoesOn g choose left
walk-goes-on choose law g xs [] ts left rest a b e = absurd (omega (arith, e))
walk-goes-on choose law g [] (y ∷ ys) ts left rest a (u, vs, ds, hu, w, b) e = record { task = u; rest = vs; here = sym a ∙ hu; node = y; children = ds; visits = w }
walk-goes-on choose law g (x ∷ xs) (y ∷ ys) ts left rest (t, us, cs, ht, v, a) (u, vs, ds, hu, w, b) e =
    let one = step-one choose law g ts t u us vs cs ds x y ht hu v w in
    walk-goes-on choose law g xs ys (ds ++ vs) left rest (subst (λ z. Walks g choose z xs left) one.1 a) b (omega (arith, e))

-- a walk that found a solution does not go on
found-stops : (choose : Choice) → IsChoice choose → (g : Graph) (t : Task) (us : List Task) (chosen : List ℕ) → IsSolved g t.prefix chosen → GoesOn g choose (t ∷ us) → ⊥
found-stops choose law g t us chosen s w =
    let same = cons-head t w.task us w.rest w.here in
    solved-ends choose law g w.task chosen w.node w.children (subst (λ a. IsSolved g a.prefix chosen) same s) w.visits

end-stops : (choose : Choice) (g : Graph) → GoesOn g choose [] → ⊥
end-stops choose g w = let e = w.here in absurd (cc)

data Compared (m n : ℕ) : Type 0 where
  less : m < n → Compared m n
  same : m ≡ n → Compared m n
  more : n < m → Compared m n

compare : (m n : ℕ) → Compared m n
compare m n = elim (cases_lt m n) [
  | inl a ↦ less a
  | inr b ↦ elim (cases_eq m n) [
    | inl e ↦ same e
    | inr ne ↦ more (omega (arith, b, ne))
  ]
]

solved-one : (g : Graph) (t u : Task) (one other : List ℕ) → t ≡ u → IsSolved g t.prefix one → IsSolved g u.prefix other → one ≡ other
solved-one g t u one other e s r =
    let v = subst (λ a. IsSolved g a.prefix one) e s in
    let a = v.each in
    let b = r.each in
    ext_get_or 0 one other (a ∙ sym b) (λ p inside. r.alone p (get_or one p 0) (v.here p (omega (arith, inside, a))))

finds-one : (choose : Choice) → IsChoice choose → (g : Graph) (m n : ℕ) (one other : List ℕ) (xs ys : List Node) → Finds g choose m one xs → Finds g choose n other ys →
    Compared (length xs) (length ys) → (one ≡ other) × (xs ≡ ys)
finds-one choose law g m n one other xs ys f h (less c) = absurd (found-stops choose law g f.task f.rest one f.solved (walk-goes-on choose law g xs ys _ _ _ f.walks h.walks c))
finds-one choose law g m n one other xs ys f h (more c) = absurd (found-stops choose law g h.task h.rest other h.solved (walk-goes-on choose law g ys xs _ _ _ h.walks f.walks c))
finds-one choose law g m n one other xs ys f h (same c) =
    let w = walks-one choose law g xs ys _ _ _ f.walks h.walks c in
    (solved-one g f.task h.task one other (cons-head f.task h.task f.rest h.rest w.1) f.solved h.solved, w.0)

ends-one : (choose : Choice) → IsChoice choose → (g : Graph) (m n : ℕ) (xs ys : List Node) → Ends g choose m xs → Ends g choose n ys → Compared (length xs) (length ys) → xs ≡ ys
ends-one choose law g m n xs ys f h (less c) = absurd (end-stops choose g (walk-goes-on choose law g xs ys _ _ _ f.walks h.walks c))
ends-one choose law g m n xs ys f h (more c) = absurd (end-stops choose g (walk-goes-on choose law g ys xs _ _ _ h.walks f.walks c))
ends-one choose law g m n xs ys f h (same c) = (walks-one choose law g xs ys _ _ _ f.walks h.walks c).0

not-both : (choose : Choice) → IsChoice choose → (g : Graph) (m n : ℕ) (one : List ℕ) (xs ys : List Node) → Finds g choose m one xs → Ends g choose n ys → Compared (length xs) (length ys) → ⊥
not-both choose law g m n one xs ys f h (less c) = found-stops choose law g f.task f.rest one f.solved (walk-goes-on choose law g xs ys _ _ _ f.walks h.walks c)
not-both choose law g m n one xs ys f h (more c) = end-stops choose g (walk-goes-on choose law g ys xs _ _ _ h.walks f.walks c)
not-both choose law g m n one xs ys f h (same c) = let e = (walks-one choose law g xs ys _ _ _ f.walks h.walks c).1 in absurd (cc)

found-or-spent : (choose : Choice) → IsChoice choose → (g : Graph) (n : ℕ) (one : List ℕ) (xs ys : List Node) → Finds g choose n one xs → Spends g choose n ys → Compared (length xs) (length ys) → ⊥
found-or-spent choose law g n one xs ys f h (less c) = found-stops choose law g f.task f.rest one f.solved (walk-goes-on choose law g xs ys _ _ _ f.walks h.walks c)
found-or-spent choose law g n one xs ys f h (more c) = let a = f.within in let b = h.spent in omega (arith, a, b, c)
found-or-spent choose law g n one xs ys f h (same c) =
    let e = (walks-one choose law g xs ys _ _ _ f.walks h.walks c).1 in
    let same = cons-head f.task h.task f.rest h.rest e in
    solved-ends choose law g h.task one h.next h.children (subst (λ a. IsSolved g a.prefix one) same f.solved) h.visits

end-or-spent : (choose : Choice) → IsChoice choose → (g : Graph) (n : ℕ) (xs ys : List Node) → Ends g choose n xs → Spends g choose n ys → Compared (length xs) (length ys) → ⊥
end-or-spent choose law g n xs ys f h (less c) = end-stops choose g (walk-goes-on choose law g xs ys _ _ _ f.walks h.walks c)
end-or-spent choose law g n xs ys f h (more c) = let a = f.within in let b = h.spent in omega (arith, a, b, c)
end-or-spent choose law g n xs ys f h (same c) = let e = (walks-one choose law g xs ys _ _ _ f.walks h.walks c).1 in absurd (cc)

pub one-walk : (choose : Choice) → IsChoice choose → OneWalk choose
one-walk choose law = record {
  finds = λ g m n one other xs ys f h. finds-one choose law g m n one other xs ys f h (compare (length xs) (length ys));
  ends = λ g m n xs ys f h. ends-one choose law g m n xs ys f h (compare (length xs) (length ys));
  spends = λ g n xs ys f h. (walks-one choose law g xs ys _ _ _ f.walks h.walks (f.spent ∙ sym h.spent)).0;
  finds_or_ends = λ g m n one xs ys f h. not-both choose law g m n one xs ys f h (compare (length xs) (length ys));
  finds_or_spends = λ g n one xs ys f h. found-or-spent choose law g n one xs ys f h (compare (length xs) (length ys));
  ends_or_spends = λ g n xs ys f h. end-or-spent choose law g n xs ys f h (compare (length xs) (length ys));
}
