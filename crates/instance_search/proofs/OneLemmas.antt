-- An instance has one answer.
use Rattle.std.proofs.Common.{◌≡◌, ◌≢◌, ℕ, ◌+◌, ◌<◌, true, not, ◌&&◌, List, [], length, get_or, map, refl, sym, ◌∙◌, ap, subst, arith, inl, inr, eqb, ltb}
use Rattle.std.proofs.lemmas.Bool.{cases_lt, cases_Bool, and_parts, and_from, eq-eqb, eqb-true, le-ltb}
use Rattle.std.proofs.lemmas.List.{ext_get_or, get_or-map, length-map, get_or_default}
use Rattle.version_graph.specs.Graph.{Graph, packages, states, is_barred, is_offered, is_forbidden, IsGraph, IsListOf}
use Rattle.version_graph.specs.Part.{Part, package_of, states_of, state_of}
use Rattle.graph_pruning.specs.Pruned.{Pruning, left, OnePruning, SamePruning}
use Rattle.graph_pruning.specs.Marked.{does_stand}
use Rattle.graph_pruning.specs.Reduced.{IsStanding, IsReduction, IsWidenedTo}
use Rattle.graph_pruning.proofs.PruneLemmas.{same_truth}
use Rattle.refutation_log.specs.Moved.{moved_nodes}
use Rattle.raise_pass.specs.Finishing.{Finishes}
use Rattle.raise_pass.specs.Laws.{OneFinish}
use Rattle.maxsum_messages.proofs.OneList.{list-one}
use Rattle.decimation_repair.specs.Levels.{Levels, zero_levels}
use Rattle.decimation_repair.specs.Choice.{BeliefChoice}
use Rattle.decimation_repair.specs.Laws.{OneWalk, WalkIsOne}
use Rattle.instance_search.specs.Rated.{AreRated}
use Rattle.instance_search.specs.Searched.{IsFinishedFrom, EndsByWalk, EndsAtOnce, IsWalked, IsDeadEnd, at_once, by_walk}
use Rattle.instance_search.specs.Laws.{TellSame, AnswerIsOne}
use Rattle.instance_search.specs.declared.answer.Answer.{Answer}
use Rattle.instance_search.specs.declared.answer.Answer.TheVariants.{Found, Empty, Spent}
use Rattle.instance_search.proofs.FrontLemmas.{written_moved}
use Rattle.instance_search.proofs.AlikeLemmas.{Alike, finds_on, ends_on, spends_on}

-- ---- one pruning

same-pruning : (a b : Pruning) → SamePruning a b → a ≡ b
same-pruning a b s = λ n. record { closed = λ p i. s.domains p i n; kept = λ p. s.packages p n; standing = λ p i. s.classes p i n }

-- ---- one part

pair-same : (x y : ℕ × List ℕ) → x.0 ≡ y.0 → x.1 ≡ y.1 → x ≡ y
pair-same (a, xs) (b, ys) e f = λ n. (e n, f n)

stands-from : (g : Graph) (pr : Pruning) (p i : ℕ) → does_stand (left g pr) pr.standing p i ≡ true → IsStanding (left g pr) pr.standing p i
stands-from g pr p i e =
    let parts = and_parts (left g pr p i) (eqb (pr.standing p i) i) e in
    record { inside = parts.0; itself = eqb-true (pr.standing p i) i parts.1 }

does-stand : (g : Graph) (pr : Pruning) (p i : ℕ) → IsStanding (left g pr) pr.standing p i → does_stand (left g pr) pr.standing p i ≡ true
does-stand g pr p i s = and_from (left g pr p i) (eqb (pr.standing p i) i) s.inside (eq-eqb (pr.standing p i) i s.itself)

-- the packages of the part
numbers : Part → List ℕ
numbers b = map (λ (x : ℕ × List ℕ). x.0) b

number-at : (b : Part) (p : ℕ) → p < length b → get_or (numbers b) p 0 ≡ package_of b p
unfolding numbers
number-at b p low = get_or-map (λ (x : ℕ × List ℕ). x.0) b p (0, []) 0 low

module _ (g : Graph) (pr : Pruning) (h : Graph) (b : Part) (r : IsReduction g pr h b) where
  long : length (numbers b) ≡ packages h
  unfolding numbers
  long = length-map b (λ (x : ℕ × List ℕ). x.0) ∙ r.reduced.each

  number-there : (p : ℕ) → p < packages h → get_or (numbers b) p 0 ≡ package_of b p
  number-there p known = (let e = r.reduced.each in number-at b p (omega (arith, known, e)))

  packages-listed : IsListOf pr.kept (numbers b)
  packages-listed = record {
    rising = λ k low.
        let here = number-there k (omega (arith, low, long)) in
        let next = number-there (k + 1) (omega (arith, low, long)) in
        let up = r.reduced.rising k (k + 1) (omega arith) (omega (arith, low, long)) in
        omega (arith, here, next, up);
    sound = λ k low. (let known : k < packages h = omega (arith, low, long) in ap pr.kept (number-there k known) ∙ r.reduced.sound k known);
    whole = λ q there.
        let n = r.reduced.whole q there in
        let low : n.0 < length (numbers b) = omega (arith, n.1, long) in
        (n.0, low, get_or_default (numbers b) n.0 q 0 low ∙ number-there n.0 n.1 ∙ n.2);
  }

  states-listed : (p : ℕ) → p < packages h → IsListOf (does_stand (left g pr) pr.standing (package_of b p)) (states_of b p)
  states-listed p known =
      let wide = r.reduced.wide p known in
      record {
        rising = λ k low. r.reduced.states_rising p k (k + 1) known (omega arith) (omega (arith, low, wide));
        sound = λ k low. does-stand g pr (package_of b p) (state_of b p k) (r.reduced.states_sound p k known (omega (arith, low, wide)));
        whole = λ q there.
            let n = r.reduced.states_whole p q known (stands-from g pr (package_of b p) q there) in
            let low : n.0 < length (states_of b p) = omega (arith, n.1, wide) in
            (n.0, low, get_or_default (states_of b p) n.0 q 0 low ∙ n.2);
      }

module _ (g : Graph) (pr : Pruning) (h k : Graph) (b c : Part) (r : IsReduction g pr h b) (s : IsReduction g pr k c) where
  same-numbers : numbers b ≡ numbers c
  same-numbers = list-one pr.kept (numbers b) (numbers c) (packages-listed g pr h b r) (packages-listed g pr k c s)

  same-count : packages h ≡ packages k
  same-count = sym (long g pr h b r) ∙ ap length same-numbers ∙ long g pr k c s

  same-package : (p : ℕ) → p < packages h → package_of b p ≡ package_of c p
  same-package p known = sym (number-there g pr h b r p known) ∙ ap (λ l. get_or l p 0) same-numbers ∙ number-there g pr k c s p (omega (arith, known, same-count))

  same-states : (p : ℕ) → p < packages h → states_of b p ≡ states_of c p
  same-states p known =
      list-one (does_stand (left g pr) pr.standing (package_of c p)) (states_of b p) (states_of c p)
      (subst (λ q. IsListOf (does_stand (left g pr) pr.standing q) (states_of b p)) (same-package p known) (states-listed g pr h b r p known))
      (states-listed g pr k c s p (omega (arith, known, same-count)))

  same-part : b ≡ c
  same-part =
      ext_get_or (0, []) b c (r.reduced.each ∙ same-count ∙ sym s.reduced.each)
      (λ p low. (let e = r.reduced.each in let known : p < packages h = omega (arith, low, e) in pair-same (get_or b p (0, [])) (get_or c p (0, [])) (same-package p known) (same-states p known)))

-- ---- pruned instances of one part are alike

offered-told : (h : Graph) (p i : ℕ) → is_offered h p i ≡ (ltb p (packages h) && (ltb i (states h p) && not (is_barred h p i)))
unfolding is_offered
offered-told h p i = refl

module _ (g : Graph) (pr : Pruning) (h k : Graph) (b : Part) (sound : IsGraph h) (also : IsGraph k) (r : IsReduction g pr h b) (s : IsReduction g pr k b) where
  count-alike : packages h ≡ packages k
  count-alike = sym r.reduced.each ∙ s.reduced.each

  wide-alike : (p : ℕ) → p < packages h → states h p ≡ states k p
  wide-alike p known = sym (r.reduced.wide p known) ∙ s.reduced.wide p (omega (arith, known, count-alike))

  sizes-alike : h.sizes ≡ k.sizes
  sizes-alike = ext_get_or 0 h.sizes k.sizes count-alike wide-alike

  barred-alike : (p i : ℕ) → p < packages h → i < states h p → is_barred h p i ≡ is_barred k p i
  barred-alike p i known state =
      let wide = wide-alike p known in
      r.reduced.barred p i known state ∙ sym (s.reduced.barred p i (omega (arith, known, count-alike)) (omega (arith, state, wide)))

  offered-alike : (p i : ℕ) → is_offered h p i ≡ is_offered k p i
  offered-alike p i =
      offered-told h p i
      ∙ (λ n. ltb p (length (sizes-alike n)) && (ltb i (get_or (sizes-alike n) p 0) && not (is_barred h p i)))
      ∙ elim (cases_lt p (packages k)) [
        | inl known ↦ elim (cases_lt i (states k p)) [
          | inl state ↦
              let here : p < packages h = omega (arith, known, count-alike) in
              let wide = wide-alike p here in
              ap (λ x. ltb p (packages k) && (ltb i (states k p) && not x)) (barred-alike p i here (omega (arith, state, wide)))
          | inr past ↦
              ap (λ x. ltb p (packages k) && (x && not (is_barred h p i))) (le-ltb i (states k p) past)
              ∙ sym (ap (λ x. ltb p (packages k) && (x && not (is_barred k p i))) (le-ltb i (states k p) past))
        ]
        | inr past ↦
            ap (λ x. x && (ltb i (states k p) && not (is_barred h p i))) (le-ltb p (packages k) past)
            ∙ sym (ap (λ x. x && (ltb i (states k p) && not (is_barred k p i))) (le-ltb p (packages k) past))
      ]
      ∙ sym (offered-told k p i)

  forbidden-alike : (p i q j : ℕ) → is_forbidden h p i q j ≡ is_forbidden k p i q j
  forbidden-alike p i q j = same_truth (is_forbidden h p i q j) (is_forbidden k p i q j) to from
    where
      both : p < packages h → i < states h p → q < packages h → j < states h q → p ≢ q → is_forbidden h p i q j ≡ is_forbidden k p i q j
      both first first_state second second_state apart =
          let wide = wide-alike p first in
          let far = wide-alike q second in
          r.reduced.forbidden p i q j first first_state second second_state apart
          ∙ sym (s.reduced.forbidden p i q j (omega (arith, first, count-alike)) (omega (arith, first_state, wide)) (omega (arith, second, count-alike)) (omega (arith, second_state, far)) apart)

      to : is_forbidden h p i q j ≡ true → is_forbidden k p i q j ≡ true
      to e = (let t = sound.between p i q j e in sym (both t.first t.first_state t.second t.second_state t.apart) ∙ e)

      from : is_forbidden k p i q j ≡ true → is_forbidden h p i q j ≡ true
      from e =
          let t = also.between p i q j e in
          let first : p < packages h = (let x = t.first in omega (arith, x, count-alike)) in
          let second : q < packages h = (let x = t.second in omega (arith, x, count-alike)) in
          let wide = wide-alike p first in
          let far = wide-alike q second in
          both first (let x = t.first_state in omega (arith, x, wide)) second (let x = t.second_state in omega (arith, x, far)) t.apart ∙ e

  alike : Alike h k
  alike = record { sizes = sizes-alike; offered = offered-alike; forbidden = forbidden-alike }

-- ---- one list of weights

same-weights : (g h k : Graph) (b : Part) (f e : List (List Levels)) → h.sizes ≡ k.sizes → AreRated g h b f → AreRated g k b e → f ≡ e
same-weights g h k b f e sizes a c =
    ext_get_or [] f e (a.shape.each ∙ count ∙ sym c.shape.each) (λ p low. row p (let l = a.shape.each in omega (arith, low, l)))
  where
    count : packages h ≡ packages k
    count = ap length sizes

    row : (p : ℕ) → p < packages h → get_or f p [] ≡ get_or e p []
    row p known =
        let there : p < packages k = omega (arith, known, count) in
        let wide : states h p ≡ states k p = ap (λ l. get_or l p 0) sizes in
        ext_get_or zero_levels (get_or f p []) (get_or e p []) (a.shape.wide p known ∙ wide ∙ sym (c.shape.wide p there))
        (λ i low.
        let state : i < states h p = (let l = a.shape.wide p known in omega (arith, low, l)) in
        a.each p i known state ∙ sym (c.each p i there (omega (arith, state, wide))))

-- ---- one end

-- the end of the walk of an instance is that of one that is alike
end-alike : (g : Graph) (pr : Pruning) (h k : Graph) (b : Part) (f : List (List Levels)) (budget : ℕ) (answer : Answer) → Alike k h → EndsByWalk g pr k b f budget answer → EndsByWalk g pr h b f budget answer
end-alike g pr h k b f budget (Found states count) a e = record {
  chosen = e.chosen;
  nodes = e.nodes;
  finds = finds_on k h a f budget e.chosen e.nodes e.finds;
  counted = e.counted;
  finished = record {
    widened = e.finished.widened;
    is_widened = record {
      each = e.finished.is_widened.each;
      kept = λ p known. e.finished.is_widened.kept p (let s = ap length a.sizes in omega (arith, known, s));
      absent = e.finished.is_widened.absent;
    };
    finishes = e.finished.finishes;
  };
}
end-alike g pr h k b f budget (Empty log) a e = record { nodes = e.nodes; ends = ends_on k h a f budget e.nodes e.ends; written = e.written }
end-alike g pr h k b f budget (Spent log) a e = record { nodes = e.nodes; spends = spends_on k h a f budget e.nodes e.spends; written = e.written }

module _ (one-finish : OneFinish) (g : Graph) (pr : Pruning) (h : Graph) (b : Part) (f : List (List Levels)) (budget : ℕ) (r : IsReduction g pr h b) where
  one-widened : (ys xs zs : List ℕ) → IsWidenedTo g pr h b ys xs → IsWidenedTo g pr h b ys zs → xs ≡ zs
  one-widened ys xs zs v w = ext_get_or 0 xs zs (v.each ∙ sym w.each) (λ p low. at p (let e = v.each in omega (arith, low, e)))
    where
      at : (p : ℕ) → p < packages g → get_or xs p 0 ≡ get_or zs p 0
      at p known = elim (cases_Bool (pr.kept p)) [
        | inl kept ↦
            let n = r.reduced.whole p kept in
            ap (λ q. get_or xs q 0) (sym n.2) ∙ v.kept n.0 n.1 ∙ sym (w.kept n.0 n.1) ∙ ap (λ q. get_or zs q 0) n.2
        | inr away ↦ v.absent p known away ∙ sym (w.absent p known away)
      ]

  one-finished : (ys xs zs : List ℕ) → IsFinishedFrom g pr h b ys xs → IsFinishedFrom g pr h b ys zs → xs ≡ zs
  one-finished ys xs zs v w =
      one-finish g v.widened xs zs v.is_widened.each v.finishes (subst (λ l. Finishes g l zs) (one-widened ys w.widened v.widened w.is_widened v.is_widened) w.finishes)

  one-end : OneWalk (BeliefChoice f) → (one other : Answer) → EndsByWalk g pr h b f budget one → EndsByWalk g pr h b f budget other → TellSame one other
  one-end walk (Found states count) (Found more number) v w =
      let same = walk.finds h budget budget v.chosen w.chosen v.nodes w.nodes v.finds w.finds in (
        one-finished v.chosen states.items more.items v.finished (subst (λ l. IsFinishedFrom g pr h b l more.items) (sym same.0) w.finished),
        v.counted ∙ ap length same.1 ∙ sym w.counted,
      )
  one-end walk (Found states count) (Empty log) v w = absurd (walk.finds_or_ends h budget budget v.chosen v.nodes w.nodes v.finds w.ends)
  one-end walk (Found states count) (Spent log) v w = absurd (walk.finds_or_spends h budget v.chosen v.nodes w.nodes v.finds w.spends)
  one-end walk (Empty log) (Found states count) v w = absurd (walk.finds_or_ends h budget budget w.chosen w.nodes v.nodes w.finds v.ends)
  one-end walk (Empty log) (Empty more) v w =
      written_moved b v.nodes log.items v.written
      ∙ ap (moved_nodes b []) (walk.ends h budget budget v.nodes w.nodes v.ends w.ends)
      ∙ sym (written_moved b w.nodes more.items w.written)
  one-end walk (Empty log) (Spent more) v w = absurd (walk.ends_or_spends h budget v.nodes w.nodes v.ends w.spends)
  one-end walk (Spent log) (Found states count) v w = absurd (walk.finds_or_spends h budget w.chosen w.nodes v.nodes w.finds v.spends)
  one-end walk (Spent log) (Empty more) v w = absurd (walk.ends_or_spends h budget w.nodes v.nodes w.ends v.spends)
  one-end walk (Spent log) (Spent more) v w =
      written_moved b v.nodes log.items v.written
      ∙ ap (moved_nodes b []) (walk.spends h budget v.nodes w.nodes v.spends w.spends)
      ∙ sym (written_moved b w.nodes more.items w.written)

-- ---- one answer

-- the same walk, told by the pruning, the part and the weights of the first one
one-walked : WalkIsOne → OnePruning → OneFinish → (g : Graph) (budget : ℕ) (one other : Answer) → IsWalked g budget one → IsWalked g budget other → TellSame one other
one-walked walk prune finish g budget one other v w =
    let h = v.pruned in
    let k = w.pruned in
    let r = v.reduction in
    let pr = v.pruning in
    let prunes : w.pruning ≡ pr = same-pruning w.pruning pr (prune g w.pruning pr w.reduction.pruning r.pruning) in
    let s : IsReduction g pr k w.back = subst (λ z. IsReduction g z k w.back) prunes w.reduction in
    let parts : w.back ≡ v.back = same-part g pr k h w.back v.back s r in
    let t : IsReduction g pr k v.back = subst (IsReduction g pr k) parts s in
    let like : Alike k h = alike g pr k h v.back w.sound v.sound t r in
    let weights : w.weights ≡ v.weights = same-weights g k h v.back w.weights v.weights like.sizes (subst (λ z. AreRated g k z w.weights) parts w.rated) v.rated in
    let ends : EndsByWalk g pr k v.back v.weights budget other =
    subst (λ z. EndsByWalk g pr k v.back z budget other) weights (subst (λ z. EndsByWalk g pr k z w.weights budget other) parts (subst (λ z. EndsByWalk g z k w.back w.weights budget other) prunes w.ends)) in
    one-end finish g pr h v.back v.weights budget r (walk v.weights) one other v.ends (end-alike g pr h k v.back v.weights budget other like ends)

-- a dead end has no walk
no-walk : (g : Graph) (budget : ℕ) (one other : Answer) → IsDeadEnd g budget one → IsWalked g budget other → ⊥
no-walk g budget one other d w =
    let e = d.empty in
    let s = w.reduction.filled.some e.place e.known in
    e.none s.0 (w.reduction.pruning.closure.sound e.place s.0 s.1)

one-dead : (budget : ℕ) (one other : Answer) → EndsAtOnce budget one → EndsAtOnce budget other → TellSame one other
one-dead budget (Found states count) other d e = absurd d
one-dead budget one (Found states count) d e = absurd e
one-dead budget (Empty log) (Empty more) d e = d.1 ∙ sym e.1
one-dead budget (Empty log) (Spent more) d e = absurd (let some = d.0 in let none = e.0 in omega (arith, some, none))
one-dead budget (Spent log) (Empty more) d e = absurd (let none = d.0 in let some = e.0 in omega (arith, some, none))
one-dead budget (Spent log) (Spent more) d e = d.1 ∙ sym e.1

pub one_answer : WalkIsOne → OnePruning → OneFinish → AnswerIsOne
one_answer walk prune finish g budget one other (at_once d) (at_once e) = one-dead budget one other d.ends e.ends
one_answer walk prune finish g budget one other (at_once d) (by_walk w) = absurd (no-walk g budget one other d w)
one_answer walk prune finish g budget one other (by_walk v) (at_once e) = absurd (no-walk g budget other one e v)
one_answer walk prune finish g budget one other (by_walk v) (by_walk w) = one-walked walk prune finish g budget one other v w
