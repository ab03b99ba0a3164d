-- The states of a solution of the pruned instance, written by their numbers before pruning one package after another.
use Rattle.std.proofs.Common.{◌≡◌, ◌≢◌, ℕ, ◌+◌, ◌<◌, ◌≤◌, true, false, List, length, get_or, set, sym, ◌∙◌, ap, arith, inl, inr}
use Rattle.std.proofs.lemmas.Bool.{cases_lt, both_ways}
use Rattle.std.proofs.lemmas.List.{length-set, get_or-set_same, get_or-set_other}
use Rattle.version_graph.specs.Graph.{Graph, packages, last}
use Rattle.version_graph.specs.Part.{Part, package_of, state_of}
use Rattle.graph_pruning.specs.Pruned.{Pruning}
use Rattle.graph_pruning.specs.Reduced.{IsReduction, IsWidenedTo}
use Rattle.graph_pruning.proofs.ReduceLemmas.{home, package_same}

-- the packages of the places below n have their states, and those without such a place are absent
pub record WidensBelow (g : Graph) (b : Part) (ys : List ℕ) (n : ℕ) (xs : List ℕ) : Type 0 where
  pub each : length xs ≡ packages g
  pub kept : (p : ℕ) → p < n → get_or xs (package_of b p) 0 ≡ state_of b p (get_or ys p 0)
  pub rest : (q : ℕ) → q < packages g → ((p : ℕ) → p < n → package_of b p ≢ q) → get_or xs q 0 ≡ last g q

pub widens_none : (g : Graph) (b : Part) (ys xs : List ℕ) → length xs ≡ packages g → ((p : ℕ) → p < packages g → get_or xs p 0 ≡ last g p) → WidensBelow g b ys 0 xs
widens_none g b ys xs each away = record {
  each = each;
  kept = λ p h. absurd (omega (arith, h));
  rest = λ q h apart. away q h;
}

module _ (g : Graph) (pr : Pruning) (h : Graph) (b : Part) (r : IsReduction g pr h b) (ys : List ℕ) where
  pub widens_more : (n : ℕ) (xs : List ℕ) → n < packages h → WidensBelow g b ys n xs → WidensBelow g b ys (n + 1) (set xs (package_of b n) (state_of b n (get_or ys n 0)))
  widens_more n xs known w =
      let v = state_of b n (get_or ys n 0) in
      record {
        each = length-set xs (package_of b n) v ∙ w.each;
        kept = λ p below. elim (cases_lt p n) [
          | inl l ↦
              get_or-set_other xs (package_of b n) (package_of b p) v 0 (λ e. absurd (omega (arith, l, package_same g pr h b r p n (omega (arith, l, known)) known e)))
              ∙ w.kept p l
          | inr l ↦
              let e : p ≡ n = omega (arith, below, l) in
              ap (λ k. get_or (set xs (package_of b n) v) (package_of b k) 0) e
              ∙ get_or-set_same xs (package_of b n) v 0 (omega (arith, home g pr h b r n known, w.each))
              ∙ ap (λ k. state_of b k (get_or ys k 0)) (sym e)
        ];
        rest = λ q inside apart.
            get_or-set_other xs (package_of b n) q v 0 (λ e. apart n (omega arith) (sym e))
            ∙ w.rest q inside (λ p below. apart p (omega (arith, below)));
      }

  pub widens_all : (xs : List ℕ) → WidensBelow g b ys (packages h) xs → IsWidenedTo g pr h b ys xs
  widens_all xs w = record {
    each = w.each;
    kept = w.kept;
    absent = λ q inside out. w.rest q inside (λ p below e. both_ways _ out (ap pr.kept (sym e) ∙ r.reduced.sound p below));
  }
