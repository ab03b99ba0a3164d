-- The pruned instance, and that nothing is lost in it: its solutions are those of the instance, and so are the
-- closures under each prefix. A pruned instance needn't be plain: its last state may be an offer. (own rule)
use Rattle.std.specs.Prelude.{◌≡◌, ◌≢◌, ℕ, ◌<◌, Bool, true, false, ◌&&◌, nat_lt, List, [], ◌∷◌, length, map, slice_index, ◌↔◌}
use Rattle.version_graph.specs.Graph.{Graph, packages, states, last, is_barred, is_forbidden, IsGraph, IsPlain, IsSolution}
use Rattle.version_graph.specs.Family.{Family, IsFilled, InClosure, HasEmpty, agrees, under}
use Rattle.version_graph.specs.Part.{Part, package_of, states_of, state_of}
use Rattle.graph_pruning.specs.Pruned.{Pruning, left, IsPruningOf, IsUnpruned}

-- a state of the domains that stands for its class
pub record IsStanding (f : Family) (standing : ℕ → ℕ → ℕ) (p i : ℕ) : Type 0 where
  pub inside : f p i ≡ true
  pub itself : standing p i ≡ i

-- h has the kept packages and the standing states of the domains, in order, with the allowed pairs that they have;
-- b has their numbers before
pub record IsReducedTo (g : Graph) (f : Family) (kept : ℕ → Bool) (standing : ℕ → ℕ → ℕ) (h : Graph) (b : Part) : Type 0 where
  pub each : length b ≡ packages h
  pub wide : (p : ℕ) → p < packages h → length (states_of b p) ≡ states h p
  pub rising : (p q : ℕ) → p < q → q < packages h → package_of b p < package_of b q
  pub sound : (p : ℕ) → p < packages h → kept (package_of b p) ≡ true
  pub whole : (p : ℕ) → kept p ≡ true → (n : ℕ) × (n < packages h) × (package_of b n ≡ p)
  pub states_rising : (p i j : ℕ) → p < packages h → i < j → j < states h p → state_of b p i < state_of b p j
  pub states_sound : (p i : ℕ) → p < packages h → i < states h p → IsStanding f standing (package_of b p) (state_of b p i)
  pub states_whole : (p i : ℕ) → p < packages h → IsStanding f standing (package_of b p) i → (n : ℕ) × (n < states h p) × (state_of b p n ≡ i)
  pub barred : (p i : ℕ) → p < packages h → i < states h p → is_barred h p i ≡ is_barred g (package_of b p) (state_of b p i)
  pub forbidden : (p i q j : ℕ) → p < packages h → i < states h p → q < packages h → j < states h q → p ≢ q →
      is_forbidden h p i q j ≡ is_forbidden g (package_of b p) (state_of b p i) (package_of b q) (state_of b q j)

-- a plain instance with its pruning and its pruned instance, where no closed domain is empty
pub record IsReduction (g : Graph) (pr : Pruning) (h : Graph) (b : Part) : Type 0 where
  pub graph : IsGraph g
  pub plain : IsPlain g
  pub pruning : IsPruningOf g pr
  pub filled : IsFilled g pr.closed
  pub reduced : IsReducedTo g (left g pr) pr.kept pr.standing h b

-- the choices by their numbers before pruning
abbrev pub before : Part → List (ℕ × ℕ) → List (ℕ × ℕ)
before b prefix = map (λ c. (package_of b c.0, state_of b c.0 c.1)) prefix

-- each choice is of a state that there is
abbrev pub AreKnown : Graph → List (ℕ × ℕ) → Type 0
AreKnown h [] = Unit {0}
AreKnown h (c ∷ cs) = (c.0 < packages h) × (c.1 < states h c.0) × AreKnown h cs

-- the closures under the same choices: a state that is closed in the instance has its standing one closed in the
-- pruned instance, what is closed there stands for closed states alone, and both have empty domains or neither
pub record ClosuresCorrespond (g : Graph) (pr : Pruning) (h : Graph) (b : Part) (prefix : List (ℕ × ℕ)) : Type 0 where
  pub down : (p i j : ℕ) → p < packages h → j < states h p → pr.standing (package_of b p) i ≡ state_of b p j →
      InClosure g (under g (before b prefix)) (package_of b p) i → InClosure h (under h prefix) p j
  pub up : (p i j : ℕ) → left g pr (package_of b p) i ≡ true → agrees (before b prefix) (package_of b p) i ≡ true →
      pr.standing (package_of b p) i ≡ state_of b p j → InClosure h (under h prefix) p j → InClosure g (under g (before b prefix)) (package_of b p) i
  pub empty : HasEmpty h (under h prefix) ↔ HasEmpty g (under g (before b prefix))

-- ys are the states xs of the kept packages, mapped through the classes
pub record IsCutTo (pr : Pruning) (h : Graph) (b : Part) (xs ys : List ℕ) : Type 0 where
  pub each : length ys ≡ packages h
  pub known : (p : ℕ) → p < packages h → slice_index ys p < states h p
  pub stands : (p : ℕ) → p < packages h → state_of b p (slice_index ys p) ≡ pr.standing (package_of b p) (slice_index xs (package_of b p))

-- xs are the states ys by their numbers before pruning, with every other package absent
pub record IsWidenedTo (g : Graph) (pr : Pruning) (h : Graph) (b : Part) (ys xs : List ℕ) : Type 0 where
  pub each : length xs ≡ packages g
  pub kept : (p : ℕ) → p < packages h → slice_index xs (package_of b p) ≡ state_of b p (slice_index ys p)
  pub absent : (p : ℕ) → p < packages g → pr.kept p ≡ false → slice_index xs p ≡ last g p

-- each solution of the instance, cut to kept packages and mapped through the classes, solves the pruned instance,
-- and each solution of the pruned instance, with every other package absent, solves the instance
pub record SolutionsCorrespond (g : Graph) (pr : Pruning) (h : Graph) (b : Part) : Type 0 where
  pub cut : (xs ys : List ℕ) → IsSolution g xs → IsCutTo pr h b xs ys → IsSolution h ys
  pub cuts : (xs : List ℕ) → IsSolution g xs → (ys : List ℕ) × IsCutTo pr h b xs ys
  pub widened : (ys xs : List ℕ) → IsSolution h ys → IsWidenedTo g pr h b ys xs → IsSolution g xs
  pub widens : (ys : List ℕ) → IsSolution h ys → (xs : List ℕ) × IsWidenedTo g pr h b ys xs

-- ---- laws

abbrev pub PruningKeepsClosures : Type 0
PruningKeepsClosures = (g : Graph) (pr : Pruning) (h : Graph) (b : Part) → IsReduction g pr h b →
    (prefix : List (ℕ × ℕ)) → AreKnown h prefix → ClosuresCorrespond g pr h b prefix

abbrev pub PruningKeepsSolutions : Type 0
PruningKeepsSolutions = (g : Graph) (pr : Pruning) (h : Graph) (b : Part) → IsReduction g pr h b → SolutionsCorrespond g pr h b

-- every package and every state, where no two states are taken for one
abbrev pub whole_of : Graph → Pruning
whole_of h = record { closed = λ p i. nat_lt p (packages h) && nat_lt i (states h p); kept = λ p. nat_lt p (packages h); standing = λ p i. i }

-- of a pruned instance nothing is pruned again: each of its states is closed where nothing is chosen
abbrev pub ReducedIsWhole : Type 0
ReducedIsWhole = (g : Graph) (pr : Pruning) (h : Graph) (b : Part) → IsReduction g pr h b → IsUnpruned h (whole_of h)
