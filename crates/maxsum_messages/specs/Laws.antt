-- What is true of rounds and choices, for every lawful weight, and of the domains that a round takes.
use Rattle.std.specs.Prelude.{◌≡◌, ℕ, ◌<◌, Bool, true, false, List, length, ◌⊎◌}
use Rattle.std.specs.declared.cmp.Ordering.{Ordering}
use Rattle.version_graph.specs.Graph.{Graph, packages, is_forbidden}
use Rattle.version_graph.specs.Family.{Family, IsStable, IsClosureOf}
use Rattle.maxsum_messages.specs.Post.{Post, senders_of, message, IsPostFor, IsSilent}
use Rattle.maxsum_messages.specs.Round.{IsMessage, IsRound, AreRounds}
use Rattle.maxsum_messages.specs.Belief.{belief}
use Rattle.maxsum_messages.specs.Choice.{IsSingle, IsChosen, AreInOrder}

-- a closure is stable
abbrev pub ClosureIsStable : Type 0
ClosureIsStable = (g : Graph) (f s : Family) → IsClosureOf g f s → IsStable g s

-- the same neighbours, and from each of them the same message to each state
pub record SaySame {W : Type 0} (none : W) (g : Graph) (m n : Post W) : Type 0 where
  pub senders : (q : ℕ) → q < packages g → senders_of m q ≡ senders_of n q
  pub each : (q k j : ℕ) → q < packages g → k < length (senders_of m q) → message none m q k j ≡ message none n q k j

-- nothing is forbidden between the states that are left of p and of q
pub record IsFree (g : Graph) (d : Family) (p q : ℕ) : Type 0 where
  pub allowed : (i j : ℕ) → d p i ≡ true → d q j ≡ true → is_forbidden g p i q j ≡ false

-- p has nothing to tell q: one of the two has one state left, or nothing is forbidden between them
abbrev pub HasNothingToTell : Graph → Family → ℕ → ℕ → Type 0
HasNothingToTell g d p q = IsSingle (d p) ⊎ (IsSingle (d q) ⊎ IsFree g d p q)

-- messages of one instance that are all zero say the same
abbrev pub SilenceIsOne : {W : Type 0} → W → Type 0
SilenceIsOne {W} none = (g : Graph) (m n : Post W) → IsPostFor g m → IsPostFor g n → IsSilent none m → IsSilent none n → SaySame none g m n

-- from messages that say the same the same is believed
abbrev pub BeliefIsOne : {W : Type 0} → W → (W → W → W) → Type 0
BeliefIsOne {W} none plus = (g : Graph) (f : List (List W)) (m n : Post W) → IsPostFor g m → IsPostFor g n → SaySame none g m n →
    (p i : ℕ) → p < packages g → belief none plus f m p i ≡ belief none plus f n p i

module _ {W : Type 0} (none : W) (plus minus : W → W → W) (clip : W → W) (cmp : W → W → Ordering) where
  -- two rounds from the same messages say the same
  abbrev pub RoundIsOne : Type 0
  RoundIsOne = (g : Graph) (f : List (List W)) (d : Family) (before one other : Post W) →
      IsRound none plus minus clip cmp g f d before one → IsRound none plus minus clip cmp g f d before other → SaySame none g one other

  -- as many rounds from messages that say the same say the same
  abbrev pub RoundsAreOne : Type 0
  RoundsAreOne = (g : Graph) (f : List (List W)) (d : Family) (k : ℕ) (before likewise one other : Post W) → IsPostFor g before → SaySame none g before likewise →
      AreRounds none plus minus clip cmp k g f d before one → AreRounds none plus minus clip cmp k g f d likewise other → SaySame none g one other

  -- what has nothing to tell says zero to each state
  abbrev pub NothingToTellIsZero : Type 0
  NothingToTellIsZero = (g : Graph) (d : Family) (weight : ℕ → W) (p q : ℕ) (said : ℕ → W) →
      HasNothingToTell g d p q → IsMessage none plus minus clip cmp g d weight p q said → (j : ℕ) → said j ≡ none

-- a choice has one result: one package, and one order of its states
pub record OneChoice {W : Type 0} (cmp : W → W → Ordering) (minus : W → W → W) : Type 0 where
  pub one_package : (n : ℕ) (d : Family) (value : ℕ → ℕ → W) (p q : ℕ) → IsChosen cmp minus n d value p → IsChosen cmp minus n d value q → p ≡ q
  pub one_order : (test : ℕ → Bool) (value : ℕ → W) (xs ys : List ℕ) → AreInOrder cmp test value xs → AreInOrder cmp test value ys → xs ≡ ys
