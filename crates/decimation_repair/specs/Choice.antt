-- The choice at a prefix: by the beliefs of messages, which are heard on the closure under the prefix cut to a multiple of
-- sixteen choices. (own rule, after Pkg's resolver)
use Rattle.std.specs.Prelude.{◌≡◌, ℕ, ◌+◌, ◌*◌, ◌<◌, ◌≤◌, List, length, take}
use Rattle.std.specs.declared.cmp.Ordering.{Ordering}
use Rattle.version_graph.specs.Graph.{Graph, packages}
use Rattle.version_graph.specs.Family.{Family, IsClosureOf, under}
use Rattle.maxsum_messages.specs.Post.{Post, IsPostFor, IsSilent}
use Rattle.maxsum_messages.specs.Round.{AreRounds}
use Rattle.maxsum_messages.specs.Belief.{belief}
use Rattle.maxsum_messages.specs.Choice.{IsChosen, AreInOrder}
use Rattle.refutation_log.specs.Refutes.{Prefix}
use Rattle.decimation_repair.specs.Walk.{Choice}
use Rattle.decimation_repair.specs.Levels.{Levels, zero_levels, plus_levels, minus_levels, clip_levels, compare_levels}

-- the prefix cut to its first 16 k choices, k as great as possible
pub record IsCutOf (prefix cut : Prefix) : Type 0 where
  pub blocks : ℕ
  pub inside : 16 * blocks ≤ length prefix
  pub most : length prefix < 16 * blocks + 16
  pub cut_is : cut ≡ take (16 * blocks) prefix

module _ {W : Type 0} (none : W) (plus minus : W → W → W) (clip : W → W) (cmp : W → W → Ordering) (f : List (List W)) where
  -- the messages after 8 rounds from zero on the closure under the prefix
  pub record AreHeardAt (g : Graph) (prefix : Prefix) (m : Post W) : Type 0 where
    pub closed : Family
    pub closure : IsClosureOf g (under g prefix) closed
    pub start : Post W
    pub start_made : IsPostFor g start
    pub silent : IsSilent none start
    pub rounds : AreRounds none plus minus clip cmp 8 g f closed start m
    pub made : IsPostFor g m

  -- of the packages with two or more closed states the one whose best belief is the furthest above its second best, the
  -- least number on a tie; its closed states by belief, the greatest first, and then by greater number
  pub record IsBelieved (g : Graph) (prefix : Prefix) (p : ℕ) (order : List ℕ) : Type 0 where
    pub cut : Prefix
    pub cut_is : IsCutOf prefix cut
    pub messages : Post W
    pub heard : AreHeardAt g cut messages
    pub closed : Family
    pub closure : IsClosureOf g (under g prefix) closed
    pub chosen : IsChosen cmp minus (packages g) closed (belief none plus f messages) p
    pub in_order : AreInOrder cmp (closed p) (belief none plus f messages p) order

-- the choice of the search, whose weights have three levels
abbrev pub BeliefChoice : List (List Levels) → Choice
BeliefChoice f = IsBelieved zero_levels plus_levels minus_levels clip_levels compare_levels f

-- the messages that it goes by
abbrev pub AreHeard : List (List Levels) → Graph → Prefix → Post Levels → Type 0
AreHeard f = AreHeardAt zero_levels plus_levels minus_levels clip_levels compare_levels f
