-- A round: all messages at once, from those of the round before. (own rule, after Pkg's resolver)
use Rattle.std.specs.Prelude.{◌≡◌, ℕ, zero, suc, ◌<◌, ◌&&◌, not, true, false, List, length, slice_index}
use Rattle.std.specs.declared.cmp.Ordering.{Ordering}
use Rattle.version_graph.specs.Graph.{Graph, packages, is_forbidden}
use Rattle.version_graph.specs.Family.{Family}
use Rattle.maxsum_messages.specs.Field.{field}
use Rattle.maxsum_messages.specs.Post.{Post, senders_of, said_to, message, heard_but, SameSenders}
use Rattle.maxsum_messages.specs.Greatest.{IsGreatest}

module _ {W : Type 0} (none : W) (plus : W → W → W) where
  -- what the state i of p weighs for q: its field and the messages to it from all neighbours of p but q
  abbrev pub weight_for : List (List W) → Post W → ℕ → ℕ → ℕ → W
  weight_for f m q p i = plus (field none f p i) (heard_but none plus q i (senders_of m p) (said_to m p))

  module _ (minus : W → W → W) (clip : W → W) (cmp : W → W → Ordering) where
    -- what p says to q, where the states of p have these weights: at each state j of q's domain the greatest
    -- weight of a state of p's domain that is allowed with j; the greatest of these is taken away, and the
    -- result is clipped. At a state outside q's domain the message is zero
    pub record IsMessage (g : Graph) (d : Family) (weight : ℕ → W) (p q : ℕ) (said : ℕ → W) : Type 0 where
      pub raw : ℕ → W
      pub top : W
      pub best : (j : ℕ) → d q j ≡ true → IsGreatest cmp (λ i. d p i && not (is_forbidden g p i q j)) weight (raw j)
      pub highest : IsGreatest cmp (d q) raw top
      pub inside : (j : ℕ) → d q j ≡ true → said j ≡ clip (minus (raw j) top)
      pub outside : (j : ℕ) → d q j ≡ false → said j ≡ none

    -- the messages after are those of one round from the messages before
    pub record IsRound (g : Graph) (f : List (List W)) (d : Family) (before after : Post W) : Type 0 where
      pub same : SameSenders before after
      pub each : (q k : ℕ) → q < packages g → k < length (senders_of before q) →
          IsMessage g d (weight_for f before q (slice_index (senders_of before q) k)) (slice_index (senders_of before q) k) q (message none after q k)

    -- the messages after so many rounds
    abbrev pub AreRounds : ℕ → Graph → List (List W) → Family → Post W → Post W → Type 0
    AreRounds zero g f d before after = after ≡ before
    AreRounds (suc k) g f d before after = (between : Post W) × AreRounds k g f d before between × IsRound g f d between after
