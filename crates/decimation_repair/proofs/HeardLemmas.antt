-- Messages that are heard from zero, and the beliefs that they add up to, have one result.
use Rattle.std.proofs.Common.{◌≡◌, ℕ, ◌<◌, Bool, true, false, List, refl, sym, subst}
use Rattle.std.proofs.Math.Path.{fun_ext}
use Rattle.version_graph.specs.Graph.{Graph, packages}
use Rattle.version_graph.specs.Family.{IsClosureOf, under}
use Rattle.maxsum_messages.specs.Post.{Post}
use Rattle.maxsum_messages.specs.Round.{AreRounds}
use Rattle.maxsum_messages.specs.Belief.{belief}
use Rattle.maxsum_messages.proofs.Again.{silence-one, rounds-one, belief-one}
use Rattle.refutation_log.specs.Refutes.{Prefix}
use Rattle.decimation_repair.specs.Levels.{Levels, zero_levels, plus_levels, minus_levels, clip_levels, compare_levels}
use Rattle.decimation_repair.specs.Choice.{AreHeard}
use Rattle.decimation_repair.proofs.LevelLemmas.{compare-total, tied-same, none-plus}

same-test : (x y : Bool) → (x ≡ true → y ≡ true) → (y ≡ true → x ≡ true) → x ≡ y
same-test true y to from = sym (to refl)
same-test false true to from = from refl
same-test false false to from = refl

-- a closure is one family
pub closure-one : (g : Graph) (f s t : ℕ → ℕ → Bool) → IsClosureOf g f s → IsClosureOf g f t → s ≡ t
closure-one g f s t a b = fun_ext (λ p. fun_ext (λ i. same-test (s p i) (t p i) (λ e. b.whole p i (a.sound p i e)) (λ e. a.whole p i (b.sound p i e))))

-- what is believed of a package's states after messages that are heard at one prefix
pub heard-one : (f : List (List Levels)) (g : Graph) (prefix : Prefix) (m n : Post Levels) → AreHeard f g prefix m → AreHeard f g prefix n → (p : ℕ) → p < packages g → belief zero_levels plus_levels f m p ≡ belief zero_levels plus_levels f n p
heard-one f g prefix m n a b p h =
    let closed : b.closed ≡ a.closed = closure-one g (under g prefix) b.closed a.closed b.closure a.closure in
    let rounds = subst (λ d. AreRounds zero_levels plus_levels minus_levels clip_levels compare_levels 8 g f d b.start n) closed b.rounds in
    let silent = silence-one zero_levels g a.start b.start a.start_made b.start_made a.silent b.silent in
    let same = rounds-one compare_levels compare-total tied-same zero_levels plus_levels minus_levels clip_levels none-plus g f a.closed 8 a.start b.start m n a.start_made silent a.rounds rounds in
    fun_ext (λ i. belief-one zero_levels plus_levels g f m n a.made b.made same p i h)
