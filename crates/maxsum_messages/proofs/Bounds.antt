-- How great sums of at most 4,095 messages and a field can be.
use Rattle.std.proofs.Common.{◌≡◌, ℕ, ◌+◌, ◌*◌, ◌^◌, ◌<◌, ◌≤◌, List, length, get_or, sym, arith, ap, ◌∙◌}
use Rattle.maxsum_messages.specs.Post.{Post, heard, heard_but, senders_of, said_to}
use Rattle.maxsum_messages.specs.Kept.{IsKept}
use Rattle.maxsum_messages.proofs.Rows.{cell}
use Rattle.maxsum_messages.proofs.Sums.{heard-within, heard_but-within, heard-own}
use Rattle.std.specs.List.Sorted.{IsStrictlyIncreasing}

module _ {W : Type 0} (Within : ℕ → W → Type 0) (none : W) (plus : W → W → W) (zero_in : Within 0 none) (sum_in : (m n : ℕ) (a b : W) → Within m a → Within n b → Within (m + n) (plus a b)) (more : (m n : ℕ) (a : W) → Within m a → m ≤ n → Within n a) where
  pub heard-small : (i : ℕ) (rows : List (List W)) → length rows ≤ 4095 → ((k : ℕ) → Within (2 ^ 40) (cell none rows k i)) → Within (4095 * 2 ^ 40) (heard none plus i rows)
  heard-small i rows few small = more (length rows * 2 ^ 40) (4095 * 2 ^ 40) _ (heard-within none plus i Within zero_in sum_in more rows small) (omega arith)

  pub heard_but-small : (q i : ℕ) (rs : List ℕ) (rows : List (List W)) → length rows ≤ 4095 → ((k : ℕ) → Within (2 ^ 40) (cell none rows k i)) → Within (4095 * 2 ^ 40) (heard_but none plus q i rs rows)
  heard_but-small q i rs rows few small = more (length rows * 2 ^ 40) (4095 * 2 ^ 40) _ (heard_but-within none plus i Within zero_in sum_in more q rs rows small) (omega arith)

  -- a field and such a sum
  pub field-and-sum : (a b : W) → Within (2 ^ 24) a → Within (4095 * 2 ^ 40) b → Within (2 ^ 52) (plus a b)
  field-and-sum a b h k = more (2 ^ 24 + 4095 * 2 ^ 40) (2 ^ 52) (plus a b) (sum_in (2 ^ 24) (4095 * 2 ^ 40) a b h k) (omega arith)

  -- ---- of the messages that are kept

  module _ (m : Post W) (sums : List (List W)) (kept : IsKept (Within (2 ^ 40)) none plus m sums) (p : ℕ) (known : p < length m.sizes) where
    pub kept-few : length (said_to m p) ≤ 4095
    kept-few = omega (arith, kept.shaped.answered p known, (kept.senders p known).few)

    pub kept-heard : (i : ℕ) → Within (4095 * 2 ^ 40) (heard none plus i (said_to m p))
    kept-heard i = heard-small i (said_to m p) kept-few (λ k. kept.small p k i)

    pub kept-but : (q i : ℕ) → Within (4095 * 2 ^ 40) (heard_but none plus q i (senders_of m p) (said_to m p))
    kept-but q i = heard_but-small q i (senders_of m p) (said_to m p) kept-few (λ k. kept.small p k i)

-- the belief without one message is the field with all the others
pub taken-off : {W : Type 0} (none : W) (plus minus : W → W → W) (comm : (a b : W) → plus a b ≡ plus b a) (assoc : (a b c : W) → plus (plus a b) c ≡ plus a (plus b c)) (back : (a b : W) → minus (plus a b) b ≡ a)
    (f : W) (q i : ℕ) (rs : List ℕ) (rows : List (List W)) (k : ℕ) → IsStrictlyIncreasing rs → length rows ≡ length rs → k < length rs → get_or rs k 0 ≡ q →
    minus (plus f (heard none plus i rows)) (cell none rows k i) ≡ plus f (heard_but none plus q i rs rows)
taken-off none plus minus comm assoc back f q i rs rows k up e h at =
    let own = cell none rows k i in
    ap (λ s. minus (plus f s) own) (heard-own none plus i comm assoc q rs rows k up e h at)
    ∙ ap (λ s. minus s own) (sym (assoc f (heard_but none plus q i rs rows) own))
    ∙ back (plus f (heard_but none plus q i rs rows)) own
