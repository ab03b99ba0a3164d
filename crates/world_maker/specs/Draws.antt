-- The numbers that the generator draws: a linear congruential generator. (own rule, with Knuth's multiplier)
use Rattle.std.specs.Prelude.{ℕ, zero, suc, ◌+◌, ◌*◌, ◌/◌, ◌%◌, ◌^◌}

-- the state behind a state
abbrev pub stepped : ℕ → ℕ
stepped x = (x * 6364136223846793005 + 1442695040888963407) % 2 ^ 64

-- the number below n that is drawn at a state: the high bits of the state behind it, modulo n
abbrev pub drawn : ℕ → ℕ → ℕ
drawn x n = stepped x / 2 ^ 33 % n

-- the state after so many draws
unfoldable pub state : ℕ → ℕ → ℕ
state x zero = x
state x (suc t) = stepped (state x t)
