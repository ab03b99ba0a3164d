use Rattle.std.proofs.Common.{◌≡◌, ◌<◌, ◌-◌, ◌^◌, [], drop, sym, ap, ◌∙◌, arith}
use Rattle.std.proofs.lemmas.Grind.{common_steps}
use Rattle.std.proofs.lemmas.List.Elements.{All-from_get_or}
use Rattle.depot_hash.specs.Registers.{registers}
use Rattle.depot_hash.proofs.Divisions.{checksum_is}
use Rattle.depot_hash.proofs.checksum.crc32c.Goals as goal

pub returns : goal.returns
returns c =
    let whole = All-from_get_or (λ byte. byte < 2 ^ 8) c.args.bytes.now 0 (λ i h. omega (arith, c.type_inv.bytes i)) in
    let done : drop c.loop-byte.byte-index c.args.bytes.now ≡ [] = grind (arith, common_steps) in
    let ends : registers (2 ^ 32 - 1 - c.args.start) c.args.bytes.now ≡ c.loop-byte.register = rw done at c.loop-byte.invariant in
    ap (λ n. 2 ^ 32 - 1 - n) (sym ends) ∙ sym (checksum_is c.args.start c.args.bytes.now (omega arith) whole)
