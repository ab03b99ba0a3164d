use Rattle.std.proofs.Common.{◌*◌, ap, sym, arith}
use Rattle.bit_rows.proofs.RowLemmas.{room, stride-of}
use Rattle.bit_rows.proofs.table.BitTable.start_of.Goals as goal

pub overflow_mul-result : goal.overflow_mul-result
overflow_mul-result c =
    omega (arith, room c.self.inside.words.items c.self.inside.stride c.self.inside.width c.self.inside.rows c.args.self.now c.self.view_is c.self.invariant c.args.row c.requires, c.self.inside.words.ok.0, c.self.inside.words.ok.1, c.self.inside.words.small)

pub returns : goal.returns
returns c = ap (λ n. c.args.row * n) (sym (stride-of c.self.inside.words.items c.self.inside.stride c.self.inside.width c.self.inside.rows c.args.self.now c.self.view_is c.self.invariant c.args.row c.requires))
