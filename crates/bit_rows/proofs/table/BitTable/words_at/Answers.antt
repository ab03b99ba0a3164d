use Rattle.std.proofs.Common.{◌∙◌, ◌+◌, ap, sym, arith, length, get_or}
use Rattle.bit_rows.proofs.RowLemmas.{start, room, stride-of, held, alike}
use Rattle.bit_rows.proofs.table.BitTable.words_at.Goals as goal

pub part-requires : goal.part-requires
part-requires c =
    omega (arith, room c.self.inside.words.items c.self.inside.stride c.self.inside.width c.self.inside.rows c.args.self.now c.self.view_is c.self.invariant c.args.row c.requires, start c.self.inside.words.items c.self.inside.stride c.self.inside.width c.self.inside.rows c.args.self.now c.self.view_is c.self.invariant c.args.row c.requires c.start_of-start.result c.start_of-start.ensures, ap length c.as_slice.ensures.value)

pub returns-clause-long : goal.returns-clause-long
returns-clause-long c = c.part.ensures.long ∙ sym (stride-of c.self.inside.words.items c.self.inside.stride c.self.inside.width c.self.inside.rows c.args.self.now c.self.view_is c.self.invariant c.args.row c.requires)

pub returns-clause-bits : goal.returns-clause-bits
returns-clause-bits c =
    held c.self.inside.words.items c.self.inside.stride c.self.inside.width c.self.inside.rows c.args.self.now c.self.view_is c.self.invariant c.args.row c.requires c.part.result.now c.start_of-start.result c.start_of-start.ensures
    (λ k h. c.part.ensures.each k h ∙ ap (λ ws. get_or ws (c.start_of-start.result + k) 0) c.as_slice.ensures.value)

pub returns-clause-alike : goal.returns-clause-alike
returns-clause-alike c = alike c.self.inside.words.items c.self.inside.stride c.self.inside.width c.self.inside.rows c.args.self.now c.self.view_is c.self.invariant c.args.row c.requires
