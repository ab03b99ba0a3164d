use Rattle.std.proofs.Common.{◌≡◌, ◌∙◌, ap, sym, subst, arith, length}
use Rattle.bit_rows.specs.Stored.{bits_from, IsRow}
use Rattle.bit_rows.proofs.RowLemmas.{length-bits}
use Rattle.bit_rows.proofs.row.BitRow.words.Goals as goal
use Rattle.bit_rows.proofs.row.BitRow.words.Goals.{After-as_slice}

wide : (c : After-as_slice) → c.self.inside.width ≡ length c.args.self.now
wide c = sym (length-bits c.self.inside.words.items 0 c.self.inside.width) ∙ ap length c.self.view_is

pub returns-clause-row : goal.returns-clause-row
returns-clause-row c =
    subst (λ ws. IsRow ws (length c.args.self.now)) (sym c.as_slice.ensures.value) (subst (IsRow c.self.inside.words.items) (wide c) c.self.invariant)

pub returns-clause-bits : goal.returns-clause-bits
returns-clause-bits c =
    ap (λ ws. bits_from ws 0 (length c.args.self.now)) c.as_slice.ensures.value
    ∙ ap (bits_from c.self.inside.words.items 0) (sym (wide c)) ∙ c.self.view_is

pub returns-clause-narrow : goal.returns-clause-narrow
returns-clause-narrow c = omega (arith, wide c, c.self.invariant.narrow)
