use Rattle.std.proofs.Common.{◌≡◌, ◌∙◌, ap, sym, arith, length, true}
use Rattle.std.proofs.Common.{map}
use Rattle.bit_rows.specs.Stored.{rows_from}
use Rattle.bit_rows.proofs.RowLemmas.{back, rows-filled}
use Rattle.bit_rows.proofs.table.BitTable.fill.Goals as goal

pub returns : goal.returns
returns c =
    let items = c.self.inside.words.items in
    let new = c.set_all.new.words in
    let long : length new ≡ length items = c.set_all.ensures.long ∙ ap length c.deref_mut.ensures.value in
    ap (λ ws. rows_from ws c.self.inside.stride c.self.inside.width c.self.inside.rows) (back c.self.inside.words.len new items (c.self.inside.words.ok.0 ∙ sym long))
    ∙ rows-filled items new c.self.inside.stride c.self.inside.width c.self.inside.rows c.self.invariant.long (omega (arith, c.self.invariant.stride_is))
    (λ k h. c.set_all.ensures.bits k (omega (arith, h, ap length c.deref_mut.ensures.value)))
    ∙ ap (map (λ xs. map (λ b. true) xs)) c.self.view_is
