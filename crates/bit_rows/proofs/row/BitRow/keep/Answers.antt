use Rattle.std.proofs.Common.{◌≡◌, ◌∙◌, ℕ, ap, sym, subst, arith, length}
use Rattle.std.proofs.Common.{◌&&◌}
use Rattle.bit_rows.specs.Rows.{both}
use Rattle.bit_rows.specs.Stored.{is_set, bits_from, IsRow}
use Rattle.bit_rows.proofs.RowLemmas.{back, length-bits, both-told, kept-row}
use Rattle.bit_rows.proofs.row.BitRow.keep.Goals as goal

pub keep_common-requires : goal.keep_common-requires
keep_common-requires c =
    omega (arith, ap length c.deref_mut.ensures.value, c.self.invariant.long, c.requires, ap length c.self.view_is, length-bits c.self.inside.words.items 0 c.self.inside.width)

pub invariant_of-self : goal.invariant_of-self
invariant_of-self c =
    let items = c.self.inside.words.items in
    let width = c.self.inside.width in
    let new = c.keep_common.new.target in
    let long : length new ≡ length items = c.keep_common.ensures.long ∙ ap length c.deref_mut.ensures.value in
    let bits : (k : ℕ) → is_set new k ≡ (is_set items k && is_set c.args.words.now k) =
    λ k. c.keep_common.ensures.bits k ∙ ap (λ ws. is_set ws k && is_set c.args.words.now k) c.deref_mut.ensures.value in
    let whole = back c.self.inside.words.len new items (c.self.inside.words.ok.0 ∙ sym long) in
    subst (λ ws. IsRow ws width) (sym whole) (kept-row items c.args.words.now new width c.self.invariant long bits)

pub returns : goal.returns
returns c =
    let items = c.self.inside.words.items in
    let width = c.self.inside.width in
    let new = c.keep_common.new.target in
    let long : length new ≡ length items = c.keep_common.ensures.long ∙ ap length c.deref_mut.ensures.value in
    let bits : (k : ℕ) → is_set new k ≡ (is_set items k && is_set c.args.words.now k) =
    λ k. c.keep_common.ensures.bits k ∙ ap (λ ws. is_set ws k && is_set c.args.words.now k) c.deref_mut.ensures.value in
    let whole = back c.self.inside.words.len new items (c.self.inside.words.ok.0 ∙ sym long) in
    let wide : width ≡ length c.args.self.now = sym (length-bits items 0 width) ∙ ap length c.self.view_is in
    ap (λ ws. bits_from ws 0 width) whole
    ∙ both-told items c.args.words.now new width bits
    ∙ (λ i. both (bits_from c.args.words.now 0 (wide i)) (c.self.view_is i))
