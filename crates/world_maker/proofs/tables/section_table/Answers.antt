use Rattle.std.proofs.Common.{◌≡◌, length, map, ap, sym, ◌∙◌, arith}
use Rattle.std.specs.List.{range_with_len}
use Rattle.world_maker.specs.Tables.{put, members_of, compat_pair}
use Rattle.world_maker.proofs.Members.{numbered_more}
use Rattle.world_maker.proofs.tables.section_table.Goals as goal

pub places-preserved : goal.places-preserved
places-preserved c =
    let k = c.places.place in
    let f = compat_pair c.args.needs.now c.args.spans.now c.args.minor in
    c.in_ok-put_range.ensures ∙ ap (put (f k).0 (f k).1) c.places.invariant ∙ sym (numbered_more f k)

pub returns : goal.returns
returns c =
    let whole : c.places.place ≡ length c.args.needs.now = omega (arith, c.places-test.false, c.places.auto.place-end) in
    c.places.invariant ∙ ap (λ n. members_of (map (compat_pair c.args.needs.now c.args.spans.now c.args.minor) (range_with_len 0 n))) whole
