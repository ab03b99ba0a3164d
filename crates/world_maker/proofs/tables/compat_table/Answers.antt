use Rattle.std.proofs.Common.{◌≡◌, map, ap, sym, ◌∙◌, arith}
use Rattle.std.specs.List.{range_with_len}
use Rattle.world_maker.specs.Tables.{put, members_of, section_pair, compat_members}
use Rattle.world_maker.proofs.Members.{numbered_more}
use Rattle.world_maker.proofs.tables.compat_table.Goals as goal

pub versions-preserved : goal.versions-preserved
versions-preserved c =
    let k = c.versions.minor in
    let f = section_pair c.args.needs.now c.args.spans.now in
    c.in_ok-put_section.ensures ∙ ap (put (f k).0 (f k).1) c.versions.invariant ∙ sym (numbered_more f k)

pub returns : goal.returns
unfolding compat_members
returns c =
    let whole : c.versions.minor ≡ c.args.versions = omega (arith, c.versions-test.false, c.versions.auto.minor-end) in
    c.versions.invariant ∙ ap (λ n. members_of (map (section_pair c.args.needs.now c.args.spans.now) (range_with_len 0 n))) whole
