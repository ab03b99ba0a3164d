use Rattle.std.proofs.Common.{◌≡◌, map, ap, sym, ◌∙◌, arith}
use Rattle.std.specs.List.{range_with_len}
use Rattle.world_maker.specs.Tables.{put, members_of, version_pair, versions_members}
use Rattle.world_maker.proofs.Members.{numbered_more}
use Rattle.world_maker.proofs.tables.versions_table.Goals as goal

pub versions-preserved : goal.versions-preserved
versions-preserved c =
    let k = c.versions.minor in
    let f = version_pair c.args.«package» in
    c.in_ok-put_version.ensures ∙ ap (put (f k).0 (f k).1) c.versions.invariant ∙ sym (numbered_more f k)

pub returns : goal.returns
unfolding versions_members
returns c =
    let whole : c.versions.minor ≡ c.args.versions = omega (arith, c.versions-test.false, c.versions.auto.minor-end) in
    c.versions.invariant ∙ ap (λ n. members_of (map (version_pair c.args.«package») (range_with_len 0 n))) whole
