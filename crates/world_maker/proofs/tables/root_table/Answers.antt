use Rattle.std.proofs.Common.{◌≡◌, map, ap, sym, ◌∙◌, arith}
use Rattle.std.specs.List.{range_with_len}
use Rattle.world_maker.specs.Tables.{put, members_of, id_pair}
use Rattle.world_maker.proofs.Members.{numbered_more}
use Rattle.world_maker.proofs.tables.root_table.Goals as goal

pub packages-preserved : goal.packages-preserved
packages-preserved c =
    let k = c.packages.«package» in
    c.in_ok-put_id.ensures ∙ ap (put (id_pair k).0 (id_pair k).1) c.packages.invariant ∙ sym (numbered_more id_pair k)

pub returns : goal.returns
returns c =
    let whole : c.packages.«package» ≡ c.args.roots = omega (arith, c.packages-test.false, c.packages.auto.package-end) in
    c.packages.invariant ∙ ap (λ n. members_of (map id_pair (range_with_len 0 n))) whole
