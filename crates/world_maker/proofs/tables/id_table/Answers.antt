use Rattle.std.proofs.Common.{◌≡◌, map, take, length, get_or, ap, sym, ◌∙◌, arith}
use Rattle.std.proofs.Math.Seq.{take-length}
use Rattle.world_maker.specs.Tables.{put, members_of, id_pair}
use Rattle.world_maker.proofs.Members.{listed_more}
use Rattle.world_maker.proofs.tables.id_table.Goals as goal

pub packages-preserved : goal.packages-preserved
packages-preserved c =
    let xs = c.args.packages.now in
    let i = c.packages.package-index in
    c.in_ok-put_id.ensures ∙ ap (put (id_pair (get_or xs i 0)).0 (id_pair (get_or xs i 0)).1) c.packages.invariant ∙ sym (listed_more id_pair xs i c.packages-test.true)

pub returns : goal.returns
returns c =
    let whole : c.packages.package-index ≡ length c.args.packages.now = omega (arith, c.packages-test.false) in
    c.packages.invariant ∙ ap (λ n. members_of (map id_pair (take n c.args.packages.now))) whole ∙ ap (λ xs. members_of (map id_pair xs)) (take-length c.args.packages.now)
