use Rattle.std.proofs.Common.{ap, ◌∙◌}
use Rattle.toml.specs.View.{view, members_view, table_view}
use Rattle.world_maker.specs.Tables.{put}
use Rattle.world_maker.proofs.Members.{insert_is_put}
use Rattle.world_maker.proofs.tables.put.Goals as goal

pub returns : goal.returns
returns c =
    ap members_view c.in_ok-insert.ensures.entries ∙ insert_is_put _ c.in_ok-key.key c.args.value
    ∙ ap (λ k. put k (view c.args.value) (table_view c.args.table.now)) c.in_ok-key.ensures.ok
