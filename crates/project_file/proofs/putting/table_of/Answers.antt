-- One item more: its name comes after those before it.
use Rattle.std.proofs.Common.{◌≡◌, ◌≤◌, ap, sym, subst, ◌∙◌}
use Rattle.toml.specs.Data.{members_depth, members_have_valid_dates}
use Rattle.toml.specs.View.{view, table_view}
use Rattle.toml_view.specs.Reading.{each}
use Rattle.project_file.specs.Putting.{put}
use Rattle.project_file.proofs.Members.{depth_put, dated_put}
use Rattle.project_file.proofs.Written.{each_back-next}
use Rattle.project_file.proofs.putting.table_of.Goals as goal

pub loop-name-preserved : goal.loop-name-preserved
loop-name-preserved g c =
    let (back, flat, dated) = c.loop-name.invariant in
    let there : table_view c.put.new.table ≡ put c.as_str.result.now (view c.in_ok-written.written) (table_view c.loop-name.table) = c.in_ok-put.ensures in (
      ap (each g.T.Writes.gives) there
          ∙ each_back-next g.T.Writes.gives c.args.items.now c.loop-name.name-index c.loop-name-item.result (table_view c.loop-name.table) c.as_str.result.now (view c.in_ok-written.written)
          (c.requires) c.loop-name-test.true c.loop-name-item.is c.as_str.ensures c.in_ok-written.ensures.back back,
      subst (λ ms. members_depth ms ≤ 1) (sym there) (depth_put c.as_str.result.now (view c.in_ok-written.written) (table_view c.loop-name.table) 1 c.in_ok-written.ensures.flat flat),
      ap members_have_valid_dates there ∙ dated_put c.as_str.result.now (view c.in_ok-written.written) (table_view c.loop-name.table) c.in_ok-written.ensures.dated dated,
    )
