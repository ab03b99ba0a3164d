use Rattle.std.proofs.Common.{◌≤◌, Ok, sym, ap, subst, ◌∙◌, arith}
use Rattle.toml.specs.Data.{members_depth, members_have_valid_dates}
use Rattle.toml.specs.View.{table_view}
use Rattle.project_file.specs.Keys.{names_none}
use Rattle.project_file.specs.Said.{said}
use Rattle.project_file.proofs.Printed.{printed, back_depth, middle_depth, front_depth, dates_stay}
use Rattle.project_file.proofs.project.Project.to_table.Goals as goal

pub returns-clause-back : goal.returns-clause-back
unfolding said
returns-clause-back c =
    printed _ _ _ _ _ _ _ _ _ _ _ _ _ _ c.in_ok-put_back.ensures c.in_ok-put_middle.ensures c.in_ok-put_front.ensures (ap names_none c.in_ok-table.ensures ∙ c.requires.plain)
    ∙ (λ i. Ok (record (said c.args.self.now) { rest = c.in_ok-table.ensures i }))

pub returns-clause-nested : goal.returns-clause-nested
returns-clause-nested c =
    let copied : members_depth (table_view c.in_ok-table.table) ≤ 63 = subst (λ ms. members_depth ms ≤ 63) (sym c.in_ok-table.ensures) (omega (arith, c.requires.nested)) in
    let whole : members_depth (table_view c.put_front.new.table) ≤ 63 =
    front_depth c.in_ok-put_front.ensures (middle_depth c.in_ok-put_middle.ensures (back_depth c.in_ok-put_back.ensures copied)) in
    omega (arith, whole)

pub returns-clause-dates : goal.returns-clause-dates
returns-clause-dates c =
    dates_stay c.in_ok-put_back.ensures c.in_ok-put_middle.ensures c.in_ok-put_front.ensures (ap names_none c.in_ok-table.ensures ∙ c.requires.plain)
    ∙ ap members_have_valid_dates c.in_ok-table.ensures
