use Rattle.std.proofs.Common.{[], ◌∷◌}
use Rattle.std.specs.Cmp.Lexicographic.{nat_list_cmp_total}
use Rattle.package_tables.specs.Row.{by_bytes}
use Rattle.package_tables.proofs.Twice.{joined_twice}
use Rattle.package_tables.proofs.groups.join.Goals as goal

pub returns-in-Ok-insert : goal.returns-in-Ok-insert
returns-in-Ok-insert g c =
    joined_twice by_bytes nat_list_cmp_total c.args.grouped.now.entries c.insert.new.self.entries c.insert-2.new.self.entries c.args.entry.now.name c.of.result c.of-2.result c.make.result c.or_new-group.result
    c.push.new.self (c.args.entry.now ∷ []) c.in-Ok.found c.of.ensures c.of-2.ensures c.in-Ok.ensures.old c.in-Ok.ensures.entries c.or_new-group.ensures c.in_ok-push.ensures c.in-Ok-insert.ensures.entries
