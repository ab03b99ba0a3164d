use Rattle.std.proofs.Common.{sym, ◌∙◌}
use Rattle.pkg_world.proofs.Unfailing.{sure_list}
use Rattle.pkg_world.proofs.mem.MemStoreStore.list.Goals as goal

pub returns-clause-fails : goal.returns-clause-fails
returns-clause-fails c = sure_list c.list_folder.result c.list_folder.ensures.sure ∙ (sym c.if-count.false ∙ c.count.ensures.due)
