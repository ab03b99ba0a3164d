use Rattle.std.proofs.Common.{sym, ◌∙◌}
use Rattle.pkg_world.proofs.Unfailing.{sure_write}
use Rattle.pkg_world.proofs.mem.MemStoreStore.replace.Goals as goal

pub returns-clause-fails : goal.returns-clause-fails
returns-clause-fails c = sure_write c.write_file.result c.write_file.ensures.sure ∙ (sym c.if-count.false ∙ c.count.ensures.due)
