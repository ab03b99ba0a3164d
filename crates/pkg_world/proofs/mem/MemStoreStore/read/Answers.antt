use Rattle.std.proofs.Common.{sym, ◌∙◌}
use Rattle.pkg_world.proofs.Unfailing.{sure_read}
use Rattle.pkg_world.proofs.mem.MemStoreStore.read.Goals as goal

pub returns-clause-fails : goal.returns-clause-fails
returns-clause-fails c = sure_read c.read_file.result c.read_file.ensures.sure ∙ (sym c.if-count.false ∙ c.count.ensures.due)
