use Rattle.std.proofs.Common.{sym, ◌∙◌}
use Rattle.pkg_world.proofs.Unfailing.{sure_kind}
use Rattle.pkg_world.proofs.mem.MemStoreStore.kind.Goals as goal

pub returns-clause-fails : goal.returns-clause-fails
returns-clause-fails c = sure_kind c.kind_of.result c.kind_of.ensures.sure ∙ (sym c.if-count.false ∙ c.count.ensures.due)
