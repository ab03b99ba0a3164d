use Rattle.std.proofs.Common.{sym, subst}
use Rattle.decimation_repair.specs.Advised.{IsOpenPath}
use Rattle.decimation_repair.specs.Standing.{choice_of}
use Rattle.decimation_repair.proofs.ChoiceLemmas.{belief-lawful}
use Rattle.decimation_repair.proofs.MoveLemmas.{open-path}
use Rattle.decimation_repair.proofs.walker.Walker.choose.Goals as goal

pub choose-package-requires-clause-open : goal.choose-package-requires-clause-open
choose-package-requires-clause-open c =
    let s = c.args.self.now in
    subst (IsOpenPath s.instance.now) (sym c.as_slice.ensures.value)
    (open-path (choice_of s) (belief-lawful s.advice.fields.now) s.instance.now s.orders.rows s.path.items s.domains s.trail s.log.items c.requires.open.closed c.requires.wide)
