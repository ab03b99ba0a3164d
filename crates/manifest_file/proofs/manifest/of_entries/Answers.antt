use Rattle.std.proofs.Common.{ap, sym, ◌∙◌}
use Rattle.manifest_file.specs.Said.{said}
use Rattle.manifest_file.specs.Saying.{first_same}
use Rattle.manifest_file.proofs.Carried.{told_then}
use Rattle.manifest_file.proofs.Ordered.{stand_once}
use Rattle.manifest_file.proofs.manifest.of_entries.Goals as goal

pub returns-in-Ok-clause-once : goal.returns-in-Ok-clause-once
returns-in-Ok-clause-once c =
    told_then c.with_ids_once.result
    (λ m. stand_once c.args.entries.by_name (said m).stanzas (ap first_same (sym c.items.ensures.items) ∙ c.in-Ok.ensures)) c.with_ids_once.ensures.stanzas
