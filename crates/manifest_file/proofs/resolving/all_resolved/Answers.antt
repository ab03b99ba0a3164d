use Rattle.std.proofs.Common.{subst, map}
use Rattle.manifest_file.specs.Saying.{bearers_in}
use Rattle.manifest_file.specs.Sorting.{bearers_by}
use Rattle.manifest_file.specs.Said.{said_stanza}
use Rattle.manifest_file.specs.Steps.{Reads}
use Rattle.manifest_file.proofs.Walks.{stanzas_by-same}
use Rattle.manifest_file.proofs.resolving.all_resolved.Goals as goal

pub returns : goal.returns
returns c =
    subst (λ reading. Reads (λ stanzas. map said_stanza stanzas.items) reading c.resolved_by.result)
    (stanzas_by-same (bearers_by c.in_ok-index.index) (bearers_in c.args.groups.now) c.args.groups.now c.in_ok-index.ensures) c.resolved_by.ensures
