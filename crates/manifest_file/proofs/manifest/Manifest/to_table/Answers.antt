use Rattle.std.proofs.Common.{◌≡◌, IfOk, ap, subst, ◌∙◌}
use Rattle.toml.specs.View.{table_view}
use Rattle.manifest_file.specs.Said.{said}
use Rattle.manifest_file.specs.Saying.{manifest_of}
use Rattle.manifest_file.specs.Sorting.{bearers_by}
use Rattle.manifest_file.specs.Written.{bearers_among, written_by}
use Rattle.manifest_file.specs.ReadsBack.{StanzasBack}
use Rattle.manifest_file.proofs.Carried.{told_by}
use Rattle.manifest_file.proofs.GroupsBack.{written_back}
use Rattle.manifest_file.proofs.manifest.Manifest.to_table.Goals as goal

pub returns-clause-written : goal.returns-clause-written
returns-clause-written c =
    let same : bearers_by c.in_ok-index.index ≡ bearers_among (said c.args.self.now).stanzas = λ i q. (rw c.items.ensures at c.in_ok-index.ensures q) i in
    subst (λ bearers. IfOk c.table_by.result (λ table. table_view table ≡ written_by bearers (said c.args.self.now))) same c.table_by.ensures.written

pub returns-clause-back : goal.returns-clause-back
returns-clause-back c = λ once.
    let m = said c.args.self.now in
    let same : bearers_by c.in_ok-index.index ≡ bearers_among m.stanzas = λ i q. (rw c.items.ensures at c.in_ok-index.ensures q) i in
    let stanzas = subst (λ bearers. IfOk c.table_by.result (λ table. StanzasBack bearers m.stanzas)) same c.table_by.ensures.stanzas in
    told_by c.table_by.result (λ table shown version back. ap manifest_of shown ∙ written_back m c.requires.by_name once version back)
    (returns-clause-written c) c.table_by.ensures.version stanzas
