use Rattle.std.proofs.Common.{map, Ok, ap, sym, ◌∙◌}
use Rattle.pkg_world.specs.ByName.{is_by_name}
use Rattle.manifest_file.specs.Said.{said_stanza}
use Rattle.manifest_file.specs.Saying.{stanzas_of}
use Rattle.manifest_file.specs.Steps.{Refuses}
use Rattle.manifest_file.proofs.Faults.{refuses_then}
use Rattle.manifest_file.proofs.Ordered.{read_in_order}
use Rattle.manifest_file.proofs.manifest.with_ids_once.Goals as goal

pub returns-in-Err-clause-told : goal.returns-in-Err-clause-told
returns-in-Err-clause-told c =
    let told : Refuses (stanzas_of c.args.entries.by_name) c.in-Err.fault = rw (← c.items.ensures.items) c.in-Err.ensures in
    refuses_then (stanzas_of c.args.entries.by_name) (λ stanzas. Ok (record { julia_version = c.args.entries.julia_version; stanzas = stanzas })) c.in-Err.fault told

pub returns-in-Ok-clause-by_name : goal.returns-in-Ok-clause-by_name
returns-in-Ok-clause-by_name c =
    read_in_order c.items.result.now (map said_stanza c.of_vec.result.items) (ap is_by_name c.items.ensures.items ∙ c.items.ensures.by_name)
    (c.in-Ok.ensures ∙ ap (λ l. Ok (map said_stanza l)) (sym c.of_vec.ensures.items))
