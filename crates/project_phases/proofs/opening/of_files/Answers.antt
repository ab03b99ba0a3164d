-- a catalog that is refused
use Rattle.project_file.specs.Said.{said as said_project}
use Rattle.manifest_file.specs.Said.{said as said_manifest}
use Rattle.std.specs.Prelude.{Ok}
use Rattle.offer_catalog.specs.Catalogued.{catalogued}
use Rattle.home_files.specs.HomeFiles.{seen as seen_files}
use Rattle.project_phases.specs.Phases as spec
use Rattle.project_phases.proofs.RefusalLemmas.{catalog_refuses}
use Rattle.project_phases.proofs.opening.of_files.Goals as goal

pub returns-clause-told : goal.returns-clause-told
returns-clause-told g c =
    catalog_refuses (g.S.Store.files c.args.store.now)
    (λ all. catalogued all c.args.place.now c.args.files.home (said_project c.args.files.project) (said_manifest c.args.files.manifest))
    (λ catalog. Ok (spec.with_catalog (seen_files c.args.files) catalog))
    c.in-Err.fault _ c.book_status.ensures c.in-Err.ensures.told
