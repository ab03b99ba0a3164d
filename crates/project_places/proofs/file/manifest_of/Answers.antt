-- The refusal has the cause that the manifest's fault names.
use Rattle.manifest_file.specs.Saying as manifests
use Rattle.project_places.proofs.Refusals.{refused_by}
use Rattle.project_places.proofs.file.manifest_of.Goals as goal

pub returns-in-Err-clause-told : goal.returns-in-Err-clause-told
returns-in-Err-clause-told c = refused_by c.args.file.now (manifests.read_of c.args.bytes.now) c.in-Err.fault c.manifest_refused.result c.in-Err.ensures.told c.manifest_refused.ensures.told
