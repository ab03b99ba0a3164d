use Rattle.depot_hash.proofs.Divisions.{checksum_goes_on}
use Rattle.depot_hash.proofs.laws.checksum_goes_on.Goals as goal

pub returns : goal.returns
returns c = checksum_goes_on
