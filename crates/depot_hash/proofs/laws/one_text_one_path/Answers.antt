use Rattle.depot_hash.proofs.Texts.{one_text_one_path}
use Rattle.depot_hash.proofs.laws.one_text_one_path.Goals as goal

pub returns : goal.returns
returns c = one_text_one_path
