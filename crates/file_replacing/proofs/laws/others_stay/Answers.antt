use Rattle.file_replacing.proofs.OtherLemmas.{others}
use Rattle.file_replacing.proofs.laws.others_stay.Goals as goal

pub returns : goal.returns
returns c = others c.writing_sets_one_path.ensures.sets
