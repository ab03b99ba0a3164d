use Rattle.manifest_file.proofs.Puts.{put_first}
use Rattle.manifest_file.proofs.put.put.Goals as goal

pub returns : goal.returns
returns c = λ puts shows ordered. put_first c.in_ok-key.key c.args.key.now c.args.value c.args.table.now.entries c.insert.new.self.entries puts c.in_ok-key.ensures.ok c.in_ok-insert.ensures.entries shows ordered
