use Rattle.log_text.proofs.Readings.{read_ok, read_only, read_bad}
use Rattle.log_text.proofs.reading.read_log.Goals as goal

pub returns-clause-ok : goal.returns-clause-ok
returns-clause-ok c = read_ok c.meaning_is_the_texts.ensures c.args.bytes.now c.read_bytes.result c.read_bytes.ensures

pub returns-clause-only : goal.returns-clause-only
returns-clause-only c = read_only c.meaning_is_the_texts.ensures c.args.bytes.now c.read_bytes.result c.read_bytes.ensures

pub returns-clause-bad : goal.returns-clause-bad
returns-clause-bad c = read_bad c.meaning_is_the_texts.ensures c.args.bytes.now c.read_bytes.result c.read_bytes.ensures
