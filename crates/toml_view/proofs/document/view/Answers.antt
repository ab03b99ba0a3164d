use Rattle.std.proofs.Common.{sym, ◌∙◌}
use Rattle.std.proofs.lemmas.Bool.{false≢true, leb-true}
use Rattle.toml.specs.View.{table_view}
use Rattle.toml_view.proofs.Documents.{viewed_ok, viewed_deep, viewed_bad}
use Rattle.toml_view.proofs.document.view.Goals as goal

pub returns-then-is_within_limit-clause-told : goal.returns-then-is_within_limit-clause-told
returns-then-is_within_limit-clause-told c =
    viewed_ok c.args.bytes.now (table_view c.in-Ok.table) c.in-Ok.ensures.ok.0 c.in-Ok.ensures.ok.1 (sym c.is_within_limit.ensures ∙ c.if-is_within_limit.true)

pub returns-else-is_within_limit-clause-told : goal.returns-else-is_within_limit-clause-told
returns-else-is_within_limit-clause-told c =
    viewed_deep c.args.bytes.now (table_view c.in-Ok.table) c.in-Ok.ensures.ok.0 c.in-Ok.ensures.ok.1 (sym c.is_within_limit.ensures ∙ c.if-is_within_limit.false)

pub returns-else-is_memory-clause-told : goal.returns-else-is_memory-clause-told
returns-else-is_memory-clause-told c =
    viewed_bad c.args.bytes.now (c.in-Err.ensures.refused (λ short. false≢true (sym c.if-is_memory.false ∙ c.is_memory.ensures.1 short)))

pub returns-then-is_within_limit-clause-within : goal.returns-then-is_within_limit-clause-within
returns-then-is_within_limit-clause-within c = leb-true _ _ (sym c.is_within_limit.ensures ∙ c.if-is_within_limit.true)
