-- One more identifier, and all of them.
use Rattle.std.proofs.Common.{◌∙◌, ap, sym, lit<, ◌++◌}
use Rattle.std.specs.Prelude.{string_bytes}
use Rattle.jl_versions.specs.Printing.{is_label}
use Rattle.std.specs.List.{list_all}
use Rattle.std.proofs.lemmas.List.{take_all}
use Rattle.jl_versions.proofs.Labels.{label_more, labels_more, label_done}
use Rattle.jl_versions.proofs.print.push_label.Goals as goal

pub loop-ident-preserved : goal.loop-ident-preserved
loop-ident-preserved c = (
  lit< tt,
  label_more (string_bytes c.loop-ident.text) _ _ _ c.loop-ident.mark _ c.loop-ident.ident-index c.ident-item.result c.loop-ident-test.true c.ident-item.is c.loop-ident.invariant.1
      (c.in_ok-push.ensures.bytes ∙ ap (λ t. string_bytes c.loop-ident.text ++ t) (c.push.ensures.ascii c.loop-ident.invariant.0)) c.in_ok-push_ident.ensures.ok,
  labels_more _ c.loop-ident.ident-index c.ident-item.result c.loop-ident-test.true c.ident-item.is c.loop-ident.invariant.2 c.push_ident.ensures.label,
)

pub returns-clause-ok : goal.returns-clause-ok
returns-clause-ok c = label_done _ _ c.loop-ident.mark c.args.sign _ _ c.loop-ident.ident-index c.loop-ident-test.false c.items-items.ensures c.loop-ident.invariant.1

pub returns-clause-labels : goal.returns-clause-labels
returns-clause-labels c = ap (list_all is_label) (sym c.items-items.ensures ∙ sym (take_all c.loop-ident.ident-index _ c.loop-ident-test.false)) ∙ c.loop-ident.invariant.2
