use Rattle.std.proofs.Common.{◌≡◌, ◌∷◌, ◌-◌, ◌∙◌, ap, drop, arith}
use Rattle.std.proofs.lemmas.Grind.{common_steps}
use Rattle.toml.specs.View.{view, table_view}
use Rattle.pkg_world.specs.ByName.{is_by_name}
use Rattle.manifest_file.specs.Written.{names_data}
use Rattle.manifest_file.proofs.Puts.{next_put}
use Rattle.manifest_file.proofs.written.extensions_value.Goals as goal

pub loop-left-preserved : goal.loop-left-preserved
loop-left-preserved c =
    let (within, shows) = c.loop-left.invariant in
    let all = c.items-extensions.result.now in
    let item = c.index-extensions-left.result in
    let here : drop (c.loop-left.left - 1) all ≡ item ∷ drop c.loop-left.left all = grind (arith, common_steps) in (
      omega arith,
      next_put names_data all c.loop-left.left item c.as_str.result.now (view c.in_ok-value.value) (table_view c.loop-left.table) (table_view c.put.new.table)
          (ap is_by_name c.items-extensions.ensures.items ∙ c.items-extensions.ensures.by_name) here
          c.as_str.ensures (c.in_ok-value.ensures ∙ ap names_data c.items.ensures) c.in_ok-put.ensures shows,
    )
