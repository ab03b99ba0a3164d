use Rattle.std.proofs.Common.{◌≡◌, ◌∷◌, ◌-◌, drop, sym, subst, arith}
use Rattle.std.proofs.lemmas.Grind.{common_steps}
use Rattle.toml.specs.View.{view, table_view}
use Rattle.manifest_file.specs.Written.{uuid_data}
use Rattle.manifest_file.specs.ReadsBack.{IdsBack}
use Rattle.manifest_file.proofs.Puts.{next_put}
use Rattle.manifest_file.proofs.written.ids_value.Goals as goal

pub loop-left-preserved : goal.loop-left-preserved
loop-left-preserved c =
    let (within, shows, back) = c.loop-left.invariant in
    let ids = c.args.ids.now in
    let item = c.index-ids-left.result in
    let here : drop (c.loop-left.left - 1) ids ≡ item ∷ drop c.loop-left.left ids = grind (arith, common_steps) in (
      omega arith,
      next_put uuid_data ids c.loop-left.left item c.as_str.result.now (view c.in_ok-value.value) (table_view c.loop-left.table) (table_view c.put.new.table) c.requires here
          c.as_str.ensures c.in_ok-value.ensures.data c.in_ok-put.ensures shows,
      subst IdsBack (sym here) (c.in_ok-value.ensures.back, back),
    )

pub returns-clause-back : goal.returns-clause-back
returns-clause-back c =
    let (within, shows, back) = c.loop-left.invariant in
    let none : c.loop-left.left ≡ 0 = omega (arith, c.loop-left-test.false) in
    subst (λ k. IdsBack (drop k c.args.ids.now)) none back
