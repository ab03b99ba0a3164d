-- One name more.
use Rattle.std.proofs.Common.{◌≡◌, ◌≤◌, ◌++◌, ◌∷◌, [], Ok, take, ap, sym, subst, ◌∙◌}
use Rattle.std.proofs.lemmas.List.{take_more}
use Rattle.toml.proofs.Views.{items_view-push}
use Rattle.toml.specs.Data.{items_depth, items_have_valid_dates, push_item, string}
use Rattle.toml.specs.View.{array_view, items_view}
use Rattle.toml_view.specs.Reading.{items_read, text_of}
use Rattle.project_file.proofs.Written.{items_back-push, items_flat-push, items_dated-push}
use Rattle.project_file.proofs.writes.array_of.Goals as goal

pub loop-name-preserved : goal.loop-name-preserved
loop-name-preserved c =
    let (back, flat, dated) = c.loop-name.invariant in
    let there : array_view c.push.new.self ≡ push_item (array_view c.loop-name.array) (string c.as_str.result.now) =
    ap items_view c.in_ok-push.ensures.items ∙ items_view-push c.loop-name.array.items c.in_ok-string.field-0 ∙ ap (push_item (array_view c.loop-name.array)) c.in_ok-string.ensures in (
      ap (items_read text_of) there ∙ items_back-push (array_view c.loop-name.array) _ c.as_str.result.now back
          ∙ ap (λ n. Ok (take c.loop-name.name-index c.args.names.now ++ n ∷ [])) (c.as_str.ensures ∙ c.name-item.is)
          ∙ ap Ok (sym (take_more c.args.names.now c.loop-name.name-index c.name-item.result c.loop-name-test.true)),
      subst (λ ds. items_depth ds ≤ 0) (sym there) (items_flat-push (array_view c.loop-name.array) c.as_str.result.now flat),
      ap items_have_valid_dates there ∙ items_dated-push (array_view c.loop-name.array) c.as_str.result.now dated,
    )
