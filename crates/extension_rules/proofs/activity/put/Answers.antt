use Rattle.std.proofs.Common.{◌≡◌, Bool, true, false, cond, ◌||◌, refl, ap, ◌∙◌}
use Rattle.std.specs.Str.{bytes_eq}
use Rattle.std.proofs.lemmas.Map.Text.{is_eq-slice_cmp}
use Rattle.manifest_file.specs.Steps.{has_id}
use Rattle.extension_rules.proofs.activity.put.Goals as goal

or_cond : (a b : Bool) → cond a true b ≡ (a || b)
or_cond true b = refl
or_cond false b = refl

pub returns : goal.returns
returns c = λ q.
    c.in_ok-insert.ensures.updates.0 q ∙ ap (λ b. cond b true (has_id c.args.set.now q)) (is_eq-slice_cmp c.args.id q) ∙ or_cond (bytes_eq c.args.id q) (has_id c.args.set.now q)
