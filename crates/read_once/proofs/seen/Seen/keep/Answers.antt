use Rattle.std.proofs.Common.{◌≡◌, Bool, true, false, cond, if◌then◌else◌, Option, Some, option_map, string_bytes, refl, ◌∙◌, ap}
use Rattle.std.proofs.lemmas.Map.Text.{btree_map_updates_text}
use Rattle.std.specs.Str.{bytes_eq}
use Rattle.pkg_world.specs.Path.{path_text}
use Rattle.read_once.specs.declared.seen.Found.{Found}
use Rattle.read_once.specs.Seen.{content_of}
use Rattle.read_once.proofs.seen.Seen.keep.Goals as goal

chosen : (same : Bool) (found : Found) (old : Option Found) → option_map content_of (cond same (Some found) old) ≡ (if same then Some (content_of found) else option_map content_of old)
chosen true found old = refl
chosen false found old = refl

pub returns-in-Ok-clause-ok : goal.returns-in-Ok-clause-ok
returns-in-Ok-clause-ok c = λ other.
    let text = c.in_ok-text.ensures.ok ∙ c.as_str.ensures.text in
    let after = btree_map_updates_text (string_bytes c.in_ok-text.text) c.args.self.now.found c.insert.new.self _ c.in-Ok.ensures.updates (path_text other) in
    rw (← text) (ap (option_map content_of) after ∙ chosen (bytes_eq (string_bytes c.in_ok-text.text) (path_text other)) c.args.found _)
