use Rattle.std.proofs.Common.{Some, option_map, ap, ◌∙◌}
use Rattle.offer_terms.proofs.Finds.{find-version}
use Rattle.offer_terms.proofs.selection.ById+tuple2+Uuid+Version.version_of.Goals as goal

pub returns-in-Some : goal.returns-in-Some
returns-in-Some c = ap Some c.version_of_pair.ensures ∙ ap (option_map (λ e. e.1)) c.in-Some.ensures ∙ find-version c.args.self.now.items c.args.uuid.now

pub returns-in-None : goal.returns-in-None
returns-in-None c = ap (option_map (λ e. e.1)) c.in-None.ensures ∙ find-version c.args.self.now.items c.args.uuid.now
