-- What is read by what a text means.
use Rattle.std.proofs.Common.{◌≡◌, List, ℕ, Result, Ok, Err, IfOk, IfErr, MatchResult, refl, sym, ◌∙◌}
use Rattle.pkg_world.specs.Listing.{Listing}
use Rattle.refutation_log.specs.declared.node.Node.{Node}
use Rattle.log_text.specs.Text.{IsTextOf}
use Rattle.log_text.specs.Bad.{Refuses}
use Rattle.log_text.specs.Laws.{MeaningIsTheTexts}
use Rattle.log_text.specs.Meant.{log_meant, RefusesAt}
use Rattle.log_text.specs.declared.fault.LogFault.{LogFault}
use Rattle.log_text.specs.declared.fault.LogFault.TheVariants.{BadLog, Memory}
use Rattle.log_text.proofs.Nodes.{same_ok, no_ok}

module _ (law : MeaningIsTheTexts) (text : List ℕ) where
  pub read_ok : (r : Result (Listing Node) LogFault) → MatchResult r (λ log. log_meant text ≡ Ok log.items) (RefusesAt (log_meant text)) → IfOk r (λ log. IsTextOf text log.items)
  read_ok (Ok log) h = ((law text).0 log.items).0 h
  read_ok (Err fault) h = tt

  pub read_only : (r : Result (Listing Node) LogFault) → MatchResult r (λ log. log_meant text ≡ Ok log.items) (RefusesAt (log_meant text)) → (nodes : List Node) → IsTextOf text nodes
      → MatchResult r (λ log. log.items ≡ nodes) (λ fault. fault ≡ Memory)
  read_only (Ok log) h nodes is = same_ok log.items nodes (sym h ∙ ((law text).0 nodes).1 is)
  read_only (Err (BadLog line)) h nodes is = absurd (no_ok nodes line (sym h ∙ ((law text).0 nodes).1 is))
  read_only (Err Memory) h nodes is = refl

  pub read_bad : (r : Result (Listing Node) LogFault) → MatchResult r (λ log. log_meant text ≡ Ok log.items) (RefusesAt (log_meant text)) → IfErr r (Refuses text)
  read_bad (Ok log) h = tt
  read_bad (Err (BadLog line)) h = ((law text).1 line).0 h
  read_bad (Err Memory) h = tt
