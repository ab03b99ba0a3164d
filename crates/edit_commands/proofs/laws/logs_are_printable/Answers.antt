-- by the search of the instance
use Rattle.edit_commands.proofs.PrintableLemmas.{empty-printable, spent-printable}
use Rattle.edit_commands.proofs.laws.logs_are_printable.Goals as goal

pub returns : goal.returns
returns c = λ book w budget log low. (
  λ answer. empty-printable c.offered_is_known.ensures c.closure_is_largest.ensures c.choice_is_lawful.ensures answer.graph budget log low answer.searches,
  λ answer. spent-printable c.offered_is_known.ensures c.closure_is_largest.ensures c.choice_is_lawful.ensures answer.graph budget log low answer.searches,
)
