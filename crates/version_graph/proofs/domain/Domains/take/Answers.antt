use Rattle.std.proofs.Common.{◌∙◌, ◌+◌, ap, subst, sym, arith, false, length, get_or}
use Rattle.std.proofs.lemmas.List.{get_or-set_other}
use Rattle.version_graph.proofs.RowLemmas.{has_known, has-written}
use Rattle.version_graph.proofs.TrailLemmas.{room_to_note, takes, and-flipped}
use Rattle.version_graph.specs.Domain.{has}
use Rattle.version_graph.specs.Graph.{is_state}
use Rattle.version_graph.specs.Noted.{Holds}
use Rattle.version_graph.proofs.domain.Domains.take.Goals as goal

pub push-requires-clause-room : goal.push-requires-clause-room
push-requires-clause-room c = (room_to_note c.requires.held.0 c.args.self.now c.args.trail.now c.args.p c.args.i c.requires.there c.requires.held.1).0

pub push-requires-clause-lengths : goal.push-requires-clause-lengths
push-requires-clause-lengths c = (room_to_note c.requires.held.0 c.args.self.now c.args.trail.now c.args.p c.args.i c.requires.there c.requires.held.1).1

pub returns-clause-without : goal.returns-clause-without
returns-clause-without c q j =
    let k = has_known _ _ _ c.requires.there in
    ap (λ x. has x q j) c.remove.ensures
    ∙ has-written _ _ _ _ q j k.0 k.1
    ∙ and-flipped (is_state q j c.args.p c.args.i) (has c.args.self.now q j)

pub returns-clause-keeps : goal.returns-clause-keeps
returns-clause-keeps c g h =
    subst (λ x. Holds g x c.push.new.self) (sym c.remove.ensures)
    (takes g c.args.self.now c.args.trail.now c.push.new.self c.args.p c.args.i c.requires.there h c.push.ensures.notes c.push.ensures.settled c.push.ensures.room)

pub returns-clause-settled : goal.returns-clause-settled
returns-clause-settled c k h =
    ap (λ xs. get_or xs k false) c.push.ensures.settled
    ∙ get_or-set_other c.args.trail.now.settled (length c.args.trail.now.notes + 1) k false false (λ e. absurd (omega (arith, e, h)))
