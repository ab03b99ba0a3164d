use Rattle.std.proofs.Common.{◌≡◌, ◌∙◌, ◌-◌, ℕ, ◌||◌, ap, sym, subst, take, length, arith, length-append, ◌∷◌, []}
use Rattle.std.proofs.Math.Seq.{take-append_seam}
use Rattle.version_graph.specs.Domain.{has}
use Rattle.version_graph.specs.Graph.{is_state}
use Rattle.version_graph.specs.Noted.{Holds, note_at}
use Rattle.version_graph.proofs.RowLemmas.{has-written}
use Rattle.version_graph.proofs.TrailLemmas.{last-known, last-taken, gives, or-flipped, last-note}
use Rattle.version_graph.proofs.domain.Domains.give_back.Goals as goal
use Rattle.version_graph.proofs.domain.Domains.give_back.Goals.{After-restore}

pub restore-requires-clause-known : goal.restore-requires-clause-known
restore-requires-clause-known c = (last-known c.requires.held.0 _ _ c.pop-p.new.self.notes _ _ c.requires.held.1 c.pop-p.ensures.notes).0

pub restore-requires-clause-state : goal.restore-requires-clause-state
restore-requires-clause-state c = (last-known c.requires.held.0 _ _ c.pop-p.new.self.notes _ _ c.requires.held.1 c.pop-p.ensures.notes).1

shorter : (c : After-restore) → length c.args.trail.now.notes - 1 ≡ length c.pop-p.new.self.notes
shorter c = omega (arith, ap length c.pop-p.ensures.notes, length-append c.pop-p.new.self.notes (c.pop-p.result ∷ []))

pub returns-clause-notes : goal.returns-clause-notes
returns-clause-notes c =
    sym (ap (λ n. take n c.args.trail.now.notes) (shorter c)
    ∙ ap (take (length c.pop-p.new.self.notes)) c.pop-p.ensures.notes
    ∙ take-append_seam c.pop-p.new.self.notes (c.pop-p.result ∷ []))

pub returns-clause-back : goal.returns-clause-back
returns-clause-back c q j =
    let k = last-known c.requires.held.0 _ _ c.pop-p.new.self.notes _ _ c.requires.held.1 c.pop-p.ensures.notes in
    let note : note_at c.args.trail.now.notes (length c.args.trail.now.notes - 1) ≡ c.pop-p.result =
    ap (λ x. note_at x (length c.args.trail.now.notes - 1)) c.pop-p.ensures.notes ∙ last-note c.pop-p.new.self.notes c.pop-p.result _ (shorter c) in
    ap (λ x. has x q j) c.restore.ensures
    ∙ has-written _ _ _ _ q j k.0 k.1
    ∙ or-flipped _ (has c.args.self.now q j)
    ∙ ap (λ (n : ℕ × ℕ). ◌||◌ (has c.args.self.now q j) (is_state q j n.0 n.1)) (sym note)

pub returns-clause-keeps : goal.returns-clause-keeps
returns-clause-keeps c g h =
    subst (λ x. Holds g x c.pop-p.new.self) (sym c.restore.ensures)
    (gives g c.args.self.now c.args.trail.now c.pop-p.new.self _ _ h c.pop-p.ensures.notes c.pop-p.ensures.settled c.pop-p.ensures.room)

pub restore-requires-clause-away : goal.restore-requires-clause-away
restore-requires-clause-away c = (last-taken c.requires.held.0 _ _ c.pop-p.new.self.notes _ _ c.requires.held.1 c.pop-p.ensures.notes).1
