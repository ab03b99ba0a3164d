use Rattle.std.proofs.Common.{◌≡◌, ◌≢◌, ◌∙◌, ◌+◌, ◌<◌, ◌^◌, ◌&&◌, not, ℕ, length, get_or, set, ap, subst, sym, arith, inl, inr}
use Rattle.std.proofs.lemmas.List.{get_or-set_same, get_or-set_other, length-set}
use Rattle.version_graph.specs.Graph.{is_forbidden}
use Rattle.version_graph.specs.Domain.{has}
use Rattle.maxsum_messages.specs.Greatest.{IsGreatest}
use Rattle.maxsum_messages.proofs.Best.{in-range, passed}
use Rattle.maxsum_messages.proofs.saying.gather.Goals as goal

pub loop-j-preserved : goal.loop-j-preserved
loop-j-preserved g c =
    let none = g.W.Weight.none in
    let cmp = g.W.Ord.cmp in
    let small = g.W.Weight.is_within (2 ^ 52) in
    let xs = c.loop-j.raw.items in
    let k = c.loop-j.j in
    let w = c.raw_at.result in
    let d = has c.args.domains.now in
    let p = c.args.p in
    let q = c.args.q in
    let inv = c.loop-j.invariant in
    let allowed = λ (j i : ℕ). d p i && not (is_forbidden c.args.instance.now p i q j) in
    let room : k < length xs = omega (arith, inv.same, c.requires.raw_room, c.states-j-end.ensures.count) in
    let same : get_or (set xs k w) k none ≡ w = get_or-set_same xs k w none room in
    let other : (j : ℕ) → j < k → get_or (set xs k w) j none ≡ get_or xs j none = λ j l. get_or-set_other xs k j w none (λ e. absurd (omega (arith, l, e))) in
    record {
      same = length-set xs k w ∙ inv.same;
      best = λ j h t value weighed. elim (passed k j h) [
        | inl l ↦ subst (IsGreatest cmp (allowed j) value) (sym (other j l)) (inv.best j l t value weighed)
        | inr e ↦
            subst (λ n. IsGreatest cmp (allowed n) value (get_or (set xs k w) n none)) (sym e)
            (subst (IsGreatest cmp (allowed k) value) (sym same) (c.raw_at.ensures.best (ap (d q) (sym e) ∙ t) value weighed))
      ];
      small = λ j h. elim (passed k j h) [
        | inl l ↦ subst small (sym (other j l)) (inv.small j l)
        | inr e ↦ subst (λ n. small (get_or (set xs k w) n none)) (sym e) (subst small (sym same) c.raw_at.ensures.small)
      ];
    }

pub returns-clause-best : goal.returns-clause-best
returns-clause-best g c j there =
    let inside = in-range c.args.domains.now c.args.q j there in
    c.loop-j.invariant.best j (omega (arith, inside, c.requires.made.wide c.args.q c.requires.second, c.states-j-end.ensures.count)) there
