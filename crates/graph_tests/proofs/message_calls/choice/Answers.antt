use Rattle.std.proofs.Common.{ℕ, List, ap, sym, subst, arith, length, get_or}
use Rattle.maxsum_messages.specs.Kept.{AreAligned}
use Rattle.graph_tests.proofs.message_calls.choice.Goals as goal

pub choose-chosen-requires-clause-aligned : goal.choose-chosen-requires-clause-aligned
choose-chosen-requires-clause-aligned c =
    subst (λ (xs : List ℕ). AreAligned xs c.args.fields.now c.args.domains.now) (sym c.requires.messages.sizes)
    (record {
      fields = c.requires.fields.each;
      field_places = c.requires.fields.wide;
      domains = c.requires.made.each;
      domain_places = c.requires.made.wide;
    })

pub choose-chosen-requires-clause-room : goal.choose-chosen-requires-clause-room
choose-chosen-requires-clause-room c p h =
    omega (arith, c.in_ok-order.ensures.room.room p (omega (arith, h, ap length c.requires.messages.sizes)), ap (λ (xs : List ℕ). get_or xs p 0) c.requires.messages.sizes)
