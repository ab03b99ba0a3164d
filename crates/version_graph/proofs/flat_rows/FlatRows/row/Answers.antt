use Rattle.std.proofs.Common.{◌≡◌, ◌∙◌, ◌+◌, ◌<◌, ◌≤◌, [], ap, sym, subst, arith, length, get_or}
use Rattle.std.proofs.lemmas.List.{get_or_read}
use Rattle.std.specs.List.{slice_range}
use Rattle.version_graph.specs.Flat.{Flat}
use Rattle.version_graph.proofs.FlatLemmas.{length-cut, get-cut, start_le}
use Rattle.version_graph.proofs.flat_rows.FlatRows.row.Goals as goal

pub index-requires : goal.index-requires
index-requires c =
    omega (arith, c.requires, ap (λ (f : Flat). length f.rows) c.self.view_is, length-cut c.self.inside.starts.items c.self.inside.numbers.items, c.self.inside.starts.ok.0)

pub overflow_add-place : goal.overflow_add-place
overflow_add-place c =
    omega (arith, c.requires, ap (λ (f : Flat). length f.rows) c.self.view_is, length-cut c.self.inside.starts.items c.self.inside.numbers.items, c.self.inside.starts.ok.0, c.self.inside.starts.ok.1, c.self.inside.starts.small)

pub index-requires-2 : goal.index-requires-2
index-requires-2 c =
    omega (arith, c.requires, ap (λ (f : Flat). length f.rows) c.self.view_is, length-cut c.self.inside.starts.items c.self.inside.numbers.items, c.self.inside.starts.ok.0)

pub piece-requires-clause-rising : goal.piece-requires-clause-rising
piece-requires-clause-rising c =
    let starts = c.self.inside.starts.items in
    let place = c.args.place in
    let known : place + 1 < length starts = omega (arith, c.requires, ap (λ (f : Flat). length f.rows) c.self.view_is, length-cut starts c.self.inside.numbers.items) in
    let from = get_or_read starts place c.index.result.now (omega (arith, known)) c.index.ensures 0 in
    let to = get_or_read starts (place + 1) c.index-2.result.now known c.index-2.ensures 0 in
    omega (arith, from, to, c.self.invariant.rising place known)

pub piece-requires-clause-within : goal.piece-requires-clause-within
piece-requires-clause-within c =
    let starts = c.self.inside.starts.items in
    let place = c.args.place in
    let known : place + 1 < length starts = omega (arith, c.requires, ap (λ (f : Flat). length f.rows) c.self.view_is, length-cut starts c.self.inside.numbers.items) in
    let to = get_or_read starts (place + 1) c.index-2.result.now known c.index-2.ensures 0 in
    omega (arith, to, ap length c.as_slice.ensures.value, start_le starts (length c.self.inside.numbers.items) c.self.invariant (place + 1) known)

pub returns : goal.returns
returns c =
    let starts = c.self.inside.starts.items in
    let numbers = c.self.inside.numbers.items in
    let place = c.args.place in
    let known : place + 1 < length starts = omega (arith, c.requires, ap (λ (f : Flat). length f.rows) c.self.view_is, length-cut starts numbers) in
    let from = get_or_read starts place c.index.result.now (omega (arith, known)) c.index.ensures 0 in
    let to = get_or_read starts (place + 1) c.index-2.result.now known c.index-2.ensures 0 in
    c.piece.ensures ∙ (λ n. slice_range (c.as_slice.ensures.value n) (from n) (to n)) ∙ sym (get-cut starts numbers place known)
    ∙ ap (λ (f : Flat). get_or f.rows place []) c.self.view_is
