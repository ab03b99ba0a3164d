use Rattle.std.proofs.Common.{◌≡◌, ◌∙◌, ◌<◌, ◌≤◌, ◌||◌, true, ℕ, ap, subst, sym, List, length, arith, eqb}
use Rattle.std.specs.List.Sorted.{IsStrictlyIncreasing}
use Rattle.std.proofs.lemmas.List.{length-map, map-set}
use Rattle.version_graph.specs.Stored.{rows_of, includes, AreRising, AddsLink}
use Rattle.version_graph.proofs.RowLemmas.{row-read}
use Rattle.version_graph.proofs.GraphLemmas.{rising-set, added-set}
use Rattle.version_graph.proofs.counting.link_row.Goals as goal

pub link-requires-clause-rising : goal.link-requires-clause-rising
link-requires-clause-rising c =
    let known : c.args.p < length (rows_of c.args.rows.now.items) = omega (arith, c.requires.known, length-map c.args.rows.now.items (λ v. v.items)) in
    subst (λ (xs : List ℕ). IsStrictlyIncreasing xs) (row-read c.args.rows.now.items c.args.p c.index_mut-row.result.now c.index_mut-row.ensures.value known)
    (c.requires.rising.rising c.args.p known)

pub link-requires-clause-last : goal.link-requires-clause-last
link-requires-clause-last c =
    let known : c.args.p < length (rows_of c.args.rows.now.items) = omega (arith, c.requires.known, length-map c.args.rows.now.items (λ v. v.items)) in
    subst (λ (xs : List ℕ). (x : ℕ) → includes xs x ≡ true → x ≤ c.args.q) (row-read c.args.rows.now.items c.args.p c.index_mut-row.result.now c.index_mut-row.ensures.value known)
    c.requires.last

pub returns-clause-rising : goal.returns-clause-rising
returns-clause-rising c =
    let known : c.args.p < length (rows_of c.args.rows.now.items) = omega (arith, c.requires.known, length-map c.args.rows.now.items (λ v. v.items)) in
    subst AreRising (sym (map-set (λ v. v.items) c.args.rows.now.items c.args.p _)) (rising-set (rows_of c.args.rows.now.items) c.args.p _ known c.requires.rising c.in_ok-link.ensures.rising)

pub returns-clause-added : goal.returns-clause-added
returns-clause-added c =
    let known : c.args.p < length (rows_of c.args.rows.now.items) = omega (arith, c.requires.known, length-map c.args.rows.now.items (λ v. v.items)) in
    let here = row-read c.args.rows.now.items c.args.p c.index_mut-row.result.now c.index_mut-row.ensures.value known in
    subst (λ x. AddsLink (rows_of c.args.rows.now.items) x c.args.p c.args.q) (sym (map-set (λ v. v.items) c.args.rows.now.items c.args.p _))
    (added-set (rows_of c.args.rows.now.items) c.args.p c.args.q _ known
    (λ x. c.in_ok-link.ensures.added x ∙ ap (λ r. includes r x || eqb x c.args.q) (sym here)))
