use Rattle.std.proofs.Common.{◌≡◌, ℕ, Vec, Global, ◌<◌, ◌*◌, ◌++◌, List, map, length, get_or, sym, ap, subst, ◌∙◌, arith}
use Rattle.std.proofs.lemmas.List.{append-nil}
use Rattle.std.specs.List.{AllByRecursion, flat_map, range_with_len}
use Rattle.world_maker.specs.Draws.{state}
use Rattle.world_maker.specs.Drawn.{starts_from, asked, all_needs, spans_from, ranged}
use Rattle.world_maker.specs.World.{first_files, package_files, drawn_files, before_needs, before_spans, needs_of, sized_world}
use Rattle.world_maker.proofs.Known.{Rows, starts_small, length_starts, needs_known, length_rows, row_at}
use Rattle.world_maker.proofs.Orbit.{state_none, state_plus, ranged_none, ranged_more}
use Rattle.world_maker.proofs.Pushed.{drawn_more}
use Rattle.world_maker.proofs.files.world_files.Goals as goal

-- the state at which the ranges are drawn
at_spans : (number count s0 s1 : ℕ) → s0 ≡ state number count → s1 ≡ state s0 (asked s0 count) → s1 ≡ before_spans number count
at_spans number count s0 s1 first second = second ∙ ap (λ s. state s (asked s count)) first

-- what is drawn of the dependencies, as the world has it
rows_are : (number count s0 : ℕ) (all : Rows) → s0 ≡ state number count → map (λ needs. needs.items) all ≡ all_needs s0 count → map (λ needs. needs.items) all ≡ all_needs (before_needs number count) count
rows_are number count s0 all first same = same ∙ ap (λ s. all_needs s count) first

-- the row of package k
row_is : (number count s0 k : ℕ) (all : Rows) (row : Vec ℕ Global) (found : List ℕ) → s0 ≡ state number count → map (λ needs. needs.items) all ≡ all_needs s0 count → k < count
    → row ≡ get_or all k row → found ≡ row.items → found ≡ needs_of number count k
row_is number count s0 k all row found first same inside is here =
    here ∙ ap (λ (v : Vec ℕ Global). v.items) is ∙ row_at all (before_needs number count) count k row (rows_are number count s0 all first same) inside

pub packages-init : goal.packages-init
packages-init c =
    let n = c.args.number in
    let count = c.args.count in
    record {
      made = c.in_ok-files.ensures ∙ sym (append-nil (first_files count));
      at = at_spans n count c.starts.new.draws.state c.all_needs.new.draws.state c.in_ok-starts.ensures.next c.in_ok-needs.ensures.next
          ∙ sym (ap (state (before_spans n count)) (ranged_none (before_needs n count) count) ∙ state_none (before_spans n count));
    }

pub index-needs-requires : goal.index-needs-requires
index-needs-requires c =
    let rows = length_rows c.in_ok-needs.needs.items c.starts.new.draws.state c.args.count c.in_ok-needs.ensures.drawn in
    omega (arith, rows, c.packages-test.true)

pub push_drawn-requires-clause-small : goal.push_drawn-requires-clause-small
push_drawn-requires-clause-small c =
    subst (AllByRecursion (λ start. start < 8)) (sym (c.deref.ensures.value ∙ c.in_ok-starts.ensures.drawn)) (starts_small c.args.number c.args.count)

pub push_drawn-requires-clause-known : goal.push_drawn-requires-clause-known
push_drawn-requires-clause-known c =
    let n = c.args.number in
    let count = c.args.count in
    let k = c.packages.«package» in
    let long : length c.deref.result.now ≡ count = ap length (c.deref.ensures.value ∙ c.in_ok-starts.ensures.drawn) ∙ length_starts n count in
    let needs = row_is n count c.starts.new.draws.state k c.in_ok-needs.needs.items c.index-needs.result.now c.deref-in-packages.result.now c.in_ok-starts.ensures.next c.in_ok-needs.ensures.drawn c.packages-test.true c.index-needs.ensures c.deref-in-packages.ensures.value in
    subst (λ m. AllByRecursion (λ need. need < m) c.deref-in-packages.result.now) (sym long)
    (subst (AllByRecursion (λ need. need < count)) (sym needs) (needs_known (state (before_needs n count) (asked (before_needs n count) k)) k count))

pub packages-preserved : goal.packages-preserved
packages-preserved c =
    let n = c.args.number in
    let count = c.args.count in
    let k = c.packages.«package» in
    let x = before_spans n count in
    let starts : c.deref.result.now ≡ starts_from n count = c.deref.ensures.value ∙ c.in_ok-starts.ensures.drawn in
    let needs = row_is n count c.starts.new.draws.state k c.in_ok-needs.needs.items c.index-needs.result.now c.deref-in-packages.result.now c.in_ok-starts.ensures.next c.in_ok-needs.ensures.drawn c.packages-test.true c.index-needs.ensures c.deref-in-packages.ensures.value in
    let here = c.packages.invariant.at in
    record {
      made = c.in_ok-push_drawn.ensures.made
          ∙ (λ i. c.packages.invariant.made i ++ package_files k (needs i) (spans_from (here i) (starts i) (needs i)))
          ∙ drawn_more (drawn_files n count) (first_files count) k;
      at = c.in_ok-push_drawn.ensures.next ∙ (λ i. state (here i) (16 * length (needs i))) ∙ state_plus x (ranged (before_needs n count) count k) (16 * length (needs_of n count k))
          ∙ ap (state x) (sym (ranged_more (before_needs n count) count k));
    }

pub returns : goal.returns
unfolding sized_world
returns c =
    let whole : c.packages.«package» ≡ c.args.count = omega (arith, c.packages-test.false, c.packages.auto.package-end) in
    c.packages.invariant.made ∙ ap (λ n. first_files c.args.count ++ flat_map (drawn_files c.args.number c.args.count) (range_with_len 0 n)) whole
