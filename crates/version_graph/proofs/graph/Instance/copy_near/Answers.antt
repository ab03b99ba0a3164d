use Rattle.std.proofs.Common.{◌≡◌, ◌≢◌, ◌∙◌, ◌<◌, ℕ, true, length, arith, sym, subst}
use Rattle.std.proofs.lemmas.Option.{MatchOption-at_some, MatchOption-at_none}
use Rattle.version_graph.specs.Graph.{is_forbidden}
use Rattle.version_graph.specs.Part.{package_of, states_of}
use Rattle.version_graph.specs.Copied.{is_forbidden_at}
use Rattle.version_graph.proofs.BuildLemmas.{on-ok}
use Rattle.version_graph.proofs.PartLemmas.{place_is}
use Rattle.version_graph.proofs.graph.Instance.copy_near.Goals as goal

pub returns-in-Some-clause-here : goal.returns-in-Some-clause-here
returns-in-Some-clause-here c =
    let g = c.args.self.now in
    let m = c.args.part.now in
    let n = length m in
    let p = c.args.p in
    let q = c.args.q in
    let b = c.copy_block.new.builder in
    let place = MatchOption-at_some ((k : ℕ) → k < n → package_of m k ≢ q) (λ k. (k < n) × (package_of m k ≡ q)) c.in-Some.place (sym c.in-Some.ensures) (c.requires.places.at q c.requires.near) in
    on-ok c.copy_block.result _ _
    (λ here k i j before number first second e.
    let same : c.in-Some.place ≡ k = place_is g m c.requires.part c.in-Some.place k place.0 (omega (arith, before, c.requires.known)) (place.1 ∙ sym number) in
    subst (λ x. x < p → j < length (states_of m x) → is_forbidden_at g m p i x j ≡ true → is_forbidden b p i x j ≡ true) same (λ lower low f. here i j lower first low f) before second e)
    c.copy_block.ensures.here

pub returns-in-None-clause-here : goal.returns-in-None-clause-here
returns-in-None-clause-here c k i j before number first second e =
    let m = c.args.part.now in
    let n = length m in
    let q = c.args.q in
    let away = MatchOption-at_none ((k : ℕ) → k < n → package_of m k ≢ q) (λ k. (k < n) × (package_of m k ≡ q)) (sym c.in-None.ensures) (c.requires.places.at q c.requires.near) in
    absurd (away k (omega (arith, before, c.requires.known)) number)
