use Rattle.std.proofs.Common.{List, map, subst}
use Rattle.compat_spec.specs.declared.part.Part.{Part}
use Rattle.jl_versions.specs.declared.version.Version.{Version}
use Rattle.offer_terms.specs.Offered.{Text, Id}
use Rattle.offer_terms.specs.Demanded.{wanted, spec_entry, version_entry}
use Rattle.book_graph.specs.Building.{Bars, OfOne, IsAbsent, IsOffered, IsAnywhere, is_outside, is_other, refuses_julia}
use Rattle.book_graph.proofs.States.{bars_all}
use Rattle.book_graph.proofs.barring.bar_states.Goals as goal

pub returns : goal.returns
returns c =
    let book = c.args.book.now in
    let a = c.bar_roots.new.builder in
    let b = c.bar_project.new.builder in
    let d = c.bar_pins.new.builder in
    let e = c.bar_pins-2.new.builder in
    bars_all book (wanted c.args.demand.now) c.args.builder.now a b d e c.bar_by_julia.new.builder
    (subst (λ xs. Bars c.args.builder.now a (OfOne (λ (r : Text × Id). IsAbsent book r.1) xs)) c.items.ensures.items c.bar_roots.ensures)
    (subst (λ xs. Bars a b (OfOne (λ (x : Id × List Part). IsOffered book x.0 (is_outside x.1)) (map spec_entry xs))) c.items-2.ensures c.bar_project.ensures)
    (subst (λ xs. Bars b d (OfOne (λ (p : Id × Version). IsOffered book p.0 (is_other p.1)) (map version_entry xs))) c.items-3.ensures c.bar_pins.ensures)
    (subst (λ xs. Bars d e (OfOne (λ (p : Id × Version). IsOffered book p.0 (is_other p.1)) (map version_entry xs))) c.items-4.ensures c.bar_pins-2.ensures)
    (subst (λ j. Bars e c.bar_by_julia.new.builder (IsAnywhere book (refuses_julia j))) c.requires.julia c.bar_by_julia.ensures)
