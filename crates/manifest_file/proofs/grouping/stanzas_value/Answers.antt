use Rattle.std.proofs.Common.{rules, ◌≡◌, ◌∷◌, ◌-◌, ◌+◌, Some, suc, map, take, drop, true, ap, sym, subst, ◌∙◌, arith}
use Rattle.std.proofs.lemmas.Grind.{common_steps}
use Rattle.toml.specs.View.{view}
use Rattle.pkg_world.specs.ByName.{is_by_name}
use Rattle.manifest_file.specs.Said.{said_stanza}
use Rattle.manifest_file.specs.Sorting.{bearers_by}
use Rattle.manifest_file.specs.Written as spec
use Rattle.manifest_file.specs.ReadsBack.{StanzasBack}
use Rattle.manifest_file.proofs.Groups.{run_first, grouped_ordered, are_by_name-drop}
use Rattle.manifest_file.proofs.Puts.{by_name-map}
use Rattle.manifest_file.proofs.Carried.{run_back}
use Rattle.manifest_file.proofs.grouping.stanzas_value.Goals as goal

pub loop-end-preserved : goal.loop-end-preserved
loop-end-preserved c =
    let ss = c.args.stanzas.now in
    let end = c.loop-end.end in
    let start = c.run_start-start.result in
    let x = c.index-stanzas-start.result in
    let bearers = bearers_by c.args.index.now in
    let groups = spec.grouped (map said_stanza (drop end ss)) in
    let puts = map (spec.group_put bearers) groups in
    let (within, shows, apart, back) = c.loop-end.invariant in
    let before = c.run_start-start.ensures.before in
    let here : drop start ss ≡ x ∷ drop (start + 1) ss = grind (arith, common_steps) in
    let n_is : end - start ≡ suc (end - start - 1) = omega arith in
    let named : c.as_str.result.now ≡ x.name = search rules in
    let list = map said_stanza (take (end - start) (drop start ss)) in
    let first : spec.grouped (map said_stanza (drop start ss)) ≡ (x.name, list) ∷ groups
    = run_first (drop start ss) (drop (start + 1) ss) x (end - start) (end - start - 1) groups here n_is c.run_start-start.ensures.run in
    let ordered : is_by_name ((x.name, Some (view c.in_ok-value.value)) ∷ puts) ≡ true
    = by_name-map (λ l. Some (spec.group_data bearers l)) ((x.name, list) ∷ groups) ∙ ap is_by_name (sym first)
    ∙ grouped_ordered (map said_stanza (drop start ss)) (are_by_name-drop start ss c.requires) in
    let put_ordered : is_by_name ((c.as_str.result.now, Some (view c.in_ok-value.value)) ∷ puts) ≡ true
    = ap (λ n. is_by_name ((n, Some (view c.in_ok-value.value)) ∷ puts)) named ∙ ordered in (
      omega arith,
      c.in_ok-put.ensures puts shows put_ordered
          ∙ ap (λ n. spec.members_opt ((n, Some (view c.in_ok-value.value)) ∷ puts)) named
          ∙ ap (λ d. spec.members_opt ((x.name, Some d) ∷ puts)) c.in_ok-value.ensures.data
          ∙ ap (λ gs. spec.members_opt (map (spec.group_put bearers) gs)) (sym first),
      c.run_start-start.ensures.apart,
      run_back bearers start end ss (omega (arith, before)) c.in_ok-value.ensures.back back,
    )

pub returns-clause-back : goal.returns-clause-back
returns-clause-back c =
    let (within, shows, apart, back) = c.loop-end.invariant in
    let none : c.loop-end.end ≡ 0 = omega (arith, c.loop-end-test.false) in
    subst (λ k. StanzasBack (bearers_by c.args.index.now) (map said_stanza (drop k c.args.stanzas.now))) none back
