use Rattle.std.proofs.Common.{◌≡◌, ◌∷◌, ◌-◌, suc, map, drop, true, false, ap, sym, ◌∙◌, arith}
use Rattle.std.specs.Str.{bytes_eq}
use Rattle.manifest_file.specs.Said.{said_stanza}
use Rattle.manifest_file.specs.Written as spec
use Rattle.manifest_file.proofs.Groups.{run_init, run_next, run_apart, name_at-drop, drop_cons}
use Rattle.manifest_file.proofs.grouping.run_start.Goals as goal

pub loop-start-init : goal.loop-start-init
loop-start-init c =
    let ss = c.args.stanzas.now in
    let end = c.args.end in
    let groups = spec.grouped (map said_stanza (drop end ss)) in
    let within = c.requires.within in
    let some = c.requires.some in
    let (x, at) = drop_cons (end - 1) ss (omega arith) in
    let up : suc (end - 1) ≡ end = omega arith in
    let one : end - (end - 1) ≡ 1 = omega arith in
    let here : drop (end - 1) ss ≡ x ∷ drop end ss = at ∙ ap (λ k. x ∷ drop k ss) up in
    let apart : spec.is_apart x.name groups ≡ true = ap (λ n. spec.is_apart n groups) (sym (name_at-drop (end - 1) ss x (drop end ss) here)) ∙ c.requires.apart in
    (omega arith, run_init (drop (end - 1) ss) (drop end ss) x (end - (end - 1)) here one apart)

pub loop-start-preserved : goal.loop-start-preserved
loop-start-preserved c =
    let ss = c.args.stanzas.now in
    let end = c.args.end in
    let start = c.loop-start.start in
    let all = map said_stanza ss in
    let groups = spec.grouped (map said_stanza (drop end ss)) in
    let within = c.requires.within in
    let (before, run) = c.loop-start.invariant in
    let (some, same) = c.loop-start-test.ensures in
    let (y, at_y) = drop_cons (start - 1) ss (omega arith) in
    let (x, at_x) = drop_cons start ss (omega arith) in
    let up : suc (start - 1) ≡ start = omega arith in
    let here : drop (start - 1) ss ≡ y ∷ drop start ss = at_y ∙ ap (λ k. y ∷ drop k ss) up in
    let named : bytes_eq y.name x.name ≡ true = ap (λ n. bytes_eq n x.name) (sym (name_at-drop (start - 1) ss y (drop start ss) here))
    ∙ ap (bytes_eq (spec.name_before start all)) (sym (name_at-drop start ss x (drop (suc start) ss) at_x)) ∙ same in
    let n_is : end - start ≡ suc (end - start - 1) = omega arith in
    let m_is : end - (start - 1) ≡ suc (end - start) = omega arith in
    (omega arith, run_next (drop (start - 1) ss) (drop start ss) (drop (suc start) ss) y x (end - (start - 1)) (end - start) (end - start - 1) groups here at_x n_is m_is named run)

pub returns-clause-apart : goal.returns-clause-apart
returns-clause-apart c = λ some.
    let ss = c.args.stanzas.now in
    let end = c.args.end in
    let start = c.loop-start.start in
    let all = map said_stanza ss in
    let groups = spec.grouped (map said_stanza (drop end ss)) in
    let within = c.requires.within in
    let (before, run) = c.loop-start.invariant in
    let (x, at_x) = drop_cons start ss (omega arith) in
    let n_is : end - start ≡ suc (end - start - 1) = omega arith in
    let other : bytes_eq (spec.name_before start all) x.name ≡ false =
    ap (bytes_eq (spec.name_before start all)) (sym (name_at-drop start ss x (drop (suc start) ss) at_x)) ∙ c.loop-start-test.ensures some in
    run_apart (drop start ss) (drop (suc start) ss) x (spec.name_before start all) (end - start) (end - start - 1) groups at_x n_is other run
