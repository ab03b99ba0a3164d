-- The two least of some stanzas and one more.
use Rattle.std.proofs.Common.{◌≡◌, ℕ, suc, ◌-◌, ◌<◌, ◌≤◌, Bool, true, false, if◌then◌else◌, List, [], ◌∷◌, Option, Some, None, length, map, drop, get_or, refl, ap, sym, ◌∙◌, arith}
use Rattle.std.proofs.Math.Seq.{drop-cons}
use Rattle.std.specs.List.{cons_option}
use Rattle.manifest_file.specs.Said.{said_stanza}
use Rattle.home_commands.specs.VerifyDue.{Bearer, is_after, put_in_order, in_order, first_two, bearers_in, bearer_of, tree_stanzas}
use Rattle.home_commands.specs.VerifySteps.{with_one, with_found}
use Rattle.home_commands.specs.declared.verify_answer.Bearers.TheVariants.{Several}
use Rattle.home_commands.proofs.verify_answer.bearers_in.Goals as goal

one_put : (bearer : Bearer) (rest : List Bearer) → first_two (put_in_order bearer rest) ≡ with_one bearer (first_two rest)
one_put bearer [] = refl
one_put bearer (one ∷ []) = pick (is_after bearer.0 one.0)
  where
    pick : (b : Bool) → first_two (if b then one ∷ bearer ∷ [] else bearer ∷ one ∷ []) ≡ (if b then Several one.0 bearer.0 else Several bearer.0 one.0)
    pick true = refl
    pick false = refl
one_put bearer (least ∷ next ∷ more) = pick (is_after bearer.0 least.0) (is_after bearer.0 next.0)
  where
    pick : (a b : Bool) → first_two (if a then least ∷ (if b then next ∷ put_in_order bearer more else bearer ∷ next ∷ more) else bearer ∷ least ∷ next ∷ more)
        ≡ (if a then (if b then Several least.0 next.0 else Several least.0 bearer.0) else Several bearer.0 least.0)
    pick true true = refl
    pick true false = refl
    pick false b = refl

found_put : (found : Option Bearer) (rest : List Bearer) → first_two (in_order (cons_option found rest)) ≡ with_found found (first_two (in_order rest))
found_put None rest = refl
found_put (Some bearer) rest = one_put bearer (in_order rest)

-- the elements from the one before on
behind : {X : Type 0} (xs : List X) (left : ℕ) (x : X) → 0 < left → left ≤ length xs → x ≡ get_or xs (left - 1) x → drop (left - 1) xs ≡ x ∷ drop left xs
behind xs left x some within there =
    let inside : left - 1 < length xs = omega arith in
    let up : suc (left - 1) ≡ left = omega arith in
    drop-cons xs (left - 1) x inside ∙ ap (λ y. y ∷ drop (suc (left - 1)) xs) (sym there) ∙ ap (λ n. x ∷ drop n xs) up

pub loop-left-preserved : goal.loop-left-preserved
loop-left-preserved c =
    let name = c.args.name.now in
    let left = c.loop-left.left in
    let stanzas = c.args.stanzas.now in
    let stanza = c.index-stanzas-left.result in
    let here : drop (left - 1) stanzas ≡ stanza ∷ drop left stanzas = behind stanzas left stanza c.loop-left-test.true c.loop-left.invariant.0 c.index-stanzas-left.is in
    let same : c.with_stanza-bearers.result ≡ bearers_in name (map said_stanza (drop (left - 1) stanzas))
    = c.with_stanza-bearers.ensures
    ∙ ap (with_found (bearer_of name (said_stanza stanza))) c.loop-left.invariant.1
    ∙ sym (found_put (bearer_of name (said_stanza stanza)) (tree_stanzas name (map said_stanza (drop left stanzas))))
    ∙ ap (λ list. bearers_in name (map said_stanza list)) (sym here) in
    let within : left - 1 ≤ length stanzas = omega (arith, c.loop-left.invariant.0) in
    (within, same)
