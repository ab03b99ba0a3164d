use Rattle.std.proofs.Common.{◌≡◌, nat_cmp, refl}
use Rattle.std.proofs.lemmas.Iterator.{YieldsList-from_slice}
use Rattle.std.proofs.lemmas.Iterator.Consumers.{YieldsList-from_chain}
use Rattle.std.proofs.lemmas.Iterator.Search.{cmp_from_yields_List}
use Rattle.depot_hash.proofs.git_key.GitKeyOrd.cmp.Goals as goal

pub returns : goal.returns
returns c =
    let mine = c.self.inside in
    let its = c.other.inside in
    rw (← c.self.view_is, ← c.other.view_is)
    (cmp_from_yields_List (λ x y. y ≡ x) _ nat_cmp _ c.cmp.ensures.ran
    (YieldsList-from_chain (YieldsList-from_slice mine.name.now (cc)) (YieldsList-from_slice mine.slash.now (cc)) (cc) (cc))
    (λ it e. YieldsList-from_chain (YieldsList-from_slice its.name.now (cc)) (YieldsList-from_slice its.slash.now (cc)) (cc) (cc))
    (λ x y. refl))
