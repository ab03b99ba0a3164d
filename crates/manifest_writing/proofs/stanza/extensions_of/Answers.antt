use Rattle.std.proofs.Common.{◌≡◌, List, Option, option_map, unwrap_or, IfOk, sym, ap, ◌∙◌, subst}
use Rattle.pkg_world.specs.Listing.{Listing}
use Rattle.offer_terms.specs.Offered.{Text, Exts}
use Rattle.manifest_writing.proofs.Keyed.{found-said}
use Rattle.manifest_writing.proofs.stanza.extensions_of.Goals as goal

pub returns-in-Some : goal.returns-in-Some
returns-in-Some c =
    let offered : Exts = c.args.offer.now.extensions.items in
    let said = found-said c.args.uuid.now c.args.found.now.entries in
    let kept = ap (option_map (λ (list : Listing (Text × List Text)). list.items)) c.in-Some.ensures.value in
    subst (λ (xs : Exts). IfOk c.copy.result (λ list. list.items ≡ xs)) (sym (ap (λ (o : Option Exts). unwrap_or o offered) (said ∙ sym kept))) c.copy.ensures

pub returns-in-None : goal.returns-in-None
returns-in-None c =
    let offered : Exts = c.args.offer.now.extensions.items in
    let said = found-said c.args.uuid.now c.args.found.now.entries in
    let kept = ap (option_map (λ (list : Listing (Text × List Text)). list.items)) c.in-None.ensures.value in
    subst (λ (xs : Exts). IfOk c.copy-in-None.result (λ list. list.items ≡ xs)) (sym (ap (λ (o : Option Exts). unwrap_or o offered) (said ∙ sym kept))) c.copy-in-None.ensures
