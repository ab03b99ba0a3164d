-- Entries of a map that are taken one after the other, and the order of their identifiers.
use Rattle.std.proofs.Common.{◌≡◌, ℕ, List, [], ◌∷◌, ◌++◌, map, sym, ap, subst, ◌∙◌, append_assoc, append-nil}
use Rattle.std.proofs.lemmas.List.{map-append}
use Rattle.offer_terms.specs.ById.{AreRising}

-- one entry more was taken
pub entries-next : {E F S : Type 0} (seen : E → S) (said : F → S) (all : List S) (items new : List F) (x : F) (e : E) (entries rest : List E)
    → entries ≡ e ∷ rest → said x ≡ seen e → new ≡ items ++ x ∷ [] → all ≡ map said items ++ map seen entries → all ≡ map said new ++ map seen rest
entries-next seen said all items new x e entries rest there same pushed h =
    h ∙ ap (λ es. map said items ++ map seen es) there
    ∙ ap (λ s. map said items ++ (s ∷ map seen rest)) (sym same)
    ∙ sym (append_assoc (map said items) (said x ∷ []) (map seen rest))
    ∙ ap (λ m. m ++ map seen rest) (sym (map-append said items (x ∷ [])) ∙ ap (map said) (sym pushed))

-- all entries were taken
pub all-rising : (all ids rest : List (List ℕ)) → AreRising all → all ≡ ids ++ rest → rest ≡ [] → AreRising ids
all-rising all ids rest rising e none =
    let whole : all ≡ ids = e ∙ ap (λ r. ids ++ r) none ∙ append-nil ids in
    subst AreRising whole rising
