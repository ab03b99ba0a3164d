-- What the stanzas of a manifest select, and the trees that they have: the last stanza counts.
use Rattle.std.proofs.Common.{◌≡◌, ℕ, Bool, true, false, cond, ◌&&◌, List, [], ◌∷◌, filter, fold, Option, Some, None, option_map, refl, sym, ap, ◌∙◌}
use Rattle.std.specs.BTreeMap.{insert_entry, is_at}
use Rattle.std.specs.Cmp.Lexicographic.{nat_list_cmp_total}
use Rattle.std.specs.List.{filter_map, cons_option}
use Rattle.std.specs.List.Sorted.{IsStrictlySortedBy}
use Rattle.std.specs.Map.{lookup}
use Rattle.std.specs.Option.{option_or}
use Rattle.std.specs.Ordering.{is_eq}
use Rattle.std.specs.Str.{bytes_eq}
use Rattle.std.proofs.lemmas.Map.Text.{is_eq-slice_cmp}
use Rattle.package_tables.specs.Row.{by_bytes}
use Rattle.manifest_file.specs.Saying.{SaidStanza}
use Rattle.registry_tables.specs.Lasts.{last_of}
use Rattle.registry_tables.proofs.Ordered.{or_none, found-lasts, sorted-all}
use Rattle.package_offers.specs.TreeExts.{TreeExts}
use Rattle.offer_catalog.specs.Laws.{LastStanzaIsSelected, SelectedRise, with_tree, tree_at, TreesAreOfLastStanzas}
use Rattle.offer_catalog.specs.Selected.{counts, version_of, selected_by}
use Rattle.offer_catalog.specs.Trees.{ByPackage, tree_of, put_tree, put_some, put_stanza, trees_of}

-- identifiers are found by their bytes
by_text : {X : Type 0} (id : List ℕ) (es : List (List ℕ × X)) → lookup (bytes_eq id) es ≡ lookup (is_at (by_bytes id)) es
by_text id es =
    let same : lookup (is_at (by_bytes id)) es ≡ lookup (bytes_eq id) es = λ i. lookup (λ k. is_eq-slice_cmp id k i) es in
    sym same

-- the last of those that are picked
last-picked : {A : Type 0} (take p : A → Bool) (xs : List A) → last_of p (filter take xs) ≡ last_of (λ x. take x && p x) xs
last-picked take p [] = refl
last-picked {A} take p (x ∷ xs) = by (take x) (last_of (λ y. take y && p y) xs) (last-picked take p xs)
  where
    by : (t : Bool) (more : Option A) → last_of p (filter take xs) ≡ more → last_of p (cond t (x ∷ filter take xs) (filter take xs)) ≡ option_or more (cond (t && p x) (Some x) None)
    by true more h = ap (λ o. option_or o (cond (p x) (Some x) None)) h
    by false more h = h ∙ sym (or_none more)

pub last-selected : LastStanzaIsSelected
last-selected catalog own found id =
    let stanzas = filter (λ stanza. counts own stanza.uuid) found.stanzas in
    by_text id (selected_by catalog own found)
    ∙ found-lasts by_bytes nat_list_cmp_total (λ (stanza : SaidStanza). stanza.uuid) (version_of catalog) id [] stanzas
    ∙ or_none (option_map (version_of catalog) (last_of (λ stanza. is_eq (by_bytes id stanza.uuid)) stanzas))
    ∙ ap (option_map (version_of catalog)) (last-picked (λ (stanza : SaidStanza). counts own stanza.uuid) (λ (stanza : SaidStanza). is_eq (by_bytes id stanza.uuid)) found.stanzas)
    ∙ (λ i. option_map (version_of catalog) (last_of (λ stanza. counts own stanza.uuid && is_eq-slice_cmp id stanza.uuid i) found.stanzas))

pub selected-rise : SelectedRise
unfolding IsStrictlySortedBy
selected-rise catalog own found = sorted-all by_bytes nat_list_cmp_total (λ (stanza : SaidStanza). stanza.uuid) (version_of catalog) [] (filter (λ stanza. counts own stanza.uuid) found.stanzas) tt

-- trees are put one after the other
trees-put : (trees : ByPackage) (stanzas : List SaidStanza) → fold put_stanza trees stanzas ≡ fold (λ done found. insert_entry by_bytes done found.0 found.1) trees (filter_map tree_at stanzas)
trees-put trees [] = refl
trees-put trees (stanza ∷ more) = by (tree_of stanza.origin) (λ ts. trees-put ts more)
  where
    by : (tree : Option (List ℕ)) → ((ts : ByPackage) → fold put_stanza ts more ≡ fold (λ done found. insert_entry by_bytes done found.0 found.1) ts (filter_map tree_at more))
        → fold put_stanza (put_some trees stanza tree) more
        ≡ fold (λ done found. insert_entry by_bytes done found.0 found.1) trees (cons_option (option_map (with_tree stanza) tree) (filter_map tree_at more))
    by None rest = rest trees
    by (Some tree) rest = rest (put_tree trees stanza tree)

pub last-trees : TreesAreOfLastStanzas
last-trees stanzas id =
    by_text id (trees_of stanzas)
    ∙ ap (lookup (is_at (by_bytes id))) (trees-put [] stanzas)
    ∙ found-lasts by_bytes nat_list_cmp_total (λ (found : List ℕ × TreeExts). found.0) (λ (found : List ℕ × TreeExts). found.1) id [] (filter_map tree_at stanzas)
    ∙ or_none (option_map (λ found. found.1) (last_of (λ found. is_eq (by_bytes id found.0)) (filter_map tree_at stanzas)))
    ∙ (λ i. option_map (λ found. found.1) (last_of (λ found. is_eq-slice_cmp id found.0 i) (filter_map tree_at stanzas)))
