-- Versions that were put in order, and whether one is among them.
use Rattle.std.proofs.Common.{◌≡◌, ℕ, Bool, true, false, cond, ◌||◌, List, [], ◌∷◌, ◌++◌, map, Option, Some, None, Result, Ok, Err, is_some, if◌then◌else◌, string_bytes, refl, sym, ap, ◌∙◌}
use Rattle.std.specs.BTreeMap.{insert_entry, is_at}
use Rattle.std.specs.Cmp.{IsTotalOrder, alike_right}
use Rattle.std.specs.List.{list_any}
use Rattle.std.specs.Map.{lookup}
use Rattle.std.specs.Ordering.{match_ordering, is_eq}
use Rattle.std.specs.declared.cmp.Ordering.{Ordering}
use Rattle.std.specs.declared.cmp.Ordering.TheVariants.{Less, Equal, Greater}
use Rattle.std.proofs.lemmas.List.{map-append}
use Rattle.toml.specs.Data.{Data}
use Rattle.toml.specs.View.{view, members_view}
use Rattle.jl_versions.specs.Meant.{version_meant}
use Rattle.jl_versions.specs.Order.{version_cmp}
use Rattle.jl_versions.specs.OrderLaws.{version_total}
use Rattle.jl_versions.specs.declared.version.Version.{Version}
use Rattle.toml_view.specs.Answers.{Refuses}
use Rattle.toml_view.specs.Reading.{at, or_shape, or_version, chained, mapped}
use Rattle.toml_view.specs.declared.refusal.Refusal.{Refusal}
use Rattle.toml_view.specs.declared.refusal.Stop.{Stop}
use Rattle.pkg_world.specs.Each.{onto}
use Rattle.package_tables.specs.Row.{put_to}
use Rattle.package_tables.specs.Sections.{marked, all_marked, mark_of, new_version}
use Rattle.package_tables.specs.Versions.{fresh, marked_after}
use Rattle.package_tables.proofs.Walks.{TomlEntry, onto_next, refuses_whole}
use Rattle.package_tables.specs.declared.versions.Mark.{Mark}

abbrev pub Pair : Type 0
Pair = Version × Mark

put_to-append : {K T : Type 0} (cmp : K → K → Ordering) (done ps : List (K × T)) (p : K × T) → put_to cmp done (ps ++ p ∷ []) ≡ insert_entry cmp (put_to cmp done ps) p.0 p.1
put_to-append cmp done [] p = refl
put_to-append cmp done (q ∷ ps) p = put_to-append cmp (insert_entry cmp done q.0 q.1) ps p

is_some-cond : {T : Type 0} (b : Bool) (v : T) (x : Option T) → is_some (cond b (Some v) x) ≡ (b || is_some x)
is_some-cond true v x = refl
is_some-cond false v x = refl

tied : {T : Type 0} (b : Bool) (v w : T) (x : Option T) → is_some (cond b (Some v) x) ≡ (b || is_some (cond b (Some w) x))
tied true v w x = refl
tied false v w x = refl

later : {T : Type 0} (a b : Bool) (w : T) (x y : Option T) → is_some y ≡ (a || is_some x) → is_some (cond b (Some w) y) ≡ (a || is_some (cond b (Some w) x))
later true true w x y h = refl
later true false w x y h = h
later false true w x y h = refl
later false false w x y h = h

moved : (a b d : Bool) → (a || (b || d)) ≡ ((b || a) || d)
moved true true d = refl
moved true false d = refl
moved false true d = refl
moved false false d = refl

or_false : (a : Bool) → (a || false) ≡ a
or_false true = refl
or_false false = refl

module _ {K T : Type 0} (cmp : K → K → Ordering) (total : IsTotalOrder cmp) where
  -- a key is found where it is the new one, or was found before
  found-insert : (q k : K) (v : T) (es : List (K × T)) → is_some (lookup (is_at (cmp q)) (insert_entry cmp es k v)) ≡ (is_eq (cmp q k) || is_some (lookup (is_at (cmp q)) es))
  found-insert q k v [] = is_some-cond (is_eq (cmp q k)) v None
  found-insert q k v (e ∷ es) =
      elim (cmp k e.0) as (λ o. cmp k e.0 ≡ o → is_some (lookup (is_at (cmp q)) (match_ordering o ((k, v) ∷ e ∷ es) ((e.0, v) ∷ es) (e ∷ insert_entry cmp es k v)))
      ≡ (is_eq (cmp q k) || is_some (cond (is_eq (cmp q e.0)) (Some e.1) (lookup (is_at (cmp q)) es)))) [
        | Less ↦ λ _. is_some-cond (is_eq (cmp q k)) v (lookup (is_at (cmp q)) (e ∷ es))
        | Equal ↦ λ tie. tied (is_eq (cmp q e.0)) v e.1 (lookup (is_at (cmp q)) es)
            ∙ ap (λ o. is_eq o || is_some (cond (is_eq (cmp q e.0)) (Some e.1) (lookup (is_at (cmp q)) es))) (sym (alike_right total k e.0 q tie))
        | Greater ↦ λ _. later (is_eq (cmp q k)) (is_eq (cmp q e.0)) e.1 (lookup (is_at (cmp q)) es) (lookup (is_at (cmp q)) (insert_entry cmp es k v)) (found-insert q k v es)
      ] refl

  found-put : (q : K) (done ps : List (K × T)) → is_some (lookup (is_at (cmp q)) (put_to cmp done ps)) ≡ (list_any (is_at (cmp q)) (map (λ p. p.0) ps) || is_some (lookup (is_at (cmp q)) done))
  found-put q done [] = refl
  found-put q done (p ∷ ps) =
      found-put q (insert_entry cmp done p.0 p.1) ps
      ∙ ap (λ b. list_any (is_at (cmp q)) (map (λ p. p.0) ps) || b) (found-insert q p.0 p.1 done)
      ∙ moved (list_any (is_at (cmp q)) (map (λ p. p.0) ps)) (is_eq (cmp q p.0)) (is_some (lookup (is_at (cmp q)) done))

-- a version is among those in order where it is one of them
fresh_same : (done : List Pair) (v : Version) → fresh (put_to version_cmp [] done) v ≡ new_version (map (λ p. p.0) done) v
fresh_same done v =
    ap (λ b. or_shape (if b then None else Some v)) (found-put version_cmp version_total v [] done ∙ or_false (list_any (is_at (version_cmp v)) (map (λ p. p.0) done)))

chained_same : {S T : Type 0} (f g : S → Result T Refusal) (r : Result S Refusal) → ((v : S) → f v ≡ g v) → chained f r ≡ chained g r
chained_same f g (Ok v) h = h v
chained_same f g (Err refusal) h = refl

abbrev with_mark : Data → Version → Result Pair Refusal
with_mark value v = mapped (λ mark. (v, mark)) (mark_of value)

marked_same : (done : List Pair) (key : List ℕ) (value : Data) → marked_after (put_to version_cmp [] done) key value ≡ marked (map (λ p. p.0) done) key value
marked_same done key value =
    ap (chained (with_mark value)) (chained_same (fresh (put_to version_cmp [] done)) (new_version (map (λ p. p.0) done)) (or_version (version_meant key)) (fresh_same done))

no_ok : {S T : Type 0} (refusal : S) (y : T) → Err refusal ≡ Ok y → ⊥
no_ok refusal y e = cc

mapped_ok : {S T : Type 0} (f : S → T) (r : Result S Refusal) (y : T) → mapped f r ≡ Ok y → (x : S) × (r ≡ Ok x) × (f x ≡ y)
mapped_ok f (Ok x) y e = (x, refl, cc)
mapped_ok f (Err refusal) y e = absurd (no_ok refusal y e)

-- the key that is read, from what the map's step told
at_entry : {T : Type 0} (done : List Pair) (marks : List Pair) (e : TomlEntry) (key : List ℕ) (told : Result Pair Refusal → T) → marks ≡ put_to version_cmp [] done → key ≡ string_bytes e.0
    → told (at key (marked_after marks key (view e.1))) ≡ told (at (string_bytes e.0) (marked (map (λ p. p.0) done) (string_bytes e.0) (view e.1)))
at_entry done marks e key told put head =
    ap (λ m. told (at key (marked_after m key (view e.1)))) put ∙ ap (λ r. told (at key r)) (marked_same done key (view e.1))
    ∙ ap (λ k. told (at k (marked (map (λ p. p.0) done) k (view e.1)))) head

abbrev pub keys : List Pair → List Version
keys done = map (λ p. p.0) done

-- one key more
pub marks-next : (done marks new : List Pair) (es rest : List TomlEntry) (e : TomlEntry) (key : List ℕ) (whole : Result (List Pair) Refusal)
    → marks ≡ put_to version_cmp [] done → es ≡ e ∷ rest → key ≡ string_bytes e.0
    → mapped (λ p. insert_entry version_cmp marks p.0 p.1) (at key (marked_after marks key (view e.1))) ≡ Ok new
    → whole ≡ onto done (all_marked (keys done) (members_view es))
    → (next : List Pair) × (new ≡ put_to version_cmp [] next) × (whole ≡ onto next (all_marked (keys next) (members_view rest)))
marks-next done marks new es rest e key whole put iter head told same =
    let (p, read, inserted) = mapped_ok (λ p. insert_entry version_cmp marks p.0 p.1) (at key (marked_after marks key (view e.1))) new told in
    let found = sym (at_entry done marks e key (λ r. r) put head) ∙ read in (
      done ++ p ∷ [],
      sym inserted ∙ ap (λ m. insert_entry version_cmp m p.0 p.1) put ∙ sym (put_to-append version_cmp [] done p),
      same ∙ ap (λ t. onto done (all_marked (keys done) (members_view t))) iter
          ∙ ap (λ r. onto done (chained (λ w. mapped (λ ps. w ∷ ps) (all_marked (keys done ++ w.0 ∷ []) (members_view rest))) r)) found
          ∙ onto_next done p (all_marked (keys done ++ p.0 ∷ []) (members_view rest))
          ∙ ap (λ ks. onto (done ++ p ∷ []) (all_marked ks (members_view rest))) (sym (map-append (λ q. q.0) done (p ∷ []))),
    )

-- the refusal of a key
pub marks-refused : (stop : Stop) (done marks : List Pair) (es rest : List TomlEntry) (e : TomlEntry) (key : List ℕ) (whole : Result (List Pair) Refusal)
    → marks ≡ put_to version_cmp [] done → es ≡ e ∷ rest → key ≡ string_bytes e.0
    → Refuses stop (at key (marked_after marks key (view e.1))) → whole ≡ onto done (all_marked (keys done) (members_view es)) → Refuses stop whole
marks-refused stop done marks es rest e key whole put iter head told same =
    refuses_whole stop (at key (marked_after marks key (view e.1))) (λ w. mapped (λ ps. w ∷ ps) (all_marked (keys done ++ w.0 ∷ []) (members_view rest))) done whole told
    (same ∙ ap (λ t. onto done (all_marked (keys done) (members_view t))) iter
    ∙ sym (at_entry done marks e key (λ r. onto done (chained (λ w. mapped (λ ps. w ∷ ps) (all_marked (keys done ++ w.0 ∷ []) (members_view rest))) r)) put head))
