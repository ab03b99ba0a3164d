-- The orders of packages: their rows and their room, when one is made or written.
use Rattle.std.proofs.Common.{◌≡◌, ℕ, ◌+◌, ◌<◌, ◌≤◌, List, [], ◌∷◌, ◌++◌, length, get_or, set, sym, ◌∙◌, ap, subst, arith, inl, inr, vec_capacity}
use Rattle.std.proofs.lemmas.Bool.{cases_eq}
use Rattle.std.proofs.lemmas.List.{get_or-map, get_or-set_same, get_or-set_other, length-map, length-set, map-set, map-append}
use Rattle.std.specs.declared.vec.Vec.{Vec}
use Rattle.version_graph.specs.Graph.{Graph, packages, states}
use Rattle.version_graph.specs.Stored.{rows_of}
use Rattle.maxsum_messages.proofs.Rows.{pushed-all}
use Rattle.decimation_repair.specs.Ordered.{Ordered, rooms_of, HasRoomFor, KeepsRoom}

abbrev pub view_of : {Z : Type 0} → List (Vec ℕ Z) → Ordered
view_of vs = record { rows = rows_of vs; room = rooms_of vs }

abbrev capacity : {Z : Type 0} → Vec ℕ Z → ℕ
capacity v = vec_capacity v

pub keeps-room : {Z : Type 0} (vs : List (Vec ℕ Z)) (p : ℕ) (old new : Vec ℕ Z) → old ≡ get_or vs p old → p < length vs → vec_capacity old ≤ vec_capacity new → KeepsRoom (view_of vs) (view_of (set vs p new))
keeps-room {Z} vs p old new is inside more = record {
  rooms = length-map (set vs p new) (λ (v : Vec ℕ Z). vec_capacity v) ∙ length-set vs p new ∙ sym (length-map vs (λ (v : Vec ℕ Z). vec_capacity v));
  room = λ q.
      let moved = ap (λ l. get_or l q 0) (map-set (λ (v : Vec ℕ Z). vec_capacity v) vs p new) in
      elim (cases_eq q p) [
        | inl same ↦
            let long = length-map vs (λ (v : Vec ℕ Z). vec_capacity v) in
            let here : get_or (set (rooms_of vs) p (vec_capacity new)) q 0 ≡ vec_capacity new = ap (λ k. get_or (set (rooms_of vs) p (vec_capacity new)) k 0) same ∙ get_or-set_same (rooms_of vs) p (vec_capacity new) 0 (omega (arith, inside, long)) in
            let before : get_or (rooms_of vs) q 0 ≡ vec_capacity old = ap (λ k. get_or (rooms_of vs) k 0) same ∙ get_or-map (λ (v : Vec ℕ Z). vec_capacity v) vs p old 0 inside ∙ ap (λ (v : Vec ℕ Z). vec_capacity v) (sym is) in
            omega (arith, moved, here, before, more)
        | inr apart ↦
            let other = get_or-set_other (rooms_of vs) p q (vec_capacity new) 0 apart in
            omega (arith, moved, other)
      ];
}

pub still-room : (g : Graph) (old new : Ordered) (p : ℕ) (xs : List ℕ) → HasRoomFor g old → new.rows ≡ set old.rows p xs → KeepsRoom old new → HasRoomFor g new
still-room g old new p xs h e k = record {
  rows = ap length e ∙ length-set old.rows p xs ∙ h.rows;
  rooms = k.rooms ∙ h.rooms;
  room = λ q b. (let a = h.room q b in let c = k.room q in omega (arith, a, c));
}

pub roomy : {Z : Type 0} (g : Graph) (vs : List (Vec ℕ Z)) (n : ℕ) → length vs ≡ n → n ≡ packages g → ((q : ℕ) → q < n → states g q ≤ get_or (rooms_of vs) q 0) → HasRoomFor g (view_of vs)
roomy {Z} g vs n e f room = record {
  rows = length-map vs (λ (v : Vec ℕ Z). v.items) ∙ e ∙ f;
  rooms = length-map vs (λ (v : Vec ℕ Z). vec_capacity v) ∙ e ∙ f;
  room = λ q h. room q (omega (arith, h, f));
}

pub one-more-room : {Z : Type 0} (g : Graph) (vs : List (Vec ℕ Z)) (n : ℕ) (v : Vec ℕ Z) → length vs ≡ n → ((q : ℕ) → q < n → states g q ≤ get_or (rooms_of vs) q 0) → states g n ≤ vec_capacity v →
    (q : ℕ) → q < n + 1 → states g q ≤ get_or (rooms_of (vs ++ v ∷ [])) q 0
one-more-room {Z} g vs n v e room more q h =
    let long = length-map vs (λ (x : Vec ℕ Z). vec_capacity x) in
    let grown : rooms_of (vs ++ v ∷ []) ≡ rooms_of vs ++ vec_capacity v ∷ [] = map-append (λ (x : Vec ℕ Z). vec_capacity x) vs (v ∷ []) in
    subst (λ l. states g q ≤ get_or l q 0) (sym grown)
    (pushed-all 0 (λ k m. states g k ≤ m) (rooms_of vs) (vec_capacity v) (λ k b. room k (omega (arith, b, long, e))) (subst (λ k. states g k ≤ vec_capacity v) (sym (long ∙ e)) more) q (omega (arith, h, long, e)))
