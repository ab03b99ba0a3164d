-- Instances with the same states, forbidden alike, have the same walks.
use Rattle.std.proofs.Common.{◌≡◌, ℕ, zero, suc, ◌<◌, not, ◌&&◌, List, [], ◌∷◌, ◌++◌, length, get_or, sym, ◌∙◌, ap, subst, arith}
use Rattle.std.specs.List.{list_any, range_with_len}
use Rattle.std.specs.declared.cmp.Ordering.{Ordering}
use Rattle.version_graph.specs.Graph.{Graph, packages, is_offered, is_forbidden, are_neighbours, IsListOf}
use Rattle.version_graph.specs.Family.{Family, IsStable, InClosure, IsClosureOf, HasEmpty, agrees, under}
use Rattle.maxsum_messages.specs.Post.{Post, senders_of, IsPostFor}
use Rattle.maxsum_messages.specs.Greatest.{IsGreatest}
use Rattle.maxsum_messages.specs.Round.{IsMessage, AreRounds}
use Rattle.maxsum_messages.specs.Belief.{belief}
use Rattle.maxsum_messages.specs.Choice.{IsChosen}
use Rattle.refutation_log.specs.Refutes.{Prefix}
use Rattle.refutation_log.specs.declared.node.Node.{Node}
use Rattle.decimation_repair.specs.Levels.{Levels, zero_levels, plus_levels, minus_levels, clip_levels, compare_levels}
use Rattle.decimation_repair.specs.Choice.{AreHeard, BeliefChoice}
use Rattle.decimation_repair.specs.Walk.{Task, root, Visits, dead, open_at, Walks, IsSolved, Finds, Ends, Spends}

pub record Alike (h k : Graph) : Type 0 where
  pub sizes : h.sizes ≡ k.sizes
  pub offered : (p i : ℕ) → is_offered h p i ≡ is_offered k p i
  pub forbidden : (p i q j : ℕ) → is_forbidden h p i q j ≡ is_forbidden k p i q j

pub turned : (h k : Graph) → Alike h k → Alike k h
turned h k a = record {
  sizes = sym a.sizes;
  offered = λ p i. sym (a.offered p i);
  forbidden = λ p i q j. sym (a.forbidden p i q j);
}

module _ (h k : Graph) (a : Alike h k) where
  same-packages : packages h ≡ packages k
  same-packages = ap length a.sizes

  known-there : (p : ℕ) → p < packages k → p < packages h
  known-there p known = (let e = same-packages in omega (arith, known, e))

  known-here : (p : ℕ) → p < packages h → p < packages k
  known-here p known = (let e = same-packages in omega (arith, known, e))

  -- ---- closures

  stable-there : (f : Family) → IsStable h f → IsStable k f
  stable-there f s = record {
    meets = λ p i q here known apart.
        let m = s.meets p i q here (known-there q known) apart in
        record { partner = m.partner; there = m.there; allowed = sym (a.forbidden p i q m.partner) ∙ m.allowed };
  }

  under-same : (prefix : Prefix) → under h prefix ≡ under k prefix
  under-same prefix = λ n q j. a.offered q j n && agrees prefix q j

  closed-there : (prefix : Prefix) (p i : ℕ) → InClosure h (under h prefix) p i → InClosure k (under k prefix) p i
  closed-there prefix p i c =
      subst (λ f. InClosure k f p i) (under-same prefix) (record { family = c.family; stable = stable-there c.family c.stable; within = c.within; here = c.here })

module _ (h k : Graph) (a : Alike h k) where
  closed-back : (prefix : Prefix) (p i : ℕ) → InClosure k (under k prefix) p i → InClosure h (under h prefix) p i
  closed-back = closed-there k h (turned h k a)

  pub empty-there : (prefix : Prefix) → HasEmpty h (under h prefix) → HasEmpty k (under k prefix)
  empty-there prefix e = record { place = e.place; known = known-here h k a e.place e.known; none = λ i c. e.none i (closed-back prefix e.place i c) }

  closure-there : (prefix : Prefix) (s : Family) → IsClosureOf h (under h prefix) s → IsClosureOf k (under k prefix) s
  closure-there prefix s c = record { sound = λ p i here. closed-there h k a prefix p i (c.sound p i here); whole = λ p i there. c.whole p i (closed-back prefix p i there) }

  -- ---- messages

  near-same : (p q : ℕ) → are_neighbours h p q ≡ are_neighbours k p q
  unfolding are_neighbours
  near-same p q = λ n. list_any (λ i. list_any (λ j. a.forbidden p i q j n) (range_with_len 0 (get_or (a.sizes n) q 0))) (range_with_len 0 (get_or (a.sizes n) p 0))

  post-there : {W : Type 0} (m : Post W) → IsPostFor h m → IsPostFor k m
  post-there m p = record {
    sizes = p.sizes ∙ a.sizes;
    listed = λ q known. subst (λ t. IsListOf t (senders_of m q)) (λ n r. near-same q r n) (p.listed q (known-there h k a q known));
    answered = λ q known. p.answered q (known-there h k a q known);
  }

  message-there : {W : Type 0} (none : W) (plus minus : W → W → W) (clip : W → W) (cmp : W → W → Ordering) (d : Family) (weight : ℕ → W) (p q : ℕ) (said : ℕ → W) →
      IsMessage none plus minus clip cmp h d weight p q said → IsMessage none plus minus clip cmp k d weight p q said
  message-there none plus minus clip cmp d weight p q said m = record {
    raw = m.raw;
    top = m.top;
    best = λ j there. subst (λ t. IsGreatest cmp t weight (m.raw j)) (λ n i. d p i && not (a.forbidden p i q j n)) (m.best j there);
    highest = m.highest;
    inside = m.inside;
    outside = m.outside;
  }

  rounds-there : {W : Type 0} (none : W) (plus minus : W → W → W) (clip : W → W) (cmp : W → W → Ordering) (count : ℕ) (f : List (List W)) (d : Family) (before after : Post W) →
      AreRounds none plus minus clip cmp count h f d before after → AreRounds none plus minus clip cmp count k f d before after
  rounds-there none plus minus clip cmp zero f d before after e = e
  rounds-there none plus minus clip cmp (suc count) f d before after (between, more, last) = (
    between,
    rounds-there none plus minus clip cmp count f d before between more,
    record {
      same = last.same;
      each = λ q r known here. message-there none plus minus clip cmp d _ _ q _ (last.each q r (known-there h k a q known) here);
    },
  )

  -- ---- the choice

  heard-there : (f : List (List Levels)) (prefix : Prefix) (m : Post Levels) → AreHeard f h prefix m → AreHeard f k prefix m
  heard-there f prefix m x = record {
    closed = x.closed;
    closure = closure-there prefix x.closed x.closure;
    start = x.start;
    start_made = post-there x.start x.start_made;
    silent = x.silent;
    rounds = rounds-there zero_levels plus_levels minus_levels clip_levels compare_levels 8 f x.closed x.start m x.rounds;
    made = post-there m x.made;
  }

  chosen-there : (f : List (List Levels)) (prefix : Prefix) (p : ℕ) (order : List ℕ) → BeliefChoice f h prefix p order → BeliefChoice f k prefix p order
  chosen-there f prefix p order x = record {
    cut = x.cut;
    cut_is = x.cut_is;
    messages = x.messages;
    heard = heard-there f x.cut x.messages x.heard;
    closed = x.closed;
    closure = closure-there prefix x.closed x.closure;
    chosen = subst (λ n. IsChosen compare_levels minus_levels n x.closed (belief zero_levels plus_levels f x.messages) p) (same-packages h k a) x.chosen;
    in_order = x.in_order;
  }

  -- ---- the walk

  visits-there : (empty-back : (prefix : Prefix) → HasEmpty k (under k prefix) → HasEmpty h (under h prefix)) (f : List (List Levels)) (t : Task) (x : Node) (cs : List Task) →
      Visits h (BeliefChoice f) t x cs → Visits k (BeliefChoice f) t x cs
  visits-there empty-back f t x cs (dead v) = dead (record { empty = empty-there t.prefix v.empty; node_is = v.node_is; children_are = v.children_are })
  visits-there empty-back f t x cs (open_at v) = open_at (record {
    filled = λ e. v.filled (empty-back t.prefix e);
    place = v.place;
    order = v.order;
    chosen = chosen-there f t.prefix v.place v.order v.chosen;
    node_is = v.node_is;
    children_are = v.children_are;
  })

module _ (h k : Graph) (a : Alike h k) (f : List (List Levels)) where
  visits-on : (t : Task) (x : Node) (cs : List Task) → Visits h (BeliefChoice f) t x cs → Visits k (BeliefChoice f) t x cs
  visits-on = visits-there h k a (empty-there k h (turned h k a)) f

  walks-on : (nodes : List Node) (ts left : List Task) → Walks h (BeliefChoice f) ts nodes left → Walks k (BeliefChoice f) ts nodes left
  walks-on [] ts left e = e
  walks-on (x ∷ xs) ts left (t, us, cs, e, v, w) = (t, us, cs, e, visits-on t x cs v, walks-on xs (cs ++ us) left w)

  solved-on : (prefix : Prefix) (chosen : List ℕ) → IsSolved h prefix chosen → IsSolved k prefix chosen
  solved-on prefix chosen s = record {
    each = s.each ∙ same-packages h k a;
    here = λ p known. closed-there h k a prefix p (get_or chosen p 0) (s.here p (known-there h k a p known));
    alone = λ p i c. s.alone p i (closed-back h k a prefix p i c);
  }

  pub finds_on : (budget : ℕ) (chosen : List ℕ) (nodes : List Node) → Finds h (BeliefChoice f) budget chosen nodes → Finds k (BeliefChoice f) budget chosen nodes
  finds_on budget chosen nodes x = record {
    task = x.task;
    rest = x.rest;
    walks = walks-on nodes (root ∷ []) (x.task ∷ x.rest) x.walks;
    solved = solved-on x.task.prefix chosen x.solved;
    within = x.within;
  }

  pub ends_on : (budget : ℕ) (nodes : List Node) → Ends h (BeliefChoice f) budget nodes → Ends k (BeliefChoice f) budget nodes
  ends_on budget nodes x = record { walks = walks-on nodes (root ∷ []) [] x.walks; within = x.within }

  pub spends_on : (budget : ℕ) (nodes : List Node) → Spends h (BeliefChoice f) budget nodes → Spends k (BeliefChoice f) budget nodes
  spends_on budget nodes x = record {
    task = x.task;
    rest = x.rest;
    walks = walks-on nodes (root ∷ []) (x.task ∷ x.rest) x.walks;
    next = x.next;
    children = x.children;
    visits = visits-on x.task x.next x.children x.visits;
    spent = x.spent;
  }
