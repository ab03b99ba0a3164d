-- The bound on nodes by the book's packages.
use Rattle.std.proofs.Common.{◌≡◌, ℕ, zero, suc, ◌+◌, ◌*◌, ◌<◌, List, length, refl, ap, ◌∙◌, arith}
use Rattle.offer_terms.specs.Booked.{Packed, package_at}
use Rattle.offer_terms.specs.Demanded.{Wanted}
use Rattle.version_graph.specs.Graph.{Graph, states}
use Rattle.decimation_repair.specs.Bound.{product_below}
use Rattle.decimation_repair.specs.Bound as bound
use Rattle.book_graph.specs.StandsFor.{StandsFor, state_count}
use Rattle.resolve_core.specs.Laws.{most_nodes}

same_product : (f f' : ℕ → ℕ) (n : ℕ) → ((k : ℕ) → k < n → f k ≡ f' k) → product_below f n ≡ product_below f' n
same_product f f' zero same = refl
same_product f f' (suc n) same = λ i. same_product f f' n (λ k below. same k (omega (arith, below))) i * same n (omega arith) i

pub same_bound : (book : List Packed) (w : Wanted) (g : Graph) → StandsFor book w g → bound.most_nodes g ≡ most_nodes book
same_bound book w g stands =
    ap (product_below (λ p. states g p + 1)) stands.each
    ∙ same_product (λ p. states g p + 1) (λ p. state_count (package_at book p) + 1) (length book) (λ p below. ap (λ k. k + 1) (stands.wide p below))
