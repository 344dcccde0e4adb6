-- Two sets that cover the same points have the same extreme points, and the extreme points cover what the set covers.
use Rattle.std.proofs.Common.{◌≡◌, ◌≢◌, sym, subst, ℕ, zero, suc, ◌<◌, length, ℤ, pos, ◌+ℤ◌, ◌-ℤ◌, ◌≤ℤ◌, ◌<ℤ◌, List, [], ◌∷◌, Contains, ◌⊎◌, inl, inr, arith}
use Rattle.std.proofs.lemmas.Int.{by_lt_z}
use Rattle.range_plane.specs.ConvexCover.{Covers}
use Rattle.range_plane.specs.Plane.{Position}
use Rattle.range_plane.specs.Polygon.{IsExtreme, without}
use Rattle.range_plane.specs.ConvexCover.Covers.{by_segment}
use Rattle.range_lemmas.proofs.Integers.{linear, at_least_product, nonneg_product}
use Rattle.range_lemmas.proofs.Members.{contains_first, contains_later, empty_contains_nothing, each}
use Rattle.range_plane.proofs.Without.{equal_or_apart, without_keeps, without_has, shorter_without, find_member}
use Rattle.range_plane.proofs.Separation.{IsAhead, IsSeparated, not_both, covered_or_separated, segment_from}
use Rattle.range_plane.proofs.Vectors.{dot, from, dot_from, tilted, dot_tilted, positive_apart, cross_origin, dot_origin}

-- each member of T is covered by S
abbrev pub CoversEach : List Position → List Position → Type 0
CoversEach S T = (x : Position) → Contains T x → Covers S x

-- a set covers each of its members
pub covers_member : (S : List Position) (x : Position) → Contains S x → Covers S x
covers_member S x m = by_segment x x m m (segment_from x x x (cross_origin x (from x x)) (omega (arith, linear, dot_origin x (from x x))))

-- ---- covering is transitive
-- a set that covers each member of another covers what the other covers
pub covers_through : (S T : List Position) (q : Position) → CoversEach S T → Covers T q → Covers S q
covers_through S T q all c = elim (covered_or_separated S q) [ inl h ↦ h | inr s ↦ absurd (not_both T q s.direction c (λ t m. ahead s t (all t m))) ]
  where
    ahead : (s : IsSeparated S q) (t : Position) → Covers S t → pos 0 <ℤ dot s.direction (from q t)
    ahead s t h =
        by_lt_z (pos 0) (dot s.direction (from q t)) (λ p. p)
        (λ p. absurd (not_both S t s.direction h (λ x m. omega (arith, linear, dot_from s.direction q t x, s.ahead x m))))

-- ---- an extreme point is the only covered point that is farthest in some direction
-- a number that, added to any of finitely many, makes it positive
pub record IsBound (S : List Position) (f : Position → ℤ) : Type 0 where
  pub bound : ℤ
  pub nonneg : pos 0 ≤ℤ bound
  pub above : (x : Position) → Contains S x → pos 0 <ℤ (bound +ℤ f x)

-- finitely many numbers have a bound
pub bound_of : (S : List Position) (f : Position → ℤ) → IsBound S f
bound_of [] f = record { bound = pos 0; nonneg = omega (arith, linear); above = λ x m. absurd (empty_contains_nothing x m) }
bound_of (s ∷ S) f =
    let b : IsBound S f = bound_of S f in
    by_lt_z (pos 0) (b.bound +ℤ f s)
    (λ h. record { bound = b.bound; nonneg = b.nonneg; above = each (λ x. pos 0 <ℤ (b.bound +ℤ f x)) s S h b.above })
    (λ h.
    let k = pos 1 -ℤ f s in
    record {
      bound = k;
      nonneg = omega (arith, linear, b.nonneg);
      above =
          each (λ x. pos 0 <ℤ (k +ℤ f x)) s S (omega (arith, linear)) (λ x m. omega (arith, linear, b.above x m));
    })

pub only_farthest : (S : List Position) (e p d : Position) → IsAhead (without e S) e d → Covers S p → dot d (from e p) ≤ℤ pos 0 → p ≡ e
only_farthest S e p d ahead c h = elim (equal_or_apart p e) [
  | inl s ↦ s
  | inr a ↦ absurd (not_both S p (tilted b.bound d (from p e)) c (λ x m. positive a x m (equal_or_apart x e)))
]
  where
    b : IsBound S (λ x. dot (from p e) (from p x))
    b = bound_of S (λ x. dot (from p e) (from p x))

    positive : p ≢ e → (x : Position) → Contains S x → (x ≡ e) ⊎ (x ≢ e) → pos 0 <ℤ dot (tilted b.bound d (from p e)) (from p x)
    positive a x m (inl s) =
        subst (λ z. pos 0 <ℤ dot (tilted b.bound d (from p e)) (from p z)) (sym s)
        (omega (
          arith,
          linear,
          dot_tilted b.bound d (from p e) (from p e),
          positive_apart p e a,
          nonneg_product b.bound (dot d (from p e)) b.nonneg (omega (arith, linear, dot_from d e p e, dot_origin e d)),
        ))
    positive a x m (inr k) =
        omega (
          arith,
          linear,
          dot_tilted b.bound d (from p e) (from p x),
          b.above x m,
          at_least_product b.bound (dot d (from p x)) b.nonneg (omega (arith, linear, dot_from d e p x, ahead x (without_keeps e S x k m))),
        )

-- ---- the same covering, the same extreme points
-- where two sets cover the members of each other, what is extreme in the one is so in the other
pub extreme_in : (S T : List Position) (e : Position) → CoversEach S T → CoversEach T S → IsExtreme S e → IsExtreme T e
extreme_in S T e st ts x = elim (covered_or_separated (without e S) e) [
  | inl h ↦ absurd (x.needed h)
  | inr s ↦ record { member = there_too s (find_member e T); needed = λ h. not_both (without e T) e s.direction h (others s) }
]
  where
    ahead : (s : IsSeparated (without e S) e) (t : Position) → Contains T t → t ≢ e → pos 0 <ℤ dot s.direction (from e t)
    ahead s t m a =
        by_lt_z (pos 0) (dot s.direction (from e t)) (λ p. p) (λ p. absurd (a (only_farthest S e t s.direction s.ahead (st t m) p)))

    others : (s : IsSeparated (without e S) e) → IsAhead (without e T) e s.direction
    others s t m = let h = without_has e T t m in ahead s t h.0 h.1

    there_too : (s : IsSeparated (without e S) e) → Contains T e ⊎ ¬ (Contains T e) → Contains T e
    there_too s (inl m) = m
    there_too s (inr k) = absurd (not_both T e s.direction (ts e x.member) (λ t m. ahead s t m (λ h. k (subst (Contains T) h m))))

-- ---- the extreme points cover the set
data Redundant (T : List Position) (R : List Position) : Type 0 where
  spare : (t : Position) → Contains T t → Covers (without t T) t → Redundant T R
  every : ((t : Position) → Contains R t → ¬ (Covers (without t T) t)) → Redundant T R

redundant : (T R : List Position) → ((t : Position) → Contains R t → Contains T t) → Redundant T R
redundant T [] sub = every (λ t m. absurd (empty_contains_nothing t m))
redundant T (r ∷ R) sub = go (covered_or_separated (without r T) r) (redundant T R (λ t m. sub t (contains_later r R t m)))
  where
    go : Covers (without r T) r ⊎ IsSeparated (without r T) r → Redundant T R → Redundant T (r ∷ R)
    go (inl c) w = spare r (sub r (contains_first r R)) c
    go (inr s) (spare t m c) = spare t m c
    go (inr s) (every f) = every (each (λ t. ¬ (Covers (without t T) t)) r R (λ c. not_both (without r T) r s.direction c s.ahead) f)

-- members of S, each of them needed, that cover all of S
pub record Kernel (S : List Position) : Type 0 where
  pub points : List Position
  pub covering : CoversEach points S
  pub extreme : (t : Position) → Contains points t → IsExtreme S t

covers_without : (T : List Position) (t : Position) → Covers (without t T) t → CoversEach (without t T) T
covers_without T t c x m = elim (equal_or_apart x t) [
  | inl e ↦ subst (Covers (without t T)) (sym e) c
  | inr a ↦ covers_member (without t T) x (without_keeps t T x a m)
]

kernel_within : (n : ℕ) (S T : List Position) → length T < n → ((t : Position) → Contains T t → Contains S t) → CoversEach T S → Kernel S
kernel_within zero S T h sub c = absurd (omega arith)
kernel_within (suc n) S T h sub c = go (redundant T T (λ t m. m)) (kernel_within n S)
  where
    go : Redundant T T → ((R : List Position) → length R < n → ((t : Position) → Contains R t → Contains S t) → CoversEach R S → Kernel S) → Kernel S
    go (spare t m k) rec = rec (without t T) (omega (arith, shorter_without t T m)) (λ x l. sub x (without_has t T x l).0)
        (λ x l. covers_through (without t T) T x (covers_without T t k) (c x l))
    go (every f) rec = record {
      points = T;
      covering = c;
      extreme =
          λ t m. extreme_in T S t (λ x l. c x l) (λ x l. covers_member S x (sub x l)) (record { member = m; needed = f t m });
    }

-- of every set some members cover it, each of which is extreme
pub kernel : (S : List Position) → Kernel S
kernel S = kernel_within (suc (length S)) S S (omega arith) (λ t m. m) (λ x m. covers_member S x m)
