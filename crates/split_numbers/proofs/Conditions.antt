-- Values that are there on a condition.
use Rattle.std.proofs.Common.{◌≡◌, Bool, true, false, Option, Some, None, refl, if◌then◌else◌}

pub there : {A : Type 0} (b : Bool) (x y : A) → b ≡ true → x ≡ y → Some x ≡ (if b then Some y else None)
there b x y e f = rw (e, f) refl

pub not_there : {A : Type 0} (b : Bool) (y : A) → b ≡ false → ◌≡◌ {A = Option A} None (if b then Some y else None)
not_there b y e = rw e refl

pub condition_of : {A : Type 0} (b : Bool) (x y : A) → Some x ≡ (if b then Some y else None) → b ≡ true
condition_of true x y e = refl
condition_of false x y e = cc e

pub value_of : {A : Type 0} (b : Bool) (x y : A) → Some x ≡ (if b then Some y else None) → x ≡ y
value_of true x y e = cc e
value_of false x y e = cc e
