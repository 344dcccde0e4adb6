-- The literals of the code, which it has by their bits, as numbers.
use Rattle.std.proofs.Common.{◌≡◌, refl}
use Rattle.std.specs.Float.{binary64, two_to, minus_two_to}
use Rattle.std.specs.Float.Ieee.{neg, of_bits}
use Rattle.split_projection.specs.Grid.{ten, one_half}

pub ten_is : of_bits binary64 0x4024_0000_0000_0000 ≡ ten
unfolding of_bits
ten_is = refl

pub one_half_is : of_bits binary64 0x3fe0_0000_0000_0000 ≡ one_half
unfolding of_bits
one_half_is = refl

pub past_is : of_bits binary64 0x43e0_0000_0000_0000 ≡ two_to 63
unfolding of_bits
past_is = refl

pub least_is : neg (of_bits binary64 0x43e0_0000_0000_0000) ≡ minus_two_to 63
unfolding of_bits neg
least_is = refl
