-- A name cut to so many bytes of UTF-8, by whole characters.
use Rattle.std.specs.Prelude.{ℕ, zero, suc, ◌-◌, nat_lt, nat_le, Bool, ◌&&◌, if◌then◌else◌, List, take, slice_index}

-- whether a byte of UTF-8 is not the first of its character
abbrev pub is_inside : ℕ → Bool
is_inside b = nat_le 128 b && nat_lt b 192

-- the place at which bytes are cut: this one, or one up to so many bytes before it where it lies within a character
unfoldable pub cut_place : List ℕ → ℕ → ℕ → ℕ
cut_place bytes zero place = place
cut_place bytes (suc back) place = if is_inside (slice_index bytes place) then cut_place bytes back (place - 1) else place

-- at most so many of the bytes, without a part of a character at the end, which has at most four bytes
unfoldable pub cut : ℕ → List ℕ → List ℕ
cut most bytes = take (cut_place bytes 3 most) bytes
