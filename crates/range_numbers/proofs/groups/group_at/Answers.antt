use Rattle.std.proofs.Common.{◌≡◌, length, Fits, w8}
use Rattle.std.specs.Simd.Lanes.{chunk}
use Rattle.std.proofs.lemmas.Simd.{Each1-chunk, length-chunk}
use Rattle.range_numbers.proofs.Digits.{digit_number, four_digits, each_byte}
use Rattle.range_numbers.proofs.groups.group_at.Goals as goal

pub returns : goal.returns
returns c =
    let bytes = chunk c.args.at 4 c.args.bytes.now in
    let few : length bytes ≡ 4 = length-chunk c.args.at 4 c.args.bytes.now c.requires in
    four_digits _ _ digit_number bytes few (Each1-chunk (Fits w8) c.args.at 4 c.args.bytes.now (each_byte c.args.bytes.now c.type_inv.bytes))
