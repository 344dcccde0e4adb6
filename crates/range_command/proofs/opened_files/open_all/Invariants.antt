use Rattle.std.proofs.Common.{◌≡◌, map, string_bytes, take, vec_len}
use Rattle.range_command.specs.Opener.{AllMayOpen, bytes_in}
use Rattle.range_command.proofs.opened_files.open_all.Given as goal

abbrev pub invariant-loop-path : goal.invariant-loop-path
invariant-loop-path g l =
    let find = g.O.Opener.finds l.fn.opener in
    let before = take l.path-index l.fn.paths in
    (vec_len l.sources ≡ l.path-index)
    × (map (λ source. g.O.File.Read.remaining source.source) l.sources.items ≡ map (λ path. bytes_in (find (string_bytes path))) before)
    × AllMayOpen find before
