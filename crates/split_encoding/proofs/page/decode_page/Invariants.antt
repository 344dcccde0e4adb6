-- So far the text has the characters of the bytes that were passed, each of which has one.
use Rattle.std.proofs.Common.{◌≡◌, All, encode_utf8_all, map, take}
use Rattle.std.specs.String.{string_bytes}
use Rattle.split_encoding.specs.Pages.{HasCharacter, character_in}
use Rattle.split_encoding.proofs.page.decode_page.Given as goal

abbrev pub invariant-loop-place : goal.invariant-loop-place
invariant-loop-place l = (string_bytes l.text ≡ encode_utf8_all (map (character_in l.page) (take l.place l.bytes)))
    × All (HasCharacter l.page) (take l.place l.bytes)
