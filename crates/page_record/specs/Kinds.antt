-- The kinds of lines of a record, and their order.
use Rattle.std.specs.Prelude.{ℕ, Bool, ◌==◌, ◌+◌, ◌&&◌, ◌||◌, nat_lt, if◌then◌else◌, codes, List, Option, Some, None}
use Rattle.std.specs.Str.{bytes_eq}
use Rattle.page_record.specs.declared.kind.Kind.{Kind}
use Rattle.page_record.specs.declared.kind.Kind.TheVariants as kinds

-- the kind of what stands before a line's first comma: one of which there is at most one line
unfoldable pub single_kind_of : List ℕ → Option Kind
single_kind_of word =
    if bytes_eq word (codes "export") then Some kinds.Export
    else (if bytes_eq word (codes "sha256") then Some kinds.Sum
    else (if bytes_eq word (codes "unit") then Some kinds.Scale
    else (if bytes_eq word (codes "zone") then Some kinds.Zone
    else (if bytes_eq word (codes "shift") then Some kinds.Shift else None))))

-- or one of which there may be several
unfoldable pub other_kind_of : List ℕ → Option Kind
other_kind_of word =
    if bytes_eq word (codes "option") then Some kinds.Given
    else (if bytes_eq word (codes "said") then Some kinds.Said
    else (if bytes_eq word (codes "left") then Some kinds.Left
    else (if bytes_eq word (codes "track") then Some kinds.Track
    else (if bytes_eq word (codes "tool") then Some kinds.Tool else None))))

abbrev pub or_kind : Option Kind → Option Kind → Option Kind
or_kind None other = other
or_kind (Some kind) other = Some kind

unfoldable pub kind_of : List ℕ → Option Kind
kind_of word = or_kind (single_kind_of word) (other_kind_of word)

-- the place of a kind in a record
abbrev pub rank : Kind → ℕ
rank kinds.Export = 1
rank kinds.Sum = 2
rank kinds.Scale = 3
rank kinds.Zone = 4
rank kinds.Shift = 5
rank kinds.Given = 6
rank kinds.Said = 7
rank kinds.Left = 8
rank kinds.Track = 9
rank kinds.Tool = 10

-- the place of the last kind so far, and 0 before the first
abbrev pub place_of : Option Kind → ℕ
place_of None = 0
place_of (Some kind) = rank kind

-- whether one place may come behind another: the unit and the zone are there, an export has its checksum before them, and no kind
-- stands behind a later one, nor twice unless it is one of which there may be several
abbrev pub may_stand : ℕ → ℕ → Bool
may_stand before next =
    if nat_lt before 4 then next == before + 1 || (before == 0 && next == 3)
    else nat_lt before next || (before == next && nat_lt 5 next)

abbrev pub may_follow : Option Kind → Kind → Bool
may_follow last kind = may_stand (place_of last) (rank kind)
